-- The frame that a group names.
use Rattle.std.proofs.Common.{◌≡◌, ◌≢◌, ℕ, ◌<◌, Option, Some, None, refl, ap, sym, ◌∙◌}
use Rattle.std.specs.Prelude.{slice_get}
use Rattle.plp_config.specs.Emission.{emission}
use Rattle.plp_config.specs.Laws.{EmissionsDiffer}
use Rattle.plp_config.specs.Rules.{AllRules}
use Rattle.plp_config.specs.declared.config.Config.{Config}
use Rattle.t2mi_packet.specs.declared.packet.Stamp.{Stamp}
use Rattle.frame_groups.specs.Groups.{Group}
use Rattle.frame_groups.specs.Numbers.{frame_key}
use Rattle.frame_groups.specs.Carried.{stamps_of}
use Rattle.frame_groups.specs.TestLaws.{IsNamed, FrameNamed}
use Rattle.plp_config.specs.declared.moment.TheConstants.{MOST_FRAMES}
use Rattle.frame_groups.specs.Tests.{moment_of, named_frame}

module _ (law : FrameNamed) (c : Config) (all : AllRules c) (g : Group) where
  -- a frame that it names is the one that is named
  pub is_named : (n : ℕ) (stamp : Stamp) → slice_get (stamps_of g.packets) 0 ≡ Some stamp → n < MOST_FRAMES
      → moment_of stamp ≡ emission c n → frame_key c.frames n ≡ g.key → Some n ≡ named_frame c g
  is_named n stamp first small is key =
      sym ((law c g n all).1 (record { stamp = stamp; first = first; small = small; emission-is = is; key = key }))

  -- if there is none, none is named
  none_named : (o : Option ℕ) → named_frame c g ≡ o → ((n : ℕ) → ¬ (IsNamed c g n)) → ◌≡◌ {A = Option ℕ} None o
  none_named None e h = refl
  none_named (Some n) e h = absurd (h n ((law c g n all).0 e))

  pub no_stamp : ◌≡◌ {A = Option Stamp} None (slice_get (stamps_of g.packets) 0) → None ≡ named_frame c g
  no_stamp none = none_named (named_frame c g) refl (λ n is. let e = none ∙ is.first in cc)

  pub no_frame : (stamp : Stamp) → Some stamp ≡ slice_get (stamps_of g.packets) 0
      → ((n : ℕ) → n < MOST_FRAMES → moment_of stamp ≢ emission c n) → None ≡ named_frame c g
  no_frame stamp first none =
      none_named (named_frame c g) refl (λ n is. let e : stamp ≡ is.stamp = (let f = first ∙ is.first in cc) in
      none n is.small (ap moment_of e ∙ is.emission-is))

  pub no_key : EmissionsDiffer → (stamp : Stamp) (n : ℕ) → Some stamp ≡ slice_get (stamps_of g.packets) 0
      → moment_of stamp ≡ emission c n → frame_key c.frames n ≢ g.key → None ≡ named_frame c g
  no_key differ stamp n first own other =
      none_named (named_frame c g) refl
      (λ m is.
      let e : stamp ≡ is.stamp = (let f = first ∙ is.first in cc) in
      let same : n ≡ m = differ c n m all (sym own ∙ ap moment_of e ∙ is.emission-is) in
      other (ap (frame_key c.frames) same ∙ is.key))
