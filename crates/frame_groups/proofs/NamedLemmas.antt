-- The frame that a timestamp names.
use Rattle.std.proofs.Common.{◌≡◌, ℕ, ◌%◌, ◌<◌, ◌==◌, ◌&&◌, Bool, true, false, Option, Some, None, refl, ap, sym}
use Rattle.std.proofs.Common.{subst, ◌∙◌}
use Rattle.std.specs.Prelude.{slice_get, if◌then◌else◌, nat_le, nat_lt, is_some, unwrap_or}
use Rattle.std.specs.Option.{option_and_then}
use Rattle.std.proofs.lemmas.Bool.{and_parts, and_from, eqb-true, eq-eqb, ltb-true, lt-ltb, leb-true, le-leb}
use Rattle.std.proofs.lemmas.Bool.{false≢true}
use Rattle.plp_config.specs.Emission.{emission, subseconds_by, origin, frame_subseconds, FindsFrame}
use Rattle.plp_config.specs.Laws.{EmissionFound}
use Rattle.plp_config.specs.Rules.{AllRules}
use Rattle.plp_config.specs.Tables.{subseconds_per_second}
use Rattle.plp_config.specs.declared.config.Config.{Config}
use Rattle.plp_config.specs.declared.moment.Moment.{Moment}
use Rattle.t2mi_packet.specs.declared.packet.Stamp.{Stamp}
use Rattle.frame_groups.specs.Groups.{Group, is_same}
use Rattle.frame_groups.specs.Numbers.{frame_key}
use Rattle.frame_groups.specs.declared.key.Key.{Key}
use Rattle.frame_groups.specs.Carried.{stamps_of}
use Rattle.frame_groups.specs.TestLaws.{IsNamed, FrameNamed}
use Rattle.plp_config.specs.declared.moment.TheConstants.{MOST_FRAMES}
use Rattle.frame_groups.proofs.NumberLemmas.{same_key, is_same_self}
use Rattle.frame_groups.specs.Tests.{moment_of, passed, is_on_grid, frames_passed, frame_with, named_frame}

-- an answer under a test
if_some : (b : Bool) (x n : ℕ) → ◌≡◌ {A = Option ℕ} (if b then Some x else None) (Some n) → (b ≡ true) × (x ≡ n)
if_some true x n e = (refl, ap (λ (o : Option ℕ). unwrap_or o n) e)
if_some false x n e = absurd (false≢true (ap is_some e))

some_if : (b : Bool) (x n : ℕ) → b ≡ true → x ≡ n → ◌≡◌ {A = Option ℕ} (if b then Some x else None) (Some n)
some_if b x n e f = rw (e, f) refl

module _ (found : EmissionFound) (c : Config) (all : AllRules c) where
  grid_found : (moment : Moment) → is_on_grid c moment ≡ true → FindsFrame c moment (frames_passed c moment)
  grid_found moment e =
      let p = and_parts (nat_lt moment.subseconds (subseconds_per_second c.band) && nat_le (origin c)
      (subseconds_by c moment))
      (passed c moment % frame_subseconds c == 0) e in
      let q = and_parts (nat_lt moment.subseconds (subseconds_per_second c.band))
      (nat_le (origin c) (subseconds_by c moment))
      p.0 in
      record {
        carried = ltb-true moment.subseconds (subseconds_per_second c.band) q.0;
        later = leb-true (origin c) (subseconds_by c moment) q.1;
        whole = eqb-true (passed c moment % frame_subseconds c) 0 p.1;
        frames = refl;
      }

  found_grid : (moment : Moment) (n : ℕ) → FindsFrame c moment n → is_on_grid c moment ≡ true
  found_grid moment n f =
      and_from (nat_lt moment.subseconds (subseconds_per_second c.band) && nat_le (origin c) (subseconds_by c moment))
      (passed c moment % frame_subseconds c == 0)
      (and_from (nat_lt moment.subseconds (subseconds_per_second c.band)) (nat_le (origin c) (subseconds_by c moment))
      (lt-ltb moment.subseconds (subseconds_per_second c.band) f.carried)
      (le-leb (origin c) (subseconds_by c moment) f.later))
      (eq-eqb (passed c moment % frame_subseconds c) 0 f.whole)

  with_from : (key : Key) (moment : Moment) (n : ℕ) → frame_with c key moment ≡ Some n → (n < MOST_FRAMES)
      × (moment ≡ emission c n) × (frame_key c.frames n ≡ key)
  unfolding frame_with
  with_from key moment n e =
      let m : ℕ = frames_passed c moment in
      let t = if_some (is_on_grid c moment && nat_lt m MOST_FRAMES && is_same (frame_key c.frames m) key) m n e in
      let p = and_parts (is_on_grid c moment && nat_lt m MOST_FRAMES) (is_same (frame_key c.frames m) key) t.0 in
      let q = and_parts (is_on_grid c moment) (nat_lt m MOST_FRAMES) p.0 in
      let at : (m < MOST_FRAMES) × (moment ≡ emission c m) × (frame_key c.frames m ≡ key) = (
        ltb-true m MOST_FRAMES q.1,
        (found c moment m all).1 (grid_found moment q.0),
        same_key (frame_key c.frames m)
            key p.1,
      ) in
      subst (λ (k : ℕ). (k < MOST_FRAMES) × (moment ≡ emission c k) × (frame_key c.frames k ≡ key)) t.1 at

  with_to : (key : Key) (moment : Moment) (n : ℕ) → n < MOST_FRAMES → moment ≡ emission c n → frame_key c.frames n ≡ key
      → frame_with c key moment ≡ Some n
  unfolding frame_with
  with_to key moment n small is own =
      let f = (found c moment n all).0 is in
      let m : ℕ = frames_passed c moment in
      let e : m ≡ n = f.frames in
      some_if (is_on_grid c moment && nat_lt m MOST_FRAMES && is_same (frame_key c.frames m) key) m n
      (and_from (is_on_grid c moment && nat_lt m MOST_FRAMES) (is_same (frame_key c.frames m) key)
      (and_from (is_on_grid c moment) (nat_lt m MOST_FRAMES) (found_grid moment n f)
      (lt-ltb m MOST_FRAMES (subst (λ (k : ℕ). k < MOST_FRAMES) (sym e) small)))
      (is_same_self (frame_key c.frames m) key (ap (frame_key c.frames) e ∙ own))) e

  named_from : (g : Group) (n : ℕ) (o : Option Stamp) → slice_get (stamps_of g.packets) 0 ≡ o
      → option_and_then (λ s. frame_with c g.key (moment_of s)) o ≡ Some n → IsNamed c g n
  named_from g n None f e = absurd (false≢true (ap is_some e))
  named_from g n (Some s) f e = let w = with_from g.key (moment_of s) n e in
      record { stamp = s; first = f; small = w.0; emission-is = w.1; key = w.2 }

  pub named_both : (g : Group) (n : ℕ) → (named_frame c g ≡ Some n → IsNamed c g n)
      × (IsNamed c g n → named_frame c g ≡ Some n)
  named_both g n = (
    (λ e. named_from g n (slice_get (stamps_of g.packets) 0) refl e),
    (λ is. ap (option_and_then (λ s. frame_with c g.key (moment_of s))) is.first
        ∙ with_to g.key (moment_of is.stamp) n is.small is.emission-is is.key),
  )

pub frame_named : EmissionFound → FrameNamed
frame_named found c g n all = named_both found c all g n
