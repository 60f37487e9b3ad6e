-- What an L1-current of a frame tells.
use Rattle.std.proofs.Common.{◌≡◌, ℕ, ◌≤◌, ◌&&◌, Bool, true, false, List, [], ◌∷◌, ◌++◌, map, length, Option, Some}
use Rattle.std.proofs.Common.{None, is_some, refl, ap, sym, subst, ◌∙◌, arith}
use Rattle.std.specs.Prelude.{cond}
use Rattle.std.specs.Option.{option_map, option_map_or, option_and_then}
use Rattle.std.proofs.lemmas.Bool.{and_parts, false≢true}
use Rattle.std.proofs.lemmas.List.{length-map}
use Rattle.plp_config.specs.declared.config.Config.{Config}
use Rattle.l1_signal.specs.L1Configurable.{conf_read, info_size}
use Rattle.l1_signal.specs.L1Of.{pre_of, conf_of, told_shape}
use Rattle.l1_signal.specs.L1Pre.{pre_reading}
use Rattle.l1_signal.specs.Laws.{PreLength, ConfLength, DynLength}
use Rattle.l1_signal.specs.Lengths.{conf_len, dyn_len}
use Rattle.l1_signal.specs.declared.dynamic.L1Dyn.{L1Dyn}
use Rattle.l1_signal.specs.declared.lengths.TheConstants.{MOST_CONF_BITS, MOST_DYN_BITS}
use Rattle.l1_signal.proofs.PostLemmas.{conf_plps-len}
use Rattle.t2mi_packet.specs.declared.packet.Packet.{Packet}
use Rattle.frame_groups.specs.Carried.{L1Parts}
use Rattle.frame_groups.specs.TestLaws.{PartsTold}
use Rattle.frame_groups.specs.Tests.{read_whole, pre_agrees, conf_agrees, dyn_agrees, read_dynamic, parts_agree}
use Rattle.frame_groups.specs.Tests.{first_shape, l1_shape, begins_superframe}
use Rattle.frame_writer.specs.FramePackets.{packet_with, stamp_of}
use Rattle.open_group.specs.Signals.{first_parts, signals}
use Rattle.frame_weave.specs.Made.{Fitting}
use Rattle.frame_weave.specs.Woven.{l1_bodies, stamp_bodies}
use Rattle.t2mi_packet.specs.declared.packet.Body.TheVariants.{Timestamp}

-- its parts fit
pub fitting : PartsTold → PreLength → ConfLength → DynLength → (c : Config) (n : ℕ) (l1 : L1Parts)
    → conf_len (length c.plps) ≤ MOST_CONF_BITS → dyn_len (length c.plps) ≤ MOST_DYN_BITS → parts_agree c n l1 ≡ true
    → Fitting l1
fitting told pre_len conf_length dyn_length c n l1 conf_most dyn_most e =
    let of = (told c n l1).0 e in
    let conf = conf_length (conf_of c) l1.conf of.conf ∙ ap conf_len (conf_plps-len c) in
    let plps : length of.dynamic.plps ≡ length c.plps = sym (length-map of.dynamic.plps (λ plp. plp.plp_id))
    ∙ ap length of.ids
    ∙ length-map c.plps (λ plp. plp.id) in
    let dynamic = dyn_length of.dynamic l1.dynamic of.spells ∙ ap dyn_len plps in
    record {
      pre = pre_len (pre_of c) l1.pre of.pre;
      conf = omega (arith, conf, conf_most);
      dynamic = omega (arith, dynamic, dyn_most);
    }

-- there is one
pub has_parts : (c : Config) (n : ℕ) (packets : List Packet) → signals c n packets ≡ true
    → (l1 : L1Parts) × (first_parts packets ≡ Some l1) × (parts_agree c n l1 ≡ true)
has_parts c n packets e = go (first_parts packets) refl e
  where
    go : (o : Option L1Parts) → first_parts packets ≡ o → option_map_or (parts_agree c n) o false ≡ true
        → (l1 : L1Parts) × (first_parts packets ≡ Some l1) × (parts_agree c n l1 ≡ true)
    go None is e = absurd (false≢true e)
    go (Some l1) is e = (l1, is, e)

-- and it tells a shape
tells_shape : (c : Config) (n : ℕ) (l1 : L1Parts) → parts_agree c n l1 ≡ true
    → is_some (option_map told_shape (read_dynamic c l1)) ≡ true
unfolding parts_agree
tells_shape c n l1 e =
    go (read_dynamic c l1)
    (and_parts (pre_agrees c (read_whole (pre_reading false l1.pre)) && conf_agrees c
    (read_whole (conf_read (info_size (length c.plps)) l1.conf))) (dyn_agrees c n (read_dynamic c l1)) e).1
  where
    go : (o : Option L1Dyn) → dyn_agrees c n o ≡ true → is_some (option_map told_shape o) ≡ true
    go None e = absurd (false≢true e)
    go (Some dynamic) e = refl

pub has_shape : (c : Config) (n : ℕ) (packets : List Packet) → signals c n packets ≡ true
    → is_some (first_shape c packets) ≡ true
has_shape c n packets e =
    let has = has_parts c n packets e in
    subst (λ (o : Option L1Parts). is_some (option_and_then (l1_shape c) o) ≡ true) (sym has.1)
    (tells_shape c n has.0 has.2)

-- the first L1-current of a group that was begun with one
pub made_parts : (c : Config) (n : ℕ) (l1 : L1Parts)
    → first_parts (map (packet_with c 0 n) (stamp_bodies c n ++ l1_bodies c n (Some l1)))
    ≡ Some (record { pre = l1.pre; conf = l1.conf; dynamic = l1.dynamic; extension = [] })
made_parts c n l1 = go (begins_superframe c n)
  where
    go : (t : Bool) → first_parts (map (packet_with c 0 n)
        (cond t (Timestamp (stamp_of c n) ∷ []) [] ++ l1_bodies c n (Some l1)))
        ≡ Some (record { pre = l1.pre; conf = l1.conf; dynamic = l1.dynamic; extension = [] })
    go true = refl
    go false = refl
