-- What the first L1-current tells, if it tells a shape with a cell map.
use Rattle.std.proofs.Common.{◌≡◌, ◌&&◌, Bool, true, false, cond, List, [], Option, Some, None, refl, ap, sym, ◌∙◌}
use Rattle.std.specs.Prelude.{slice_get}
use Rattle.std.specs.Option.{option_map, option_map_or, option_and_then}
use Rattle.std.proofs.lemmas.Bool.{true≢false, cond-true}
use Rattle.l1_signal.specs.L1Of.{told_shape}
use Rattle.plp_config.specs.declared.config.Config.{Config}
use Rattle.t2mi_packet.specs.declared.packet.Packet.{Packet}
use Rattle.frame_groups.specs.Carried.{L1Parts, l1s_of}
use Rattle.frame_groups.specs.Tests.{has_map, l1_shape, first_shape}
use Rattle.open_group.specs.HoldsL1.{HoldsL1, shape_told}
use Rattle.open_group.specs.Parts.{parts_of}
use Rattle.open_group.specs.Written.{dynamic_in}
use Rattle.open_group.specs.declared.l1.HeldL1.{HeldL1}

-- There is one, and it tells a shape.
pub record Tells (held : HeldL1) : Type 0 where
  pub is_held : held.is_held ≡ true
  pub told : held.told ≡ true

pub tells : (c : Config) (held : HeldL1) → has_map c (shape_told held) ≡ true → Tells held
tells c held e = go held.is_held held.told refl refl e
  where
    go : (a b : Bool) → held.is_held ≡ a → held.told ≡ b → has_map c (cond (a && b) (Some held.shape) None) ≡ true
        → Tells held
    go true true x y e = record { is_held = x; told = y }
    go true false x y e = absurd (true≢false (sym e))
    go false b x y e = absurd (true≢false (sym e))

-- it is the first of the packets
first_is : (c : Config) (held : HeldL1) (packets : List Packet) (alike : Bool) → Tells held
    → HoldsL1 c held (slice_get (l1s_of packets) 0) alike → slice_get (l1s_of packets) 0 ≡ Some (parts_of held.parts)
first_is c held packets alike t h = sym h.is-first ∙ cond-true held.is_held (Some (parts_of held.parts)) None t.is_held

pub first_dynamic : (c : Config) (held : HeldL1) (packets : List Packet) (alike : Bool) → Tells held
    → HoldsL1 c held (slice_get (l1s_of packets) 0) alike → (parts_of held.parts).dynamic ≡ dynamic_in packets
first_dynamic c held packets alike t h = ap (λ (o : Option L1Parts). option_map_or (λ l1. l1.dynamic) o [])
    (sym (first_is c held packets alike t h))

pub first_told : (c : Config) (held : HeldL1) (packets : List Packet) (alike : Bool) → Tells held
    → HoldsL1 c held (slice_get (l1s_of packets) 0) alike → first_shape c packets ≡ Some held.shape
first_told c held packets alike t h =
    let read = h.reads t.is_held in
    ap (option_and_then (l1_shape c)) (first_is c held packets alike t h)
    ∙ ap (option_map told_shape) (read.dynamic ∙ cond-true held.told (Some held.dynamic) None t.told)
    ∙ ap Some (sym (read.shape t.told))
