-- What is held of the L1 signalling of a group.
use Rattle.std.specs.Prelude.{◌≡◌, ◌&&◌, Bool, true, false, List, length, slice_get, Option, Some, None, if◌then◌else◌}
use Rattle.std.specs.Option.{option_or}
use Rattle.plp_config.specs.declared.config.Config.{Config}
use Rattle.scheduler.specs.Shape.{FrameShape}
use Rattle.l1_signal.specs.L1Configurable.{conf_read, info_size}
use Rattle.l1_signal.specs.L1Of.{told_shape}
use Rattle.l1_signal.specs.L1Pre.{pre_reading}
use Rattle.frame_groups.specs.Carried.{L1Parts}
use Rattle.frame_groups.specs.Tally.{alike_behind}
use Rattle.frame_groups.specs.Tests.{read_whole, pre_agrees, conf_agrees, read_dynamic}
use Rattle.open_group.specs.Parts.{parts_of}
use Rattle.open_group.specs.declared.l1.HeldL1.{HeldL1}

-- the first L1-current, if there is one
abbrev pub first_of : HeldL1 → Option L1Parts
first_of held = if held.is_held then Some (parts_of held.parts) else None

-- the shape that it tells, if it reads
abbrev pub shape_told : HeldL1 → Option FrameShape
shape_told held = if held.is_held && held.told then Some held.shape else None

-- whether L1-pre and the configurable part are the configuration's
abbrev pub agrees_with : Config → L1Parts → Bool
agrees_with c l1 = pre_agrees c (read_whole (pre_reading false l1.pre)) && conf_agrees c
    (read_whole (conf_read (info_size (length c.plps)) l1.conf))

-- What was read of the first L1-current, with the shape that it tells.
pub record HasRead (c : Config) (held : HeldL1) : Type 0 where
  pub agrees : held.agrees ≡ agrees_with c (parts_of held.parts)
  pub dynamic : read_dynamic c (parts_of held.parts) ≡ (if held.told then Some held.dynamic else None)
  pub shape : held.told ≡ true → held.shape ≡ told_shape held.dynamic

-- It is a first L1-current, if there is one, and whether the others are the same.
pub record HoldsL1 (c : Config) (held : HeldL1) (first : Option L1Parts) (alike : Bool) : Type 0 where
  pub is-first : first_of held ≡ first
  pub is-alike : held.alike ≡ alike
  pub reads : held.is_held ≡ true → HasRead c held

-- More were added.
abbrev pub AddsL1 : Config → HeldL1 → HeldL1 → List L1Parts → Type 0
AddsL1 c old new more =
    (first : Option L1Parts) (alike : Bool) → HoldsL1 c old first alike
    → HoldsL1 c new (option_or first (slice_get more 0))
    (alike && alike_behind first more)
