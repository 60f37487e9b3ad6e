-- The parts of an L1-current, as they are held: one behind another.
use Rattle.std.specs.Prelude.{◌+◌, drop}
use Rattle.terms.specs.Bits.{part}
use Rattle.frame_groups.specs.Carried.{L1Parts}
use Rattle.open_group.specs.declared.parts.HeldParts.{HeldParts}

-- the parts that are held
abbrev pub parts_of : HeldParts → L1Parts
parts_of held = record {
  pre = part held.bits 0 held.pre;
  conf = part held.bits held.pre held.conf;
  dynamic = part held.bits (held.pre + held.conf) held.dynamic;
  extension = drop (held.pre + held.conf + held.dynamic) held.bits;
}
