-- Blocks as a chain makes them from what waits. No public clause cites this module.
use Rattle.std.specs.Prelude.{ℕ, ◌+◌, ◌-◌, ◌*◌, ◌%◌, Bool, List, take, Some, None}
use Rattle.std.specs.declared.option.Option.{Option}
use Rattle.std.specs.Int.{div_ceil}
use Rattle.terms.specs.Bits.{bits_of}
use Rattle.bb_frame.specs.BasebandFrame.{frame_bits}
use Rattle.bb_frame.specs.declared.header.Header.{Header}
use Rattle.bb_frame.specs.declared.header.TheConstants.{HEADER_BYTES, NO_START}
use Rattle.plp_config.specs.SlotTime.{slot_start}
use Rattle.plp_config.specs.declared.moment.TheConstants.{ISCR_TICKS}
use Rattle.mode_adapt.specs.Blocks.{up_with}
use Rattle.mode_adapt.specs.declared.block_header.Settings.{Settings}
use Rattle.mode_adapt.specs.declared.block_header.TheConstants.{LONG_ISCR}
use Rattle.mode_adapt.specs.declared.chain.Chain.{Chain}

-- a header by settings
abbrev pub header_by : Settings → ℕ → ℕ → Option (ℕ × ℕ) → Header
header_by s x len None = record {
  matype1 = s.matype1;
  matype2 = s.matype2;
  issy = LONG_ISCR;
  dfl = 8
      * len;
  syncd = NO_START;
}
header_by s x len (Some up) = record {
  matype1 = s.matype1;
  matype2 = s.matype2;
  issy = LONG_ISCR + slot_start s.times.num s.times.den up.1 % ISCR_TICKS;
  dfl = 8 * len;
  syncd = 8 * (up.0 - x);
}

-- the first user packet that begins in the first bytes of those that wait
abbrev pub first_in : Chain → ℕ → Option (ℕ × ℕ)
first_in c count = up_with c.settings.up_bytes c.slots.items (div_ceil c.sent c.settings.up_bytes)
    (div_ceil c.sent c.settings.up_bytes) (c.sent + count)

-- the block of these bytes
abbrev pub piece_of : Chain → ℕ → List Bool
piece_of c count = frame_bits (header_by c.settings c.sent count (first_in c count))
    (bits_of (take count c.pending.items))
    (8 * (c.settings.field_bytes + HEADER_BYTES))
