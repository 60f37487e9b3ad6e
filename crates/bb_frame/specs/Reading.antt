-- What the reader takes from bits, place by place. No public clause cites this module.
use Rattle.std.specs.Prelude.{◌≡◌, ◌+◌, ◌*◌, ◌^◌, List, Bool}
use Rattle.terms.specs.Bits.{part, number_at}
use Rattle.bb_frame.specs.declared.header.Header.{Header}
use Rattle.bb_frame.specs.declared.header.TheConstants.{HEADER_BITS}
use Rattle.bb_frame.specs.BasebandFrame.{HasCrc, HasLength, HasSync}

-- The header's fields are what stands at their places in the bits.
pub record HasFields (bits : List Bool) (h : Header) : Type 0 where
  pub matype1 : h.matype1 ≡ number_at bits 0 8
  pub matype2 : h.matype2 ≡ number_at bits 8 8
  pub issy : h.issy ≡ number_at bits 16 16 * 2 ^ 8 + number_at bits 48 8
  pub dfl : h.dfl ≡ number_at bits 32 16
  pub syncd : h.syncd ≡ number_at bits 56 16

-- The bits are no refused frame, and this one stands in them.
pub record IsRead (bits : List Bool) (h : Header) (body : List Bool) : Type 0 where
  pub crc : HasCrc bits
  pub len : HasLength bits
  pub sync : HasSync bits
  pub fields : HasFields bits h
  pub taken : body ≡ part bits HEADER_BITS h.dfl
