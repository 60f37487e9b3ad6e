-- What holds of the definitions. The functions without a body ensure it.
use Rattle.std.specs.Prelude.{◌≡◌, ◌⊎◌, ◌+◌, ◌≤◌, ℕ, List, ◌++◌, Bool, length}
use Rattle.bb_frame.specs.declared.header.Header.{Header}
use Rattle.bb_frame.specs.declared.header.TheConstants.{HEADER_BITS}
use Rattle.bb_frame.specs.declared.fault.BbFault.{BbFault}
use Rattle.bb_frame.specs.BasebandFrame.{header_bits, frame_bits, Fits, Describes, Spells, Refuses}
use Rattle.bb_frame.specs.Scrambled.{scrambled}

-- What is written spells what was to be written, whatever follows it.
abbrev pub WrittenIsSpelled : Type 0
WrittenIsSpelled = (h : Header) (body : List Bool) (size : ℕ) (after : List Bool) → Fits h → Describes h body
    → Spells h body (frame_bits h body size ++ after)

-- Bits that are a frame are not refused.
abbrev pub NoRefusal : Type 0
NoRefusal = (h : Header) (body bits : List Bool) (fault : BbFault) → Spells h body bits → ¬ (Refuses bits fault)

-- As many bits as a header has, or more, are a frame or have a refusal.
abbrev pub SpelledOrRefused : Type 0
SpelledOrRefused = (bits : List Bool) → HEADER_BITS ≤ length bits
    → ((h : Header) × ((body : List Bool) × Spells h body bits))
    ⊎ ((fault : BbFault) × Refuses bits fault)

-- Bits have one refusal at most.
abbrev pub OneRefusal : Type 0
OneRefusal = (bits : List Bool) (fault other : BbFault) → Refuses bits fault → Refuses bits other → fault ≡ other

-- Scrambling twice is scrambling not at all.
abbrev pub ScramblesBack : Type 0
ScramblesBack = (bits : List Bool) → scrambled (scrambled bits) ≡ bits

-- How many bits there are: those of a header; in a frame as many as it is given, if the data field fits; and scrambling
-- changes no number.
pub record BitCounts : Type 0 where
  pub header : (h : Header) → length (header_bits h) ≡ HEADER_BITS
  pub frame : (h : Header) (body : List Bool) (size : ℕ) → HEADER_BITS + length body ≤ size
      → length (frame_bits h body size)
      ≡ size
  pub scrambled : (bits : List Bool) → length (scrambled bits) ≡ length bits
