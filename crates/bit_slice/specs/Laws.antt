-- What holds of the definitions. The functions without a body ensure it.
use Rattle.std.specs.Prelude.{◌≡◌, ◌+◌, ◌<◌, ◌≤◌, ℕ, List, Bool, ◌++◌, length, true, None, IfSome, IsSomeAnd}
use Rattle.bit_slice.specs.Crc.{HasDegree, IsRemainder, dividend, ones, crc32_generator, crc32_of, crc8_generator}
use Rattle.bit_slice.specs.Crc.{crc8_of}
use Rattle.bit_slice.specs.declared.sink.SinkFault.{SinkFault}
use Rattle.bit_slice.specs.declared.sink.SinkFault.TheVariants.{Full, OutOfMemory}
use Rattle.bit_slice.specs.Sink.{State, Puts, Refuses, Stops, wrapped, unwrapped}
use Rattle.bit_slice.specs.Prbs.{plus, prbs, sequence}

-- The CRC-32 of w is the remainder of w * X^32 + (X^31 + .. + 1) * X^(length w) by the generator; so it is below 2^32.
abbrev pub CrcIsRemainder : Type 0
CrcIsRemainder = (w : List Bool) → IsRemainder 32 (dividend 32 (ones 32) w) crc32_generator (crc32_of w)

-- The CRC-8 of w is the remainder of w * X^8 by the generator; so it is below 2^8.
abbrev pub Crc8IsRemainder : Type 0
Crc8IsRemainder = (w : List Bool) → IsRemainder 8 (dividend 8 0 w) crc8_generator (crc8_of w)

-- There is one remainder.
abbrev pub RemainderIsUnique : Type 0
RemainderIsUnique = (degree p g r s : ℕ) → HasDegree g degree → IsRemainder degree p g r → IsRemainder degree p g s
    → r ≡ s

-- x(i) = x(i - 14) + x(i - 15) for each i from 0 on, with the loading sequence as x(-15) to x(-1)
abbrev pub PrbsRecurs : Type 0
PrbsRecurs = (i : ℕ) → prbs i ≡ plus (sequence (i + 1)) (sequence i)

-- What was put had room.
abbrev pub PutsFit : Type 0
PutsFit = (a b : State) (bits : List Bool) → Puts a b bits → IfSome a.room (λ room. length bits ≤ room)

-- What was put and then more is put as one.
abbrev pub PutsJoin : Type 0
PutsJoin = (a b c : State) (front more : List Bool) → Puts a b front → Puts b c more → Puts a c (front ++ more)

-- A writer whose next put is refused stops there.
abbrev pub StopsHere : Type 0
StopsHere = (a : State) (bits : List Bool) (count : ℕ) (fault : SinkFault) → Refuses a count fault → count ≤ length bits
    → Stops a a bits fault

-- A writer that stopped within its first part stopped within the whole.
abbrev pub StopsEarly : Type 0
StopsEarly = (a b : State) (front more : List Bool) (fault : SinkFault) → Stops a b front fault
    → Stops a b (front ++ more) fault

-- A writer that stopped stopped also if it had put bits before.
abbrev pub StopsLater : Type 0
StopsLater = (a b c : State) (front more : List Bool) (fault : SinkFault) → Puts a b front → Stops b c more fault
    → Stops a c (front ++ more) fault

-- A writer that finds the sink full had less room than bits, and one that finds no memory writes to a sink that has no
-- end and grows.
abbrev pub IsCause : State → ℕ → SinkFault → Type 0
IsCause a count (Full need room) = IsSomeAnd a.room (λ r. r < count)
IsCause a count OutOfMemory = (a.room ≡ None) × (a.grows ≡ true)

abbrev pub StopsRightly : Type 0
StopsRightly = (a b : State) (bits : List Bool) (fault : SinkFault) → Stops a b bits fault
    → IsCause a (length bits) fault

-- What is put through a sink around another one is put to that one.
abbrev pub PutsThrough : Type 0
PutsThrough = (s t : State) (bits : List Bool) → Puts (wrapped s) t bits → Puts s (unwrapped t) bits

-- A writer that stopped at a sink around another one stopped at that one.
abbrev pub StopsThrough : Type 0
StopsThrough = (s t : State) (bits : List Bool) (fault : SinkFault) → Stops (wrapped s) t bits fault
    → Stops s (unwrapped t) bits fault
