-- A sink with room for all bits takes them all.
use Rattle.std.proofs.Common.{◌≡◌, ℕ, ◌-◌, ◌*◌, ◌≤◌, Bool, false, List, [], ◌++◌, length, take, Some, Result, Ok, Err}
use Rattle.std.proofs.Common.{ap, ◌∙◌, arith, length-append, refl}
use Rattle.std.specs.Prelude.{OnOk, IfErr, IsOk}
use Rattle.std.proofs.lemmas.List.{length-take}
use Rattle.bit_slice.specs.Sink.{State, Puts, Stops}
use Rattle.bit_slice.specs.declared.sink.SinkFault.{SinkFault}
use Rattle.bit_slice.specs.declared.sink.SinkFault.TheVariants.{Full, OutOfMemory}

-- a sink of so many bytes with these bits
abbrev sink : ℕ → List Bool → State
sink n bits = record { written = bits; room = Some (8 * n - length bits); grows = false; below = [] }

-- no fault stops bits for which there is room
never_full : (n : ℕ) (old new bits : List Bool) (e : SinkFault) → old ≡ [] → length bits ≤ 8 * n
    → Stops (sink n old) (sink n new) bits e → ⊥
never_full n old new bits OutOfMemory none few stops = absurd (let e = stops.cause.0 in cc)
never_full n old new bits (Full need room) none few stops =
    let has : Some (8 * n - length new) ≡ Some room = stops.cause.0 in
    let is : 8 * n - length new ≡ room = cc in
    let count = ap length stops.front.written in
    let z = ap length none in
    omega (
      arith,
      is,
      stops.cause.1,
      stops.cause.2,
      count,
      z,
      length-append old (take stops.count bits),
      length-take stops.count bits,
    )

pub takes_all : (r : Result (Unit {0}) SinkFault) (n : ℕ) (old new bits : List Bool) → old ≡ [] → length bits ≤ 8 * n
    → IfErr r (Stops (sink n old) (sink n new) bits) → IsOk r
takes_all (Ok u) n old new bits none few stops = refl
takes_all (Err e) n old new bits none few stops = absurd (never_full n old new bits e none few stops)

pub written_whole : (r : Result (Unit {0}) SinkFault) (n : ℕ) (old new bits : List Bool) → old ≡ []
    → length bits ≤ 8 * n
    → OnOk r (Puts (sink n old) (sink n new) bits) → IfErr r (Stops (sink n old) (sink n new) bits) → new ≡ bits
written_whole (Ok u) n old new bits none few puts stops = puts.written ∙ ap (λ (l : List Bool). l ++ bits) none
written_whole (Err e) n old new bits none few puts stops = absurd (never_full n old new bits e none few stops)
