-- A writer that puts one part behind others: what it has put, and where it stops. Crates of writers cite these.
use Rattle.std.proofs.Common.{◌≡◌, ℕ, ◌-◌, ◌≤◌, Bool, List, [], ◌++◌, length, Option, Some, None, refl, ap, arith}
use Rattle.std.proofs.Common.{append-nil}
use Rattle.std.specs.Prelude.{Result, Ok, Err, OnOk, OnErr, IfErr, IfSome, option_map}
use Rattle.bit_slice.specs.declared.sink.SinkFault.{SinkFault}
use Rattle.bit_slice.specs.Sink.{State, Puts, Refuses, Stops}
use Rattle.bit_slice.specs.Laws.{PutsJoin, StopsHere, StopsLater}

pub part_stops : StopsHere → StopsLater → (a b c : State) (front more bits : List Bool) (count : ℕ) (fault : SinkFault)
    → Puts a b front → Refuses b count fault → c ≡ b →
    count ≤ length more → bits ≡ front ++ more → Stops a c bits fault
part_stops here later a b c front more bits count fault puts refused same inside is =
    rw (is, same) (later a b b front more fault puts (here b more count fault refused inside))

pub part_faults : {T : Type 0} → StopsHere → StopsLater → (a b c : State) (front more bits : List Bool) (count : ℕ)
    (r : Result T SinkFault) → Puts a b front → IfErr r (Refuses b count) →
    OnErr r (c ≡ b) → count ≤ length more → bits ≡ front ++ more → IfErr r (Stops a c bits)
part_faults here later a b c front more bits count (Ok x) puts refused same inside is = tt
part_faults here later a b c front more bits count (Err e) puts refused same inside is =
    part_stops here later a b c front more bits count e puts refused same inside is

pub rest_faults : {T : Type 0} → StopsLater → (a b c : State) (front more bits : List Bool) (r : Result T SinkFault)
    → Puts a b front → IfErr r (Stops b c more) → bits ≡ front ++ more →
    IfErr r (Stops a c bits)
rest_faults later a b c front more bits (Ok x) puts stops is = tt
rest_faults later a b c front more bits (Err e) puts stops is = rw is (later a b c front more e puts stops)

pub rest_puts : {T : Type 0} → PutsJoin → (a b c : State) (front more bits : List Bool) (r : Result T SinkFault)
    → Puts a b front
    → OnOk r (Puts b c more) → bits ≡ front ++ more →
    OnOk r (Puts a c bits)
rest_puts join a b c front more bits (Ok x) puts rest is = rw is (join a b c front more puts rest)
rest_puts join a b c front more bits (Err e) puts rest is = tt

-- nothing was put
room_same : (a : Option ℕ) → a ≡ option_map (λ r. r - 0) a
room_same None = refl
room_same (Some r) = let e : r ≡ r - 0 = omega arith in ap Some e

fits_none : (a : Option ℕ) → IfSome a (λ r. 0 ≤ r)
fits_none None = tt
fits_none (Some r) = omega arith

pub puts_none : (a : State) → Puts a a []
puts_none a = grind (arith, append-nil, fits_none, room_same)
