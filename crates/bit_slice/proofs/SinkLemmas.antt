-- What puts do to sinks, and one put after another.
use Rattle.std.proofs.Common.{◌≡◌, ℕ, ◌+◌, ◌-◌, ◌<◌, ◌≤◌, Bool, true, false, List, [], ◌++◌, length, take, drop, Option}
use Rattle.std.proofs.Common.{Some}
use Rattle.std.proofs.Common.{None, refl, ap, sym, ◌∙◌, arith, append_assoc, length-append}
use Rattle.std.proofs.lemmas.List.{length-take, take_at, take-append-le, take-append-drop}
use Rattle.std.specs.Prelude.{IfSome, IsSomeAnd, min, Result, Ok, Err, IfErr, OnErr}
use Rattle.std.specs.Option.{option_map}
use Rattle.std.proofs.Math.Seq.{take-append-add}
use Rattle.bit_slice.specs.declared.sink.SinkFault.{SinkFault}
use Rattle.bit_slice.specs.declared.sink.SinkFault.TheVariants.{Full, OutOfMemory}
use Rattle.bit_slice.specs.Sink.{State, Puts, Refuses, StopsFor, Stops, unwrapped}
use Rattle.bit_slice.specs.Laws.{StopsHere, StopsEarly, StopsLater, StopsRightly, PutsFit, PutsThrough, StopsThrough}
use Rattle.bit_slice.proofs.WriterLemmas.{puts_none}

-- a sink with so much room in all
pub fixed_puts : (all : ℕ) (old new more : List Bool) → new ≡ old ++ more → length old + length more ≤ all →
    Puts record { written = old; room = Some (all - length old); grows = false; below = [] } record
    { written = new; room = Some (all - length new); grows = false; below = [] } more
fixed_puts all old new more is fits = grind (arith, length-append)

-- a sink that grows
pub grown_puts : (old new more : List Bool) → new ≡ old ++ more →
    Puts record { written = old; room = None; grows = true; below = [] } record {
      written = new;
      room = None;
      grows = true;
      below = [];
    } more
grown_puts old new more is = record { written = is; fits = tt; room = refl; grows = refl; below = refl }

room_on : (a b c : Option ℕ) (m n : ℕ) → b ≡ option_map (λ r. r - m) a → c ≡ option_map (λ r. r - n) b
    → c ≡ option_map (λ r. r - (m + n)) a
room_on None b c m n p q = rw q (rw p refl)
room_on (Some r) b c m n p q = rw q (rw p (let e : r - m - n ≡ r - (m + n) = omega arith in ap Some e))

fits_on : (a b : Option ℕ) (m n : ℕ) → b ≡ option_map (λ r. r - m) a → IfSome a (λ r. m ≤ r) → IfSome b (λ r. n ≤ r)
    → IfSome a (λ r. m + n ≤ r)
fits_on None b m n p f g = tt
fits_on (Some r) b m n p f g = let h : n ≤ r - m = rw p at g in omega arith

pub puts_on : (a b c : State) (x y : List Bool) → Puts a b x → Puts b c y → Puts a c (x ++ y)
puts_on a b c x y p q = grind (arith, append_assoc, length-append, fits_on, room_on)

-- ---- sinks that keep nothing
pub counted : (old more new : List Bool) (count need : ℕ) → count ≡ length old → need ≡ length more → new ≡ old ++ more
    → count + need ≡ length new
counted old more new count need is size all = sym (ap length all ∙ length-append old more ∙ omega arith)

-- what is put through a sink around another stands behind what stood in that one
pub through : (old new stood put more all : List Bool) → new ≡ old ++ more → old ≡ stood ++ put → all ≡ put ++ more
    → new ≡ stood ++ all
through old new stood put more all is was joined = grind (arith, append_assoc)

-- ---- writers that stop
cause_here : (a : State) (count total : ℕ) (fault : SinkFault) → Refuses a count fault → count ≤ total
    → StopsFor a (total - 0) fault
cause_here a count total (Full need room) h inside = let needed = h.0 in (h.1, h.2, omega arith)
cause_here a count total OutOfMemory h inside = h

pub stops_here : StopsHere
stops_here a bits count fault h inside = grind (arith, puts_none, cause_here)

pub stops_later : StopsLater
stops_later a b c front more fault puts stops =
    let left : length more - stops.count ≡ length (front ++ more) - (length front + stops.count) =
    omega (arith, length-append front more) in
    record {
      count = length front + stops.count;
      front = rw (take-append-add front more stops.count) (puts_on a b c front (take stops.count more)
          puts stops.front);
      cause = rw (← left) stops.cause;
    }

less_room : (a b : Option ℕ) (put room need total : ℕ) → b ≡ option_map (λ r. r - put) a → IfSome a (λ r. put ≤ r)
    → b ≡ Some room
    → room < need → need ≤ total - put →
    IsSomeAnd a (λ r. r < total)
less_room None b put room need total is fits at less inside = let none : Some room ≡ None = sym at ∙ is in cc
less_room (Some r) b put room need total is fits at less inside = let same : r - put ≡ room = cc in omega arith

no_end : (a b : Option ℕ) (put : ℕ) → b ≡ option_map (λ r. r - put) a → b ≡ None → a ≡ None
no_end None b put is at = refl
no_end (Some r) b put is at = cc

few : (n : ℕ) (bits : List Bool) → length (take n bits) ≤ n
few n bits = omega (arith, length-take n bits)

pub stops_rightly : StopsRightly
stops_rightly a b bits (Full need room) s =
    let cause = s.cause in
    let put : ℕ = length (take s.count bits) in
    let left : length bits - s.count ≤ length bits - put = omega (arith, few s.count bits) in
    less_room a.room b.room put room need (length bits) s.front.room s.front.fits cause.0 cause.1
    (omega (arith, left, cause.2))
stops_rightly a b bits OutOfMemory s =
    (no_end a.room b.room (length (take s.count bits)) s.front.room s.cause.0, sym s.front.grows ∙ s.cause.1)

pub puts_fit : PutsFit
puts_fit a b bits puts = puts.fits

more_left : (s : State) (m n : ℕ) (fault : SinkFault) → StopsFor s m fault → m ≤ n → StopsFor s n fault
more_left s m n (Full need room) h less = let inside = h.2 in (h.0, h.1, omega arith)
more_left s m n OutOfMemory h less = h

take_taken : (n : ℕ) (bits : List Bool) → take (length (take n bits)) bits ≡ take n bits
take_taken n bits =
    ap (take (length (take n bits))) (sym (take-append-drop n bits))
    ∙ take_at (take n bits) (drop n bits) (length (take n bits)) refl

pub stops_early : StopsEarly
stops_early a b front more fault s =
    let n : ℕ = length (take s.count front) in
    let size : n ≡ min s.count (length front) = length-take s.count front in
    let taken : take n (front ++ more) ≡ take s.count front = take-append-le n front more (omega arith)
    ∙ take_taken s.count front in
    record {
      count = n;
      front = rw taken s.front;
      cause = more_left b (length front - s.count) (length (front ++ more) - n) fault s.cause
          (omega (arith, length-append front more));
    }

-- a second put that is refused
pub second_stops : {T : Type 0} (a b c : State) (front more bits : List Bool) (r : Result T SinkFault) → Puts a b front
    → IfErr r (Refuses b (length more)) → OnErr r (c ≡ b) → bits ≡ front ++ more →
    IfErr r (Stops a c bits)
second_stops a b c front more bits (Ok x) puts refused same is = tt
second_stops a b c front more bits (Err e) puts refused same is =
    rw (is, same) (stops_later a b b front more e puts (stops_here b more (length more) e refused (omega arith)))

-- ---- a sink around another one
pub puts_through : PutsThrough
puts_through s t bits p = grind arith

cause_through : (t : State) (left : ℕ) (fault : SinkFault) → StopsFor t left fault → StopsFor (unwrapped t) left fault
cause_through t left (Full need room) h = h
cause_through t left OutOfMemory h = h

pub stops_through : StopsThrough
stops_through s t bits fault stops = grind (arith, puts_through, cause_through)
