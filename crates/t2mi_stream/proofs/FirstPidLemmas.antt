-- The PID that a file tells, and the packets that are accepted on it.
use Rattle.std.proofs.Common.{◌≡◌, ℕ, zero, suc, ◌+◌, ◌*◌, ◌/◌, ◌==◌, ◌<◌, ◌≤◌, ⊎_elim, Bool, true, false, cond, List}
use Rattle.std.proofs.Common.{◌++◌, length, take, Option, Some, None, refl, ap, sym, subst, ◌∙◌, arith, length-append}
use Rattle.std.specs.Prelude.{slice_get, option_to_list, flat_map, nat_lt, not, ◌&&◌}
use Rattle.std.specs.List.{range_with_len}
use Rattle.std.proofs.lemmas.Bool.{cases_lt, both_ways, eqb-true}
use Rattle.std.proofs.lemmas.List.{take_all}
use Rattle.ts_packet.specs.TransportPacket.{Fields}
use Rattle.ts_packet.specs.FieldsIn.{fields_in}
use Rattle.t2mi_stream.specs.Skipping.{CarriesNothing, SkipLaw}
use Rattle.t2mi_stream.specs.Units.{points_inside, PipedUnit, piped_unit_of, carried, unit_at}
use Rattle.t2mi_stream.proofs.SkippingLemmas.{unit_before, unit_behind}
use Rattle.t2mi_stream.specs.FirstPid.{pid_of, pid_at, pid_in, accepted_on, TellsNone, TellsNoneOn, PacketsBehind}
use Rattle.t2mi_stream.specs.FirstPid.{NoPackets}

first_of : (o : Option ℕ) (rest : List ℕ) (pid : ℕ) → o ≡ Some pid → slice_get (option_to_list o ++ rest) 0 ≡ Some pid
first_of None rest pid e = cc
first_of (Some x) rest pid e = e

first_behind : (o : Option ℕ) (rest : List ℕ) → o ≡ None → slice_get (option_to_list o ++ rest) 0 ≡ slice_get rest 0
first_behind None rest e = refl
first_behind (Some x) rest e = cc

-- the first number that tells something
told_first : (f : ℕ → Option ℕ) (pid a n m : ℕ) → ((k : ℕ) → k < m → f (a + k) ≡ None) → f (a + m) ≡ Some pid → m < n
    → slice_get (flat_map (λ k. option_to_list (f k)) (range_with_len a n)) 0 ≡ Some pid
told_first f pid a zero m none some h = absurd (omega arith)
told_first f pid a (suc n) zero none some h =
    let here : a + 0 ≡ a = omega arith in
    first_of (f a) (flat_map (λ k. option_to_list (f k)) (range_with_len (a + 1) n)) pid (sym (ap f here) ∙ some)
told_first f pid a (suc n) (suc m) none some h =
    let here : a + 0 ≡ a = omega arith in
    let next : a + 1 + m ≡ a + suc m = omega arith in
    first_behind (f a) (flat_map (λ k. option_to_list (f k)) (range_with_len (a + 1) n)) (sym (ap f here)
    ∙ none 0 (omega arith))
    ∙ told_first f pid (a + 1) n m (λ k l. (let behind : a + 1 + k ≡ a + suc k = omega arith in ap f behind)
    ∙ none (suc k) (omega arith)) (ap f next ∙ some) (omega arith)

told_none : (f : ℕ → Option ℕ) (a n : ℕ) → ((k : ℕ) → k < n → f (a + k) ≡ None)
    → slice_get (flat_map (λ k. option_to_list (f k)) (range_with_len a n)) 0 ≡ None
told_none f a zero none = refl
told_none f a (suc n) none =
    let here : a + 0 ≡ a = omega arith in
    first_behind (f a) (flat_map (λ k. option_to_list (f k)) (range_with_len (a + 1) n)) (sym (ap f here)
    ∙ none 0 (omega arith))
    ∙ told_none f (a + 1) n (λ k l. (let behind : a + 1 + k ≡ a + suc k = omega arith in ap f behind)
    ∙ none (suc k) (omega arith))

-- the PID of null packets is told by none
not_null : (o : Option Fields) (pid : ℕ) → pid_of o ≡ Some pid → (pid == 0x1FFF) ≡ false
not_null None pid e = cc
not_null (Some f) pid e = go (nat_lt 0 (length f.payload)) (f.pid == 0x1FFF) refl e
  where
    go : (b c : Bool) → (f.pid == 0x1FFF) ≡ c → cond (b && not c) (Some f.pid) None ≡ Some pid → (pid == 0x1FFF) ≡ false
    go true false is h = let same : f.pid ≡ pid = cc in subst (λ (n : ℕ). (n == 0x1FFF) ≡ false) same is
    go true true is h = cc
    go false c is h = cc

-- a unit that tells no PID carries nothing on the PID that another tells
no_piped_unit : (pid place : ℕ) (unit : List ℕ) (f : Option Fields) → (pid == 0x1FFF) ≡ false → pid_of f ≡ None
    → piped_unit_of pid place unit f ≡ None
no_piped_unit pid place unit None other none = refl
no_piped_unit pid place unit (Some f) other none = go (f.pid == pid) (nat_lt 0 (length f.payload)) refl none
  where
    null : (b : Bool) → (f.pid == 0x1FFF) ≡ b → cond (not b) (Some f.pid) None ≡ None → b ≡ true
    null true is h = refl
    null false is h = cc

    go : (here some : Bool) → (f.pid == pid) ≡ here → cond (some && not (f.pid == 0x1FFF)) (Some f.pid) None ≡ None →
        cond {A = Option PipedUnit} (here && not f.error && (f.scrambling == 0) && some && points_inside f)
        (Some (record { counter = f.counter; bytes = carried place unit f })) None ≡ None
    go false some is h = refl
    go true true is h =
        let same : f.pid ≡ pid = eqb-true f.pid pid is in
        absurd (both_ways (pid == 0x1FFF) other (subst (λ (n : ℕ). (n == 0x1FFF) ≡ true) same
        (null (f.pid == 0x1FFF) refl h)))
    go true false is h = left_out (f.error) (f.scrambling == 0)
      where
        left_out : (e s : Bool) → cond {A = Option PipedUnit} (true && not e && s && false && points_inside f)
            (Some (record { counter = f.counter; bytes = carried place unit f })) None ≡ None
        left_out true s = refl
        left_out false true = refl
        left_out false false = refl

carries_nothing : (front : List ℕ) (pid : ℕ) → (pid == 0x1FFF) ≡ false → TellsNone front → CarriesNothing pid front
carries_nothing front pid other t = record {
  units = t.units;
  whole = t.whole;
  none = λ number h. no_piped_unit pid (188 * number) (unit_at front number) (fields_in (unit_at front number)) other
      (t.none number h);
}

-- the unit behind the front
next_unit : (front rest : List ℕ) (units : ℕ) → length front ≡ 188 * units → pid_at (front ++ rest) units
    ≡ pid_of (fields_in (take 188 rest))
next_unit front rest units whole =
    let last : units ≡ units + 0 = omega arith in
    ap (λ (u : List ℕ). pid_of (fields_in u)) (ap (unit_at (front ++ rest)) last ∙ unit_behind front rest units 0 whole)

-- units that tell no PID, and then one that tells it
tells : (front rest : List ℕ) (pid : ℕ) → TellsNone front → 188 ≤ length rest
    → pid_of (fields_in (take 188 rest)) ≡ Some pid
    → pid_in (front ++ rest) ≡ Some pid
unfolding pid_in
tells front rest pid t many some =
    let whole : length front ≡ 188 * t.units = t.whole in
    let size = length-append front rest in
    let from : 0 + t.units ≡ t.units = omega arith in
    told_first (pid_at (front ++ rest)) pid 0 (length (front ++ rest) / 188) t.units
    (λ k h. (let same : 0 + k ≡ k = omega arith in ap (pid_at (front ++ rest)) same)
    ∙ ap (λ (u : List ℕ). pid_of (fields_in u))
    (unit_before front rest t.units k t.whole h) ∙ t.none k h)
    (ap (pid_at (front ++ rest)) from ∙ next_unit front rest t.units t.whole ∙ some)
    (omega arith)

-- The packets of a file whose first units tell no PID are those of the rest, further on.
pub packets_behind : SkipLaw → PacketsBehind
packets_behind law front rest pid t many some =
    ap (λ (o : Option ℕ). accepted_on o (front ++ rest)) (tells front rest pid t many some)
    ∙ law pid front rest (carries_nothing front pid (not_null (fields_in (take 188 rest)) pid some) t)

-- A file whose units all tell no PID has no packets.
pub no_packets : NoPackets
unfolding pid_in
no_packets front rest t few =
    let whole : length front ≡ 188 * t.units = t.whole in
    let size = length-append front rest in
    let all : length (front ++ rest) / 188 ≡ t.units = omega arith in
    let none : pid_in (front ++ rest) ≡ None =
    told_none (pid_at (front ++ rest)) 0 (length (front ++ rest) / 188)
    (λ k h. (let same : 0 + k ≡ k = omega arith in ap (pid_at (front ++ rest)) same)
    ∙ (let inside : k < t.units = omega arith in
    ap (λ (u : List ℕ). pid_of (fields_in u)) (unit_before front rest t.units k t.whole inside) ∙ t.none k inside)) in
    ap (λ (o : Option ℕ). accepted_on o (front ++ rest)) none

-- one more unit that tells no PID
pub tells_none : TellsNoneOn
tells_none front unit t size none =
    let whole : length front ≡ 188 * t.units = t.whole in
    let sum = length-append front unit in
    record {
      units = t.units + 1;
      whole = omega arith;
      none = λ number h.
          ⊎_elim
          (λ (before : number < t.units). ap (λ (u : List ℕ). pid_of (fields_in u))
          (unit_before front unit t.units number t.whole before) ∙ t.none number before)
          (λ (at : t.units ≤ number).
          let last : number ≡ t.units = omega arith in
          ap (pid_at (front ++ unit)) last ∙ next_unit front unit t.units t.whole
          ∙ ap (λ (u : List ℕ). pid_of (fields_in u))
          (take_all 188 unit (omega (arith, size))) ∙ none)
          (cases_lt number t.units);
    }
