-- How much can be taken before bytes are wanted.
use Rattle.std.proofs.Common.{◌≡◌, ℕ, suc, ◌+◌, ◌*◌, ◌≤◌, ◌<◌, Bool, true, false, cond, Option, Some, None, refl, ap}
use Rattle.std.proofs.Common.{sym, arith, ◌∙◌, ◌++◌, List, length, take, length-append}
use Rattle.std.proofs.lemmas.List.{length-take-le}
use Rattle.std.proofs.Math.Nat.{mul-le-mul_right, suc-mul}
use Rattle.std.proofs.lemmas.Bool.{true≢false}
use Rattle.t2mi_stream.specs.UnpiperStandsFor.{steps_left}
use Rattle.t2mi_stream.specs.declared.unpiper.Unpiper.{Unpiper}
use Rattle.frame_groups.specs.Waits.{records_by, records_left, most_records, most_number, IsWithin}
use Rattle.frame_groups.specs.declared.waiting.Progress.{Progress}
use Rattle.modulator.specs.Modulating.{ahead_by}

-- a group has no more records left than a group can have
few_by : (number : Option ℕ) (next : ℕ) (closing : Bool) → ((n : ℕ) → number ≡ Some n → n ≤ most_number)
    → records_by number next closing ≤ most_records
few_by None next true near = omega arith
few_by None next false near = omega arith
few_by (Some n) next closing near = let l = near n refl in omega (arith, l)

few_left : (at : Progress) → IsWithin most_number at → records_left at ≤ most_records
few_left at near = few_by at.number at.next at.closing near

-- a part of a sum that is no greater, or less
on_le : (x a b : ℕ) → a ≤ b → x + a ≤ x + b
on_le x a b few = omega arith

on_lt : (x a b : ℕ) → a < b → x + a < x + b
on_lt x a b few = omega arith

-- one less of what is worth so much makes up for that
made_up : (a b k new old : ℕ) → a < b → new ≤ k → a * k + new ≤ b * k + old
made_up a b k new old less few =
    let above : suc a ≤ b = omega (arith, less) in
    let up = mul-le-mul_right k above in
    let one = suc-mul a k in
    omega (arith, up, one, few)

-- a step less makes up for the records of the next group
pub ahead_by_step : (u v : Unpiper) (at to : Progress) → steps_left v < steps_left u → IsWithin most_number to
    → ahead_by v to ≤ ahead_by u at
unfolding ahead_by
ahead_by_step u v at to less near = made_up (steps_left v) (steps_left u) most_records (records_left to)
    (records_left at) less
    (few_left to near)

-- the unit is as it was, and of the group no more records are left
pub ahead_by_group : (u : Unpiper) (at to : Progress) → records_left to ≤ records_left at → ahead_by u to
    ≤ ahead_by u at
unfolding ahead_by
ahead_by_group u at to few = on_le (steps_left u * most_records) (records_left to) (records_left at) few

-- a record was given
pub ahead_gave : (u : Unpiper) (at to : Progress) → records_left to < records_left at → ahead_by u to < ahead_by u at
unfolding ahead_by
ahead_gave u at to few = on_lt (steps_left u * most_records) (records_left to) (records_left at) few

-- how many bytes were left before some were taken
pub taken_len : (old new out : List ℕ) (count : ℕ) → old ≡ take count out ++ new → count ≤ length out
    → length old ≡ count + length new
taken_len old new out count cut few =
    ap length cut ∙ length-append (take count out) new ∙ ap (λ (n : ℕ). n + length new) (length-take-le count out few)

-- bytes of the record that waits were taken, and some are left
pub part_taken : (waits : Bool) (a j k new old : ℕ) → waits ≡ true → j ≡ k → new < old → a * j + cond waits new 0
    < a * k + cond waits old 0
part_taken true a j k new old now same less = let e = ap (λ (i : ℕ). a * i) same in omega (arith, e, less)
part_taken false a j k new old now same less = absurd (true≢false (sym now))

-- the record was taken whole, and the next one that waits is begun
pub whole_taken : (now next : Bool) (a b j k new old : ℕ) → now ≡ true → j ≡ k → a < b → (next ≡ true → new ≤ k)
    → 0 < old
    → a * j + cond next new 0 < b * k + cond now old 0
whole_taken true true a b j k new old now same less few some =
    let e = ap (λ (i : ℕ). a * i) same in
    let up = made_up a b k new 0 less (few refl) in
    omega (arith, e, up, some)
whole_taken true false a b j k new old now same less few some =
    let e = ap (λ (i : ℕ). a * i) same in
    let up = made_up a b k 0 0 less (omega arith) in
    omega (arith, e, up, some)
whole_taken false next a b j k new old now same less few some = absurd (true≢false (sym now))
