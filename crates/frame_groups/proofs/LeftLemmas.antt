-- How many records a group can still bring.
use Rattle.std.proofs.Common.{◌≡◌, ◌⊎◌, ℕ, ◌+◌, ◌<◌, ◌≤◌, Bool, true, false, cond, Option, Some, None, refl}
use Rattle.std.proofs.Common.{sym, inl, inr, arith}
use Rattle.std.specs.Prelude.{is_some}
use Rattle.std.proofs.lemmas.Bool.{true≢false, ltb-true, eqb-true, and_parts}
use Rattle.frame_groups.specs.declared.cause.MuteCause.{MuteCause}
use Rattle.frame_groups.specs.Waits.{waits_by, records_by}

-- what is there under one of two tests is there by one of them
by_one : {A : Type 0} (t u : Bool) (a b : A) → is_some (cond t (Some a) (cond u (Some b) None)) ≡ true
    → (t ≡ true) ⊎ (u ≡ true)
by_one true u a b e = inl refl
by_one false true a b e = inr refl
by_one false false a b e = absurd (true≢false (sym e))

-- the record that waits is the group's own, or of a frame before it
not_behind : (n next : ℕ) (closing : Bool) (fault : Option MuteCause) → waits_by (Some n) next closing fault ≡ true
    → next ≤ n
not_behind n next closing fault w = grind (arith, ltb-true, eqb-true, and_parts, by_one)

-- once it was given, one record fewer is left
pub fewer : (number : Option ℕ) (next : ℕ) (closing : Bool) (fault : Option MuteCause)
    → waits_by number next closing fault ≡ true
    → records_by number (next + 1) closing < records_by number next closing
fewer None next closing fault w = absurd (true≢false (sym w))
fewer (Some n) next closing fault w = let l = not_behind n next closing fault w in omega (arith, l)
