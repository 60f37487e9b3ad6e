-- What the fields of a pool say, for the answers.
use Rattle.std.proofs.Common.{◌≡◌, ℕ, ◌<◌, ◌≤◌, List, [], length, get_or, set, sym, ap, ◌∙◌, arith, length-set}
use Rattle.linked_pool.specs.Pool.{State, list_at, IsWhole}
use Rattle.linked_pool.specs.Blocks.{view_of, IsPool, AreEnds}
use Rattle.linked_pool.specs.declared.pool.Pool.TheInside.{Inside}
use Rattle.linked_pool.proofs.BlockLemmas.{list_inside, count_is, whole_law}

abbrev view : Inside → State
view p = view_of p.chains p.chunks.items p.lens.items p.counts.items

abbrev Holds : Inside → Type 0
Holds p = IsPool p.chains p.chunks.items p.lens.items p.counts.items × AreEnds p.chains p.lens.items
    p.lasts.items p.counts.items

-- a list has its count
pub has_list : (p : Inside) (s : State) (list : ℕ) → view p ≡ s → Holds p → list < length s.lists
    → list < length p.counts.items
has_list p s list e h lt = list_inside s p.chains p.chunks.items p.lens.items p.counts.items list (sym e) h.0 lt

-- which is that of its blocks
pub count_in : (p : Inside) (s : State) (list : ℕ) → view p ≡ s → Holds p → list < length s.lists
    → get_or p.counts.items list 0
    ≡ length (list_at s list)
count_in p s list e h lt = count_is s p.chains p.chunks.items p.lens.items p.counts.items list (sym e) h.0 lt

-- and so are the chunks that are free
pub free_in : (p : Inside) (s : State) (n : ℕ) → view p ≡ s → n ≤ s.spare → n ≤ length (get_or p.chains 0 [])
free_in p s n e h = let spare = ap (λ (s : State). s.spare) e in omega (arith, h, spare)

-- every chunk is free or has a part of a block
pub whole_in : (p : Inside) (s : State) → view p ≡ s → Holds p → IsWhole s
whole_in p s e h = whole_law s p.chains p.chunks.items p.lens.items p.counts.items (sym e) h.0

-- with another list at one place there are as many
pub same_count : (lists new : List (List (List ℕ))) (list : ℕ) (blocks : List (List ℕ)) → new ≡ set lists list blocks
    → length new ≡ length lists
same_count lists new list blocks e = ap length e ∙ length-set lists list blocks
