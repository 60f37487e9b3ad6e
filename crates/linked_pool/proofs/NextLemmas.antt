-- The blocks of a list, one after another.
use Rattle.std.proofs.Common.{◌≡◌, ℕ, zero, suc, ◌+◌, ◌-◌, ◌<◌, ◌≤◌, ltb, List, [], ◌∷◌, length, take, drop, get_or}
use Rattle.std.proofs.Common.{Option, Some, None, true, false, refl, ap, sym, ◌∙◌, arith, length-drop}
use Rattle.std.specs.Prelude.{◌↔◌, IfNone, IfSome, IsNone}
use Rattle.std.proofs.lemmas.Bool.{ltb-true, ltb-false}
use Rattle.std.proofs.lemmas.List.{drop-drop, get_or-drop, drop_all}
use Rattle.linked_pool.specs.Chains.{occurs}
use Rattle.linked_pool.specs.Pool.{State, chunks_for, list_at}
use Rattle.linked_pool.specs.Blocks.{joined, blocks_of, uses, front_chunks, IsPool, view_of, IsRef, ref_bytes, Ends}
use Rattle.linked_pool.specs.Blocks.{AreEnds}
use Rattle.linked_pool.specs.Blocks.{walk_blocks, IsWalk}
use Rattle.terms.proofs.CaseLemmas.{bool_cases}
use Rattle.linked_pool.proofs.WalkLemmas.{occurs-at}
use Rattle.linked_pool.proofs.BlockLemmas.{list_inside, list_is, all-at}
use Rattle.linked_pool.proofs.FillLemmas.{in_chain}

-- blocks fill chunks
pub filled : (lens : List ℕ) (n : ℕ) (chain : List ℕ) → 0 < n → uses lens n chain ≡ length chain → 0 < length chain
filled lens zero chain some u = absurd (omega arith)
filled lens (suc n) chain some u = omega (arith, u)

-- the blocks from a place on
pub from_none : (xs : List (List ℕ)) (p : ℕ) → drop p xs ≡ [] → length xs ≤ p
from_none xs p e = let gone = length-drop p xs in let none = ap length e in omega (arith, gone, none)

pub from_some : (xs rest : List (List ℕ)) (x : List ℕ) (p : ℕ) → drop p xs ≡ x ∷ rest → (p < length xs)
    × (x ≡ get_or xs p [])
from_some xs rest x p e =
    let gone = length-drop p xs in
    let some = ap length e in
    let at : get_or (drop p xs) 0 [] ≡ get_or xs p [] = get_or-drop p xs 0 []
    ∙ ap (λ (v : ℕ). get_or xs v []) (omega arith) in
    (omega (arith, gone, some), ap (λ (ys : List (List ℕ)). get_or ys 0 []) (sym e) ∙ at)

-- what a call of `next` leaves
pub next_leaves : (block : Option (List ℕ)) (old new xs : List (List ℕ)) (p : ℕ)
    → IfNone block ((old ≡ []) × (new ≡ []))
    → IfSome block (λ b. old ≡ b ∷ new) → old ≡ drop p xs → new ≡ drop (p + 1) xs
next_leaves None old new xs p n s e =
    let past = from_none xs p (sym e ∙ n.0) in
    n.1 ∙ sym (drop_all (p + 1) xs (omega (arith, past)))
next_leaves (Some b) old new xs p n s e =
    ap (drop 1) (sym s) ∙ ap (drop 1) e ∙ drop-drop 1 p xs

-- and when it lends nothing
pub next_ends : (block : Option (List ℕ)) (old new xs : List (List ℕ)) (p : ℕ) → IfNone block ((old ≡ []) × (new ≡ []))
    → IfSome block (λ b. old ≡ b ∷ new) → old ≡ drop p xs → IsNone block ↔ (length xs ≤ p)
next_ends None old new xs p n s e = (λ _. from_none xs p (sym e ∙ n.0), λ _. refl)
next_ends (Some b) old new xs p n s e =
    let at = from_some xs new b p (sym e ∙ s) in
    (λ z. absurd (let never : true ≡ false = z in cc), λ z. absurd (omega (arith, z, at.0)))

-- the walk over a whole list
pub walk_begins : (view : State) (chains chunks : List (List ℕ)) (lens lasts counts : List ℕ) (i chunk left : ℕ)
    → view ≡ view_of chains chunks lens counts → IsPool chains chunks lens counts → AreEnds chains lens lasts counts
    → i < length view.lists → left ≡ get_or counts i 0
    → (0 < length (get_or chains (i + 1) []) → chunk ≡ get_or (get_or chains (i + 1) []) 0 0) →
    IsWalk chains chunks lens lasts (i + 1) 0 chunk left
    × (walk_blocks chains chunks lens (i + 1) 0 left ≡ list_at view i)
walk_begins view chains chunks lens lasts counts i chunk left e pool ends h size at =
    grind (arith, list_inside, filled, bool_cases, ltb, ltb-true, ltb-false, all-at, list_is)

-- What the walk's next block is, and the walk behind it.
pub record Steps (chains chunks : List (List ℕ)) (lens lasts : List ℕ) (i offset chunk left len : ℕ) : Type 0 where
  pub in_lens : chunk < length lens
  pub in_lasts : chunk < length lasts
  pub fits : offset + chunks_for len ≤ length (get_or chains i [])
  pub block : IsRef chains chunks i offset chunk len
  pub blocks : walk_blocks chains chunks lens i offset left ≡ ref_bytes chains chunks i offset len
      ∷ walk_blocks chains chunks lens i (offset + chunks_for len) (left - 1)
  pub used : uses lens (left - 1) (drop (offset + chunks_for len) (get_or chains i []))
      ≡ length (drop (offset + chunks_for len) (get_or chains i []))
  pub ends : Ends lens lasts (left - 1) (drop (offset + chunks_for len) (get_or chains i []))
  pub last : get_or (get_or chains i []) (offset + chunks_for len - 1) 0 ≡ get_or lasts chunk 0

pub steps : (chains chunks : List (List ℕ)) (lens lasts : List ℕ) (i offset chunk left len : ℕ)
    → IsWalk chains chunks lens lasts i offset chunk left → 0 < left → len ≡ get_or lens chunk 0
    → Steps chains chunks lens lasts i offset chunk left len
steps chains chunks lens lasts i offset chunk zero len w some size = absurd (omega arith)
steps chains chunks lens lasts i offset chunk (suc m) len w some size =
    let c : List ℕ = get_or chains i [] in
    let d : List ℕ = drop offset c in
    let n : ℕ = chunks_for len in
    let less : suc m - 1 ≡ m = omega arith in
    let gone = length-drop offset c in
    let at = w.at (omega arith) in
    let head : get_or d 0 0 ≡ chunk = get_or-drop offset c 0 0 ∙ ap (λ (v : ℕ). get_or c v 0) (omega arith) ∙ sym at in
    let len_is : get_or lens (get_or d 0 0) 0 ≡ len = ap (λ (v : ℕ). get_or lens v 0) head ∙ sym size in
    let size_is : front_chunks lens d ≡ n = ap chunks_for len_is in
    let used : n + uses lens m (drop n d) ≡ length d =
    ap (λ (v : ℕ). v + uses lens m (drop v d)) (sym size_is) ∙ w.used in
    let rest : drop n d ≡ drop (offset + n) c = drop-drop n offset c in
    let inside : offset < length c = omega (arith, used, gone) in
    let has : 0 < occurs (get_or c offset 0) chains =
    (let a = in_chain c offset inside in let m = occurs-at (get_or c offset 0) chains i w.inside in omega
    (arith, a, m)) in
    let there : chunk < length chunks = rw at (w.there (get_or c offset 0) has) in
    let in_lens : chunk < length lens = rw w.lens_too there in
    let left : uses lens m (drop n d) ≡ length (drop n d) = omega (arith, used, length-drop n d) in
    let ends : (get_or lasts (get_or d 0 0) 0 ≡ get_or d (n - 1) 0) × Ends lens lasts m (drop n d) =
    rw (← size_is) w.ends in
    record {
      in_lens = in_lens;
      in_lasts = rw w.lasts_too in_lens;
      fits = omega (arith, used, gone, inside);
      block = record {
        inside = w.inside;
        enough = omega (arith, used);
        at = at;
        there = w.there;
        whole = w.whole;
        few = w.few;
      };
      blocks = rw less
          (ap (λ (l : ℕ). take l (joined chunks (take (chunks_for l) d)) ∷ blocks_of chunks lens m
          (drop (chunks_for l) d)) len_is
          ∙ ap (λ (xs : List ℕ). ref_bytes chains chunks i offset len ∷ blocks_of chunks lens m xs) rest);
      used = rw (less, ← rest) left;
      ends = rw (less, ← rest) ends.1;
      last = sym (ap (λ (v : ℕ). get_or lasts v 0) (sym head) ∙ ends.0 ∙ get_or-drop offset c (n - 1) 0
          ∙ ap (λ (v : ℕ). get_or c v 0) (omega arith));
    }

-- the walk behind its next block
pub walks_on : (chains chunks : List (List ℕ)) (lens lasts : List ℕ) (i offset chunk left len next offset' left' : ℕ)
    → IsWalk chains chunks lens lasts i offset chunk left → 0 < left → len ≡ get_or lens chunk 0
    → offset' ≡ offset + chunks_for len → left' ≡ left - 1
    → ((k : ℕ) → k + 1 < length (get_or chains i []) → get_or (get_or chains i []) k 0 ≡ get_or lasts chunk 0
    → next ≡ get_or (get_or chains i []) (k + 1) 0)
    → IsWalk chains chunks lens lasts i offset' next left'
walks_on chains chunks lens lasts i offset chunk left len next offset' left' w some size o l after =
    let s = steps chains chunks lens lasts i offset chunk left len w some size in
    let c : List ℕ = get_or chains i [] in
    let n : ℕ = chunks_for len in
    rw (o, l) (record {
      inside = w.inside;
      lens_too = w.lens_too;
      lasts_too = w.lasts_too;
      used = s.used;
      ends = s.ends;
      at = λ more.
          let has = filled lens (left - 1) (drop (offset + n) c) more s.used in
          let gone = length-drop (offset + n) c in
          after (offset + n - 1) (omega (arith, has, gone)) s.last ∙ ap (λ (v : ℕ). get_or c v 0) (omega arith);
      there = w.there;
      whole = w.whole;
      few = w.few;
    })
