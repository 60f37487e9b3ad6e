-- Blocks that stand one behind another.
use Rattle.std.proofs.Common.{◌≡◌, ℕ, zero, suc, ◌*◌, ◌-◌, ◌<◌, ◌≤◌, Bool, true, false, cond, ltb, List, length, drop}
use Rattle.std.proofs.Common.{take}
use Rattle.std.proofs.Common.{Option, Some, None, refl, sym, ap, ◌∙◌, arith}
use Rattle.std.specs.Prelude.{slice_get, IsSome}
use Rattle.std.proofs.lemmas.Bool.{ltb-false}
use Rattle.std.proofs.lemmas.List.{drop-drop, take_all, length-drop}
use Rattle.byteorder.specs.Endian.{big_number}
use Rattle.site_frame.specs.Reading.{◌>>=◌, block_len, skip_block, skip_blocks, block_at, blocks_in, cells_in}
use Rattle.site_frame.specs.Record.{cell_of}

-- the value of a step that did not fail
pub bind_some : {A B : Type 0} (r : Option A) (f : A → Option B) (y : B) → (r >>= f) ≡ Some y → (x : A) × (r ≡ Some x)
    × (f x ≡ Some y)
bind_some (Some x) f y e = (x, refl, e)
bind_some None f y e = absurd cc

-- a test that did not fail
pub guard_some : {A : Type 0} (b : Bool) (x y : A) → cond b None (Some x) ≡ Some y → (b ≡ false) × (x ≡ y)
guard_some true x y e = absurd cc
guard_some false x y e = (refl, cc)

pub is_some_from : {A : Type 0} (r : Option A) → IsSome r → (x : A) × (r ≡ Some x)
is_some_from (Some x) h = (x, refl)
is_some_from None h = absurd cc

pub some_is : {A : Type 0} (r : Option A) (x : A) → r ≡ Some x → IsSome r
some_is (Some y) x e = refl
some_is None x e = absurd cc

-- the first block is whole
pub one_whole : (bytes rest : List ℕ) → skip_block bytes ≡ Some rest → (block_len bytes ≤ length bytes)
    × (drop (block_len bytes) bytes ≡ rest)
one_whole bytes rest e = let g = guard_some (ltb (length bytes) (block_len bytes)) _ _ e in (ltb-false _ _ g.0, g.1)

pub first_whole : (n : ℕ) (bytes rest : List ℕ) → skip_blocks (suc n) bytes ≡ Some rest
    → (block_len bytes ≤ length bytes)
    × (skip_blocks n (drop (block_len bytes) bytes) ≡ Some rest)
first_whole n bytes rest e = grind (arith, bind_some, one_whole)

pub length-blocks_in : (n : ℕ) (bytes : List ℕ) → length (blocks_in n bytes) ≡ n
length-blocks_in zero bytes = refl
length-blocks_in (suc n) bytes = ap suc (length-blocks_in n (drop (block_len bytes) bytes))

-- What stands at a place that is there.
pub record At (n k : ℕ) (bytes : List ℕ) : Type 0 where
  pub rest : List ℕ
  pub there : skip_blocks k bytes ≡ Some rest
  pub whole : block_len rest ≤ length rest
  pub item : slice_get (blocks_in n bytes) k ≡ Some (block_at rest)

pub at : (n k : ℕ) (bytes : List ℕ) → k < n → IsSome (skip_blocks n bytes) → At n k bytes
at zero k bytes lt s = absurd (omega arith)
at (suc n) zero bytes lt s =
    let x = is_some_from (skip_blocks (suc n) bytes) s in
    record { rest = bytes; there = refl; whole = (first_whole n bytes x.0 x.1).0; item = refl }
at (suc n) (suc k) bytes lt s =
    let x = is_some_from (skip_blocks (suc n) bytes) s in
    let b = bind_some (skip_block bytes) (skip_blocks n) x.0 x.1 in
    let w = one_whole bytes b.0 b.1 in
    let more : skip_blocks n (drop (block_len bytes) bytes) ≡ Some x.0 = ap (skip_blocks n) w.1 ∙ b.2 in
    let a = at n k (drop (block_len bytes) bytes) (omega arith) (some_is _ x.0 more) in
    record {
      rest = a.rest;
      there = ap (λ (r : Option (List ℕ)). r >>= skip_blocks k) (b.1 ∙ ap Some (sym w.1)) ∙ a.there;
      whole = a.whole;
      item = a.item;
    }

pub length-cells_in : (n : ℕ) (bytes : List ℕ) → length (cells_in n bytes) ≡ n
length-cells_in zero bytes = refl
length-cells_in (suc n) bytes = ap suc (length-cells_in n (drop 4 bytes))

-- the cell at a place
pub cell_at : (n k : ℕ) (bytes : List ℕ) → k < n → slice_get (cells_in n bytes) k
    ≡ Some (cell_of (big_number 4 (drop (4 * k) bytes)))
cell_at zero k bytes lt = absurd (omega arith)
cell_at (suc n) zero bytes lt = refl
cell_at (suc n) (suc k) bytes lt =
    cell_at n k (drop 4 bytes) (omega arith)
    ∙ ap (λ (xs : List ℕ). Some (cell_of (big_number 4 xs)))
    (drop-drop (4 * k) 4 bytes ∙ ap (λ (m : ℕ). drop m bytes) (omega arith))

pub same_some : {A : Type 0} (r : Option A) (x y : A) → r ≡ Some x → r ≡ Some y → x ≡ y
same_some (Some z) x y p q = cc
same_some None x y p q = absurd cc

pub skip_step : (n : ℕ) (bytes rest : List ℕ) → 0 < n → skip_block bytes ≡ Some rest → skip_blocks n bytes
    ≡ skip_blocks (n - 1) rest
skip_step zero bytes rest h e = absurd (omega arith)
skip_step (suc n) bytes rest h e = ap (λ (r : Option (List ℕ)). r >>= skip_blocks n) e
    ∙ ap (λ (k : ℕ). skip_blocks k rest) (omega arith)

pub rest_all : (n : ℕ) (bytes : List ℕ) → take (length bytes - n) (drop n bytes) ≡ drop n bytes
rest_all n bytes = take_all (length bytes - n) (drop n bytes) (simp length-drop (omega arith))
