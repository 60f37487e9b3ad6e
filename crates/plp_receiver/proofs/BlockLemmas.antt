-- A data field is its pieces: the bytes before the first user packet, and then user packets, the last one perhaps cut
-- off.
use Rattle.std.proofs.Common.{◌≡◌, ◌≢◌, ℕ, suc, ◌+◌, ◌-◌, ◌%◌, ◌<◌, ◌≤◌, ◌==◌, ◌||◌, Bool, true, false, List, [], ◌∷◌}
use Rattle.std.proofs.Common.{◌++◌, length, Option, Some, None, ap, ap₂, ◌∙◌, arith, cond, eq-eqb}
use Rattle.std.specs.Prelude.{nat_lt, if◌then◌else◌}
use Rattle.std.proofs.Math.Bool.{or-true}
use Rattle.std.proofs.lemmas.Bool.{ne_eqb, lt-ltb, le-ltb, false_from_ne_true, eqb-true}
use Rattle.plp_receiver.specs.declared.mark.Mark.{Mark}
use Rattle.plp_receiver.specs.declared.mark.Mark.TheVariants.{Inside, Next}
use Rattle.plp_receiver.specs.Strings.{Item, Block, is_start, first_mark, mark_from, mark_in, mark_at, item_at}
use Rattle.plp_receiver.specs.Strings.{items_from}
use Rattle.plp_receiver.specs.Pieces.{item, piece_items}

module _ (len epoch : ℕ) (b : Block) where
  pub items_append : (i : ℕ) (xs ys : List ℕ) → items_from len epoch b i (xs ++ ys) ≡ items_from len epoch b i xs
      ++ items_from len epoch b (i + length xs) ys
  items_append i [] ys = let e : i ≡ i + 0 = omega arith in ap (λ (n : ℕ). items_from len epoch b n ys) e
  items_append i (x ∷ xs) ys =
      let e : i + 1 + length xs ≡ i + suc (length xs) = omega arith in
      ap (λ (l : List Item). item_at len epoch b i x ∷ l)
      (items_append (i + 1) xs ys ∙ ap (λ (n : ℕ). items_from len epoch b (i + 1) xs ++ items_from len epoch b n ys) e)

  abbrev pub Ends : ℕ → Bool
  Ends i = (i == length b.field) || is_start (mark_at len b i)

  -- at the first byte at most a user packet begins, and one can end where the bytes end
  pub piece_is : (i v : ℕ) (vs : List ℕ) → ((j : ℕ) → i < j → j < i + length (v ∷ vs) → mark_at len b j ≡ Inside)
      → i + length (v ∷ vs) ≤ length b.field
      → Ends (i + length (v ∷ vs)) ≡ true → items_from len epoch b i (v ∷ vs) ≡ piece_items (mark_at len b i)
      epoch (v ∷ vs)
  piece_is i v [] inner l e = ap (λ (t : Bool). item (mark_at len b i) v epoch t ∷ []) e
  piece_is i v (u ∷ us) inner l e =
      let m : mark_at len b (i + 1) ≡ Inside = inner (i + 1) (omega arith) (omega arith) in
      let q : i + 1 + length (u ∷ us) ≡ i + length (v ∷ u ∷ us) = omega arith in
      let not_last : (i + 1 == length b.field) ≡ false =
      ne_eqb (i + 1) (length b.field) (λ (t : i + 1 ≡ length b.field). omega (arith, t)) in
      let none : Ends (i + 1) ≡ false = ap₂ (λ (x y : Bool). x || y) not_last (ap is_start m) in
      let rest = piece_is (i + 1) u us (λ j p r. inner j (omega arith) (omega (arith, q))) (omega (arith, q)) (ap Ends q
      ∙ e) in
      ap₂ (λ (t : Bool) (l : List Item). item (mark_at len b i) v epoch t ∷ l) none
      (rest ∙ ap (λ (k : Mark). piece_items k epoch (u ∷ us)) m)

  pub ends_field : (i : ℕ) → i ≡ length b.field → Ends i ≡ true
  ends_field i e = ap (λ (t : Bool). t || is_start (mark_at len b i)) (eq-eqb i (length b.field) e)

  pub ends_start : (i : ℕ) → is_start (mark_at len b i) ≡ true → Ends i ≡ true
  ends_start i e = ap (λ (t : Bool). (i == length b.field) || t) e ∙ or-true (i == length b.field)

  pub none_marks : (i : ℕ) → b.first ≡ None → mark_at len b i ≡ Inside
  unfolding mark_at
  none_marks i e = ap (λ (f : Option ℕ). mark_in len b.issy f i) e

  module _ (s : ℕ) (first : b.first ≡ Some s) where
    marks : (i : ℕ) → mark_at len b i ≡ mark_from len b.issy s i
    unfolding mark_at
    marks i = ap (λ (f : Option ℕ). mark_in len b.issy f i) first

    differs : (i : ℕ) → i ≢ s → mark_from len b.issy s i
        ≡ (if nat_lt i s then Inside else (if (i - s) % len == 0 then Next else Inside))
    differs i ne = grind (arith, false_from_ne_true, eqb-true)

    pub mark_before : (i : ℕ) → i < s → mark_at len b i ≡ Inside
    mark_before i l = grind (arith, marks, differs, lt-ltb)

    pub mark_first : (i : ℕ) → i ≡ s → mark_at len b i ≡ first_mark b.issy
    mark_first i e = grind (arith, marks, eq-eqb)

    behind : (i : ℕ) → s < i → mark_at len b i ≡ (if (i - s) % len == 0 then Next else Inside)
    behind i l = grind (arith, marks, differs, le-ltb)

    pub mark_next : (i : ℕ) → s < i → (i - s) % len ≡ 0 → mark_at len b i ≡ Next
    mark_next i l e = behind i l ∙ ap (λ (t : Bool). cond t Next Inside) (eq-eqb ((i - s) % len) 0 e)

    pub mark_inner : (i : ℕ) → s < i → 1 ≤ (i - s) % len → mark_at len b i ≡ Inside
    mark_inner i l e = grind (arith, behind, false_from_ne_true, eqb-true)
