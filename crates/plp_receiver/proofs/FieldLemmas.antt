-- The pieces that are taken of a data field are its items, one piece behind another.
use Rattle.std.proofs.Common.{◌≡◌, ℕ, ◌+◌, ◌-◌, ◌%◌, ◌<◌, ◌≤◌, ◌==◌, true, List, [], ◌∷◌}
use Rattle.std.proofs.Common.{◌++◌, length, take, drop, Option, Some, None, refl, ap, ◌∙◌, sym, arith, inl, inr}
use Rattle.std.proofs.Common.{append_assoc, length-drop, length-take, eq-eqb}
use Rattle.std.specs.Prelude.{min, if◌then◌else◌}
use Rattle.std.proofs.lemmas.Bool.{cases_lt, cases_eq, false_from_ne_true, eqb-true}
use Rattle.std.proofs.lemmas.Nat.{mod-mul-add, div-add-mod'}
use Rattle.std.proofs.Math.Nat.{add-mod_right}
use Rattle.std.proofs.Math.Seq.{take-add}
use Rattle.plp_receiver.specs.declared.mark.Mark.{Mark}
use Rattle.plp_receiver.specs.declared.mark.Mark.TheVariants.{Inside, Next}
use Rattle.plp_receiver.specs.declared.slot_rule.SlotRule.{SlotRule}
use Rattle.plp_receiver.specs.Sound.{IsSound}
use Rattle.plp_receiver.specs.Strings.{Item, Block, is_start, first_mark, mark_at, items_from}
use Rattle.plp_receiver.specs.Pieces.{piece_items}
use Rattle.plp_receiver.proofs.BlockLemmas.{Ends, items_append, piece_is, ends_field, ends_start, none_marks}
use Rattle.plp_receiver.proofs.BlockLemmas.{mark_before, mark_first, mark_next, mark_inner}
use Rattle.plp_receiver.specs.TakenBlocks.{front_of, IsBegun, IsStart}

pub mod_step : (n t len : ℕ) → n % len ≡ 0 → t < len → (n + t) % len ≡ t
mod_step n t len e l = grind (arith, div-add-mod', mod-mul-add)

pub mod_whole : (n len : ℕ) → 1 ≤ len → n % len ≡ 0 → (n + len) % len ≡ 0
mod_whole n len l e = add-mod_right n len ∙ e

pub is_first : (issy : ℕ) → is_start (first_mark issy) ≡ true
is_first issy = grind arith

module _ (len epoch : ℕ) (b : Block) where
  -- a piece behind the first bytes
  piece_behind : (at n : ℕ) (bytes : List ℕ) → at + n ≤ length b.field → bytes ≡ take n (drop at b.field) → 1 ≤ n
      → ((j : ℕ) → at < j → j < at + n → mark_at len b j ≡ Inside) → Ends len epoch b (at + n) ≡ true
      → front_of len epoch b at ++ piece_items (mark_at len b at) epoch bytes ≡ front_of len epoch b (at + n)
  piece_behind at n bytes l e s inner ends =
      let size : length bytes ≡ n = ap length e
      ∙ omega (arith, length-take n (drop at b.field), length-drop at b.field) in
      let front : length (take at b.field) ≡ at = omega (arith, length-take at b.field) in
      sym (ap (items_from len epoch b 0) (take-add at n b.field ∙ ap (λ (p : List ℕ). take at b.field ++ p) (sym e))
      ∙ items_append len epoch b 0 (take at b.field) bytes
      ∙ ap (λ (k : ℕ). front_of len epoch b at ++ items_from len epoch b k bytes)
      (let z : 0 + length (take at b.field) ≡ at =
      omega (arith, front) in z)
      ∙ ap (λ (p : List Item). front_of len epoch b at ++ p) (go bytes size))
    where
      go : (vs : List ℕ) → length vs ≡ n → items_from len epoch b at vs ≡ piece_items (mark_at len b at) epoch vs
      go [] z = absurd (omega arith)
      go (v ∷ vs) z = piece_is len epoch b at v vs (λ j p q. inner j p (omega (arith, z))) (omega (arith, z))
          (ap (λ (k : ℕ). Ends len epoch b (at + k)) z ∙ ends)

  module _ (start : ℕ) (first : b.first ≡ Some start) (two : 2 ≤ len) where
    mark_is : (at : ℕ) → IsBegun start at len → (if at == start then first_mark b.issy else Next) ≡ mark_at len b at
    mark_is at h = grind (arith, cases_eq, eq-eqb, mark_first, false_from_ne_true, eqb-true, mark_next)

    -- the next user packet, or what stands there of it
    pub up_taken : (at end : ℕ) (bytes : List ℕ) → at < length b.field → IsBegun start at len
        → end ≡ min (at + len) (length b.field) → bytes ≡ take (end - at) (drop at b.field)
        → front_of len epoch b at ++ piece_items (if at == start then first_mark b.issy else Next) epoch bytes
        ≡ front_of len epoch b end
    up_taken at end bytes l h e f =
        let o = h.order in
        let n : at + (end - at) ≡ end = omega (arith, e) in
        let inner : (j : ℕ) → at < j → j < at + (end - at) → mark_at len b j ≡ Inside = λ j p q.
        let t : j - start ≡ (at - start) + (j - at) = omega (arith, o) in
        let m : (j - start) % len ≡ j - at = ap (λ (k : ℕ). k % len) t ∙ mod_step (at - start) (j - at) len h.whole
        (omega (arith, e)) in
        mark_inner len epoch b start first j (omega (arith, o)) (omega (arith, m)) in
        let ends : Ends len epoch b (at + (end - at)) ≡ true =
        elim (cases_lt (at + len) (length b.field)) [
          | inl lt ↦
              let s : (at + (end - at)) - start ≡ (at - start) + len = omega (arith, o, e) in
              ends_start len epoch b (at + (end - at))
              (ap is_start (mark_next len epoch b start first (at + (end - at)) (omega (arith, o, e))
              (ap (λ (k : ℕ). k % len) s ∙ mod_whole (at - start) len (omega arith) h.whole)))
          | inr ge ↦ ends_field len epoch b (at + (end - at)) (omega (arith, e))
        ] in
        ap (λ (m : Mark). front_of len epoch b at ++ piece_items m epoch bytes) (mark_is at h)
        ∙ piece_behind at (end - at) bytes (omega (arith, e)) f (omega (arith, e)) inner ends
        ∙ ap (front_of len epoch b) n

    pub begun_next : (at end : ℕ) → IsBegun start at len → end ≡ min (at + len) (length b.field) → end < length b.field
        → IsBegun start end len
    begun_next at end h e l = grind (arith, mod_whole)

  -- the bytes before the first user packet
  pub front_taken : (first : Option ℕ) (start : ℕ) → b.first ≡ first → IsStart first (length b.field) start → 1 ≤ start
      → piece_items Inside epoch (take start b.field) ≡ front_of len epoch b start
  front_taken None start e h l =
      ap (λ (m : Mark). piece_items m epoch (take start b.field)) (sym (none_marks len epoch b 0 e))
      ∙ piece_behind 0 start (take start b.field) (omega (arith, h)) refl l (λ j p q. none_marks len epoch b j e)
      (ends_field len epoch b (0 + start) (omega (arith, h)))
      ∙ ap (front_of len epoch b) (let z : 0 + start ≡ start = omega arith in z)
  front_taken (Some s) start e h l =
      let f : b.first ≡ Some start = e ∙ ap (λ (k : ℕ). Some k) (sym h.0) in
      let z : 0 + start ≡ start = omega arith in
      ap (λ (m : Mark). piece_items m epoch (take start b.field))
      (sym (mark_before len epoch b start f 0 (omega arith)))
      ∙ piece_behind 0 start (take start b.field) (omega (arith, h)) refl l
      (λ j p q. mark_before len epoch b start f j (omega arith))
      (ends_start len epoch b (0 + start) (ap is_start (mark_first len epoch b start f (0 + start) z)
      ∙ is_first b.issy))
      ∙ ap (front_of len epoch b) z

pub up_joined : (epoch : ℕ) (b : Block) (r a : SlotRule) → IsSound r → a ≡ r
    → (z : List Item) (start at end : ℕ) (bytes : List ℕ)
    (mark : Mark) → b.first ≡ Some start
    → at < length b.field → IsBegun start at a.up_len → end ≡ min (at + a.up_len) (length b.field)
    → bytes ≡ take (end - at) (drop at b.field)
    → mark ≡ (if at == start then first_mark b.issy else Next)
    → (z ++ front_of r.up_len epoch b at) ++ piece_items mark epoch bytes ≡ z ++ front_of r.up_len epoch b end
up_joined epoch b r a sound q z start at end bytes mark first l h e f m = grind (arith, append_assoc, up_taken)
