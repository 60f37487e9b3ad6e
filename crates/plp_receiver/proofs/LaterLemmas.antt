-- A complete user packet, by the blocks of a run.
use Rattle.std.proofs.Common.{◌≡◌, ℕ, zero, suc, ◌+◌, ◌-◌, ◌*◌, ◌%◌, ◌<◌, ◌≤◌, ◌==◌, ◌&&◌, ◌||◌, Bool, true, false}
use Rattle.std.proofs.Common.{List, [], ◌∷◌, length, take, drop, get_or, Option, Some, None, refl, ap, ap₂, ◌∙◌, sym}
use Rattle.std.proofs.Common.{subst, arith, inl, inr, length-append, length-take, length-drop}
use Rattle.std.proofs.lemmas.Bool.{cases_lt, cases_eq, both_ways, and_parts, false_from_ne_true, eqb-true}
use Rattle.std.proofs.lemmas.List.{get_or-take, get_or-drop, drop_more, get_or_append_left, get_or-append_right}
use Rattle.std.proofs.lemmas.Nat.{mod-mul-add}
use Rattle.plp_receiver.specs.declared.slot_rule.SlotRule.{SlotRule}
use Rattle.plp_receiver.specs.declared.mark.Mark.{Mark}
use Rattle.plp_receiver.specs.declared.mark.Mark.TheVariants.{Gap, Inside, Next, Timed}
use Rattle.plp_receiver.specs.Sound.{IsSound}
use Rattle.plp_receiver.specs.Strings.{Item, Block, is_start, is_inside, mark_at, item_at, items_from, block_items}
use Rattle.plp_receiver.specs.Packets.{all_inside, is_one, is_complete, last_item, no_item, window}
use Rattle.plp_receiver.proofs.OneLemmas.{one_parts, one_from}
use Rattle.plp_receiver.proofs.BlockLemmas.{Ends, ends_field, ends_start, none_marks, mark_before, mark_first}
use Rattle.plp_receiver.proofs.BlockLemmas.{mark_next, mark_inner}
use Rattle.plp_receiver.proofs.FieldLemmas.{is_first, mod_step, mod_whole}
use Rattle.plp_receiver.proofs.PlaceLemmas.{last_is}
use Rattle.plp_receiver.specs.TakenBlocks.{IsPlace}
use Rattle.plp_receiver.specs.LaterBlocks.{at, Placed, run_items, AreInField, Continues, EachLater, CompleteByBlocks}

items_at : (len epoch : ℕ) (b : Block) (vs : List ℕ) (i k : ℕ) → k < length vs → at (items_from len epoch b i vs) k
    ≡ item_at len epoch b (i + k) (get_or vs k 0)
items_at len epoch b [] i k l = absurd (omega arith)
items_at len epoch b (v ∷ vs) i zero l = let e : i ≡ i + 0 = omega arith in ap (λ (j : ℕ). item_at len epoch b j v) e
items_at len epoch b (v ∷ vs) i (suc k) l = let e : i + 1 + k ≡ i + suc k = omega arith in
    items_at len epoch b vs (i + 1) k (omega arith) ∙ ap (λ (j : ℕ). item_at len epoch b j (get_or vs k 0)) e

items_len : (len epoch : ℕ) (b : Block) (vs : List ℕ) (i : ℕ) → length (items_from len epoch b i vs) ≡ length vs
items_len len epoch b [] i = refl
items_len len epoch b (v ∷ vs) i = ap suc (items_len len epoch b vs (i + 1))

not_both : (m : Mark) → is_start m ≡ true → is_inside m ≡ true → ⊥
not_both Gap a b = both_ways _ refl a
not_both Inside a b = both_ways _ refl a
not_both Next a b = both_ways _ refl b
not_both (Timed iscr) a b = both_ways _ refl b

all_at : (xs : List Item) (k : ℕ) → all_inside xs ≡ true → k < length xs → is_inside (get_or xs k no_item).mark ≡ true
all_at [] k h l = absurd (omega arith)
all_at (x ∷ xs) zero h l = (and_parts (is_inside x.mark) (all_inside xs) h).0
all_at (x ∷ xs) (suc k) h l = all_at xs k (and_parts (is_inside x.mark) (all_inside xs) h).1 (omega arith)

all_of : (xs : List Item) → ((k : ℕ) → k < length xs → is_inside (get_or xs k no_item).mark ≡ true)
    → all_inside xs ≡ true
all_of [] h = refl
all_of (x ∷ xs) h = ap₂ (λ (a b : Bool). a && b) (h 0 (omega arith)) (all_of xs (λ k l. h (suc k) (omega arith)))

-- what the bytes of a complete user packet are
pub record AreBytes (len : ℕ) (z : List Item) (x : ℕ) : Type 0 where
  pub inner : (q : ℕ) → x < q → q < x + len → is_inside (at z q).mark ≡ true
  pub ends : (at z (x + (len - 1))).can_end ≡ true

module _ (r : SlotRule) (sound : IsSound r) where
  module _ (z : List Item) (x : ℕ) (start : is_start (at z x).mark ≡ true) (l : x + r.up_len ≤ length z) where
    size : r.up_len ≡ suc (r.up_len - 1)
    size = let u = sound.up in omega (arith, u)

    abbrev rest : List Item
    rest = take (r.up_len - 1) (drop (x + 1) z)

    split : window r z x ≡ at z x ∷ rest
    split = let u = sound.up in ap (λ (k : ℕ). take k (drop x z)) size
        ∙ ap (take (suc (r.up_len - 1))) (drop_more z x no_item (omega (arith, u)))

    last : last_item (window r z x) ≡ at z (x + (r.up_len - 1))
    last = ap (λ (k : ℕ). last_item (take k (drop x z))) size ∙ last_is no_item z x (r.up_len - 1) (omega (arith, size))

    long : length rest ≡ r.up_len - 1
    long = omega (arith, length-take (r.up_len - 1) (drop (x + 1) z), length-drop (x + 1) z)

    rest_at : (k : ℕ) → k < r.up_len - 1 → get_or rest k no_item ≡ at z (x + 1 + k)
    rest_at k m = get_or-take (r.up_len - 1) (drop (x + 1) z) k no_item m ∙ get_or-drop (x + 1) z k no_item

    pub bytes_of : is_complete (window r z x) ≡ true → AreBytes r.up_len z x
    bytes_of h =
        let p = and_parts (is_one (window r z x)) (last_item (window r z x)).can_end h in
        let all = (one_parts (at z x) rest (sym (ap is_one split) ∙ p.0)).1 in
        record {
          inner = λ q a b.
              let k : ℕ = q - (x + 1) in
              let e : x + 1 + k ≡ q = omega arith in
              sym (ap (λ (i : Item). is_inside i.mark) (rest_at k (omega arith) ∙ ap (at z) e))
              ∙ all_at rest k all (omega (arith, long));
          ends = sym (ap (λ (i : Item). i.can_end) last) ∙ p.1;
        }

    pub complete_of : AreBytes r.up_len z x → is_complete (window r z x) ≡ true
    complete_of h = grind (arith, all_of, rest_at, long, ap₂, split, one_from, last)

  -- the blocks of a run from a place on are the items of the string from there on
  abbrev Agrees : List Item → ℕ → List Placed → Type 0
  Agrees z place run = (i : ℕ) → i < length (run_items r.up_len run) → at z (place + i) ≡ at (run_items r.up_len run) i

  field_len : (p : Placed) → length (block_items r.up_len p.epoch p.block) ≡ length p.block.field
  field_len p = items_len r.up_len p.epoch p.block p.block.field 0

  run_len : (p : Placed) (run : List Placed) → length (run_items r.up_len (p ∷ run)) ≡ length p.block.field
      + length (run_items r.up_len run)
  run_len p run = length-append (block_items r.up_len p.epoch p.block) (run_items r.up_len run)
      ∙ ap (λ (n : ℕ). n + length (run_items r.up_len run)) (field_len p)

  in_block : (z : List Item) (place : ℕ) (p : Placed) (run : List Placed) → Agrees z place (p ∷ run) → (i : ℕ)
      → i < length p.block.field
      → at z (place + i) ≡ item_at r.up_len p.epoch p.block i (get_or p.block.field i 0)
  in_block z place p run a i l = grind (arith, run_len, get_or_append_left, field_len, items_at)

  behind : (z : List Item) (place : ℕ) (p : Placed) (run : List Placed) → Agrees z place (p ∷ run)
      → Agrees z (place + length p.block.field) run
  behind z place p run a i l =
      let e : place + length p.block.field + i ≡ place + (length p.block.field + i) = omega arith in
      let d : length p.block.field + i - length p.block.field ≡ i = omega arith in
      ap (at z) e
      ∙ a (length p.block.field + i) (omega (arith, run_len p run))
      ∙ get_or-append_right (block_items r.up_len p.epoch p.block) (run_items r.up_len run) (length p.block.field)
      (length p.block.field + i) no_item (field_len p) (omega arith)
      ∙ ap (at (run_items r.up_len run)) d

  module _ (z : List Item) (x : ℕ) where
    -- from the bytes to the blocks
    one_continues : AreBytes r.up_len z x → (place : ℕ) (p : Placed) (run : List Placed) → Agrees z place (p ∷ run)
        → x < place
        → place < x + r.up_len
        → (first : Option ℕ) → p.block.first ≡ first → IsPlace first (length p.block.field)
        → Continues r.up_len x place first (length p.block.field)
    one_continues h place p run a before close None e f =
        elim (cases_lt (x + r.up_len) (place + length p.block.field)) [
          | inl lt ↦ absurd (both_ways _ (no_end (λ j. none_marks r.up_len p.epoch p.block j e) lt) (end_at lt))
          | inr ge ↦ ge
        ]
      where
        i : ℕ
        i = x + (r.up_len - 1) - place

        end_at : x + r.up_len < place + length p.block.field → Ends r.up_len p.epoch p.block (i + 1) ≡ true
        end_at lt =
            let u = sound.up in
            let q : place + i ≡ x + (r.up_len - 1) = omega (arith, u) in
            sym (ap (λ (t : Item). t.can_end) (in_block z place p run a i (omega (arith, u))))
            ∙ ap (λ (n : ℕ). (at z n).can_end) q ∙ h.ends

        no_end : ((j : ℕ) → mark_at r.up_len p.block j ≡ Inside) → x + r.up_len < place + length p.block.field
            → Ends r.up_len p.epoch p.block (i + 1) ≡ false
        no_end m lt =
            let u = sound.up in
            ap₂ (λ (s t : Bool). s || t)
            (false_from_ne_true _ (λ (t : (i + 1 == length p.block.field) ≡ true).
            omega (arith, eqb-true (i + 1) (length p.block.field) t, u))) (ap is_start (m (i + 1)))
    one_continues h place p run a before close (Some s) e f =
        elim (cases_lt (place + s) (x + r.up_len)) [
          | inl lt ↦
              elim (not_both (mark_at r.up_len p.block s) (ap is_start (mark_first r.up_len p.epoch p.block s e s refl)
              ∙ is_first p.block.issy)
              (sym (ap (λ (t : Item). is_inside t.mark) (in_block z place p run a s f))
              ∙ h.inner (place + s) (omega arith) lt))
              [ ]
          | inr ge ↦ elim (cases_eq (place + s) (x + r.up_len)) [
            | inl same ↦ same
            | inr ne ↦
                let u = sound.up in
                let i : ℕ = x + (r.up_len - 1) - place in
                let q : place + i ≡ x + (r.up_len - 1) = omega (arith, u) in
                let yes_end : Ends r.up_len p.epoch p.block (i + 1) ≡ true =
                sym (ap (λ (t : Item). t.can_end) (in_block z place p run a i (omega (arith, u, f, ge))))
                ∙ ap (λ (n : ℕ). (at z n).can_end) q ∙ h.ends in
                let no_end : Ends r.up_len p.epoch p.block (i + 1) ≡ false =
                ap₂ (λ (s t : Bool). s || t)
                (false_from_ne_true _ (λ (t : (i + 1 == length p.block.field) ≡ true).
                omega (arith, eqb-true (i + 1) (length p.block.field) t, u, f, ge, ne)))
                (ap is_start (mark_before r.up_len p.epoch p.block s e (i + 1) (omega (arith, u, ge, ne)))) in
                absurd (both_ways _ no_end yes_end)
          ]
        ]

    each_later : AreBytes r.up_len z x → (place : ℕ) (run : List Placed) → Agrees z place run → AreInField run
        → EachLater r.up_len x place run
    each_later h place [] a f = tt
    each_later h place (p ∷ run) a f = (
      λ b c. one_continues h place p run a b c p.block.first refl f.0,
      each_later h (place + length p.block.field) run
          (behind z place p run a) f.1,
    )

    -- from the blocks to the bytes
    pub record Covers (from to : ℕ) : Type 0 where
      pub inner : (q : ℕ) → x < q → from ≤ q → q < to → q < x + r.up_len → is_inside (at z q).mark ≡ true
      pub ends : from ≤ x + (r.up_len - 1) → x + (r.up_len - 1) < to → (at z (x + (r.up_len - 1))).can_end ≡ true

    both_cover : (a b c : ℕ) → Covers a b → Covers b c → Covers a c
    both_cover a b c f g = record {
      inner = λ q l m n o. elim (cases_lt q b) [ inl lt ↦ f.inner q l m lt o | inr ge ↦ g.inner q l ge n o ];
      ends = λ m n. elim (cases_lt (x + (r.up_len - 1)) b) [ inl lt ↦ f.ends m lt | inr ge ↦ g.ends ge n ];
    }

    -- a block whose marks are known
    block_covers : (place : ℕ) (p : Placed) (run : List Placed) → Agrees z place (p ∷ run)
        → ((i : ℕ) → x < place + i → i < length p.block.field → place + i < x + r.up_len
        → mark_at r.up_len p.block i ≡ Inside)
        → ((i : ℕ) → place + i ≡ x + (r.up_len - 1) → i < length p.block.field
        → Ends r.up_len p.epoch p.block (i + 1) ≡ true)
        → Covers place (place + length p.block.field)
    block_covers place p run a marks ends = record {
      inner = λ q l m n o.
          let e : place + (q - place) ≡ q = omega arith in
          sym (ap (λ (k : ℕ). is_inside (at z k).mark) e)
          ∙ ap (λ (t : Item). is_inside t.mark) (in_block z place p run a (q - place) (omega arith))
          ∙ ap is_inside (marks (q - place) (omega arith) (omega arith) (omega arith));
      ends = λ m n.
          let e : place + (x + (r.up_len - 1) - place) ≡ x + (r.up_len - 1) = omega arith in
          sym (ap (λ (k : ℕ). (at z k).can_end) e)
          ∙ ap (λ (t : Item). t.can_end) (in_block z place p run a (x + (r.up_len - 1) - place) (omega arith))
          ∙ ends (x + (r.up_len - 1) - place) e (omega arith);
    }

    one_later : (place : ℕ) (p : Placed) (run : List Placed) → Agrees z place (p ∷ run) → x < place
        → (first : Option ℕ) → p.block.first ≡ first
        → (place < x + r.up_len → Continues r.up_len x place first (length p.block.field))
        → Covers place (place + length p.block.field)
    one_later place p run a before None e h =
        block_covers place p run a (λ i l m o. none_marks r.up_len p.epoch p.block i e)
        (λ i q m. let u = sound.up in let c = h (omega (arith, q, u)) in
        ends_field r.up_len p.epoch p.block (i + 1) (omega (arith, q, c, u, m)))
    one_later place p run a before (Some s) e h =
        block_covers place p run a (λ i l m o. let c = h (omega arith) in
        mark_before r.up_len p.epoch p.block s e i (omega (arith, c)))
        (λ i q m. let u = sound.up in let c = h (omega (arith, q, u)) in
        ends_start r.up_len p.epoch p.block (i + 1)
        (ap is_start (mark_first r.up_len p.epoch p.block s e (i + 1) (omega (arith, q, c, u)))
        ∙ is_first p.block.issy))

    later : (place : ℕ) (run : List Placed) → Agrees z place run → x < place → EachLater r.up_len x place run
        → Covers place (place + length (run_items r.up_len run))
    later place [] a before h = record { inner = λ q l m n o. absurd (omega arith); ends = λ m n. absurd (omega arith) }
    later place (p ∷ run) a before h =
        let e : place + length p.block.field + length (run_items r.up_len run) ≡ place + length
        (run_items r.up_len (p ∷ run)) =
        omega (arith, run_len p run) in
        subst (Covers place) e
        (both_cover place (place + length p.block.field) (place + length p.block.field + length
        (run_items r.up_len run))
        (one_later place p run a before p.block.first refl (h.0 before))
        (later (place + length p.block.field) run (behind z place p run a) (omega arith) h.1))

    inside_no_start : (m : Mark) → m ≡ Inside → is_start m ≡ true → ⊥
    inside_no_start m e s = both_ways _ (ap is_start e) s

    -- the block in which the user packet begins
    own_block : (place : ℕ) (p : Placed) (run : List Placed) → Agrees z place (p ∷ run) → place ≤ x
        → x < place + length p.block.field
        → (first : Option ℕ) → p.block.first ≡ first → is_start (mark_at r.up_len p.block (x - place)) ≡ true
        → Covers place (place + length p.block.field)
    own_block place p run a l m None e st = elim (inside_no_start _ (none_marks r.up_len p.epoch p.block (x - place) e)
        st) [ ]
    own_block place p run a l m (Some s) e st =
        let u = sound.up in
        let w : ℕ = x - place in
        let order : s ≤ w =
        elim (cases_lt w s) [
          | inl lt ↦ elim (inside_no_start _ (mark_before r.up_len p.epoch p.block s e w lt) st)
              [ ]
          | inr ge ↦ ge
        ] in
        let whole : (w - s) % r.up_len ≡ 0 = elim (cases_eq ((w - s) % r.up_len) 0) [
          | inl zero_is ↦ zero_is
          | inr ne ↦ elim (cases_eq w s) [
            | inl same ↦ let d : w - s ≡ 0 * r.up_len + 0 = omega (arith, same) in ap (λ (n : ℕ). n % r.up_len) d
                ∙ mod-mul-add 0 r.up_len 0 (omega (arith, u))
            | inr other ↦
                elim (inside_no_start _ (mark_inner r.up_len p.epoch p.block s e w (omega (arith, order, other))
                (omega (arith, ne))) st) [ ]
          ]
        ] in
        block_covers place p run a
        (λ i b c o.
        let t : i - s ≡ (w - s) + (i - w) = omega (arith, order, b) in
        let q : (i - s) % r.up_len ≡ i - w = ap (λ (n : ℕ). n % r.up_len) t ∙ mod_step (w - s) (i - w) r.up_len whole
        (omega (arith, o)) in
        mark_inner r.up_len p.epoch p.block s e i (omega (arith, order, b)) (omega (arith, q, b)))
        (λ i b c. elim (cases_lt (i + 1) (length p.block.field)) [
          | inl lt ↦
              let t : (i + 1) - s ≡ (w - s) + r.up_len = omega (arith, order, b, u) in
              ends_start r.up_len p.epoch p.block (i + 1)
              (ap is_start (mark_next r.up_len p.epoch p.block s e (i + 1) (omega (arith, order, b, u))
              (ap (λ (n : ℕ). n % r.up_len) t ∙ mod_whole (w - s) r.up_len (omega (arith, u)) whole)))
          | inr ge ↦ ends_field r.up_len p.epoch p.block (i + 1) (omega (arith, c, ge))
        ])

    from_own : (place : ℕ) (run : List Placed) → Agrees z place run → place ≤ x
        → x < place + length (run_items r.up_len run)
        → is_start (at z x).mark ≡ true → EachLater r.up_len x place run
        → Covers x (place + length (run_items r.up_len run))
    from_own place [] a l m st h = absurd (omega arith)
    from_own place (p ∷ run) a l m st h =
        let e : place + length p.block.field + length (run_items r.up_len run) ≡ place + length
        (run_items r.up_len (p ∷ run)) =
        omega (arith, run_len p run) in
        elim (cases_lt x (place + length p.block.field)) [
          | inl lt ↦
              let q : place + (x - place) ≡ x = omega arith in
              let start : is_start (mark_at r.up_len p.block (x - place)) ≡ true =
              sym (ap (λ (t : Item). is_start t.mark) (in_block z place p run a (x - place) (omega arith)))
              ∙ ap (λ (k : ℕ). is_start (at z k).mark) q ∙ st in
              let own = own_block place p run a l lt p.block.first refl start in
              subst (Covers x) e
              (both_cover x (place + length p.block.field) (place + length p.block.field + length
              (run_items r.up_len run))
              (record {
                inner = λ k b c d o. own.inner k b (omega arith) d o;
                ends = λ c d. let u = sound.up in
                    own.ends (omega (arith, u)) d;
              })
              (later (place + length p.block.field) run (behind z place p run a) lt h.1))
          | inr ge ↦
              subst (Covers x) e (from_own (place + length p.block.field) run (behind z place p run a) ge
              (omega (arith, e)) st h.1)
        ]

pub complete_by_blocks : CompleteByBlocks
complete_by_blocks r run x sound field start l =
    let z : List Item = run_items r.up_len run in
    let agrees : (i : ℕ) → i < length z → at z (0 + i) ≡ at z i = λ i m. let e : 0 + i ≡ i = omega arith in
    ap (at z) e in
    let u = sound.up in (
      λ h. each_later r sound z x (bytes_of r sound z x start l h) 0 run agrees field,
      λ h.
          let c = from_own r sound z x 0 run agrees (omega arith) (omega (arith, u)) start h in
          complete_of r sound z x start l (record {
            inner = λ q a b. c.inner q a (omega arith) (omega arith) b;
            ends = c.ends (omega arith) (omega (arith, u));
          }),
    )
