-- What a piece does to the machine, all its bytes at once.
use Rattle.std.proofs.Common.{◌≡◌, ℕ, ◌+◌, ◌<◌, ◌≤◌, ◌&&◌, Bool, true, false, List, [], ◌∷◌, ◌++◌, length, Option, None}
use Rattle.std.proofs.Common.{refl, ap, ◌∙◌, sym, arith, inl, inr, append-nil, append_assoc, length-append, cond}
use Rattle.std.specs.Prelude.{nat_lt, if◌then◌else◌}
use Rattle.std.proofs.Math.Bool.{and-false}
use Rattle.std.proofs.lemmas.Bool.{cases_lt, lt-ltb, le-ltb}
use Rattle.plp_receiver.specs.declared.mark.Mark.{Mark}
use Rattle.plp_receiver.specs.declared.slot_rule.SlotRule.{SlotRule}
use Rattle.plp_receiver.specs.Strings.{Item}
use Rattle.plp_receiver.specs.declared.mark.Mark.TheVariants.{Gap, Inside, Next, Timed}
use Rattle.plp_receiver.specs.Packets.{is_one, last_of, no_item, first_item, dnp_of, slot_by, slot_of, with_slot}
use Rattle.plp_receiver.specs.Machine.{State, Turn, state_of, turn_of, before_next, grown, turn_by, turn, after, given}
use Rattle.plp_receiver.specs.Pieces.{item, piece_items, piece_grown, piece_inside, piece_turn}

-- where the last byte of a piece stands is no place where a user packet can end
cannot_end : (r : SlotRule) (w : List Item) (x : Item) (before : Option ℕ) → x.can_end ≡ false
    → slot_of r (w ++ x ∷ []) before
    ≡ None
unfolding slot_of
cannot_end r w x before e =
    ap (λ (b : Bool).
    cond {A = Option ℕ} b (slot_by r (first_item (w ++ x ∷ [])).mark (first_item (w ++ x ∷ [])).epoch
    (dnp_of r (w ++ x ∷ [])) before) None)
    (ap (λ (l : Item). is_one (w ++ x ∷ []) && l.can_end) (last_push no_item w)
    ∙ ap (λ (b : Bool). is_one (w ++ x ∷ []) && b) e
    ∙ and-false (is_one (w ++ x ∷ [])))
  where
    last_push : (y : Item) (v : List Item) → last_of y (v ++ x ∷ []) ≡ x
    last_push y [] = refl
    last_push y (u ∷ v) = last_push u v

-- the machine over some items, as one turn
abbrev pub runs : SlotRule → State → List Item → Turn
runs r s xs = turn_of (after r s xs) (given r s xs)

module _ (r : SlotRule) (epoch : ℕ) where
  pub lt_cond : (a b : ℕ) (x y : Turn) → a < b → (if nat_lt a b then x else y) ≡ x
  lt_cond a b x y l = ap (λ (t : Bool). cond t x y) (lt-ltb a b l)

  pub ge_cond : (a b : ℕ) (x y : Turn) → b ≤ a → (if nat_lt a b then x else y) ≡ y
  ge_cond a b x y l = ap (λ (t : Bool). cond t x y) (le-ltb a b l)

  step : (s : State) (x : Item) (xs : List Item) (t : Turn) → turn r s x ≡ t
      → runs r s (x ∷ xs) ≡ turn_of (after r t.state xs)
      (t.given ++ given r t.state xs)
  step s x xs t e = ap (λ (u : Turn). turn_of (after r u.state xs) (u.given ++ given r u.state xs)) e

  -- bytes behind no start
  idle : (before : Option ℕ) (v : ℕ) (vs : List ℕ) → runs r (state_of [] before) (piece_items Inside epoch (v ∷ vs))
      ≡ turn_of (state_of [] None) []
  unfolding turn
  idle before v [] = refl
  idle before v (u ∷ us) = idle None u us

  inside_turn : (h : List Item) (before : Option ℕ) (x : Item) → 1 ≤ length h → x.mark ≡ Inside
      → turn r (state_of h before) x
      ≡ grown r (h ++ x ∷ []) before
  unfolding turn
  inside_turn [] before x l e = absurd (omega arith)
  inside_turn (y ∷ ys) before x l e = ap (turn_by r (y ∷ ys) before x) e

  grown_is : (h : List Item) (before : Option ℕ) (p : List Item) → 1 ≤ length h → piece_inside r h before p
      ≡ piece_grown r (h ++ p) before
  grown_is [] before p l = absurd (omega arith)
  grown_is (y ∷ ys) before p l = refl

  length_piece : (m : Mark) (v : ℕ) (vs : List ℕ) → 1 ≤ length (piece_items m epoch (v ∷ vs))
  length_piece m v [] = omega arith
  length_piece m v (u ∷ us) = omega arith

  -- bytes that go on with those that are held
  goes_on : (h : List Item) (before : Option ℕ) (v : ℕ) (vs : List ℕ) → 1 ≤ length h → length h < r.up_len
      → runs r (state_of h before) (piece_items Inside epoch (v ∷ vs))
      ≡ piece_grown r (h ++ piece_items Inside epoch (v ∷ vs)) before
  goes_on h before v [] l m =
      let x : Item = item Inside v epoch true in
      let n : length (h ++ x ∷ []) ≡ length h + 1 = length-append h (x ∷ []) ∙ omega arith in
      step (state_of h before) x [] (grown r (h ++ x ∷ []) before) (inside_turn h before x l refl)
      ∙ elim (cases_lt (length (h ++ x ∷ [])) r.up_len) [
        | inl lt ↦
            ap (λ (t : Turn). turn_of t.state (t.given ++ [])) (lt_cond _ _ _ _ lt) ∙ sym (lt_cond _ _ _ _ lt)
        | inr ge ↦
            ap (λ (t : Turn). turn_of t.state (t.given ++ [])) (ge_cond _ _ _ _ ge)
            ∙ ap (turn_of (state_of [] (slot_of r (h ++ x ∷ []) before))) (append-nil _)
            ∙ sym (ge_cond _ _ _ _ ge ∙ ge_cond r.up_len (length (h ++ x ∷ [])) _ _ (omega (arith, n)))
      ]
  goes_on h before v (u ∷ us) l m =
      let x : Item = item Inside v epoch false in
      let p : List Item = piece_items Inside epoch (u ∷ us) in
      let n : length (h ++ x ∷ []) ≡ length h + 1 = length-append h (x ∷ []) ∙ omega arith in
      let e : (h ++ x ∷ []) ++ p ≡ h ++ x ∷ p = append_assoc h (x ∷ []) p in
      let k : length (h ++ x ∷ p) ≡ length h + 1 + length p = sym (ap length e) ∙ length-append (h ++ x ∷ []) p
      ∙ omega (arith, n) in
      step (state_of h before) x p (grown r (h ++ x ∷ []) before) (inside_turn h before x l refl)
      ∙ elim (cases_lt (length (h ++ x ∷ [])) r.up_len) [
        | inl lt ↦
            ap (λ (t : Turn). turn_of (after r t.state p) (t.given ++ given r t.state p)) (lt_cond _ _ _ _ lt)
            ∙ goes_on (h ++ x ∷ []) before u us (omega (arith, n)) lt
            ∙ ap (λ (w : List Item). piece_grown r w before) e
        | inr ge ↦
            ap (λ (t : Turn). turn_of (after r t.state p) (t.given ++ given r t.state p)) (ge_cond _ _ _ _ ge)
            ∙ ap (λ (o : Option ℕ). turn_of (after r (state_of [] o) p) (with_slot (h ++ x ∷ []) o
            ++ given r (state_of [] o) p))
            (cannot_end r h x before refl)
            ∙ idle None u us
            ∙ sym (ge_cond (length (h ++ x ∷ p)) r.up_len _ _ (omega (arith, n, k))
            ∙ lt_cond r.up_len (length (h ++ x ∷ p)) _ _
            (omega (arith, n, k, length_piece Inside u us)))
      ]

  -- a user packet begins
  begins : (m : Mark) (s : State) (v : ℕ) (vs : List ℕ) → 2 ≤ r.up_len
      → ((x : Item) → x.mark ≡ m → turn r s x ≡ turn_of (state_of (x ∷ []) (before_next s.held s.before)) [])
      → runs r s (piece_items m epoch (v ∷ vs)) ≡ piece_grown r (piece_items m epoch (v ∷ vs))
      (before_next s.held s.before)
  begins m s v [] two h =
      step s (item m v epoch true) [] _ (h (item m v epoch true) refl) ∙ sym (lt_cond 1 r.up_len _ _ (omega arith))
  begins m s v (u ∷ us) two h =
      step s (item m v epoch false) (piece_items Inside epoch (u ∷ us)) _ (h (item m v epoch false) refl)
      ∙ goes_on (item m v epoch false ∷ []) (before_next s.held s.before) u us (omega arith) (omega arith)

  next_turn : (s : State) (x : Item) → x.mark ≡ Next
      → turn r s x ≡ turn_of (state_of (x ∷ []) (before_next s.held s.before)) []
  unfolding turn
  next_turn s x e = ap (turn_by r s.held s.before x) e

  timed_turn : (iscr : ℕ) (s : State) (x : Item) → x.mark ≡ Timed iscr
      → turn r s x ≡ turn_of (state_of (x ∷ []) (before_next s.held s.before)) []
  unfolding turn
  timed_turn iscr s x e = ap (turn_by r s.held s.before x) e

  inside_runs : (h : List Item) (before : Option ℕ) (v : ℕ) (vs : List ℕ) → length h < r.up_len
      → runs r (state_of h before) (piece_items Inside epoch (v ∷ vs))
      ≡ piece_inside r h before (piece_items Inside epoch (v ∷ vs))
  inside_runs [] before v vs l = idle before v vs
  inside_runs (y ∷ ys) before v vs l = goes_on (y ∷ ys) before v vs (omega arith) l

  -- the items of a piece make one turn
  pub piece_runs : (m : Mark) (s : State) (v : ℕ) (vs : List ℕ) → 2 ≤ r.up_len → length s.held < r.up_len
      → (m ≡ Gap → ⊥)
      → runs r s (piece_items m epoch (v ∷ vs)) ≡ piece_turn r s m (piece_items m epoch (v ∷ vs))
  piece_runs Gap s v vs two l h = elim (h refl) [ ]
  piece_runs Inside s v vs two l h = inside_runs s.held s.before v vs l
  piece_runs Next s v vs two l h = begins Next s v vs two (next_turn s)
  piece_runs (Timed iscr) s v vs two l h = begins (Timed iscr) s v vs two (timed_turn iscr s)
