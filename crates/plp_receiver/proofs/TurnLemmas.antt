-- One item of the machine: the user packets that a string gains by one item are those that the machine gives.
use Rattle.std.proofs.Common.{◌≡◌, ◌≢◌, ℕ, ◌+◌, ◌-◌, ◌<◌, ◌≤◌, true, false, List, [], ◌∷◌, ◌++◌, length, take}
use Rattle.std.proofs.Common.{drop, Option, None, refl, ap, ap₂, ◌∙◌, sym, subst, arith, inl, inr, append-nil}
use Rattle.std.proofs.Common.{append_assoc, length-append, length-drop, length-take}
use Rattle.std.proofs.lemmas.Bool.{cases_lt, lt-ltb, le-ltb}
use Rattle.std.proofs.lemmas.List.{drop-append-le, drop_at, drop_all, drop-drop, take-append-drop}
use Rattle.plp_receiver.specs.declared.mark.Mark.{Mark}
use Rattle.plp_receiver.specs.declared.slot_rule.SlotRule.{SlotRule}
use Rattle.plp_receiver.specs.Strings.{Item, is_start, is_inside}
use Rattle.plp_receiver.specs.declared.mark.Mark.TheVariants.{Gap, Inside, Next, Timed}
use Rattle.plp_receiver.specs.Packets.{UserPacket, is_one, slot_of, slot_before, slots_at, with_slot, user_packets}
use Rattle.plp_receiver.specs.Machine.{State, Turn, state_of, turn_of, before_next, ended, grown, inside, turn}
use Rattle.plp_receiver.specs.Machine.{after, given, idle_or_one, Follows}
use Rattle.plp_receiver.proofs.OneLemmas.{none_on, none_cut, one_on, one_alone, none_alone, one_parts}
use Rattle.plp_receiver.proofs.SlotLemmas.{same_before, before_none, one_more_slot, one_more_packet, none_ends, Stays}
use Rattle.plp_receiver.proofs.SlotLemmas.{no_end}

idle_from : (h : List Item) → is_one h ≡ true → idle_or_one h ≡ true
idle_from [] e = refl
idle_from (y ∷ ys) e = e

one_from_idle : (h : List Item) → 1 ≤ length h → idle_or_one h ≡ true → is_one h ≡ true
one_from_idle [] l e = absurd (omega arith)
one_from_idle (y ∷ ys) l e = e

start_not_inside : (m : Mark) → is_start m ≡ true → is_inside m ≡ false
start_not_inside Gap e = refl
start_not_inside Inside e = sym e
start_not_inside Next e = refl
start_not_inside (Timed iscr) e = refl

-- the slot of the complete user packet, if there is one, that ends where the string ends
next_before : (r : SlotRule) → 2 ≤ r.up_len → (z held : List Item) (before : Option ℕ)
    → Follows r z (state_of held before)
    → before_next held before ≡ slot_before r (slots_at r z (length z))
next_before r two z [] before f =
    f.before ∙ ap (λ (n : ℕ). slot_before r (slots_at r z n)) (let e : length z - 0 ≡ length z = omega arith in e)
next_before r two z (y ∷ ys) before f = sym (
    elim (cases_lt (length z) r.up_len) [
      | inl lt ↦ before_none r z (length z) lt
      | inr ge ↦
          let h : List Item = y ∷ ys in
          let x : ℕ = length z - r.up_len in
          let k : ℕ = r.up_len - length h in
          let s = f.short in
          let q : x + k ≡ length z - length h = omega (arith, s) in
          let split : take k (drop x z) ++ (y ∷ ys) ≡ drop x z =
          ap (λ (l : List Item). take k (drop x z) ++ l) (sym (drop-drop k x z ∙ ap (λ (n : ℕ). drop n z) q ∙ f.tail))
          ∙ take-append-drop k (drop x z) in
          let none : is_one (drop x z) ≡ false =
          sym (ap is_one split) ∙ none_cut (take k (drop x z)) y ys
          (omega (arith, length-take k (drop x z), length-drop x z, s))
          (start_not_inside y.mark (one_parts y ys f.begins).0) in
          none_ends r z x (omega arith) (omega arith) none
    ])

module _ (r : SlotRule) (two : 2 ≤ r.up_len) (z : List Item) (b : Item) where
  abbrev more : List Item
  more = z ++ b ∷ []

  size : length more ≡ length z + 1
  size = length-append z (b ∷ []) ∙ omega arith

  pub record Turned (t : Turn) : Type 0 where
    pub follows : Follows r more t.state
    pub gains : user_packets r more ≡ user_packets r z ++ t.given

  rest : (x : ℕ) → x ≤ length z → drop x more ≡ drop x z ++ b ∷ []
  rest x h = drop-append-le x z (b ∷ []) h

  -- what stands from the last place on
  alone : drop (length z) more ≡ b ∷ []
  alone = drop_at z (b ∷ []) (length z) refl

  none_more : (x : ℕ) → x < length z → is_one (drop x z) ≡ false → is_one (drop x more) ≡ false
  none_more x l h = ap is_one (rest x (omega arith)) ∙ none_on (drop x z) (b ∷ []) (omega (arith, length-drop x z)) h

  cut_more : (x : ℕ) → x < length z → is_inside b.mark ≡ false → is_one (drop x more) ≡ false
  cut_more x l h = ap is_one (rest x (omega arith)) ∙ none_cut (drop x z) b [] (omega (arith, length-drop x z)) h

  last_none : is_start b.mark ≡ false → is_one (drop (length z) more) ≡ false
  last_none h = ap is_one alone ∙ none_alone b [] h

  -- no place from which the user packet might go on
  closes : Stays r z b → ((x : ℕ) → x < length more → length more < x + r.up_len → is_one (drop x more) ≡ false)
      → Turned (turn_of (state_of [] None) [])
  closes stays none = record {
    follows = record {
      before =
          sym (ap (λ (n : ℕ). slot_before r (slots_at r more n)) (let e : length more - 0 ≡ length z + 1 =
          omega (arith, size) in
          e) ∙ stays.slot);
      tail = drop_all _ more (omega arith);
      short = omega arith;
      begins = refl;
      others = λ x l m ne. none x l m;
    };
    gains = stays.packets ∙ sym (append-nil (user_packets r z));
  }

  gapped : is_inside b.mark ≡ false → is_start b.mark ≡ false → Turned (turn_of (state_of [] None) [])
  gapped i s = grind (arith, cases_lt, cut_more, size, last_none, closes, no_end)

  started : (held : List Item) (before : Option ℕ) → Follows r z (state_of held before) → is_inside b.mark ≡ false
      → is_start b.mark ≡ true → Turned (turn_of (state_of (b ∷ []) (before_next held before)) [])
  started held before f i st =
      let each : (x : ℕ) → x < length z → is_one (drop x more) ≡ false = λ x l. cut_more x l i in
      let at : length more - 1 ≡ length z = omega (arith, size) in
      let stays = no_end r z b (omega arith) (λ x e. each x (omega arith)) in
      record {
        follows = record {
          before = next_before r two z held before f
              ∙ sym (same_before r z (b ∷ []) (length z) (omega arith) (omega arith))
              ∙ sym (ap (λ (n : ℕ). slot_before r (slots_at r more n)) at);
          tail = ap (λ (n : ℕ). drop n more) at ∙ alone;
          short = omega arith;
          begins = one_alone b st;
          others = λ x l m ne. each x (omega (arith, size, at));
        };
        gains = stays.packets ∙ sym (append-nil (user_packets r z));
      }

  waits : (before : Option ℕ) → Follows r z (state_of [] before) → is_start b.mark ≡ false
      → Turned (turn_of (state_of [] None) [])
  waits before f st = grind (arith, cases_lt, none_more, size, last_none, closes, no_end)

  -- the user packet that is held gets a byte more
  module _ (held : List Item) (before : Option ℕ) (f : Follows r z (state_of held before)) (some : 1 ≤ length held)
      (i : is_inside b.mark ≡ true) (st : is_start b.mark ≡ false) where
    abbrev from : ℕ
    from = length z - length held

    fits : length held ≤ length z
    fits = let e = ap length f.tail in omega (arith, e, length-drop (length z - length held) z)

    grown_is : drop from more ≡ held ++ b ∷ []
    grown_is = rest from (omega arith) ∙ ap (λ (l : List Item). l ++ b ∷ []) f.tail

    longer : length (held ++ b ∷ []) ≡ length held + 1
    longer = length-append held (b ∷ []) ∙ omega arith

    each : (x : ℕ) → x < length more → length z < x + r.up_len → x ≢ from → is_one (drop x more) ≡ false
    each x l m ne = grind (arith, cases_lt, none_more, size, last_none)

    goes_on : length held + 1 < r.up_len → Turned (turn_of (state_of (held ++ b ∷ []) before) [])
    goes_on l =
        let at : length more - length (held ++ b ∷ []) ≡ from = omega (arith, size, longer, fits) in
        let stays =
        no_end r z b (omega arith)
        (λ x e. each x (omega (arith, size)) (omega arith) (λ (q : x ≡ from). omega (arith, q, fits))) in
        record {
          follows = record {
            before = f.before ∙ sym (same_before r z (b ∷ []) from (omega arith) (omega arith))
                ∙ sym (ap (λ (n : ℕ). slot_before r (slots_at r more n)) at);
            tail = ap (λ (n : ℕ). drop n more) at ∙ grown_is;
            short = omega (arith, longer);
            begins = idle_from (held ++ b ∷ []) (one_on held b (one_from_idle held some f.begins) i);
            others = λ x k m ne. each x k (omega (arith, size)) (λ (q : x ≡ from). ne (q ∙ sym at));
          };
          gains = stays.packets ∙ sym (append-nil (user_packets r z));
        }

    completes : length held + 1 ≡ r.up_len → Turned (ended r (held ++ b ∷ []) before)
    completes l =
        let e : from + r.up_len ≡ length z + 1 = omega (arith, fits) in
        let slot : slot_of r (drop from more) (slot_before r (slots_at r z from)) ≡ slot_of r (held ++ b ∷ []) before =
        ap₂ (λ (w : List Item) (s : Option ℕ). slot_of r w s) grown_is (sym f.before) in
        let at : length more - 0 ≡ length z + 1 = omega (arith, size) in
        record {
          follows = record {
            before = sym (ap (λ (n : ℕ). slot_before r (slots_at r more n)) at
                ∙ one_more_slot r z b from (omega arith) e ∙ slot);
            tail = drop_all _ more (omega arith);
            short = omega arith;
            begins = refl;
            others = λ x k m ne. each x k (omega (arith, size)) (λ (q : x ≡ from). omega (arith, q, size, e));
          };
          gains = one_more_packet r z b from (omega arith) e
              ∙ ap₂ (λ (w : List Item) (s : Option ℕ). user_packets r z ++ with_slot w s) grown_is slot;
        }

    grows : Turned (grown r (held ++ b ∷ []) before)
    grows = grind (arith, cases_lt, lt-ltb, goes_on, longer, le-ltb, completes)

  insides : (held : List Item) (before : Option ℕ) → Follows r z (state_of held before) → is_inside b.mark ≡ true
      → is_start b.mark ≡ false → Turned (inside r held before b)
  insides [] before f i st = waits before f st
  insides (y ∷ ys) before f i st = grows (y ∷ ys) before f (omega arith) i st

  pub turns : (s : State) → Follows r z s → Turned (turn r s b)
  unfolding turn
  turns s f = grind (arith, gapped, insides, started)

-- the machine over a string
pub record Reads (r : SlotRule) (z y : List Item) (s : State) : Type 0 where
  pub follows : Follows r (z ++ y) (after r s y)
  pub gains : user_packets r (z ++ y) ≡ user_packets r z ++ given r s y

pub reads : (r : SlotRule) → 2 ≤ r.up_len → (y z : List Item) (s : State) → Follows r z s → Reads r z y s
reads r two [] z s f = record {
  follows = subst (λ (l : List Item). Follows r l s) (sym (append-nil z)) f;
  gains = ap (user_packets r) (append-nil z) ∙ sym (append-nil (user_packets r z));
}
reads r two (x ∷ y) z s f =
    let t = turns r two z x s f in
    let m = reads r two y (z ++ x ∷ []) (turn r s x).state t.follows in
    let e : (z ++ x ∷ []) ++ y ≡ z ++ x ∷ y = append_assoc z (x ∷ []) y in
    record {
      follows = subst (λ (l : List Item). Follows r l (after r (turn r s x).state y)) e m.follows;
      gains =
          sym (ap (user_packets r) e)
          ∙ m.gains
          ∙ ap (λ (p : List UserPacket). p ++ given r (turn r s x).state y) t.gains
          ∙ append_assoc (user_packets r z) (turn r s x).given (given r (turn r s x).state y);
    }

pub begins_idle : (r : SlotRule) → 1 ≤ r.up_len → Follows r [] (state_of [] None)
begins_idle r l = grind (arith, before_none)
