-- What an assembler keeps is the machine's state, piece by piece.
use Rattle.std.proofs.Common.{◌≡◌, ℕ, suc, ◌+◌, ◌-◌, ◌^◌, ◌<◌, ◌≤◌, ◌==◌, ◌&&◌, Bool, true, false, List, [], ◌∷◌, ◌++◌}
use Rattle.std.proofs.Common.{length, take, get_or, Option, Some, None, refl, ap, ap₂, ◌∙◌, sym, subst, arith}
use Rattle.std.proofs.Common.{length-append, cond, eq-eqb}
use Rattle.std.specs.Prelude.{min, option_map, if◌then◌else◌, IfSome}
use Rattle.std.proofs.lemmas.List.{get_or-take, map-append}
use Rattle.std.proofs.lemmas.Bool.{both_ways, false_from_ne_true, eqb-true}
use Rattle.plp_receiver.specs.declared.slot_rule.SlotRule.{SlotRule}
use Rattle.plp_receiver.specs.declared.mark.Mark.{Mark}
use Rattle.plp_receiver.specs.declared.mark.Mark.TheVariants.{Gap, Inside, Next, Timed}
use Rattle.plp_receiver.specs.declared.assembler.Base.{Base}
use Rattle.plp_receiver.specs.declared.assembler.Found.{Found}
use Rattle.plp_receiver.specs.Sound.{IsSound}
use Rattle.plp_receiver.specs.Strings.{Item, item_values, is_start, is_inside}
use Rattle.plp_receiver.specs.Packets.{UserPacket, is_one, all_inside, last_item, last_of, no_item, first_item, dnp_of}
use Rattle.plp_receiver.specs.Packets.{slot_by, slot_of, with_slot, user_packets}
use Rattle.plp_receiver.specs.Machine.{State, Turn, state_of, turn_of, before_next, ended, given, Follows}
use Rattle.plp_receiver.specs.Pieces.{item, piece_items, piece_grown, piece_inside, piece_turn}
use Rattle.plp_receiver.specs.Base.{far, capped, slot_with, IsBase, Holds, next_len, is_idle}
use Rattle.plp_receiver.specs.Assembles.{IsEpoch, next_base, AssemblerStands, kept_dnp, found_of, Gives, Gains}
use Rattle.plp_receiver.proofs.OneLemmas.{one_parts, one_from}
use Rattle.plp_receiver.proofs.TurnLemmas.{reads}
use Rattle.plp_receiver.proofs.PieceLemmas.{piece_runs, lt_cond, ge_cond}

-- Lists of items.

pub piece_values : (m : Mark) (epoch : ℕ) (vs : List ℕ) → item_values (piece_items m epoch vs) ≡ vs
piece_values m epoch [] = refl
piece_values m epoch (v ∷ []) = refl
piece_values m epoch (v ∷ u ∷ us) = ap (λ (l : List ℕ). v ∷ l) (piece_values Inside epoch (u ∷ us))

pub piece_length : (m : Mark) (epoch : ℕ) (vs : List ℕ) → length (piece_items m epoch vs) ≡ length vs
piece_length m epoch [] = refl
piece_length m epoch (v ∷ []) = refl
piece_length m epoch (v ∷ u ∷ us) = ap suc (piece_length Inside epoch (u ∷ us))

all_piece : (epoch : ℕ) (vs : List ℕ) → all_inside (piece_items Inside epoch vs) ≡ true
all_piece epoch [] = refl
all_piece epoch (v ∷ []) = refl
all_piece epoch (v ∷ u ∷ us) = all_piece epoch (u ∷ us)

all_append : (xs ys : List Item) → all_inside xs ≡ true → all_inside ys ≡ true → all_inside (xs ++ ys) ≡ true
all_append [] ys h e = e
all_append (x ∷ xs) ys h e = go (is_inside x.mark) (all_inside xs) h (λ k. all_append xs ys k e)
  where
    go : (a b : Bool) → (a && b) ≡ true → (b ≡ true → all_inside (xs ++ ys) ≡ true)
        → (a && all_inside (xs ++ ys)) ≡ true
    go true b h k = k h
    go false b h k = absurd (both_ways _ refl h)

one_append : (xs ys : List Item) → is_one xs ≡ true → all_inside ys ≡ true → is_one (xs ++ ys) ≡ true
unfolding is_one
one_append [] ys h e = absurd (both_ways _ refl h)
one_append (x ∷ xs) ys h e = let p = one_parts x xs h in one_from x (xs ++ ys) p.0 (all_append xs ys p.1 e)

one_piece : (m : Mark) (epoch v : ℕ) (vs : List ℕ) → is_start m ≡ true → is_one (piece_items m epoch (v ∷ vs)) ≡ true
one_piece m epoch v [] h = one_from (item m v epoch true) [] h refl
one_piece m epoch v (u ∷ us) h = one_from (item m v epoch false) (piece_items Inside epoch (u ∷ us))
    h (all_piece epoch (u ∷ us))

-- what the last item of a piece is
pub record IsLast (epoch : ℕ) (x : Item) : Type 0 where
  pub can_end : x.can_end ≡ true
  pub epoch_is : x.epoch ≡ epoch

piece_last : (d : Item) (m : Mark) (epoch v : ℕ) (vs : List ℕ) → IsLast epoch (last_of d (piece_items m epoch (v ∷ vs)))
piece_last d m epoch v [] = record { can_end = refl; epoch_is = refl }
piece_last d m epoch v (u ∷ us) = piece_last (item m v epoch false) Inside epoch u us

last_append : (d : Item) (xs ys : List Item) → (e : Item) → 1 ≤ length ys → last_of d (xs ++ ys) ≡ last_of e ys
last_append d [] [] e l = absurd (omega arith)
last_append d [] (y ∷ ys) e l = refl
last_append d (x ∷ xs) ys e l = last_append x xs ys e l

last_value : (d : Item) (xs : List Item) → 1 ≤ length xs → get_or (item_values xs) (length xs - 1)
    0 ≡ (last_of d xs).value
last_value d [] l = absurd (omega arith)
last_value d (x ∷ []) l = refl
last_value d (x ∷ y ∷ ys) l =
    let e : length (x ∷ y ∷ ys) - 1 ≡ suc (length (y ∷ ys) - 1) = omega arith in
    ap (λ (n : ℕ). get_or (item_values (x ∷ y ∷ ys)) n 0) e ∙ last_value x (y ∷ ys) (omega arith)

-- Slots.

cap_next : (d : ℕ) (o : Option ℕ) → option_map (λ k. min (k + 1 + d) far) (capped o) ≡ capped
    (option_map (λ k. k + 1 + d) o)
cap_next d None = refl
cap_next d (Some k) = let e : min (min k far + 1 + d) far ≡ min (k + 1 + d) far = omega arith in ap (λ (n : ℕ). Some n)
    e

cap_near : (o : Option ℕ) → IfSome o (λ k. k ≤ 2 ^ 53) → o ≡ capped o
cap_near None h = refl
cap_near (Some k) h = let e : k ≡ min k far = omega arith in ap (λ (n : ℕ). Some n) e

-- the bytes of a user packet with those of the piece
pub record Joined (r : SlotRule) (s : State) (len : ℕ) (held : List ℕ) (kept : Base) (mark : Mark) (epoch : ℕ)
    (bytes : List ℕ)
    (w : List Item) (before : Option ℕ) : Type 0 where
  pub turn : piece_turn r s mark (piece_items mark epoch bytes) ≡ piece_grown r w before
  pub size : length w ≡ next_len len mark + length bytes
  pub values_are : item_values w ≡ take (next_len len mark) held ++ bytes
  pub base : IsBase r w before (next_base r len kept mark epoch)
  pub one : is_one w ≡ true
  pub last : IsLast epoch (last_item w)

pub record IsJoined (r : SlotRule) (s : State) (len : ℕ) (held : List ℕ) (kept : Base) (mark : Mark) (epoch : ℕ)
    (bytes : List ℕ) : Type 0 where
  pub w : List Item
  pub before : Option ℕ
  pub joined : Joined r s len held kept mark epoch bytes w before

module _ (r : SlotRule) (sound : IsSound r) (z : List Item) (epoch v : ℕ) (vs : List ℕ) where
  goes_on : (hs : List Item) (before : Option ℕ) (len : ℕ) (held : List ℕ) (kept : Base)
      → Follows r z (state_of hs before)
      → Holds r (state_of hs before) len held kept
      → (len == 0) ≡ false → IsJoined r (state_of hs before) len held kept Inside epoch (v ∷ vs)
  goes_on [] before len held kept f h e = absurd (both_ways _ e (eq-eqb len 0 h.count))
  goes_on (y ∷ ys) before len held kept f h e =
      let p : List Item = piece_items Inside epoch (v ∷ vs) in
      let some : 1 ≤ length p = omega (arith, piece_length Inside epoch (v ∷ vs)) in
      record {
        w = y ∷ ys ++ p;
        before = before;
        joined = record {
          turn = refl;
          size = ap suc (length-append ys p) ∙ omega (arith, h.count, piece_length Inside epoch (v ∷ vs));
          values_are = map-append (λ (x : Item). x.value) (y ∷ ys) p ∙ ap₂ (λ (a b : List ℕ). a ++ b) (sym h.bytes)
              (piece_values Inside epoch (v ∷ vs));
          base = h.base;
          one = one_append (y ∷ ys) p f.begins (all_piece epoch (v ∷ vs));
          last = subst (IsLast epoch) (sym (last_append no_item (y ∷ ys) p no_item some))
              (piece_last no_item Inside epoch v vs);
        };
      }

  first_is : (m : Mark) (before : Option ℕ) (kept : Base) → kept.epoch ≡ epoch
      → ((dnp : ℕ) → slot_with kept dnp ≡ capped (slot_by r m epoch dnp before))
      → IsBase r (piece_items m epoch (v ∷ vs)) before kept
  first_is m before kept e h = grind arith

  begins : (m : Mark) (s : State) (len : ℕ) (held : List ℕ) (kept : Base) → is_start m ≡ true → next_len len m ≡ 0
      → piece_turn r s m (piece_items m epoch (v ∷ vs)) ≡ piece_grown r (piece_items m epoch (v ∷ vs))
      (before_next s.held s.before)
      → IsBase r (piece_items m epoch (v ∷ vs)) (before_next s.held s.before) (next_base r len kept m epoch)
      → IsJoined r s len held kept m epoch (v ∷ vs)
  begins m s len held kept st e t b = record {
    w = piece_items m epoch (v ∷ vs);
    before = before_next s.held s.before;
    joined = record {
      turn = t;
      size = omega (arith, e, piece_length m epoch (v ∷ vs));
      values_are = piece_values m epoch (v ∷ vs) ∙ sym (ap (λ (n : ℕ). take n held ++ v ∷ vs) e);
      base = b;
      one = one_piece m epoch v vs st;
      last = piece_last no_item m epoch v vs;
    };
  }

  before_is : (hs : List Item) (before : Option ℕ) (len : ℕ) (held : List ℕ) (kept : Base)
      → Holds r (state_of hs before) len held kept
      → (if len == 0 then kept.slot else None) ≡ capped (before_next hs before)
  before_is [] before len held kept h = ap (λ (b : Bool). cond {A = Option ℕ} b kept.slot None) (eq-eqb len 0 h.count)
      ∙ h.base
  before_is (y ∷ ys) before len held kept h =
      ap (λ (b : Bool). cond {A = Option ℕ} b kept.slot None)
      (false_from_ne_true _ (λ (t : (len == 0) ≡ true). omega (arith, eqb-true len 0 t, h.count)))

  pub joined : (mark : Mark) (s : State) (len : ℕ) (held : List ℕ) (kept : Base) → Follows r z s
      → Holds r s len held kept
      → IsEpoch epoch mark
      → IfSome (next_base r len kept mark epoch).slot (λ k. k ≤ 2 ^ 53) → is_idle len mark ≡ false
      → IsJoined r s len held kept mark epoch (v ∷ vs)
  joined Gap s len held kept f h is near e = elim is [ ]
  joined Inside s len held kept f h is near e = goes_on s.held s.before len held kept f h e
  joined Next s len held kept f h is near e =
      begins Next s len held kept refl refl refl
      (first_is Next (before_next s.held s.before) (next_base r len kept Next epoch) refl
      (λ dnp. ap (option_map (λ k. min (k + 1 + dnp) far)) (before_is s.held s.before len held kept h)
      ∙ cap_next dnp (before_next s.held s.before)))
  joined (Timed iscr) s len held kept f h is near e =
      begins (Timed iscr) s len held kept refl refl refl
      (first_is (Timed iscr) (before_next s.held s.before) (next_base r len kept (Timed iscr) epoch) refl
      (λ dnp. cap_near _ near))

  -- if nothing is held, a piece without a start changes nothing
  pub idles : (mark : Mark) (s : State) (len : ℕ) (held : List ℕ) (kept : Base) → Holds r s len held kept
      → is_idle len mark ≡ true
      → piece_turn r s mark (piece_items mark epoch (v ∷ vs)) ≡ turn_of (state_of [] None) []
  idles Gap s len held kept h e = refl
  idles Inside s len held kept h e = go s.held (omega (arith, h.count, eqb-true len 0 e))
    where
      go : (hs : List Item) → length hs ≡ 0 → piece_inside r hs s.before (piece_items Inside epoch (v ∷ vs))
          ≡ turn_of (state_of [] None) []
      go [] l = refl
      go (y ∷ ys) l = absurd (omega arith)
  idles Next s len held kept h e = absurd (both_ways _ refl e)
  idles (Timed iscr) s len held kept h e = absurd (both_ways _ refl e)

module _ (r : SlotRule) (sound : IsSound r) (z : List Item) (epoch v : ℕ) (vs : List ℕ) (mark : Mark)
    (len : ℕ) (held : List ℕ)
    (kept : Base) (st : AssemblerStands r len held kept z) (is : IsEpoch epoch mark) where
  abbrev piece : List Item
  piece = piece_items mark epoch (v ∷ vs)

  abbrev next : Base
  next = next_base r len kept mark epoch

  abbrev total : ℕ
  total = next_len len mark + length (v ∷ vs)

  pub record Turned (t : Turn) : Type 0 where
    pub follows : Follows r (z ++ piece) t.state
    pub packets : user_packets r (z ++ piece) ≡ user_packets r z ++ t.given

  no_gap : (m : Mark) → IsEpoch epoch m → m ≡ Gap → ⊥
  no_gap m i e = subst (IsEpoch epoch) e i

  turned : (t : Turn) → piece_turn r st.state mark piece ≡ t → Turned t
  turned t e =
      let two : 2 ≤ r.up_len = let u = sound.up in omega (arith, u) in
      let m = reads r two piece z st.state st.follows in
      subst Turned (piece_runs r epoch mark st.state v vs two st.follows.short (no_gap mark is) ∙ e)
      (record { follows = m.follows; packets = m.gains })

  emptied : (before : Option ℕ) (given : List UserPacket) (new_len : ℕ) (new_held : List ℕ) (new_kept : Base)
      → piece_turn r st.state mark piece ≡ turn_of (state_of [] before) given → new_len ≡ 0
      → new_kept.slot ≡ capped before
      → AssemblerStands r new_len new_held new_kept (z ++ piece)
  emptied before given new_len new_held new_kept e l b = record {
    state = state_of [] before;
    follows = (turned _ e).follows;
    holds = record { bytes = ap (λ (n : ℕ). take n new_held) l; count = l; base = b };
  }

  nothing : (s : State) → piece_turn r st.state mark piece ≡ turn_of s [] → (new_held : List ℕ)
      → Gains r z epoch piece new_held None
  nothing s e new_held = record { given = []; packets = (turned _ e).packets; gives = refl }

  -- a piece that goes on with nothing
  pub idle_stands : is_idle len mark ≡ true → (new_len : ℕ) (new_held : List ℕ) (new_kept : Base) → new_len ≡ 0
      → new_kept.slot ≡ None → AssemblerStands r new_len new_held new_kept (z ++ piece)
  idle_stands i new_len new_held new_kept l b =
      emptied None [] new_len new_held new_kept (idles r sound z epoch v vs mark st.state len held kept st.holds i) l b

  pub idle_gains : is_idle len mark ≡ true → (new_held : List ℕ) → Gains r z epoch piece new_held None
  idle_gains i = nothing _ (idles r sound z epoch v vs mark st.state len held kept st.holds i)

  module _ (near : IfSome next.slot (λ k. k ≤ 2 ^ 53)) (i : is_idle len mark ≡ false) where
    pub j : IsJoined r st.state len held kept mark epoch (v ∷ vs)
    j = joined r sound z epoch v vs mark st.state len held kept st.follows st.holds is near i

    passed : r.up_len < total → piece_turn r st.state mark piece ≡ turn_of (state_of [] None) []
    passed l = grind (arith, j, ge_cond, lt_cond)

    -- too many bytes
    pub over_stands : r.up_len < total → (new_len : ℕ) (new_held : List ℕ) (new_kept : Base) → new_len ≡ 0
        → new_kept.slot ≡ None
        → AssemblerStands r new_len new_held new_kept (z ++ piece)
    over_stands l new_len new_held new_kept e b = emptied None [] new_len new_held new_kept (passed l) e b

    pub over_gains : r.up_len < total → (new_held : List ℕ) → Gains r z epoch piece new_held None
    over_gains l = nothing _ (passed l)

    waits : total < r.up_len → piece_turn r st.state mark piece ≡ turn_of (state_of j.w j.before) []
    waits l = j.joined.turn ∙ lt_cond r epoch (length j.w) r.up_len _ _ (omega (arith, j.joined.size))

    -- too few bytes
    pub short_stands : total < r.up_len → (new_held : List ℕ) → take total new_held ≡ take (next_len len mark) held
        ++ v ∷ vs
        → AssemblerStands r total new_held next (z ++ piece)
    short_stands l new_held e = record {
      state = state_of j.w j.before;
      follows = (turned _ (waits l)).follows;
      holds = record { bytes = e ∙ sym j.joined.values_are; count = sym j.joined.size; base = j.joined.base };
    }

    pub short_gains : total < r.up_len → (new_held : List ℕ) → Gains r z epoch piece new_held None
    short_gains l = nothing _ (waits l)

    abbrev slot_now : Option ℕ
    slot_now = slot_of r j.w j.before

    ends : total ≡ r.up_len → piece_turn r st.state mark piece ≡ ended r j.w j.before
    ends l = grind (arith, j, ge_cond)

    pub slot_is : slot_now ≡ slot_by r (first_item j.w).mark (first_item j.w).epoch (dnp_of r j.w) j.before
    unfolding slot_of
    slot_is = grind (arith, ap₂, Option, j)

    base_is : (w : List Item) (before : Option ℕ) → 1 ≤ length w → IsBase r w before next
        → (next.epoch ≡ (first_item w).epoch)
        × ((dnp : ℕ) → slot_with next dnp ≡ capped (slot_by r (first_item w).mark (first_item w).epoch dnp before))
    base_is [] before l b = absurd (omega arith)
    base_is (x ∷ xs) before l b = b

    -- as many bytes as a user packet has
    module _ (l : total ≡ r.up_len) (new_held : List ℕ) (e : take total new_held ≡ take (next_len len mark) held
        ++ v ∷ vs) where
      whole : take r.up_len new_held ≡ item_values j.w
      whole = ap (λ (n : ℕ). take n new_held) (sym l) ∙ e ∙ sym j.joined.values_are

      dnp_is : kept_dnp r new_held ≡ dnp_of r j.w
      dnp_is = grind (arith, j, get_or-take, whole, last_value)

      parts : (next.epoch ≡ (first_item j.w).epoch)
          × ((dnp : ℕ) → slot_with next dnp ≡ capped (slot_by r (first_item j.w).mark (first_item j.w).epoch
          dnp j.before))
      parts = base_is j.w j.before (omega (arith, j.joined.size)) j.joined.base

      pub end_slot : slot_with next (kept_dnp r new_held) ≡ capped slot_now
      end_slot = ap (slot_with next) dnp_is ∙ parts.1 (dnp_of r j.w) ∙ sym (ap capped slot_is)

      pub end_stands : (new_len : ℕ) (any_held : List ℕ) (new_kept : Base) → new_len ≡ 0
          → new_kept.slot ≡ slot_with next (kept_dnp r new_held) → AssemblerStands r new_len any_held
          new_kept (z ++ piece)
      end_stands new_len any_held new_kept n b = emptied slot_now (with_slot j.w slot_now) new_len any_held
          new_kept (ends l) n
          (b ∙ end_slot)

      gives : (o : Option ℕ) → Gives r epoch new_held (found_of next (capped o)) (with_slot j.w o)
      gives None = refl
      gives (Some k) = (
        record { slot = k; items = j.w },
        record { slot = refl; begun = parts.0; ended = j.joined.last.epoch_is; bytes = whole },
        refl,
      )

      pub end_gains : (result : Option Found) → result ≡ found_of next (slot_with next (kept_dnp r new_held))
          → Gains r z epoch piece new_held result
      end_gains result a = record {
        given = with_slot j.w slot_now;
        packets = (turned _ (ends l)).packets;
        gives = subst (λ (f : Option Found). Gives r epoch new_held f (with_slot j.w slot_now))
            (sym (a ∙ ap (found_of next) end_slot)) (gives slot_now);
      }
