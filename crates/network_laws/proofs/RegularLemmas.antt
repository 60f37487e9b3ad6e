-- Strings as a gateway makes them: user packet n stands from place up_len * n on, and no byte is missing. Each that
-- stands whole gets its own slot.
use Rattle.std.specs.Prelude.{◌≡◌, ◌⊎◌, ℕ, ◌+◌, ◌-◌, ◌*◌, ◌<◌, ◌≤◌, ◌%◌, ◌^◌, suc, true, None, ◌++◌, ◌∷◌, map, List}
use Rattle.std.specs.Prelude.{length, get_or, Some, if◌then◌else◌}
use Rattle.plp_receiver.specs.declared.slot_rule.SlotRule.{SlotRule}
use Rattle.plp_receiver.specs.declared.mark.Mark.TheVariants.{Inside, Next, Timed}
use Rattle.plp_receiver.specs.Strings.{Item, Block, block_items, first_mark, gap, is_start, mark_at, item_at}
use Rattle.plp_receiver.specs.Strings.{items_from}
use Rattle.std.specs.List.{range_with_len}
use Rattle.plp_config.specs.SlotTime.{slot_start, InRange}
use Rattle.plp_receiver.specs.LaterBlocks.{at}
use Rattle.plp_receiver.specs.Packets.{slot_of, slot_before, slots_at, window, UserPacket, user_packets, all_inside}
use Rattle.plp_receiver.specs.Packets.{is_one, is_complete, last_item, first_item, no_item, slot_by, with_slot}
use Rattle.plp_receiver.specs.Packets.{packets_at}
use Rattle.plp_config.specs.SlotTimes.{slot_of_iscr}
use Rattle.plp_receiver.specs.Sound.{IsSound}
use Rattle.std.proofs.Common.{◌≡◌, ◌⊎◌, ℕ, zero, suc, ◌+◌, ◌-◌, ◌*◌, ◌%◌, ◌<◌, ◌≤◌, ◌++◌, ◌&&◌, Bool, true, false, List}
use Rattle.std.proofs.Common.{[], ◌∷◌, length, take, drop, get_or, Option, Some, None, refl, ap, ap₂, ◌∙◌, sym}
use Rattle.std.proofs.Common.{arith, inl, inr, length-take, length-append, ◌^◌, map, append-nil, append_assoc}
use Rattle.std.proofs.lemmas.List.{get_or-take, get_or-drop, drop_more, get_or_append_left, get_or-append_right}
use Rattle.std.proofs.lemmas.Bool.{cases_lt, cases_eq}
use Rattle.std.proofs.lemmas.Nat.{mod-mul-add}
use Rattle.std.proofs.Math.Nat.{mul-le-mul_left}
use Rattle.plp_receiver.specs.declared.mark.Mark.{Mark}
use Rattle.plp_receiver.proofs.BlockLemmas.{Ends, ends_field, ends_start, none_marks, mark_before, mark_first}
use Rattle.plp_receiver.proofs.BlockLemmas.{mark_next, mark_inner}
use Rattle.plp_receiver.proofs.OneLemmas.{one_from, none_alone}
use Rattle.plp_receiver.proofs.SlotLemmas.{before_at, slots_suc, none_of}
use Rattle.plp_receiver.proofs.PlaceLemmas.{last_is}
use Rattle.std.proofs.lemmas.List.FromFn.{map-range_with_len_more}
use Rattle.plp_config.specs.Laws.{IscrFindsSlot}
use Rattle.plp_receiver.specs.Machine.{State, state_of, turn, after, given}
use Rattle.plp_receiver.proofs.TurnLemmas.{reads, begins_idle}
use Rattle.plp_config.proofs.IscrLemmas.{iscr_found}

-- the ISCR of user packet n tells its slot
pub record IsTimed (r : SlotRule) (slot : ℕ) (x : Item) : Type 0 where
  pub iscr : ℕ
  pub mark : x.mark ≡ Timed iscr
  pub tells : slot_of_iscr r.times x.epoch iscr ≡ Some slot

-- the slot of a user packet follows from the one before, which stands in the string too
pub record IsNext (r : SlotRule) (z : List Item) (i : ℕ) : Type 0 where
  pub mark : (at z i).mark ≡ Next
  pub behind : r.up_len ≤ i

-- a user packet can end at the byte, whose value is the dnp if null packets are deleted
pub record IsEnd (r : SlotRule) (dnp : ℕ) (x : Item) : Type 0 where
  pub can_end : x.can_end ≡ true
  pub tells : r.deletes ≡ true → x.value ≡ dnp

-- The string is the bytes of the stream from a place on; slots n and dnps n are those of user packet n.
pub record IsRegular (r : SlotRule) (slots dnps : ℕ → ℕ) (place : ℕ) (z : List Item) : Type 0 where
  pub inner : (n t i : ℕ) → place + i ≡ r.up_len * n + t → 1 ≤ t → t < r.up_len → i < length z → (at z i).mark ≡ Inside
  pub starts : (n i : ℕ) → place + i ≡ r.up_len * n → i < length z → IsTimed r (slots n) (at z i) ⊎ IsNext r z i
  pub ends : (n i : ℕ) → place + i + 1 ≡ r.up_len * suc n → i < length z → IsEnd r (dnps n) (at z i)

-- of the first bound user packets each has the slot of the one before plus 1 plus its own dnp
abbrev pub Follow : SlotRule → (ℕ → ℕ) → (ℕ → ℕ) → ℕ → Type 0
Follow r slots dnps bound = (n : ℕ) → suc n < bound
    → slots (suc n) ≡ slots n + 1 + (if r.deletes then dnps (suc n) else 0)

-- What a block tells of the bytes from a place on: SYNCD is the place of user packet n, the first from there, if that
-- begins in the block, and ISSY then tells its slot. The last byte of a user packet is its dnp.
pub record IsBlock (r : SlotRule) (slots dnps : ℕ → ℕ) (epoch place n : ℕ) (b : Block) : Type 0 where
  pub least : place ≤ r.up_len * n
  pub close : r.up_len * n < place + r.up_len
  pub none : place + length b.field ≤ r.up_len * n → b.first ≡ None
  pub some : r.up_len * n < place + length b.field → b.first ≡ Some (r.up_len * n - place)
  pub issy : r.up_len * n < place + length b.field → (iscr : ℕ) × (first_mark b.issy ≡ Timed iscr)
      × (slot_of_iscr r.times epoch iscr ≡ Some (slots n))
  pub values : (k i : ℕ) → place + i + 1 ≡ r.up_len * suc k → i < length b.field → r.deletes ≡ true
      → get_or b.field i 0 ≡ dnps k

-- user packet n of a string that begins at a place of the stream
abbrev pub up_of : SlotRule → (ℕ → ℕ) → ℕ → List Item → ℕ → UserPacket
up_of r slots place z n = record { slot = slots n; items = window r z (r.up_len * n - place) }

-- The user packets of such a string are those that stand whole in it, in order; n is the first that begins in it.
pub record AreWhole (r : SlotRule) (slots : ℕ → ℕ) (place n : ℕ) (z : List Item) : Type 0 where
  pub count : ℕ
  pub packets : user_packets r z ≡ map (up_of r slots place z) (range_with_len n count)
  pub inside : (k : ℕ) → n ≤ k → k < n + count → r.up_len * k + r.up_len ≤ place + length z
  pub all : (k : ℕ) → n ≤ k → r.up_len * k + r.up_len ≤ place + length z → k < n + count

mul-add : (len n d : ℕ) → len * (n + d) ≡ len * n + d * len
mul-add len n d = omega arith

all_from : (xs : List Item) → ((k : ℕ) → k < length xs → (get_or xs k no_item).mark ≡ Inside) → all_inside xs ≡ true
all_from [] h = refl
all_from (x ∷ xs) h = rw (h 0 (omega arith), all_from xs (λ k l. h (suc k) (omega arith)))

module _ (r : SlotRule) (slots dnps : ℕ → ℕ) (place bound : ℕ) (z : List Item) (sound : IsSound r)
    (follow : Follow r slots dnps bound) (fits : place + length z ≤ r.up_len * bound)
    (reg : IsRegular r slots dnps place z) where
  pub size : r.up_len ≡ suc (r.up_len - 1)
  size = omega arith

  module _ (n i : ℕ) (e : place + i ≡ r.up_len * n) (l : i + r.up_len ≤ length z) where
    abbrev w : List Item
    w = window r z i

    some : i < length z
    some = omega arith

    pub split : w ≡ at z i ∷ take (r.up_len - 1) (drop (i + 1) z)
    split = ap (λ (k : ℕ). take k (drop i z)) size ∙ ap (take (suc (r.up_len - 1))) (drop_more z i no_item some)

    rest : all_inside (take (r.up_len - 1) (drop (i + 1) z)) ≡ true
    rest = all_from _ (λ k m.
        let long : k < r.up_len - 1 = omega (arith, length-take (r.up_len - 1) (drop (i + 1) z)) in
        let same : get_or (take (r.up_len - 1) (drop (i + 1) z)) k no_item ≡ at z (i + 1 + k) =
        get_or-take (r.up_len - 1) (drop (i + 1) z) k no_item long ∙ get_or-drop (i + 1) z k no_item in
        ap (λ (x : Item). x.mark) same ∙ reg.inner n (1 + k) (i + 1 + k) (omega arith) (omega arith) (omega arith)
        (omega arith))

    last : last_item w ≡ at z (i + (r.up_len - 1))
    last = ap (λ (k : ℕ). last_item (take k (drop i z))) size ∙ last_is no_item z i (r.up_len - 1) (omega (arith, size))

    first : first_item w ≡ at z i
    first = ap first_item split

    end : IsEnd r (dnps n) (at z (i + (r.up_len - 1)))
    end =
        reg.ends n (i + (r.up_len - 1)) (omega arith) (omega arith)

    dnp_is : (if r.deletes then (at z (i + (r.up_len - 1))).value else 0) ≡ (if r.deletes then dnps n else 0)
    dnp_is = go r.deletes refl
      where
        go : (b : Bool) → r.deletes ≡ b → (if b then (at z (i + (r.up_len - 1))).value else 0)
            ≡ (if b then dnps n else 0)
        go true d = end.tells d
        go false d = refl

    complete : is_start (at z i).mark ≡ true → is_complete w ≡ true
    complete s =
        let one : is_one w ≡ true = ap is_one split ∙ one_from (at z i) (take (r.up_len - 1) (drop (i + 1) z)) s rest in
        ap₂ (λ (a b : Bool). a && b) one (ap (λ (x : Item). x.can_end) last ∙ end.can_end)

    slot_is : (before : Option ℕ) → is_start (at z i).mark ≡ true → slot_of r w before ≡ slot_by r (at z i).mark
        (at z i).epoch (if r.deletes then (at z (i + (r.up_len - 1))).value else 0) before
    unfolding slot_of
    slot_is before s =
        rw (complete s, first, last)

    timed : (before : Option ℕ) → IsTimed r (slots n) (at z i) → slot_of r w before ≡ Some (slots n)
    timed before t =
        rw (slot_is before (ap is_start t.mark), t.mark, t.tells)

    next : (before : Option ℕ) → IsNext r z i → (m : ℕ) → before ≡ Some m
        → slots n ≡ m + 1 + (if r.deletes then dnps n else 0) → slot_of r w before ≡ Some (slots n)
    next before t m b f =
        rw (slot_is before (ap is_start t.mark), t.mark, b, dnp_is, ← f)

  below : (n i : ℕ) → place + i ≡ r.up_len * n → i + r.up_len ≤ length z → n < bound
  below n i e l =
      elim (cases_lt n bound) [
        | inl is ↦ is
        | inr no_less ↦ absurd (omega (arith, mul-le-mul_left {m = bound} {n = n} r.up_len no_less))
      ]

  -- each user packet that stands whole in it gets its own slot
  pub own_slots : (n i : ℕ) → place + i ≡ r.up_len * n → i + r.up_len ≤ length z
      → slot_of r (window r z i) (slot_before r (slots_at r z i))
      ≡ Some (slots n)
  own_slots zero i e l = go (reg.starts zero i e (some zero i e l))
    where
      go : IsTimed r (slots zero) (at z i) ⊎ IsNext r z i → slot_of r (window r z i) (slot_before r (slots_at r z i))
          ≡ Some (slots zero)
      go (inl t) = timed zero i e l _ t
      go (inr t) = absurd (omega arith)
  own_slots (suc n) i e l = go (reg.starts (suc n) i e (some (suc n) i e l)) (λ j p q. own_slots n j p q)
    where
      go : IsTimed r (slots (suc n)) (at z i) ⊎ IsNext r z i
          → ((j : ℕ) → place + j ≡ r.up_len * n → j + r.up_len ≤ length z
          → slot_of r (window r z j) (slot_before r (slots_at r z j)) ≡ Some (slots n))
          → slot_of r (window r z i) (slot_before r (slots_at r z i)) ≡ Some (slots (suc n))
      go (inl t) ih = timed (suc n) i e l _ t
      go (inr t) ih =
          let j : ℕ = i - r.up_len in
          let here : place + j ≡ r.up_len * n = omega arith in
          let before : slot_before r (slots_at r z i) ≡ Some (slots n) =
          before_at r z i (suc j) (omega arith) ∙ slots_suc r z j ∙ ih j here (omega arith) in
          next (suc n) i e l _ t (slots n) before (follow n (below (suc n) i e l))

-- Joining.

pub at_front : (z y : List Item) (i : ℕ) → i < length z → at (z ++ y) i ≡ at z i
at_front z y i l = get_or_append_left z y no_item i l

pub at_back : (z y : List Item) (i : ℕ) → length z ≤ i → at (z ++ y) i ≡ at y (i - length z)
at_back z y i l = get_or-append_right z y (length z) i no_item refl l

-- strings that follow each other in the stream are together such a string
pub regular_join : (r : SlotRule) (slots dnps : ℕ → ℕ) (place : ℕ) (z y : List Item) → IsRegular r slots dnps place z
    → IsRegular r slots dnps (place + length z) y → IsRegular r slots dnps place (z ++ y)
regular_join r slots dnps place z y f g = record {
  inner = λ n t i e a b l. elim (cases_lt i (length z)) [
    | inl lt ↦ ap (λ (x : Item). x.mark) (at_front z y i lt) ∙ f.inner n t i e a b lt
    | inr ge ↦ rw (at_back z y i ge, g.inner n t (i - length z) (omega arith) a b (omega (arith, length-append z y)))
  ];
  starts = λ n i e l. elim (cases_lt i (length z)) [
    | inl lt ↦ front n i lt (f.starts n i e lt)
    | inr ge ↦ behind n i ge (g.starts n (i - length z) (omega arith) (omega (arith, length-append z y)))
  ];
  ends = λ n i e l. elim (cases_lt i (length z)) [
    | inl lt ↦ rw (at_front z y i lt) (f.ends n i e lt)
    | inr ge ↦
        rw (at_back z y i ge) (g.ends n (i - length z) (omega arith) (omega (arith, length-append z y)))
  ];
}
  where
    front : (n i : ℕ) → i < length z → IsTimed r (slots n) (at z i) ⊎ IsNext r z i → IsTimed r (slots n) (at (z ++ y) i)
        ⊎ IsNext r (z ++ y) i
    front n i lt (inl t) = inl (rw (at_front z y i lt) t)
    front n i lt (inr t) = inr (record {
      mark = rw (at_front z y i lt, t.mark);
      behind = t.behind;
    })

    behind : (n i : ℕ) → length z ≤ i → IsTimed r (slots n) (at y (i - length z)) ⊎ IsNext r y (i - length z)
        → IsTimed r (slots n) (at (z ++ y) i) ⊎ IsNext r (z ++ y) i
    behind n i ge (inl t) = inl (rw (at_back z y i ge) t)
    behind n i ge (inr t) =
        inr (record {
          mark = ap (λ (x : Item). x.mark) (at_back z y i ge) ∙ t.mark;
          behind = omega arith;
        })

-- A block.

pub none_regular : (r : SlotRule) (slots dnps : ℕ → ℕ) (place : ℕ) → IsRegular r slots dnps place []
none_regular r slots dnps place = record {
  inner = λ n t i e a b l. absurd (omega arith);
  starts = λ n i e l. absurd (omega arith);
  ends = λ n i e l. absurd (omega arith);
}

-- the items of some bytes are as many, each as its block tells
abbrev AreTold : ℕ → ℕ → Block → List ℕ → ℕ → Type 0
AreTold len epoch b vs i =
    (length (items_from len epoch b i vs) ≡ length vs)
    × ((k : ℕ) → k < length vs → at (items_from len epoch b i vs) k ≡ item_at len epoch b (i + k) (get_or vs k 0))

pub items_told : (len epoch : ℕ) (b : Block) (vs : List ℕ) (i : ℕ) → AreTold len epoch b vs i
items_told len epoch b [] i = (refl, λ k l. absurd (omega arith))
items_told len epoch b (v ∷ vs) i = go (items_told len epoch b vs (i + 1))
  where
    go : AreTold len epoch b vs (i + 1) → AreTold len epoch b (v ∷ vs) i
    go rest = (ap suc rest.0, each)
      where
        each : (k : ℕ) → k < suc (length vs) → at (items_from len epoch b i (v ∷ vs)) k
            ≡ item_at len epoch b (i + k) (get_or (v ∷ vs) k 0)
        each zero l = let e : i ≡ i + 0 = omega arith in ap (λ (j : ℕ). item_at len epoch b j v) e
        each (suc k) l = let e : i + 1 + k ≡ i + suc k = omega arith in rest.1 k (omega arith)
            ∙ ap (λ (j : ℕ). item_at len epoch b j (get_or vs k 0)) e

apart : (len n m t : ℕ) → len * n ≡ len * m + t → t < len → 1 ≤ t → ⊥
apart len n m t e l p =
    elim (cases_lt m n) [
      | inl lt ↦ let q : len * suc m ≤ len * n = mul-le-mul_left {m = suc m} {n = n} len lt in
          let s : len * suc m ≡ len * m + len = omega arith in omega arith
      | inr ge ↦ let q : len * n ≤ len * m = mul-le-mul_left {m = n} {n = m} len ge in omega arith
    ]

module _ (r : SlotRule) (slots dnps : ℕ → ℕ) (epoch place n : ℕ) (b : Block) (sound : IsSound r)
    (is : IsBlock r slots dnps epoch place n b) where
  abbrev mark : ℕ → Mark
  mark i = mark_at r.up_len b i

  pub here : (i : ℕ) → i < length b.field → at (block_items r.up_len epoch b) i ≡ item_at r.up_len epoch
      b i (get_or b.field i 0)
  here i l = let z : 0 + i ≡ i = omega arith in (items_told r.up_len epoch b b.field 0).1 i l
      ∙ ap (λ (j : ℕ). item_at r.up_len epoch b j (get_or b.field i 0)) z

  -- the user packets from n on, by their distance
  distance : (k : ℕ) → n ≤ k → r.up_len * k ≡ r.up_len * n + (k - n) * r.up_len
  distance k l =
      let d : k ≡ n + (k - n) = omega arith in
      ap (λ (j : ℕ). r.up_len * j) d ∙ mul-add r.up_len n (k - n)

  whole : (k i : ℕ) → n ≤ k → place + i ≡ r.up_len * k → (i - (r.up_len * n - place)) % r.up_len ≡ 0
  whole k i l e =
      let q : i - (r.up_len * n - place) ≡ (k - n) * r.up_len + 0 = omega (arith, distance k l) in
      ap (λ (j : ℕ). j % r.up_len) q ∙ mod-mul-add (k - n) r.up_len 0 (omega arith)

  part : (k t i : ℕ) → n ≤ k → place + i ≡ r.up_len * k + t → t < r.up_len → (i - (r.up_len * n - place)) % r.up_len ≡ t
  part k t i l e m =
      let q : i - (r.up_len * n - place) ≡ (k - n) * r.up_len + t = omega (arith, distance k l) in
      ap (λ (j : ℕ). j % r.up_len) q ∙ mod-mul-add (k - n) r.up_len t m

  -- a place from the block's first on is that of user packet n or a later one
  reached : (k i : ℕ) → place + i ≡ r.up_len * k → n ≤ k
  reached k i e =
      elim (cases_lt k n) [
        | inl lt ↦
            let q : r.up_len * suc k ≤ r.up_len * n = mul-le-mul_left {m = suc k} {n = n} r.up_len lt in
            let s : r.up_len * suc k ≡ r.up_len * k + r.up_len = omega arith in
            absurd (omega arith)
        | inr ge ↦ ge
      ]

  inner : (k t i : ℕ) → place + i ≡ r.up_len * k + t → 1 ≤ t → t < r.up_len → i < length b.field → mark i ≡ Inside
  inner k t i e a m l =
      elim (cases_lt (r.up_len * n) (place + length b.field)) [
        | inl lt ↦ elim (cases_lt i (r.up_len * n - place)) [
          | inl before ↦ mark_before r.up_len epoch b (r.up_len * n - place) (is.some lt) i before
          | inr ge ↦
              let later : n ≤ k = elim (cases_lt k n) [
                | inl less ↦
                    let q : r.up_len * suc k ≤ r.up_len * n = mul-le-mul_left {m = suc k} {n = n} r.up_len less in
                    let s : r.up_len * suc k ≡ r.up_len * k + r.up_len = omega arith in
                    absurd (omega arith)
                | inr more ↦ more
              ] in
              elim (cases_eq i (r.up_len * n - place)) [
                | inl same ↦ elim (apart r.up_len n k t (omega arith) m a) [ ]
                | inr ne ↦ mark_inner r.up_len epoch b (r.up_len * n - place) (is.some lt) i (omega arith)
                    (omega (arith, part k t i later e m))
              ]
        ]
        | inr ge ↦ none_marks r.up_len epoch b i (is.none ge)
      ]

  first_at : (i : ℕ) → place + i ≡ r.up_len * n → i < length b.field → mark i ≡ first_mark b.issy
  first_at i e l = mark_first r.up_len epoch b (r.up_len * n - place) (is.some (omega arith)) i (omega arith)

  next_at : (k i : ℕ) → n < k → place + i ≡ r.up_len * k → i < length b.field → (mark i ≡ Next) × (r.up_len ≤ i)
  next_at k i lt e l =
      let q : r.up_len * suc n ≤ r.up_len * k = mul-le-mul_left {m = suc n} {n = k} r.up_len lt in
      let s : r.up_len * suc n ≡ r.up_len * n + r.up_len = omega arith in
      let below : n ≤ k = omega arith in (
        mark_next r.up_len epoch b (r.up_len * n - place) (is.some (omega arith)) i
            (omega arith) (whole k i below e),
        omega arith,
      )

  starts_at : (k i : ℕ) → place + i ≡ r.up_len * k → i < length b.field → is_start (mark i) ≡ true
  starts_at k i e l =
      elim (cases_eq k n) [
        | inl same ↦
            let f : place + i ≡ r.up_len * n = e ∙ ap (λ (j : ℕ). r.up_len * j) same in
            let t = is.issy (omega arith) in
            ap is_start (first_at i f l ∙ t.1)
        | inr ne ↦ ap is_start (next_at k i (omega (arith, reached k i e)) e l).0
      ]

  -- its items are such a string
  pub block_regular : IsRegular r slots dnps place (block_items r.up_len epoch b)
  block_regular = record {
    inner = λ k t i e a m l. let j : i < length b.field = omega (arith, (items_told r.up_len epoch b b.field 0).0) in
        ap (λ (x : Item). x.mark) (here i j) ∙ inner k t i e a m j;
    starts = λ k i e l. let j : i < length b.field = omega (arith, (items_told r.up_len epoch b b.field 0).0) in
        elim (cases_eq k n) [
          | inl same ↦ inl (timed k i e j same)
          | inr ne ↦ inr (let p = next_at k i (omega (arith, reached k i e)) e j in
              record { mark = ap (λ (x : Item). x.mark) (here i j) ∙ p.0; behind = p.1 })
        ];
    ends = λ k i e l. let j : i < length b.field = omega (arith, (items_told r.up_len epoch b b.field 0).0) in
        record {
          can_end = ap (λ (x : Item). x.can_end) (here i j) ∙ can k i e j;
          tells = λ d. ap (λ (x : Item). x.value) (here i j) ∙ is.values k i e j d;
        };
  }
    where
      timed : (k i : ℕ) → place + i ≡ r.up_len * k → i < length b.field → k ≡ n
          → IsTimed r (slots k) (at (block_items r.up_len epoch b) i)
      timed k i e j same =
          let f : place + i ≡ r.up_len * n = e ∙ ap (λ (j : ℕ). r.up_len * j) same in
          let t = is.issy (omega arith) in
          record {
            iscr = t.0;
            mark = ap (λ (x : Item). x.mark) (here i j) ∙ first_at i f j ∙ t.1;
            tells = rw (here i j, t.2, ← same);
          }

      can : (k i : ℕ) → place + i + 1 ≡ r.up_len * suc k → i < length b.field → Ends r.up_len epoch b (i + 1) ≡ true
      can k i e j =
          elim (cases_lt (i + 1) (length b.field)) [
            | inl lt ↦ ends_start r.up_len epoch b (i + 1) (starts_at (suc k) (i + 1) (omega arith) lt)
            | inr ge ↦ ends_field r.up_len epoch b (i + 1) (omega arith)
          ]

-- the user packets that begin below a place, place by place
packets_by : (r : SlotRule) (z : List Item) → (packets_at r z 0 ≡ [])
    × ((x : ℕ) → packets_at r z (suc x) ≡ packets_at r z x ++ with_slot (window r z x)
    (slot_of r (window r z x) (slot_before r (slots_at r z x))))
unfolding packets_at
packets_by r z = (refl, λ x. refl)

module _ (r : SlotRule) (slots dnps : ℕ → ℕ) (place n bound : ℕ) (z : List Item) (sound : IsSound r)
    (follow : Follow r slots dnps bound) (fits : place + length z ≤ r.up_len * bound)
    (reg : IsRegular r slots dnps place z)
    (least : place ≤ r.up_len * n) (close : r.up_len * n < place + r.up_len) where
  pub record UpTo (x : ℕ) : Type 0 where
    pub count : ℕ
    pub packets : packets_at r z x ≡ map (up_of r slots place z) (range_with_len n count)
    pub above : place + x ≤ r.up_len * (n + count)
    pub near : r.up_len * (n + count) < place + x + r.up_len

  more_len : (c : ℕ) → r.up_len * (n + (c + 1)) ≡ r.up_len * (n + c) + r.up_len
  more_len c = omega arith

  -- a place inside a user packet begins none
  none_inside : (x m t : ℕ) → place + x ≡ r.up_len * m + t → 1 ≤ t → t < r.up_len → x + r.up_len ≤ length z
      → slot_of r (window r z x) (slot_before r (slots_at r z x)) ≡ None
  none_inside x m t e a b l =
      let some : x < length z = omega arith in
      let size : r.up_len ≡ suc (r.up_len - 1) = omega arith in
      let split : window r z x ≡ at z x ∷ take (r.up_len - 1) (drop (x + 1) z) =
      ap (λ (k : ℕ). take k (drop x z)) size ∙ ap (take (suc (r.up_len - 1))) (drop_more z x no_item some) in
      none_of r (window r z x) (slot_before r (slots_at r z x))
      (ap is_one split ∙ none_alone (at z x) (take (r.up_len - 1) (drop (x + 1) z))
      (ap is_start (reg.inner m t x e a b some)))

  up_to : (x : ℕ) → x + r.up_len ≤ length z + 1 → UpTo x
  up_to zero l = record {
    count = 0;
    packets = (packets_by r z).0;
    above = let e : n + 0 ≡ n = omega arith in
        omega (arith, least);
    near = let e : n + 0 ≡ n = omega arith in omega (arith, close);
  }
  up_to (suc x) l = go (up_to x (omega arith))
    where
      go : UpTo x → UpTo (suc x)
      go p =
          elim (cases_eq (place + x) (r.up_len * (n + p.count))) [
            | inl e ↦
                let i : r.up_len * (n + p.count) - place ≡ x = omega arith in
                let own = own_slots r slots dnps place bound z sound follow fits reg (n + p.count) x e (omega arith) in
                record {
                  count = p.count + 1;
                  packets =
                      rw (
                        (packets_by r z).1 x,
                        p.packets,
                        own,
                        ← i,
                        ← (map-range_with_len_more (up_of r slots place z) n p.count (n + p.count) refl),
                      );
                  above = omega (arith, more_len p.count);
                  near = omega (arith, more_len p.count);
                }
            | inr ne ↦
                let pos : 1 ≤ n + p.count = elim (cases_eq (n + p.count) 0) [
                  | inl zero_is ↦ let q : r.up_len * (n + p.count) ≡ r.up_len * 0 = rw zero_is in
                      absurd (omega arith)
                  | inr some ↦ omega (arith, some)
                ] in
                let m : ℕ = n + p.count - 1 in
                let d : n + p.count ≡ m + 1 = omega arith in
                let s : r.up_len * (n + p.count) ≡ r.up_len * m + r.up_len = ap (λ (k : ℕ). r.up_len * k) d
                ∙ omega arith in
                let none = none_inside x m (place + x - r.up_len * m) (omega arith) (omega arith)
                (omega arith) (omega arith) in
                record {
                  count = p.count;
                  packets = rw ((packets_by r z).1 x, none, append-nil (packets_at r z x), p.packets);
                  above = omega arith;
                  near = omega arith;
                }
          ]

  rises : (j k : ℕ) → j ≤ k → r.up_len * j ≤ r.up_len * k
  rises j k l = mul-le-mul_left {m = j} {n = k} r.up_len l

  pub whole_packets : AreWhole r slots place n z
  whole_packets =
      elim (cases_lt (length z + 1) r.up_len) [
        | inl lt ↦
            let x : length z + 1 - r.up_len ≡ 0 = omega arith in
            record {
              count = 0;
              packets = ap (packets_at r z) x ∙ (packets_by r z).0;
              inside = λ k a b. absurd (omega arith);
              all = λ k a b. absurd (omega (arith, rises n k a, least));
            }
        | inr ge ↦
            let p = up_to (length z + 1 - r.up_len) (omega arith) in
            record {
              count = p.count;
              packets = p.packets;
              inside = λ k a b.
                  let q = rises (k + 1) (n + p.count) (omega arith) in
                  let s : r.up_len * (k + 1) ≡ r.up_len * k + r.up_len = omega arith in
                  omega arith;
              all = λ k a b. elim (cases_lt k (n + p.count)) [
                | inl is ↦ is
                | inr no_less ↦ absurd (omega (arith, rises (n + p.count) k no_less))
              ];
            }
      ]

-- Gaps.

given_append : (r : SlotRule) (s : State) (z y : List Item) → given r s (z ++ y) ≡ given r s z
    ++ given r (after r s z) y
given_append r s [] y = refl
given_append r s (x ∷ z) y =
    ap (λ (l : List UserPacket). (turn r s x).given ++ l) (given_append r (turn r s x).state z y)
    ∙ sym (append_assoc (turn r s x).given (given r (turn r s x).state z) (given r (after r (turn r s x).state z) y))

none_empty : (r : SlotRule) → 2 ≤ r.up_len → user_packets r [] ≡ []
none_empty r two = let e : 0 + 1 - r.up_len ≡ 0 = omega arith in ap (packets_at r []) e ∙ (packets_by r []).0

from_start : (r : SlotRule) → 2 ≤ r.up_len → (z : List Item) → user_packets r z ≡ given r (state_of [] None) z
from_start r two z =
    rw ((reads r two z [] (state_of [] None) (begins_idle r (omega arith))).gains, none_empty r two)

gap_given : (r : SlotRule) (s : State) (epoch : ℕ) (y : List Item) → given r s (gap epoch ∷ y) ≡ given
    r (state_of [] None) y
unfolding turn
gap_given r s epoch y = refl

-- across a gap no user packet goes on
pub gap_parts : (r : SlotRule) (z y : List Item) (epoch : ℕ) → IsSound r
    → user_packets r (z ++ gap epoch ∷ y) ≡ user_packets r z ++ user_packets r y
gap_parts r z y epoch sound =
    let two : 2 ≤ r.up_len = omega arith in
    from_start r two (z ++ gap epoch ∷ y)
    ∙ given_append r (state_of [] None) z (gap epoch ∷ y)
    ∙ ap₂ (λ (a b : List UserPacket). a ++ b) (sym (from_start r two z)) (rw (
      gap_given r (after r
          (state_of [] None) z) epoch y,
      ← (from_start r two y),
    ))

-- the ISCR of a slot tells it among those of its range
pub iscr_is : IscrFindsSlot → (r : SlotRule) (epoch slot : ℕ) → IsSound r
    → InRange r.times.num r.times.den r.times.epoch epoch slot
    → slot_of_iscr r.times epoch (slot_start r.times.num r.times.den slot % 2 ^ 22) ≡ Some slot
iscr_is law r epoch slot sound range =
    sym (iscr_found law r.times sound.times epoch (slot_start r.times.num r.times.den slot % 2 ^ 22) slot
    (sym (law r.times.num r.times.den r.times.epoch epoch slot sound.times.some sound.times.long sound.times.most
    range)) range.0 range.1 refl)
