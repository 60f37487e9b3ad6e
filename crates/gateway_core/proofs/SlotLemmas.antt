-- All of a slot of a group has come, and goes on; or the stream of its common PLP ends.
use Rattle.std.proofs.Common.{◌≡◌, ◌≢◌, ◌⊎◌, ℕ, ◌+◌, ◌<◌, ◌≤◌, Bool, true, false, inl, inr, List, [], ◌∷◌, ◌++◌}
use Rattle.std.proofs.Common.{length, take, Some, None, refl, ap, ap₂, sym, subst, ◌∙◌, arith, append-nil}
use Rattle.std.proofs.Common.{length-append}
use Rattle.std.specs.Prelude.{slice_get, unwrap_or, is_some}
use Rattle.std.specs.declared.option.Option.{Option}
use Rattle.std.proofs.lemmas.Bool.{cases_eq, cond-true, cond-false, true≢false, false_from_ne_true, true_from_ne_false}
use Rattle.std.proofs.lemmas.List.{take_more}
use Rattle.std.proofs.lemmas.Option.{slice_get_past, slice_get_within, get_or_from_slice_get}
use Rattle.std.proofs.lemmas.Simd.{map-map}
use Rattle.terms.proofs.CaseLemmas.{bool_cases}
use Rattle.terms.proofs.OptionLemmas.{none_some}
use Rattle.plp_config.specs.Rules.{AllRules}
use Rattle.plp_config.specs.declared.config.Config.{Config}
use Rattle.ts_packet.specs.Null.{null_packet}
use Rattle.null_delete.specs.Deletion.{packet_at}
use Rattle.common_plp.specs.Groups.{is_common, group_of, common_of, own_places}
use Rattle.common_plp.specs.Shared.{common_packet, own_packet, is_shared}
use Rattle.common_plp.specs.Split.{slot_of, group_streams, split, longest}
use Rattle.common_plp.proofs.LawLemmas.{split_slot, split_length, has_common, own_case}
use Rattle.gateway_core.specs.Order.{IsInput, turn_of, is_member}
use Rattle.gateway_core.specs.Slots.{held_at, going_on, kept_of, slot_in}
use Rattle.gateway_core.specs.Splitting.{IsSplit, Splits}
use Rattle.gateway_core.proofs.MemberLemmas.{member_input, self_member, alone_is, alone_same, of_common, own_of}
use Rattle.gateway_core.proofs.MemberLemmas.{own_same}
use Rattle.gateway_core.proofs.MemberLemmas.{common_is, turn_is, turn_common, longest_some}
use Rattle.gateway_core.proofs.SplitLemmas.{past_none}

-- one packet more of a stream
more_given : {c : Config} {came : ℕ → List (List ℕ)} {over : ℕ → Bool} {gave : List (List ℕ)} {closed : Bool} {plp : ℕ}
    (packet : List ℕ) → IsSplit c came over gave closed plp → closed ≡ false
    → ((source : ℕ) → source < length c.plps → is_member c (turn_of c plp) source ≡ true
    → (length gave + 1 ≤ length (came source)) ⊎ (over source ≡ true))
    → length gave < length (split c came plp) → packet ≡ packet_at (split c came plp) (length gave)
    → IsSplit c came over (gave ++ packet ∷ []) closed plp
more_given {c} {came} {over} {gave} {closed} {plp} packet s off settled inside is =
    let size : length (gave ++ packet ∷ []) ≡ length gave + 1 = length-append gave (packet ∷ []) in
    record {
      settled = λ q lt member. elim (settled q lt member) [ inl le ↦ inl (omega (arith, le, size)) | inr on ↦ inr on ];
      front = ap₂ (λ (l : List (List ℕ)) (p : List ℕ). l ++ p ∷ []) s.front is
          ∙ sym (take_more (split c came plp) (length gave) null_packet inside)
          ∙ ap (λ (n : ℕ). take n (split c came plp)) (sym size);
      whole = λ on. absurd (true≢false (sym on ∙ off));
    }

-- All of the slot has come of the inputs of a group, and the stream of its first PLP goes on.
pub record IsReady (c : Config) (held : List (Option (List ℕ))) (over closed : ℕ → Bool) (turn : ℕ) : Type 0 where
  pub rules : AllRules c
  pub inside : turn < length c.plps
  pub first : common_of c turn ≡ None
  pub going : closed turn ≡ false
  pub come : (plp : ℕ) → plp < length c.plps → is_member c turn plp ≡ true → over plp ≡ false → held_at held plp ≢ None

-- what goes on of what is held
abbrev pub passing : Bool → Option (List ℕ) → List (List ℕ)
passing shared None = []
passing shared (Some packet) = going_on shared packet ∷ []

-- what went on of a slot
pub record IsPassed (c : Config) (held after : List (Option (List ℕ))) (gave more : ℕ → List (List ℕ))
    (turn : ℕ) (shared : Bool)
    : Type 0 where
  pub lead : is_common c turn ≡ true → more turn ≡ gave turn ++ common_packet (slot_in c held turn) ∷ []
  pub own : (plp : ℕ) → plp < length c.plps → is_member c turn plp ≡ true
      → more plp ≡ gave plp ++ passing shared (held_at held plp)
  pub rest : (plp : ℕ) → is_member c turn plp ≡ false → plp ≢ turn → more plp ≡ gave plp
  pub on : is_common c turn ≡ true → shared ≡ is_shared (slot_in c held turn)
  pub off : is_common c turn ≡ false → shared ≡ false
  pub kept : (plp : ℕ) → plp < length c.plps → held_at after plp ≡ kept_of c held turn plp

-- a packet of an input is held
pub record HasSome (c : Config) (held : List (Option (List ℕ))) (turn : ℕ) : Type 0 where
  pub plp : ℕ
  pub inside : plp < length c.plps
  pub member : is_member c turn plp ≡ true
  pub some : held_at held plp ≢ None

-- what is known of an input of the group
record Known (c : Config) (held : List (Option (List ℕ))) (came : ℕ → List (List ℕ)) (over : ℕ → Bool) (gave : ℕ
    → List (List ℕ))
    (turn plp : ℕ) : Type 0 where
  input : IsInput c plp
  turn_is : turn_of c plp ≡ turn
  live : over plp ≡ false → length (gave plp) ≡ length (gave turn)
  open_if : held_at held plp ≢ None → over plp ≡ false
  few : length (gave plp) ≤ length (gave turn)
  done : over plp ≡ true → length (came plp) ≤ length (gave plp)
  next : (length (gave turn) + 1 ≤ length (came plp)) ⊎ (over plp ≡ true)
  here : held_at held plp ≡ slice_get (came plp) (length (gave turn))

some_within : (xs : List (List ℕ)) (n : ℕ) (o : Option (List ℕ)) → o ≡ slice_get xs n → o ≢ None → n < length xs
some_within xs n None e some = absurd (some refl)
some_within xs n (Some x) e some = slice_get_within xs n x (sym e)

-- an option by cases
by_option : {P : Type 0} (o : Option (List ℕ)) → (o ≡ None → P) → ((x : List ℕ) → o ≡ Some x → P) → P
by_option None none some = none refl
by_option (Some x) none some = some x refl

is_there : (x : List ℕ) (o : Option (List ℕ)) → o ≡ Some x → o ≢ None
is_there x o e f = none_some x (sym f ∙ e)

one_longer : (xs ys : List (List ℕ)) (x : List ℕ) → ys ≡ xs ++ x ∷ [] → length ys ≡ length xs + 1
one_longer xs ys x e = ap length e ∙ length-append xs (x ∷ [])

-- the first PLP of the group of an input outside of a group is outside too
first_outside : (c : Config) (turn plp : ℕ) (o : Option ℕ) → common_of c plp ≡ o → is_member c turn plp ≡ false
    → is_member c turn (unwrap_or o plp) ≡ false
first_outside c turn plp None e off = off
first_outside c turn plp (Some m) e off =
    let h = has_common c plp m e in
    false_from_ne_true _ (λ on. true≢false (sym h.is ∙ (member_input c turn m h.inside on).1))

-- what is held of an input behind a slot, and how much went on of it
record After (c : Config) (after : List (Option (List ℕ))) (came more : ℕ → List (List ℕ)) (over : ℕ → Bool) (plp : ℕ) :
    Type 0 where
  held : held_at after plp ≡ slice_get (came plp) (length (more plp))
  few : length (came plp) ≤ length (more plp) + 1
  behind : length (more plp) ≤ length (more (turn_of c plp))
  step : over plp ≡ false → length (more plp) ≡ length (more (turn_of c plp))

module _ {c : Config} {held : List (Option (List ℕ))} {came gave : ℕ → List (List ℕ)}
    {over closed : ℕ → Bool} {turn : ℕ}
    (s : Splits c held came over gave closed) (r : IsReady c held over closed turn) where
  known : (plp : ℕ) → plp < length c.plps → is_member c turn plp ≡ true → Known c held came over gave turn plp
  known plp inside member =
      let i = member_input c turn plp inside member in
      let t = turn_is c turn plp r.rules r.inside r.first member in
      let same : length (gave (turn_of c plp)) ≡ length (gave turn) = ap (λ (k : ℕ). length (gave k)) t in
      let live : over plp ≡ false → length (gave plp) ≡ length (gave turn) = λ off. s.step plp i off ∙ same in
      let done : over plp ≡ true → length (came plp) ≤ length (gave plp) = λ on.
      ((s.each plp inside).whole (s.closed_is plp i ∙ on) plp inside (alone_is c plp i.1)).1 in
      let few : length (gave plp) ≤ length (gave turn) = omega (arith, s.behind plp i, same) in
      record {
        input = i;
        turn_is = t;
        live = live;
        open_if = λ some. false_from_ne_true (over plp) (λ on. some (s.held_is plp i ∙ slice_get_past (came plp)
            (length (gave plp)) (done on)));
        few = few;
        done = done;
        next = bool_cases (over plp) (λ on. inr on)
            (λ off. inl (let w = some_within (came plp) (length (gave plp)) (held_at held plp)
            (s.held_is plp i) (r.come plp inside member off) in omega (arith, w, live off)));
        here = bool_cases (over plp)
            (λ on. s.held_is plp i ∙ slice_get_past (came plp) (length (gave plp)) (done on)
            ∙ sym (slice_get_past (came plp) (length (gave turn)) (omega (arith, done on, few))))
            (λ off. s.held_is plp i ∙ ap (slice_get (came plp)) (live off));
      }

  -- what the inputs of a common PLP's group have in the slot
  slot_is : is_common c turn ≡ true
      → slot_in c held turn ≡ slot_of (group_streams c came (group_of c turn)) (length (gave turn))
  slot_is common =
      own_same c (held_at held) (λ q. slice_get (came q) (length (gave turn))) (group_of c turn)
      (λ q lt own. (known q lt (of_common c turn q common own)).here)
      ∙ sym (map-map (λ stream. slice_get stream (length (gave turn))) came (own_places c (group_of c turn)))

  -- what goes on of an input is the next packet of its stream
  next_packet : (plp : ℕ) (shared : Bool) (packet : List ℕ)
      → (is_common c turn ≡ true → shared ≡ is_shared (slot_in c held turn))
      → (is_common c turn ≡ false → shared ≡ false)
      → plp < length c.plps → is_member c turn plp ≡ true → slice_get (came plp) (length (gave turn)) ≡ Some packet
      → going_on shared packet ≡ packet_at (split c came plp) (length (gave turn))
  next_packet plp shared packet on off inside member is =
      let n : ℕ = length (gave turn) in
      let k = known plp inside member in
      let here : packet_at (came plp) n ≡ packet = get_or_from_slice_get (came plp) n packet null_packet is in
      bool_cases (is_common c turn)
      (λ common.
      let o = own_of c turn plp common member in
      let from : common_of c plp ≡ Some turn = common_is c turn plp r.rules r.inside common o.0 o.1 in
      let stream : packet_at (split c came plp) n ≡ own_packet (slot_of (group_streams c came (group_of c plp)) n)
      (packet_at (came plp) n) =
      split_slot c came plp n ∙ own_case (is_common c plp) (is_some (common_of c plp)) _ _ _ o.0 (ap is_some from) in
      let slot : is_shared (slot_in c held turn) ≡ is_shared (slot_of (group_streams c came (group_of c plp)) n) =
      ap is_shared (slot_is common ∙ ap (λ (g : ℕ). slot_of (group_streams c came g) n) (sym o.1)) in
      ap₂ going_on (on common ∙ slot) (sym here) ∙ sym stream)
      (λ own.
      let same : plp ≡ turn = alone_same c turn plp own member in
      let none : common_of c plp ≡ None = ap (common_of c) same ∙ r.first in
      let stream : packet_at (split c came plp) n ≡ packet_at (came plp) n =
      split_slot c came plp n ∙ cond-false (is_common c plp) _ _ k.input.1
      ∙ cond-false (is_some (common_of c plp)) _ _ (ap is_some none) in
      ap (λ (b : Bool). going_on b packet) (off own) ∙ sym here ∙ sym stream)

  -- so is what goes in the common PLP
  lead_packet : is_common c turn ≡ true
      → common_packet (slot_in c held turn) ≡ packet_at (split c came turn) (length (gave turn))
  lead_packet common =
      ap common_packet (slot_is common)
      ∙ sym (split_slot c came turn (length (gave turn)) ∙ cond-true (is_common c turn) _ _ common)

  -- ---- the stream of a common PLP ends

  pub stream_ended : {shut : ℕ → Bool} → is_common c turn ≡ true
      → ((plp : ℕ) → plp < length c.plps → is_member c turn plp ≡ true → held_at held plp ≡ None)
      → shut turn ≡ true → ((plp : ℕ) → plp ≢ turn → shut plp ≡ closed plp) → Splits c held came over gave shut
  stream_ended common none on others = record {
    each = λ plp lt. record {
      settled = (s.each plp lt).settled;
      front = (s.each plp lt).front;
      whole = λ is q inside member. elim (cases_eq plp turn) [
        | inl same ↦
            let here : is_member c turn q ≡ true = subst (λ (t : ℕ). is_member c t q ≡ true) same member in
            let k = known q inside here in
            let ended : over q ≡ true = true_from_ne_false (over q)
            (λ off. r.come q inside here off (none q inside here)) in
            (ended, omega (arith, k.done ended, k.few, ap (λ (t : ℕ). length (gave t)) same))
        | inr differ ↦ (s.each plp lt).whole (sym (others plp differ) ∙ is) q inside member
      ];
    };
    closed_is = λ plp i. others plp (λ e. true≢false (sym common ∙ ap (is_common c) (sym e) ∙ i.1)) ∙ s.closed_is plp i;
    held_is = s.held_is;
    few = s.few;
    behind = s.behind;
    step = s.step;
  }

  -- ---- a slot goes on

  module _ {after : List (Option (List ℕ))} {more : ℕ → List (List ℕ)} {shared : Bool}
      (p : IsPassed c held after gave more turn shared) where
    -- what went on of an input that did not end, and of one that did
    gave_one : (plp : ℕ) (x : List ℕ) → plp < length c.plps → is_member c turn plp ≡ true → held_at held plp ≡ Some x
        → more plp ≡ gave plp ++ going_on shared x ∷ []
    gave_one plp x lt member e =
        p.own plp lt member ∙ ap (λ (o : Option (List ℕ)). gave plp ++ passing shared o) e

    gave_none : (plp : ℕ) → plp < length c.plps → is_member c turn plp ≡ true → held_at held plp ≡ None
        → more plp ≡ gave plp
    gave_none plp lt member e =
        p.own plp lt member ∙ ap (λ (o : Option (List ℕ)). gave plp ++ passing shared o) e ∙ append-nil (gave plp)

    -- each stream goes on

    turn_split : HasSome c held turn → is_common c turn ≡ true → IsSplit c came over (more turn) (closed turn) turn
    turn_split some common =
        let k = known some.plp some.inside some.member in
        let least = some_within (came some.plp) (length (gave turn)) (held_at held some.plp) k.here some.some in
        let most = longest_some c came (group_of c turn) some.plp some.inside (rw common at some.member) in
        let size : length (split c came turn) ≡ longest (group_streams c came (group_of c turn)) =
        split_length c came turn ∙ cond-true (is_common c turn) _ _ common in
        rw (p.lead common)
        (more_given (common_packet (slot_in c held turn)) (s.each turn r.inside) r.going
        (λ q lt member.
        (known q lt (subst (λ (t : ℕ). is_member c t q ≡ true) (turn_common c turn common) member)).next)
        (omega (arith, least, most, size)) (lead_packet common))

    member_split : (plp : ℕ) → plp < length c.plps → is_member c turn plp ≡ true
        → IsSplit c came over (more plp) (closed plp) plp
    member_split plp lt member =
        let k = known plp lt member in
        by_option (held_at held plp)
        (λ none. rw (gave_none plp lt member none) (s.each plp lt))
        (λ x e.
        let some = is_there x (held_at held plp) e in
        let off = k.open_if some in
        let n = k.live off in
        let inside = some_within (came plp) (length (gave turn)) (held_at held plp) k.here some in
        let size : length (split c came plp) ≡ length (came plp) =
        split_length c came plp ∙ cond-false (is_common c plp) _ _ k.input.1 in
        rw (gave_one plp x lt member e)
        (more_given (going_on shared x) (s.each plp lt) (s.closed_is plp k.input ∙ off)
        (λ q inside member. elim (known q inside (subst (λ (t : ℕ). is_member c t q ≡ true) k.turn_is member)).next [
          | inl le ↦ inl (omega (arith, le, n))
          | inr on ↦ inr on
        ])
        (omega (arith, inside, size, n))
        (next_packet plp shared x p.on p.off lt member (sym k.here ∙ e)
        ∙ ap (λ (m : ℕ). packet_at (split c came plp) m) (sym n))))

    each_split : HasSome c held turn → (plp : ℕ) → plp < length c.plps
        → IsSplit c came over (more plp) (closed plp) plp
    each_split some plp lt =
        bool_cases (is_member c turn plp) (λ member. member_split plp lt member)
        (λ off. elim (cases_eq plp turn) [
          | inl same ↦ subst (λ (k : ℕ). IsSplit c came over (more k) (closed k) k) (sym same)
              (turn_split some (true_from_ne_false (is_common c turn) (λ own. true≢false (sym (alone_is c turn own)
              ∙ subst (λ (k : ℕ). is_member c turn k ≡ false) same off))))
          | inr differ ↦ rw (p.rest plp off differ) (s.each plp lt)
        ])

    lead_least : length (gave turn) ≤ length (more turn)
    lead_least = bool_cases (is_common c turn)
        (λ common. omega (arith, one_longer (gave turn) (more turn) _ (p.lead common)))
        (λ own. omega (
          arith,
          ap length (p.own turn r.inside (alone_is c turn own)),
          length-append (gave turn) (passing shared (held_at held turn)),
        ))

    -- Nothing is held of an input of the group, and as much went on as of the first PLP of its group, unless it ended;
    member_after : (plp : ℕ) → plp < length c.plps → is_member c turn plp ≡ true → After c after came more over plp
    member_after plp lt member =
        let k = known plp lt member in
        let first : length (more (turn_of c plp)) ≡ length (more turn) = ap (λ (t : ℕ). length (more t)) k.turn_is in
        let none : held_at after plp ≡ None = p.kept plp lt ∙ cond-true (is_member c turn plp) _ _ member in
        let past : length (came plp) ≤ length (more plp) → held_at after plp
        ≡ slice_get (came plp) (length (more plp)) =
        λ le. none ∙ sym (slice_get_past (came plp) (length (more plp)) le) in
        by_option (held_at held plp)
        (λ e.
        let same = ap length (gave_none plp lt member e) in
        let whole = past_none (came plp) (length (gave plp)) (sym (s.held_is plp k.input) ∙ e) in
        let least = lead_least in
        record {
          held = past (omega (arith, same, whole));
          few = omega (arith, same, whole);
          behind = omega (arith, same, k.few, least, first);
          step = λ off. absurd (r.come plp lt member off e);
        })
        (λ x e.
        let n = k.live (k.open_if (is_there x (held_at held plp) e)) in
        let size = one_longer (gave plp) (more plp) (going_on shared x) (gave_one plp x lt member e) in
        let few = s.few plp k.input in
        let equal : length (more plp) ≡ length (more turn) =
        bool_cases (is_common c turn)
        (λ common. omega (arith, size, n, one_longer (gave turn) (more turn) _ (p.lead common)))
        (λ own. ap (λ (t : ℕ). length (more t)) (alone_same c turn plp own member)) in
        record {
          held = past (omega (arith, few, size));
          few = omega (arith, few, size);
          behind = omega (arith, equal, first);
          step = λ alive. equal ∙ sym first;
        })

    -- of one outside of it nothing went on, nor of the first PLP of its group.
    other_after : (plp : ℕ) → IsInput c plp → is_member c turn plp ≡ false → After c after came more over plp
    other_after plp i off =
        let own : more plp ≡ gave plp = p.rest plp off (λ e. true≢false (sym (alone_is c turn (ap (is_common c) (sym e)
        ∙ i.1)) ∙ subst (λ (k : ℕ). is_member c turn k ≡ false) e off)) in
        let first : more (turn_of c plp) ≡ gave (turn_of c plp) =
        p.rest (turn_of c plp) (first_outside c turn plp (common_of c plp) refl off)
        (λ e. true≢false (sym (self_member c plp i) ∙ subst (λ (k : ℕ). is_member c k plp ≡ false) (sym e) off)) in
        record {
          held = rw own (p.kept plp i.0 ∙ cond-false (is_member c turn plp) _ _ off ∙ s.held_is plp i);
          few = rw own (s.few plp i);
          behind = rw (own, first) (s.behind plp i);
          step = λ on. rw (own, first) (s.step plp i on);
        }

    pub slot_passed : HasSome c held turn → Splits c after came over more closed
    slot_passed some =
        let a : (plp : ℕ) → IsInput c plp → After c after came more over plp = λ plp i.
        bool_cases (is_member c turn plp) (λ member. member_after plp i.0 member) (λ off. other_after plp i off) in
        record {
          each = each_split some;
          closed_is = s.closed_is;
          held_is = λ plp i. (a plp i).held;
          few = λ plp i. (a plp i).few;
          behind = λ plp i. (a plp i).behind;
          step = λ plp i on. (a plp i).step on;
        }
