-- Whether a group that is closed was the join: then records are due, and else none.
use Rattle.std.proofs.Common.{◌≡◌, ℕ, ◌-◌, ◌≤◌, ◌<◌, ◌==◌, Bool, true, false, List, [], ◌∷◌, ◌++◌, length, Option, Some}
use Rattle.std.proofs.Common.{None, refl, ap, sym, subst, ◌∙◌, arith, append-nil, length-append}
use Rattle.std.specs.Prelude.{is_some, nat_lt, map}
use Rattle.std.specs.List.{range_with_len}
use Rattle.std.proofs.lemmas.Bool.{true≢false, ltb-false, eqb-false}
use Rattle.terms.proofs.OptionLemmas.{none_some, neither}
use Rattle.t2mi_packet.specs.declared.packet.Packet.{Packet}
use Rattle.t2mi_stream.specs.UnpiperStandsFor.{is_ready}
use Rattle.frame_groups.specs.Groups.{Group}
use Rattle.frame_groups.specs.Modulated.{Numbered, Rules, FrameRecord, gap_record, group_record, number_behind}
use Rattle.frame_groups.specs.Modulated.{gaps_behind, own_record, past_with, past_after, records_with, records_from}
use Rattle.frame_groups.specs.Laws.{ModulatedFront}
use Rattle.frame_groups.specs.Due.{RecordsAreDue}
use Rattle.frame_groups.specs.Records.{record_of}
use Rattle.frame_groups.specs.Sequenced.{Follows, Sequenced, known_number}
use Rattle.frame_groups.specs.Waits.{waits_by}
use Rattle.frame_groups.specs.declared.cause.MuteCause.{MuteCause}
use Rattle.frame_groups.specs.Tests.{rules}
use Rattle.modulator.specs.Modulating.{StandsAt, IsSettled, has_record}
use Rattle.modulator.specs.StandsFor.{records_due}
use Rattle.modulator.specs.declared.modulating.Modulating.{Modulating}
use Rattle.t2mi_stream.proofs.NextLemmas.{IsIdle}
use Rattle.modulator.proofs.StandsLemmas.{all_given, comes_next}
use Rattle.modulator.proofs.TookLemmas.{now_of}

none_from : {X : Type 0} (o : Option X) → is_some o ≡ false → o ≡ None
none_from None e = refl
none_from (Some x) e = absurd (true≢false e)

-- there are records behind the join
some_behind : (r : Rules) (gs : List Group) (b : Numbered) (past : List Numbered) → past_after r [] gs ≡ b ∷ past
    → 0 < length (records_from r [] gs)
some_behind r [] b past e = absurd (let n = ap length e in omega (arith, n))
some_behind r (g ∷ gs) b past e = go (some_behind r gs b past) (number_behind r [] g) e
  where
    go : (past_after r [] gs ≡ b ∷ past → 0 < length (records_from r [] gs)) → (o : Option ℕ)
        → past_after r (past_with [] g o) gs ≡ b ∷ past
        → 0 < length ((gaps_behind [] o ++ own_record r [] g o) ++ records_from r (past_with [] g o) gs)
    go more None e = more e
    go more (Some n) e = omega arith

-- a group with a number adds a record
some_with : (r : Rules) (others : List FrameRecord) (past : List Numbered) (h : Group) (n : ℕ)
    → Some n ≡ number_behind r past h
    → 0 < length (others ++ records_with r past h)
some_with r others past h n e =
    subst (λ (o : Option ℕ). 0 < length (others ++ (gaps_behind past o ++ own_record r past h o))) e
    (omega (
      arith,
      length-append others (gaps_behind past (Some n) ++ group_record r past h n ∷ []),
      length-append (gaps_behind past (Some n)) (group_record r past h n ∷ []),
    ))

-- the number of a group under way is known behind the join alone
some_before : (r : Rules) (closed : List Group) (past : List Numbered) (h : Group) (n : ℕ)
    → past ≡ past_after r [] closed
    → Some n ≡ known_number r past h → 0 < length (records_from r [] closed)
some_before r closed [] h n is e = none_some n (sym e)
some_before r closed (b ∷ past) h n is e = some_behind r closed b past (sym is)

-- a closed group with a number whose record does not wait: it was given
given_own : (r : Rules) (closed : List Group) (past : List Numbered) (h : Group) (n next : ℕ) (fault : Option MuteCause)
    (given : List FrameRecord)
    → Follows r closed past h (Some n) next true fault given → waits_by (Some n) next true fault ≡ false
    → 0 < length given
given_own r closed past h n next fault given f w =
    let t = neither (nat_lt next n) (next == n) _ _ w in
    let low : n ≤ next = ltb-false next n t.0 in
    let other : next ≡ n → ⊥ = eqb-false next n t.1 in
    let e = f.records.all (omega (arith, low, other, f.records.most)) in
    subst (λ (l : List FrameRecord). 0 < length l) (sym e)
    (some_with r (records_from r [] closed) past h n f.number_is)

-- a group under way with a number, no gap before it: those before were given
given_others : (r : Rules) (closed : List Group) (past : List Numbered) (h : Group) (n next : ℕ)
    (fault : Option MuteCause)
    (given : List FrameRecord)
    → Follows r closed past h (Some n) next false fault given → waits_by (Some n) next false fault ≡ false
    → 0 < length given
given_others r closed past h n next fault given f w =
    let t = neither (nat_lt next n) false _ (record { frame = n; mute = fault }) w in
    let low : n ≤ next = ltb-false next n t.0 in
    let all : n - next ≡ 0 = omega (arith, low) in
    let gaps : given ++ map gap_record (range_with_len next (n - next)) ≡ given =
    ap (λ (k : ℕ). given ++ map gap_record (range_with_len next k)) all ∙ append-nil given in
    let e = sym gaps ∙ f.records.front (f.under_way refl n refl) in
    let some = some_before r closed past h n f.past_is f.number_is in
    subst (λ (l : List FrameRecord). 0 < length l) (sym e)
    (omega (arith, some, length-append (records_from r [] closed) (gaps_behind past (Some n))))

-- behind the join records were given, if none waits
given_some : (r : Rules) (past : List Numbered) (g : Option Group) (number : Option ℕ) (next : ℕ) (closing : Bool)
    (fault : Option MuteCause)
    (ps : List Packet) (given : List FrameRecord)
    → Sequenced r past g number next closing fault ps given → is_some number ≡ true
    → waits_by number next closing fault ≡ false
    → 0 < length given
given_some r past None number next closing fault ps given (a, o, b, c, d) some w = absurd
    (true≢false (sym some ∙ ap is_some b))
given_some r past (Some h) None next closing fault ps given q some w = absurd (true≢false (sym some))
given_some r past (Some h) (Some n) next true fault ps given (closed, a, f) some w =
    given_own r closed past h n next fault given f w
given_some r past (Some h) (Some n) next false fault ps given (closed, a, f) some w =
    given_others r closed past h n next fault given f w

-- before it none were
given_none : (r : Rules) (past : List Numbered) (g : Option Group) (number : Option ℕ) (next : ℕ) (closing : Bool)
    (fault : Option MuteCause)
    (ps : List Packet) (given : List FrameRecord)
    → Sequenced r past g number next closing fault ps given → is_some number ≡ false → given ≡ []
given_none r past None number next closing fault ps given (a, o, b, c, d) none = d
given_none r past (Some h) None next closing fault ps given (closed, a, f) none = f.records.1
given_none r past (Some h) (Some n) next closing fault ps given q none = absurd (true≢false none)

module _ (laws : RecordsAreDue) (front : ModulatedFront) (m : Modulating) (bytes : List ℕ) (given : List FrameRecord)
    (none : is_ready m.unpiper ≡ false → IsIdle m.unpiper) (settled : IsSettled m) (h : StandsAt m bytes given) where
  idle : has_record m ≡ false → records_due m.sequence.group.network m.finished bytes ≡ given
  idle w = all_given laws m bytes given (none (settled.done w)) settled w h

  -- the join was closed: records are due
  pub joined_some : is_some m.sequence.progress.number ≡ true
      → 0 < length (records_due m.sequence.group.network m.finished bytes)
  joined_some some = go (has_record m) refl
    where
      go : (t : Bool) → has_record m ≡ t → 0 < length (records_due m.sequence.group.network m.finished bytes)
      go true w =
          let now =
          now_of (rules m.sequence.group.network) h.keeps.past h.keeps.group m.sequence.progress _ given
          h.keeps.sequenced w in
          let next = comes_next laws front m bytes given now.waiting now.group none now.is h now.has in
          subst (λ (l : List FrameRecord). 0 < length l) (sym next.1)
          (omega (arith, length-append given (record_of now.group now.waiting ∷ next.0)))
      go false w =
          let at = m.sequence.progress in
          subst (λ (l : List FrameRecord). 0 < length l) (sym (idle w))
          (given_some (rules m.sequence.group.network) h.keeps.past h.keeps.group at.number at.next at.closing
          at.fault _ given
          h.keeps.sequenced some w)

  -- it was not: none are
  pub joined_none : is_some m.sequence.progress.number ≡ false
      → records_due m.sequence.group.network m.finished bytes ≡ []
  joined_none not_some =
      let at = m.sequence.progress in
      idle (ap (λ (o : Option ℕ). waits_by o at.next at.closing at.fault) (none_from at.number not_some))
      ∙ given_none (rules m.sequence.group.network) h.keeps.past h.keeps.group at.number at.next at.closing
      at.fault _ given
      h.keeps.sequenced not_some
