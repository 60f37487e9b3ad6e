-- The records that are due.
use Rattle.std.proofs.Common.{◌≡◌, ℕ, ◌+◌, ◌≤◌, ◌<◌, ◌==◌, ◌&&◌, cond, ⊎_elim, Bool, true, false, List, [], ◌∷◌, ◌++◌}
use Rattle.std.proofs.Common.{Option, Some, None, refl, ap, sym, subst, ◌∙◌, arith, append_assoc, append-nil}
use Rattle.std.specs.Prelude.{is_some, nat_lt}
use Rattle.std.proofs.lemmas.Bool.{true≢false, cond-true, cond-false, lt-ltb, le-ltb, ltb-true, ltb-false, eqb-true}
use Rattle.std.proofs.lemmas.Bool.{cases_lt}
use Rattle.std.proofs.lemmas.Option.{same_Some}
use Rattle.terms.proofs.OptionLemmas.{none_some}
use Rattle.frame_groups.specs.declared.cause.MuteCause.{MuteCause}
use Rattle.t2mi_packet.specs.declared.packet.Packet.{Packet}
use Rattle.frame_groups.specs.Groups.{Group, key_behind}
use Rattle.frame_groups.specs.Grouping.{Grouped, no_groups, all_groups, one_packet}
use Rattle.frame_groups.specs.Modulated.{Numbered, Rules, FrameRecord, content_of, gap_record, group_record}
use Rattle.frame_groups.specs.Modulated.{number_behind, gaps_behind, own_record, records_with, records_from, past_after}
use Rattle.frame_groups.specs.Modulated.{modulated}
use Rattle.frame_groups.specs.Laws.{without_last}
use Rattle.frame_groups.proofs.FrontLemmas.{none_before, without_last-append}
use Rattle.frame_groups.specs.Sequenced.{gaps_from, Follows, known_number, kept_groups, Sequenced, Ends, record_now}
use Rattle.frame_groups.specs.Due.{due, ComesNext, DueLaw}
use Rattle.frame_groups.specs.Records.{record_of}
use Rattle.frame_groups.specs.Waits.{waits_by, waiting_by}
use Rattle.frame_groups.specs.declared.waiting.Waiting.{Waiting}
use Rattle.frame_groups.specs.declared.cause.MuteCause.TheVariants.{Gap}
use Rattle.frame_groups.proofs.FollowLemmas.{records_push, no_gaps, gaps_more}
use Rattle.frame_groups.proofs.RunLemmas.{grown}
use Rattle.frame_groups.proofs.SequenceLemmas.{groups_new, own_was_given}

modulated_is : (r : Rules) (ps : List Packet) (closed : List Group) (h : Group)
    → kept_groups r ps ≡ record { closed = closed; under_way = Some h }
    → modulated r ps ≡ records_from r [] closed ++ records_with r (past_after r [] closed) h
unfolding modulated
modulated_is r ps closed h e = ap (records_from r []) (sym (grown r.frames ps))
    ∙ ap (λ (g : Grouped). records_from r [] (all_groups g)) e ∙ records_push r closed h

modulated_none : (r : Rules) (ps : List Packet) → kept_groups r ps ≡ no_groups → modulated r ps ≡ []
unfolding modulated
modulated_none r ps e = ap (records_from r []) (sym (grown r.frames ps))
    ∙ ap (λ (g : Grouped). records_from r [] (all_groups g)) e

no_gap : {X : Type 0} (t : Bool) (a : X) → is_some (cond t (Some a) None) ≡ false → t ≡ false
no_gap true a e = absurd (true≢false e)
no_gap false a e = refl

a_gap : {X : Type 0} (t u : Bool) (a : X) → is_some (cond t (Some a) None) ≡ true → t ≡ true
a_gap true u a e = refl
a_gap false u a e = absurd (true≢false (sym e))

is_own : {X : Type 0} (t u : Bool) (a b : X) → t ≡ false → is_some (cond t (Some a) (cond u (Some b) None)) ≡ true
    → u ≡ true
is_own true u a b n e = absurd (true≢false n)
is_own false true a b n e = refl
is_own false false a b n e = absurd (true≢false (sym e))

-- the records of a group that is under way are due but for its own
due_of : (r : Rules) (others : List FrameRecord) (past : List Numbered) (h : Group) → (past ≡ [] → others ≡ [])
    → without_last (others ++ records_with r past h) ≡ others ++ gaps_behind past (number_behind r past h)
due_of r others (b ∷ past) h none =
    ap without_last
    (sym (append_assoc others (gaps_behind (b ∷ past) (number_behind r (b ∷ past) h))
    (own_record r (b ∷ past) h (number_behind r (b ∷ past) h))))
    ∙ without_last-append (others ++ gaps_behind (b ∷ past) (number_behind r (b ∷ past) h)) _ []
    ∙ append-nil _
due_of r others [] h none = ap (λ (l : List FrameRecord). without_last (l ++ records_with r [] h)) (none refl)
    ∙ one (number_behind r [] h) ∙ sym (append-nil others ∙ none refl)
  where
    one : (o : Option ℕ) → without_last (gaps_behind [] o ++ own_record r [] h o) ≡ []
    one None = refl
    one (Some n) = refl

module _ (r : Rules) (closed : List Group) (past : List Numbered) (h : Group) (next : ℕ) (fault : Option MuteCause)
    (ps : List Packet) (given : List FrameRecord)
    (here : kept_groups r ps ≡ record { closed = closed; under_way = Some h })
    (past_is : past ≡ past_after r [] closed) where
  others : List FrameRecord
  others = records_from r [] closed

  none : past ≡ [] → others ≡ []
  unfolding others
  none e = none_before r closed (sym past_is ∙ e)

  -- what is due by the groups
  due_true : due r true ps ≡ others ++ records_with r past h
  unfolding others
  due_true = modulated_is r ps closed h here
      ∙ ap (λ (o : List Numbered). records_from r [] closed ++ records_with r o h) (sym past_is)

  due_false : due r false ps ≡ others ++ gaps_behind past (number_behind r past h)
  unfolding others due_true none
  due_false = ap without_last due_true ∙ due_of r (records_from r [] closed) past h none

  -- the number of a group under way tells the gaps before it
  gaps_same : (past : List Numbered) (number : Option ℕ) → number ≡ known_number r past h → gaps_behind past number
      ≡ gaps_behind past (number_behind r past h)
  gaps_same [] number e = refl
  gaps_same (b ∷ past) number e = ap (gaps_behind (b ∷ past)) e

  closed_by : (p : Packet) → Ends r (Some h.key) p → (more : List FrameRecord)
      × (due r false (ps ++ p ∷ []) ≡ due r true ps ++ more)
  closed_by p e =
      let k = groups_new r ps p closed h e.0 here e.1 in
      let m = modulated_is r (ps ++ p ∷ []) (closed ++ h ∷ []) (one_packet (key_behind (Some h.key) p) p) k in
      let d = due_of r (records_from r [] (closed ++ h ∷ [])) (past_after r [] (closed ++ h ∷ []))
      (one_packet (key_behind (Some h.key) p) p) (none_before r (closed ++ h ∷ [])) in
      let gaps : List FrameRecord =
      gaps_behind (past_after r [] (closed ++ h ∷ []))
      (number_behind r (past_after r [] (closed ++ h ∷ [])) (one_packet (key_behind (Some h.key) p) p)) in (
        gaps,
        ap without_last m ∙ d
            ∙ ap (λ (l : List FrameRecord). l ++ gaps) (records_push r closed h
            ∙ sym (modulated_is r ps closed h here)),
      )

  -- what waits_by is the record that comes next
  told_by : (number : Option ℕ) (closing : Bool) → Follows r closed past h number next closing fault given
      → (w : Waiting)
      → waiting_by number next closing fault ≡ Some w → record_now r past (Some h) number next ≡ Some (record_of h w)
  told_by None closing f w e = none_some w e
  told_by (Some n) closing f w e = go closing (nat_lt next n) (next == n) refl (f.fault_is) e
    where
      go : (c t u : Bool) → nat_lt next n ≡ t → (c ≡ true → (m : ℕ) → Some n ≡ Some m → fault ≡ r.fault past h m)
          → cond t (Some (record { frame = next; mute = Some Gap }))
          (cond (c && u) (Some (record { frame = n; mute = fault })) None) ≡ Some w
          → record_now r past (Some h) (Some n) next ≡ Some (record_of h w)
      go c true u k a e = cond-true (nat_lt next n) (Some (gap_record next)) (Some (group_record r past h n)) k
          ∙ ap (λ (w : Waiting). Some (record_of h w)) (same_Some _ w e)
      go true false true k a e =
          cond-false (nat_lt next n) (Some (gap_record next)) (Some (group_record r past h n)) k
          ∙ ap (λ (o : Option MuteCause). Some (record { number = n; content = content_of h o })) (sym (a refl n refl))
          ∙ ap (λ (w : Waiting). Some (record_of h w)) (same_Some _ w e)
      go true false false k a e = none_some w e
      go false false u k a e = none_some w e

  -- no record waits_by
  idle_closed : (number : Option ℕ) → Follows r closed past h number next true fault given
      → waits_by number next true fault ≡ false → due r true ps ≡ given
  unfolding others due_true none
  idle_closed None f w =
      due_true ∙ ap (λ (l : List FrameRecord). l ++ records_with r past h) (none f.records.0)
      ∙ ap (λ (o : Option ℕ). gaps_behind past o ++ own_record r past h o) (sym f.number_is)
      ∙ ap (λ (o : List Numbered). gaps_behind o None ++ []) f.records.0
      ∙ sym f.records.1
  idle_closed (Some n) f w =
      let up = own_was_given n next fault w in
      let most = f.records.most in
      due_true ∙ sym (f.records.all (omega (arith, up, most)))

  idle_open : (number : Option ℕ) → Follows r closed past h number next false fault given
      → waits_by number next false fault ≡ false → due r false ps ≡ given
  unfolding others due_false gaps_same none
  idle_open None f w =
      due_false
      ∙ ap (λ (l : List FrameRecord). l ++ gaps_behind past (number_behind r past h)) (none f.records.0)
      ∙ ap (λ (o : List Numbered). gaps_behind o (number_behind r past h)) f.records.0
      ∙ sym f.records.1
  idle_open (Some n) f w =
      let low : n ≤ next = ltb-false next n (no_gap (nat_lt next n) _ w) in
      let high : next ≤ n = f.under_way refl n refl in
      let same : next ≡ n = omega (arith, low, high) in
      due_false ∙ ap (λ (l : List FrameRecord). records_from r [] closed ++ l)
      (sym (gaps_same past (Some n) f.number_is))
      ∙ sym (f.records.front high)
      ∙ ap (λ (k : ℕ). given ++ gaps_from k n) same ∙ ap (λ (l : List FrameRecord). given ++ l) (no_gaps n)
      ∙ append-nil given

  -- a record waits_by
  gap_next : (n : ℕ) (closing : Bool) → Follows r closed past h (Some n) next closing fault given → next < n
      → records_from r [] closed ++ gaps_behind past (Some n) ≡ given ++ gap_record next ∷ gaps_from (next + 1) n
  gap_next n closing f l = sym (f.records.front (omega (arith, l))) ∙ ap (λ (k : List FrameRecord). given ++ k)
      (gaps_more next n l)

  waits_open : (number : Option ℕ) → Follows r closed past h number next false fault given
      → waits_by number next false fault ≡ true
      → (x : FrameRecord) × (record_now r past (Some h) number next ≡ Some x) × ComesNext (due r false ps) given x
  unfolding others due_false gaps_same
  waits_open None f w = absurd (true≢false (sym w))
  waits_open (Some n) f w =
      let t : nat_lt next n ≡ true = a_gap (nat_lt next n) (next == n) _ w in
      let l : next < n = ltb-true next n t in (
        gap_record next,
        cond-true (nat_lt next n) (Some (gap_record next)) (Some (group_record r past h n)) t,
        (
          gaps_from (next + 1) n,
          due_false ∙ ap (λ (l : List FrameRecord). records_from r [] closed ++ l)
              (sym (gaps_same past (Some n) f.number_is)) ∙ gap_next n false f l,
        ),
      )

  waits_closed : (number : Option ℕ) → Follows r closed past h number next true fault given
      → waits_by number next true fault ≡ true
      → (x : FrameRecord) × (record_now r past (Some h) number next ≡ Some x) × ComesNext (due r true ps) given x
  unfolding others due_true
  waits_closed None f w = absurd (true≢false (sym w))
  waits_closed (Some n) f w =
      let own : records_from r [] closed ++ records_with r past h
      ≡ (records_from r [] closed ++ gaps_behind past (Some n)) ++ group_record r past h n ∷ [] =
      ap (λ (o : Option ℕ). records_from r [] closed ++ (gaps_behind past o ++ own_record r past h o)) (sym f.number_is)
      ∙ sym (append_assoc (records_from r [] closed) (gaps_behind past (Some n)) (group_record r past h n ∷ [])) in
      ⊎_elim
      (λ (l : next < n). (
        gap_record next,
        cond-true (nat_lt next n) (Some (gap_record next)) (Some (group_record r past h n)) (lt-ltb next n l),
        (
          gaps_from (next + 1) n ++ group_record r past h n ∷ [],
          due_true ∙ own
              ∙ ap (λ (k : List FrameRecord). k ++ group_record r past h n ∷ []) (gap_next n true f l)
              ∙ append_assoc given (gap_record next ∷ gaps_from (next + 1) n) (group_record r past h n ∷ []),
        ),
      ))
      (λ (l : n ≤ next).
      let no = le-ltb next n l in
      let e : next ≡ n = eqb-true next n (is_own (nat_lt next n) (next == n) _ _ no w) in
      let front : given ≡ records_from r [] closed ++ gaps_behind past (Some n) =
      sym (append-nil given) ∙ ap (λ (l : List FrameRecord). given ++ l) (sym (ap (λ (k : ℕ). gaps_from k n) e
      ∙ no_gaps n))
      ∙ f.records.front (omega (arith, e)) in (
        group_record r past h n,
        cond-false (nat_lt next n) (Some (gap_record next)) (Some (group_record r past h n)) no,
        ([], due_true ∙ own ∙ ap (λ (k : List FrameRecord). k ++ group_record r past h n ∷ []) (sym front)),
      ))
      (cases_lt next n)

pub due_law : (r : Rules) (past : List Numbered) (g : Option Group) (number : Option ℕ) (next : ℕ) (closing : Bool)
    (fault : Option MuteCause) (ps : List Packet) (given : List FrameRecord)
    → Sequenced r past g number next closing fault ps given
    → DueLaw r past g (record { number = number; next = next; closing = closing; fault = fault }) ps given
due_law r past None number next closing fault ps given (a, o, b, c, d) = record {
  idle = λ _. ap (λ (t : Bool). due r t ps) c ∙ ap without_last (modulated_none r ps a) ∙ sym d;
  under_way = λ _ w. absurd (true≢false (sym w ∙ ap (λ (o : Option ℕ). waits_by o next closing fault) b));
  ended = λ _ w. absurd (true≢false (sym w ∙ ap (λ (o : Option ℕ). waits_by o next closing fault) b));
  closed = λ _ p e. absurd e;
  told = λ h e w k. none_some h e;
  none = λ _. modulated_none r ps a ∙ sym d;
}
due_law r past (Some h) number next true fault ps given (closed, a, f) = record {
  idle = λ w. idle_closed r closed past h next fault ps given a f.past_is number f w;
  under_way = λ c. absurd (true≢false c);
  ended = λ _ w. waits_closed r closed past h next fault ps given a f.past_is number f w;
  closed = λ _ p e. closed_by r closed past h next fault ps given a f.past_is p e;
  told = λ g e w k. subst (λ (g : Group). record_now r past (Some h) number next ≡ Some (record_of g w))
      (same_Some h g e)
      (told_by r closed past h next fault ps given a f.past_is number true f w k);
  none = λ e. none_some h (sym e);
}
due_law r past (Some h) number next false fault ps given (closed, a, f) = record {
  idle = λ w. idle_open r closed past h next fault ps given a f.past_is number f w;
  under_way = λ _ w. waits_open r closed past h next fault ps given a f.past_is number f w;
  ended = λ c. absurd (true≢false (sym c));
  closed = λ c. absurd (true≢false (sym c));
  told = λ g e w k. subst (λ (g : Group). record_now r past (Some h) number next ≡ Some (record_of g w))
      (same_Some h g e)
      (told_by r closed past h next fault ps given a f.past_is number false f w k);
  none = λ e. none_some h (sym e);
}
