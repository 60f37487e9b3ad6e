-- The groups of a stream that have numbers: what came of a frame, whatever follows.
use Rattle.std.proofs.Common.{◌≡◌, ◌≢◌, ℕ, zero, suc, ◌+◌, ◌%◌, ◌<◌, ◌≤◌, ◌==◌, Bool, true, false, List, [], ◌∷◌, ◌++◌}
use Rattle.std.proofs.Common.{length, take, drop, get_or, Option, Some, None, refl, ap, sym, subst, ◌∙◌, ⊎_elim, arith}
use Rattle.std.proofs.Common.{append_assoc}
use Rattle.std.specs.Prelude.{is_some, nat_le}
use Rattle.std.specs.List.{AllByRecursion, filter, range_with_len}
use Rattle.std.proofs.Math.Nat.{sub-le}
use Rattle.std.proofs.lemmas.Bool.{cases_eq, cases_lt, cond-true, cond-false, eq-eqb, true≢false, lt-leb, leb-false}
use Rattle.std.proofs.lemmas.List.{map-append, take-append-drop}
use Rattle.std.proofs.lemmas.List.Elements.{filter-append}
use Rattle.std.proofs.lemmas.List.Folds.{list_any_at}
use Rattle.std.proofs.lemmas.List.FromFn.{length-range_with_len, get_or-range_with_len}
use Rattle.terms.proofs.OptionLemmas.{none_some}
use Rattle.plp_config.specs.InterleavingFrames.{begin_of}
use Rattle.plp_config.specs.Places.{places}
use Rattle.plp_config.specs.Plps.{spread}
use Rattle.plp_config.specs.declared.config.Config.{Config}
use Rattle.t2mi_stream.specs.Accepted.{AcceptedPacket}
use Rattle.t2mi_stream.specs.Laws.{AcceptedFront}
use Rattle.t2mi_stream.specs.Units.{accepted_of}
use Rattle.frame_groups.specs.Groups.{Group, groups, is_counted, is_same, key_behind}
use Rattle.frame_groups.specs.Grouping.{Grouped, grouped, grouped_from, no_groups, all_groups, one_packet, one_more}
use Rattle.frame_groups.specs.Modulated.{Numbered, Rules, FrameRecord, number_behind, past_with, past_behind}
use Rattle.frame_groups.specs.Modulated.{gaps_behind, own_record, records_with, records_from, past_after, modulated}
use Rattle.frame_groups.specs.Numbers.{next_number}
use Rattle.frame_groups.specs.Sequenced.{IsAbove, Follows, Ends, kept_groups, known_number, number_now}
use Rattle.frame_groups.specs.declared.cause.MuteCause.{MuteCause}
use Rattle.frame_groups.specs.declared.cause.MuteCause.TheVariants.{PoolFull}
use Rattle.frame_groups.specs.declared.key.Key.{Key}
use Rattle.frame_groups.proofs.ConsecutiveLemmas.{next_above}
use Rattle.frame_groups.proofs.FrontLemmas.{GoesOn, goes_on}
use Rattle.frame_groups.proofs.GroupLemmas.{grouped_append}
use Rattle.frame_groups.proofs.RunLemmas.{grown}
use Rattle.frame_groups.specs.Begun.{is_begin, packets_at}
use Rattle.frame_groups.specs.Tally.{tally}
use Rattle.frame_groups.specs.Tests.{rules, unless, pool_need, pool_chunks, capped, room_test, begun_test}
use Rattle.frame_groups.specs.Tests.{first_failure, pool_test, packets_fault, group_fault}
use Rattle.frame_groups.proofs.BegunLemmas.{at_own, at_other}
use Rattle.frame_groups.proofs.TallyLemmas.{need_is}
use Rattle.open_group.specs.HoldsBlocks.{HoldsCounts}
use Rattle.open_group.specs.HoldsPast.{AreFalling}
use Rattle.open_group.specs.declared.blocks.HeldBlocks.{HeldBlocks}
use Rattle.open_group.proofs.RoomLemmas.{none_first, none_behind}
use Rattle.open_group.proofs.PastLemmas.{none_above}
use Rattle.modulator.specs.Modulating.{packet_of, packets_of}
use Rattle.modulator.specs.StandsFor.{records_of}
use Rattle.feed_merge.specs.Groups.{groups_of, CarriesRoom}

-- ---- numbers

-- later groups have greater numbers
later_at : (r : Rules) (gs : List Group) (b : Numbered) (past : List Numbered) (k : ℕ) → k ≤ b.number
    → packets_at (past_after r (b ∷ past) gs) k ≡ packets_at (b ∷ past) k
later_at r [] b past k low = refl
later_at r (g ∷ gs) b past k low =
    let next : Numbered = record { number = next_number r.frames b.number g.key; group = g } in
    let up : b.number + 1 ≤ next.number = next_above r b.number g in
    later_at r gs next (b ∷ past) k (omega (arith, low, up))
    ∙ at_other next (b ∷ past) k (λ e. omega (arith, e, low, up))

past_append : (r : Rules) (past : List Numbered) (gs hs : List Group) → past_after r past (gs ++ hs)
    ≡ past_after r (past_after r past gs) hs
past_append r past [] hs = refl
past_append r past (g ∷ gs) hs = past_append r (past_behind r past g) gs hs

-- ---- no record, no group

all_parts : {X : Type 0} (P : X → Type 0) (xs ys : List X) → AllByRecursion P (xs ++ ys)
    → AllByRecursion P xs × AllByRecursion P ys
all_parts P [] ys h = (tt, h)
all_parts P (x ∷ xs) ys h = let r = all_parts P xs ys h.1 in ((h.0, r.0), r.1)

-- each group with a number adds its record
none_with : (r : Rules) (past : List Numbered) (g : Group) (m : ℕ) (o : Option ℕ) → packets_at past m ≡ []
    → AllByRecursion (λ (x : FrameRecord). x.number ≢ m) (own_record r past g o)
    → packets_at (past_with past g o) m ≡ []
none_with r past g m None before none = before
none_with r past g m (Some n) before none = at_other (record { number = n; group = g }) past m none.0 ∙ before

none_from : (r : Rules) (gs : List Group) (past : List Numbered) (m : ℕ) → packets_at past m ≡ []
    → AllByRecursion (λ (x : FrameRecord). x.number ≢ m) (records_from r past gs)
    → packets_at (past_after r past gs) m ≡ []
none_from r [] past m before none = before
none_from r (g ∷ gs) past m before none =
    let other : FrameRecord → Type 0 = λ (x : FrameRecord). x.number ≢ m in
    let number : Option ℕ = number_behind r past g in
    let parts = all_parts other (records_with r past g) (records_from r (past_behind r past g) gs) none in
    let own = all_parts other (gaps_behind past number) (own_record r past g number) parts.0 in
    none_from r gs (past_behind r past g) m (none_with r past g m number before own.1) parts.1

-- If no record of the whole stream has a number, no group has it.
pub none_came : (c : Config) (bytes : List ℕ) (m : ℕ)
    → AllByRecursion (λ (x : FrameRecord). x.number ≢ m) (records_of c bytes) → packets_at (groups_of c bytes) m ≡ []
unfolding modulated
none_came c bytes m none = none_from (rules c) (groups c.frames (packets_of (accepted_of c.pid bytes))) [] m refl none

-- ---- the groups of a longer stream

-- They begin with those that are closed, and one with the key of the one under way; it is this one if it is closed.
pub record GoesAhead (closed : List Group) (h : Group) (closing : Bool) (all : List Group) : Type 0 where
  pub goes : GoesOn closed h all
  pub same : closing ≡ true → goes.group ≡ h

grown_on : (c : Config) (xs ys : List AcceptedPacket) (closed : List Group) (h : Group)
    → kept_groups (rules c) (packets_of xs) ≡ record { closed = closed; under_way = Some h }
    → groups c.frames (packets_of (xs ++ ys))
    ≡ all_groups (grouped_from (record { closed = closed; under_way = Some h })
    (filter (is_counted c.frames) (packets_of ys)))
unfolding grouped
grown_on c xs ys closed h e =
    let kept = filter (is_counted c.frames) in
    ap (groups c.frames) (map-append (λ (a : AcceptedPacket). packet_of a.bytes) xs ys)
    ∙ sym (grown c.frames (packets_of xs ++ packets_of ys))
    ∙ ap (λ l. all_groups (grouped l)) (filter-append (is_counted c.frames) (packets_of xs) (packets_of ys))
    ∙ ap all_groups (grouped_append no_groups (kept (packets_of xs)) (kept (packets_of ys)))
    ∙ ap (λ (g : Grouped). all_groups (grouped_from g (kept (packets_of ys)))) e

pub open_ahead : (c : Config) (xs ys : List AcceptedPacket) (closed : List Group) (h : Group)
    → kept_groups (rules c) (packets_of xs) ≡ record { closed = closed; under_way = Some h }
    → GoesOn closed h (groups c.frames (packets_of (xs ++ ys)))
open_ahead c xs ys closed h e =
    subst (GoesOn closed h) (sym (grown_on c xs ys closed h e))
    (goes_on (filter (is_counted c.frames) (packets_of ys)) closed h)

-- a packet that ends the group leaves it as it is
pub ended_ahead : (c : Config) (xs ys : List AcceptedPacket) (a : AcceptedPacket) (closed : List Group) (h : Group)
    → kept_groups (rules c) (packets_of xs) ≡ record { closed = closed; under_way = Some h }
    → Ends (rules c) (Some h.key) (packet_of a.bytes)
    → (rest : List Group) × (groups c.frames (packets_of (xs ++ a ∷ ys)) ≡ closed ++ h ∷ rest)
ended_ahead c xs ys a closed h e ends =
    let p = packet_of a.bytes in
    let kept = filter (is_counted c.frames) (packets_of ys) in
    let k : Key = key_behind (Some h.key) p in
    let on = goes_on kept (closed ++ h ∷ []) (one_packet k p) in (
      on.group ∷ on.more,
      grown_on c xs (a ∷ ys) closed h e
          ∙ ap (λ l. all_groups (grouped_from (record { closed = closed; under_way = Some h }) l))
          (cond-true (is_counted c.frames p) (p ∷ kept) kept ends.0)
          ∙ ap (λ (g : Grouped). all_groups (grouped_from g kept))
          (cond-false (is_same h.key k) (record { closed = closed; under_way = Some (one_more h p) })
          (record { closed = closed ++ h ∷ []; under_way = Some (one_packet k p) }) ends.1)
          ∙ on.all_are ∙ append_assoc closed (h ∷ []) (on.group ∷ on.more),
    )

-- and so does the end
pub last_ahead : (c : Config) (xs : List AcceptedPacket) (closed : List Group) (h : Group)
    → kept_groups (rules c) (packets_of xs) ≡ record { closed = closed; under_way = Some h }
    → groups c.frames (packets_of xs) ≡ closed ++ h ∷ []
last_ahead c xs closed h e = sym (grown c.frames (packets_of xs)) ∙ ap all_groups e

-- the packets of a longer stream begin with those that were worked off
pub worked_on : (front : AcceptedFront) (pid n : ℕ) (bytes more : List ℕ) → accepted_of pid (bytes ++ more)
    ≡ take n (accepted_of pid bytes) ++ (drop n (accepted_of pid bytes) ++ (front pid bytes more).0)
worked_on front pid n bytes more =
    let all : List AcceptedPacket = accepted_of pid bytes in
    let f = front pid bytes more in
    f.1 ∙ ap (λ (l : List AcceptedPacket). l ++ f.0) (sym (take-append-drop n all))
    ∙ append_assoc (take n all) (drop n all) f.0

-- ---- the group of a number in a longer stream

-- Behind those before comes a group that has the number, which is the one under way if this is closed; and then others.
pub record Follower (r : Rules) (past : List Numbered) (h : Group) (n : ℕ) (closing : Bool) (gs : List Numbered) :
    Type 0 where
  pub group : Group
  pub rest : List Group
  pub are : gs ≡ past_after r (record { number = n; group = group } ∷ past) rest
  pub same : closing ≡ true → group ≡ h

same_number : (r : Rules) (past : List Numbered) (g h : Group) (n : ℕ) → g.key ≡ h.key → Some n ≡ known_number r past h
    → Some n ≡ number_behind r past g
same_number r [] g h n key e = none_some n (sym e)
same_number r (b ∷ past) g h n key e = e ∙ ap (λ (k : Key). Some (next_number r.frames b.number k)) (sym key)

pub follower : (r : Rules) (closed : List Group) (past : List Numbered) (h : Group) (n next : ℕ) (closing : Bool)
    (fault : Option MuteCause) (given : List FrameRecord) (all : List Group)
    → Follows r closed past h (Some n) next closing fault given → GoesAhead closed h closing all
    → Follower r past h n closing (past_after r [] all)
follower r closed past h n next closing fault given all f a =
    let g : Group = a.goes.group in
    record {
      group = g;
      rest = a.goes.more;
      are = ap (past_after r []) a.goes.all_are ∙ past_append r [] closed (g ∷ a.goes.more)
          ∙ ap (λ (o : List Numbered). past_after r (past_behind r o g) a.goes.more) (sym f.past_is)
          ∙ ap (λ (o : Option ℕ). past_after r (past_with past g o) a.goes.more) (sym (go closing f.number_is a.same));
      same = a.same;
    }
  where
    go : (c : Bool) → Some n ≡ number_now r c past h → (c ≡ true → a.goes.group ≡ h) → Some n
        ≡ number_behind r past a.goes.group
    go true e same = e ∙ ap (number_behind r past) (sym (same refl))
    go false e same = same_number r past a.goes.group h n a.goes.key e

module _ (r : Rules) (past : List Numbered) (h : Group) (n : ℕ) (closing : Bool) (gs : List Numbered)
    (x : Follower r past h n closing gs) where
  -- the packets of its own number
  pub own_at : closing ≡ true → packets_at gs n ≡ h.packets
  own_at c =
      let b : Numbered = record { number = n; group = x.group } in
      ap (λ (l : List Numbered). packets_at l n) x.are ∙ later_at r x.rest b past n (omega arith) ∙ at_own b past
      ∙ ap (λ (g : Group). g.packets) (x.same c)

  -- those of numbers below it
  pub below_at : (k : ℕ) → k < n → packets_at gs k ≡ packets_at past k
  below_at k less =
      let b : Numbered = record { number = n; group = x.group } in
      ap (λ (l : List Numbered). packets_at l k) x.are ∙ later_at r x.rest b past k (omega (arith, less))
      ∙ at_other b past k (λ e. omega (arith, e, less))

  -- none between
  pub gap_at : (k : ℕ) → AreFalling past → IsAbove past k → k < n → packets_at gs k ≡ []
  gap_at k falling above less = below_at k less ∙ none_above past k k falling above (omega arith)

-- ---- room

-- if no test fails, each passes
each_passes : (test : ℕ → Option MuteCause) (a len b : ℕ) → first_failure test (range_with_len a len) ≡ None
    → a ≤ b → b < a + len
    → test b ≡ None
each_passes test a zero b e low high = absurd (omega (arith, low, high))
each_passes test a (suc len) b e low high =
    ⊎_elim
    (λ (s : a ≡ b). subst (λ (k : ℕ). test k ≡ None) s
    (none_first (test a) (first_failure test (range_with_len (a + 1) len)) e))
    (λ (ne : a ≡ b → ⊥).
    each_passes test (a + 1) len b (none_behind (test a) (first_failure test (range_with_len (a + 1) len)) e)
    (omega (arith, low, ne)) (omega (arith, high)))
    (cases_eq a b)

-- where an interleaving frame begins that a frame carries, one does
begins_there : (c : Config) (n plp : ℕ) → plp < length c.plps → is_begin c n (begin_of c plp n) ≡ true
begins_there c n plp inside =
    let size = length-range_with_len 0 (length c.plps) in
    let at : get_or (places c) plp 0 ≡ plp = let e = get_or-range_with_len 0 (length c.plps) plp 0 inside in
    omega (arith, e) in
    list_any_at (λ (k : ℕ). begin_of c k n == begin_of c plp n) (places c) plp 0 (omega (arith, size, inside))
    (eq-eqb (begin_of c (get_or (places c) plp 0) n) (begin_of c plp n) (ap (λ (k : ℕ). begin_of c k n) at))

-- the blocks that a frame carries have room if its group passes
pub carries : (c : Config) (past gs : List Numbered) (h : Group) (n : ℕ) → group_fault c past h n ≡ None
    → packets_at gs n ≡ h.packets → ((k : ℕ) → k < n → packets_at gs k ≡ packets_at past k) → CarriesRoom c gs n
unfolding packets_fault pool_test
carries c past gs h n none own below plp inside =
    let pool : pool_test c past n h.packets ≡ None = none_first (pool_test c past n h.packets) _ none in
    let before = first_failure (begun_test c past n) (range_with_len 0 n) in
    let b : ℕ = begin_of c plp n in
    let low : b ≤ n = sub-le n (n % spread c.plps plp) in
    ⊎_elim
    (λ (l : b < n).
    ap (room_test c) (below b l)
    ∙ sym (cond-true (is_begin c n b) (room_test c (packets_at past b)) None (begins_there c n plp inside))
    ∙ each_passes (begun_test c past n) 0 n b (none_first before (room_test c h.packets) pool) (omega arith)
    (omega (arith, l)))
    (λ (l : n ≤ b).
    let same : b ≡ n = omega (arith, l, low) in
    ap (λ (k : ℕ). room_test c (packets_at gs k)) same ∙ ap (room_test c) own
    ∙ none_behind before (room_test c h.packets) pool)
    (cases_lt b n)

-- packets that have room need no more chunks than there are
pub room_needs : (c : Config) (held : HeldBlocks) (h : Group) → HoldsCounts c held (tally c h.packets)
    → held.chunks ≡ pool_chunks c → room_test c h.packets ≡ None → nat_le held.need held.chunks ≡ true
unfolding room_test
room_needs c held h counts chunks room = go (nat_le held.need held.chunks) refl
  where
    go : (t : Bool) → nat_le held.need held.chunks ≡ t → t ≡ true
    go true e = refl
    go false e =
        let less = leb-false held.need held.chunks e in
        let need : held.need ≡ capped (pool_need c h.packets) = counts.need ∙ ap capped (sym (need_is c h.packets)) in
        let high : pool_chunks c < pool_need c h.packets = omega (arith, less, need, chunks) in
        let cause : MuteCause = PoolFull (capped (pool_need c h.packets)) (pool_chunks c) in
        absurd (true≢false (sym (ap is_some (ap (λ (t : Bool). unless t cause)
        (lt-leb (pool_need c h.packets) (pool_chunks c) high))) ∙ ap is_some room))
