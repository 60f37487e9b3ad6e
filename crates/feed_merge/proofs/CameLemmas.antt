-- What came of the frame that waits, in every stream that begins with the bytes that were fed.
use Rattle.std.proofs.Common.{◌≡◌, ◌≢◌, ℕ, ◌+◌, ◌<◌, ◌≤◌, ◌==◌, ◌&&◌, Bool, true, false, cond, List, [], ◌∷◌, ◌++◌}
use Rattle.std.proofs.Common.{length, take, drop, Option, Some, None, refl, ap, sym, subst, ◌∙◌, ⊎_elim, arith}
use Rattle.std.proofs.Common.{append-nil}
use Rattle.std.specs.Prelude.{nat_lt, nat_le, is_some, slice_index_or}
use Rattle.std.proofs.lemmas.Bool.{false≢true, true≢false, ltb-true, and_parts}
use Rattle.std.proofs.lemmas.List.{take_all}
use Rattle.std.proofs.lemmas.Option.{same_Some}
use Rattle.terms.proofs.OptionLemmas.{none_some}
use Rattle.terms.proofs.ListLemmas.{drop_some}
use Rattle.plp_config.specs.declared.config.Config.{Config}
use Rattle.t2mi_stream.specs.Accepted.{AcceptedPacket}
use Rattle.t2mi_stream.specs.Events.{fed, released}
use Rattle.t2mi_stream.specs.Laws.{AcceptedFront}
use Rattle.t2mi_stream.specs.Units.{accepted_of}
use Rattle.t2mi_stream.specs.UnpiperStandsFor.{is_ready, next_packet}
use Rattle.frame_groups.specs.Groups.{Group, groups}
use Rattle.frame_groups.specs.Modulated.{FrameRecord, Numbered}
use Rattle.frame_groups.specs.Sequenced.{Ends, Follows, Sequenced, kept_groups}
use Rattle.frame_groups.specs.Waits.{waiting_by, waiting_of as next_of}
use Rattle.frame_groups.specs.declared.cause.MuteCause.{MuteCause}
use Rattle.frame_groups.specs.declared.cause.MuteCause.TheVariants.{Gap}
use Rattle.frame_groups.specs.declared.key.Key.{Key}
use Rattle.frame_groups.specs.declared.waiting.Progress.{Progress}
use Rattle.frame_groups.specs.declared.waiting.Waiting.{Waiting}
use Rattle.frame_groups.proofs.FrontLemmas.{GoesOn}
use Rattle.frame_groups.specs.Begun.{packets_at}
use Rattle.frame_groups.specs.Tests.{rules, group_fault, has_map, room_test}
use Rattle.open_group.specs.FrameBytes.{is_frame, has_room, shape_of}
use Rattle.open_group.specs.Holds.{Holds}
use Rattle.open_group.specs.Shown.{Shows, AreBlocks}
use Rattle.open_group.specs.Written.{dynamic_in}
use Rattle.modulator.specs.Modulating.{packet_of, packets_of, worked, IsAhead, StandsAt, course_of}
use Rattle.modulator.specs.declared.modulating.Modulating.{Modulating}
use Rattle.modulator.proofs.BeginLemmas.{IsOwn, waits_for, passes}
use Rattle.t2mi_stream.proofs.NextLemmas.{IsIdle}
use Rattle.modulator.proofs.TookLemmas.{some_of}
use Rattle.feed_merge.specs.Frames.{dynamic_of, lists_of}
use Rattle.feed_merge.specs.Groups.{AreGroups, HasRoom, CarriesRoom}
use Rattle.feed_merge.specs.FeedStandsFor.{FrameFeedStandsFor, config_of, waiting_of, is_whole}
use Rattle.feed_merge.specs.declared.feed.FrameFeed.{FrameFeed}
use Rattle.feed_merge.proofs.FeedLemmas.{now, whole_is, own_now}
use Rattle.feed_merge.proofs.GroupsLemmas.{GoesAhead, open_ahead, ended_ahead, last_ahead, worked_on, Follower}
use Rattle.feed_merge.proofs.GroupsLemmas.{follower, own_at, below_at, gap_at, carries, room_needs}

-- a group that stays as it is
stays : (closed rest : List Group) (h : Group) (closing : Bool) (all : List Group) → all ≡ closed ++ h ∷ rest
    → GoesAhead closed h closing all
stays closed rest h closing all e = record {
  goes = record { group = h; more = rest; all_are = e; key = refl };
  same = λ _. refl;
}

-- the groups of a longer stream
ahead : (front : AcceptedFront) (m : Modulating) (bytes more : List ℕ) (given : List FrameRecord)
    (s : StandsAt m bytes given)
    (closed : List Group) (h : Group)
    → (is_ready m.unpiper ≡ false → IsIdle m.unpiper) → (m.finished ≡ true → more ≡ [])
    → kept_groups (rules m.sequence.group.network) (worked m.sequence.group.network.pid s.events)
    ≡ record { closed = closed; under_way = Some h }
    → m.sequence.group.key ≡ Some h.key
    → GoesAhead closed h m.sequence.progress.closing
    (groups m.sequence.group.network.frames (packets_of (accepted_of m.sequence.group.network.pid (bytes ++ more))))
ahead front m bytes more given s closed h idle over kept key = go m.sequence.progress.closing s.ahead
  where
    go : (t : Bool) → (t ≡ true → IsAhead (course_of m) s.events)
        → GoesAhead closed h t
        (groups m.sequence.group.network.frames (packets_of (accepted_of m.sequence.group.network.pid (bytes ++ more))))
    go false next =
        let c : Config = m.sequence.group.network in
        let n : ℕ = released s.events in
        let all : List AcceptedPacket = accepted_of c.pid (fed s.events) in
        let f = front c.pid (fed s.events) more in
        let parted : accepted_of c.pid (bytes ++ more) ≡ take n all ++ (drop n all ++ f.0) =
        ap (λ (l : List ℕ). accepted_of c.pid (l ++ more)) (sym s.fed_is)
        ∙ worked_on front c.pid n (fed s.events) more in
        record {
          goes = subst (λ (l : List AcceptedPacket). GoesOn closed h (groups c.frames (packets_of l))) (sym parted)
              (open_ahead c (take n all) (drop n all ++ f.0) closed h kept);
          same = λ e. absurd (false≢true e);
        }
    go true next =
        let c : Config = m.sequence.group.network in
        let n : ℕ = released s.events in
        let all : List AcceptedPacket = accepted_of c.pid (fed s.events) in
        ⊎_elim
        (λ (x : (a : AcceptedPacket) × (next_packet c.pid s.events ≡ Some a) × Ends (rules c) m.sequence.group.key
        (packet_of a.bytes)).
        let f = front c.pid (fed s.events) more in
        let parted : accepted_of c.pid (bytes ++ more) ≡ take n all ++ x.0 ∷ (drop (n + 1) all ++ f.0) =
        ap (λ (l : List ℕ). accepted_of c.pid (l ++ more)) (sym s.fed_is) ∙ worked_on front c.pid n (fed s.events) more
        ∙ ap (λ (l : List AcceptedPacket). take n all ++ (l ++ f.0)) (drop_some all n x.0 x.1) in
        let e = ended_ahead c (take n all) (drop (n + 1) all ++ f.0) x.0 closed h kept
        (subst (λ (k : Option Key). Ends (rules c) k (packet_of x.0.bytes)) key x.2) in
        stays closed e.0 h true (groups c.frames (packets_of (accepted_of c.pid (bytes ++ more))))
        (ap (λ (l : List AcceptedPacket). groups c.frames (packets_of l)) parted ∙ e.1))
        (λ (x : (m.finished ≡ true) × (is_ready m.unpiper ≡ false)).
        let released_all = idle x.1 c.pid s.events s.stands in
        let same : accepted_of c.pid (bytes ++ more) ≡ take n all =
        ap (accepted_of c.pid) (ap (λ (l : List ℕ). bytes ++ l) (over x.0) ∙ append-nil bytes ∙ sym s.fed_is)
        ∙ sym (take_all n all (omega (arith, released_all))) in
        stays closed [] h true (groups c.frames (packets_of (accepted_of c.pid (bytes ++ more))))
        (ap (λ (l : List AcceptedPacket). groups c.frames (packets_of l)) same
        ∙ last_ahead c (take n all) closed h kept))
        (next refl)

-- The group of what waits is held. Its packets came of its frame, and no others, whatever follows; none came of a gap.
pub record Came (f : FrameFeed) (w : Waiting) (gs : List Numbered) : Type 0 where
  pub past : List Numbered
  pub group : Group
  pub holds : Holds f.inner.sequence.group past (Some group)
  pub number : ℕ
  pub is : f.inner.sequence.progress.number ≡ Some number
  pub own : f.inner.sequence.progress.closing ≡ true → packets_at gs number ≡ group.packets
  pub below : (k : ℕ) → k < number → packets_at gs k ≡ packets_at past k
  pub gap : f.inner.sequence.progress.next < number → packets_at gs f.inner.sequence.progress.next ≡ []
  pub passes : IsOwn f.inner.sequence.progress w → w.mute ≡ None → group_fault (config_of f) past group w.frame ≡ None

-- so it is, as a feed stands for what was fed
pub came : (front : AcceptedFront) (f : FrameFeed) (bytes : List ℕ) (ended : Bool) (given : List FrameRecord)
    (w : Waiting)
    (gs : List Numbered)
    → (is_ready f.inner.unpiper ≡ false → IsIdle f.inner.unpiper) → FrameFeedStandsFor f bytes ended given
    → waiting_of f ≡ Some w → AreGroups (config_of f) bytes ended gs → Came f w gs
came front f bytes ended given w gs idle s is are =
    let c : Config = config_of f in
    let at : Progress = f.inner.sequence.progress in
    let past : List Numbered = s.stands.keeps.past in
    let waits : next_of at ≡ Some w = sym f.waits ∙ is in
    let n = now f.inner w bytes given s.stands waits in
    let h : Group = n.group in
    let holds : Holds f.inner.sequence.group past (Some h) =
    subst (Holds f.inner.sequence.group past) n.has s.stands.keeps.holds in
    let q : Sequenced (rules c) past (Some h) at.number at.next at.closing at.fault (worked c.pid s.stands.events)
    given =
    subst (λ (g : Option Group). Sequenced (rules c) past g at.number at.next at.closing at.fault
    (worked c.pid s.stands.events) given) n.has s.stands.keeps.sequenced in
    let number = some_of at.number (waits_for at w waits).some in
    let follows : Follows (rules c) q.0 past h (Some number.0) at.next at.closing at.fault given =
    subst (λ (o : Option ℕ). Follows (rules c) q.0 past h o at.next at.closing at.fault given) number.1 q.2 in
    let on = ahead front f.inner bytes are.more given s.stands q.0 h idle (λ over. are.none (sym s.end ∙ over))
    q.1 holds.key in
    let x : Follower (rules c) past h number.0 at.closing gs =
    subst (Follower (rules c) past h number.0 at.closing) (sym are.are)
    (follower (rules c) q.0 past h number.0 at.next at.closing at.fault given
    (groups c.frames (packets_of (accepted_of c.pid (bytes ++ are.more)))) follows on) in
    record {
      past = past;
      group = h;
      holds = holds;
      number = number.0;
      is = number.1;
      own = own_at (rules c) past h number.0 at.closing gs x;
      below = below_at (rules c) past h number.0 at.closing gs x;
      gap = gap_at (rules c) past h number.0 at.closing gs x at.next holds.past-is.falling follows.records.above;
      passes = λ own none. passes (rules c) past s.stands.keeps.group at (worked c.pid s.stands.events) given h w
          s.stands.keeps.sequenced n.has own none;
    }

-- ---- its own record

-- a group with the next number is closed if a record waits
closed_by : (n next : ℕ) (closing : Bool) (fault : Option MuteCause) (w : Waiting)
    → waiting_by (Some n) next closing fault ≡ Some w
    → n ≡ next → closing ≡ true
closed_by n next closing fault w e same = go closing (nat_lt next n) (next == n) refl e
  where
    go : (c t u : Bool) → nat_lt next n ≡ t
        → cond t (Some (record { frame = next; mute = Some Gap }))
        (cond (c && u) (Some (record { frame = n; mute = fault })) None) ≡ Some w → c ≡ true
    go true t u k e = refl
    go false true u k e = let less = ltb-true next n k in absurd (omega (arith, less, same))
    go false false u k e = none_some w e

-- the own record of a group waits if its number is the next
own_waits : (f : FrameFeed) (w : Waiting) (gs : List Numbered) → waiting_of f ≡ Some w → (x : Came f w gs) (n : ℕ)
    → f.inner.sequence.progress.number ≡ Some n → n ≡ f.inner.sequence.progress.next
    → packets_at gs w.frame ≡ x.group.packets
own_waits f w gs is x n has same =
    let at : Progress = f.inner.sequence.progress in
    let waits : next_of at ≡ Some w = sym f.waits ∙ is in
    let closing : at.closing ≡ true =
    closed_by n at.next at.closing at.fault w (ap (λ (o : Option ℕ). waiting_by o at.next at.closing at.fault) (sym has)
    ∙ waits)
    same in
    let frame : w.frame ≡ x.number = (waits_for at w waits).frame ∙ sym same
    ∙ same_Some n x.number (sym has ∙ x.is) in
    ap (packets_at gs) frame ∙ x.own closing

-- else that of a gap does
pub gap_waits : (f : FrameFeed) (w : Waiting) (gs : List Numbered) → waiting_of f ≡ Some w → (x : Came f w gs) (n : ℕ)
    → f.inner.sequence.progress.number ≡ Some n → n ≢ f.inner.sequence.progress.next → packets_at gs w.frame ≡ []
gap_waits f w gs is x n has other =
    let at : Progress = f.inner.sequence.progress in
    let waits = waits_for at w (sym f.waits ∙ is) in
    let low : w.frame ≤ n = waits.below n has in
    let frame : w.frame ≡ at.next = waits.frame in
    let number : n ≡ x.number = same_Some n x.number (sym has ∙ x.is) in
    ap (packets_at gs) frame ∙ x.gap (omega (arith, low, frame, other, number))

-- ---- a frame that is not muted

-- the own record of the group waits
own_is : (f : FrameFeed) (w : Waiting) → is_whole (waiting_of f) ≡ true → waiting_of f ≡ Some w
    → IsOwn f.inner.sequence.progress w × (w.mute ≡ None)
own_is f w whole is =
    let k = whole_is (waiting_of f) whole in
    let same : k.0 ≡ w = same_Some k.0 w (sym k.1 ∙ is) in
    let none : w.mute ≡ None = ap (λ (w : Waiting). w.mute) (sym same) ∙ k.2 in
    ((waits_for f.inner.sequence.progress w (sym f.waits ∙ is)).own none, none)

-- its number is that of the group under way
own_number : (f : FrameFeed) (w : Waiting) (gs : List Numbered) → (x : Came f w gs) → IsOwn f.inner.sequence.progress w
    → w.frame ≡ x.number
own_number f w gs x own = same_Some w.frame x.number (sym own.number ∙ x.is)

pub whole_came : (f : FrameFeed) (w : Waiting) (gs : List Numbered) → is_whole (waiting_of f) ≡ true
    → waiting_of f ≡ Some w
    → (x : Came f w gs) → packets_at gs w.frame ≡ x.group.packets
whole_came f w gs whole is x =
    let own = (own_is f w whole is).0 in
    ap (packets_at gs) (own_number f w gs x own) ∙ x.own own.closing

pub room_came : (f : FrameFeed) (w : Waiting) (gs : List Numbered) → is_whole (waiting_of f) ≡ true
    → waiting_of f ≡ Some w
    → Came f w gs → CarriesRoom (config_of f) gs w.frame
room_came f w gs whole is x =
    let own = own_is f w whole is in
    let number : w.frame ≡ x.number = own_number f w gs x own.0 in
    carries (config_of f) x.past gs x.group w.frame (x.passes own.0 own.1) (whole_came f w gs whole is x)
    (λ k less. x.below k (omega (arith, less, number)))

-- it is shown by the parts of the group
pub shows_held : (f : FrameFeed) (dynamic : List Bool) (lists : List (List (List ℕ))) (past : List Numbered) (h : Group)
    → is_whole (waiting_of f) ≡ true → dynamic ≡ dynamic_of f → lists ≡ lists_of f
    → length lists ≡ length (config_of f).plps
    → ((past : List Numbered) (h : Group) → f.inner.sequence.group.intact ≡ true
    → Holds f.inner.sequence.group past (Some h)
    → dynamic ≡ dynamic_in h.packets)
    → ((past : List Numbered) (h : Group) → f.inner.sequence.group.intact ≡ true
    → Holds f.inner.sequence.group past (Some h)
    → has_room f.inner.sequence.group ≡ true → AreBlocks (config_of f) h.packets lists)
    → Holds f.inner.sequence.group past (Some h) → Shows (config_of f) h.packets (dynamic_of f) (lists_of f)
shows_held f dynamic lists past h whole dynamic_held lists_held plps value blocks holds =
    let group = f.inner.sequence.group in
    let o = own_now f.inner.sequence.progress f.waiting f.waits whole in
    let frame : is_frame group ≡ true = f.inner.sequence.frame o.closing o.number o.fault in
    let room = (and_parts (nat_le group.blocks.need group.blocks.chunks) (has_map group.network (shape_of group))
    frame).0 in
    let k = whole_is (waiting_of f) whole in
    let intact : group.intact ≡ true = f.intact (ap is_some (sym f.waits ∙ k.1)) in
    record {
      dynamic_is = sym dynamic_held ∙ value past h intact holds;
      plps = sym (ap length lists_held) ∙ plps;
      blocks = λ plp inside. sym (ap (λ (l : List (List (List ℕ))). slice_index_or l plp []) lists_held)
          ∙ blocks past h intact holds room plp inside;
    }

-- ---- the blocks that came

-- they are held
pub blocks_held : (f : FrameFeed) (w : Waiting) (gs : List Numbered) (lists : List (List (List ℕ)))
    → waiting_of f ≡ Some w
    → (x : Came f w gs) (n : ℕ) → f.inner.sequence.progress.number ≡ Some n → n ≡ f.inner.sequence.progress.next
    → ((past : List Numbered) (h : Group) → f.inner.sequence.group.intact ≡ true
    → Holds f.inner.sequence.group past (Some h)
    → AreBlocks (config_of f) h.packets lists)
    → AreBlocks (config_of f) (packets_at gs w.frame) lists
blocks_held f w gs lists is x n has same blocks =
    subst (λ ps. AreBlocks (config_of f) ps lists) (sym (own_waits f w gs is x n has same))
    (blocks x.past x.group (f.intact (ap is_some (sym f.waits ∙ is))) x.holds)

-- they have no room
pub lacks_room : (f : FrameFeed) (w : Waiting) (gs : List Numbered) → waiting_of f ≡ Some w → (x : Came f w gs) (n : ℕ)
    → f.inner.sequence.progress.number ≡ Some n → n ≡ f.inner.sequence.progress.next
    → has_room f.inner.sequence.group ≡ false
    → HasRoom (config_of f) gs w.frame → packets_at gs w.frame ≡ []
lacks_room f w gs is x n has same none room =
    let group = f.inner.sequence.group in
    absurd (true≢false (sym (room_needs (config_of f) group.blocks x.group x.holds.counts group.chunks
    (ap (room_test (config_of f)) (sym (own_waits f w gs is x n has same)) ∙ room)) ∙ none))
