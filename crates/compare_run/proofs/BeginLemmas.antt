-- The records of the least number are left behind, and its frame is compared; or no more come.
use Rattle.std.proofs.Common.{◌≡◌, ℕ, ◌+◌, ◌-◌, ◌*◌, ◌^◌, ◌<◌, ◌≤◌, Bool, true, false, cond, List, [], ◌∷◌, ◌++◌}
use Rattle.std.proofs.Common.{length, Option, Some, None, refl, ap, ap₂, sym, subst, ◌∙◌, arith}
use Rattle.std.proofs.Common.{length-append, append-nil, append_assoc}
use Rattle.std.specs.Prelude.{option_map, option_to_list}
use Rattle.std.proofs.lemmas.Bool.{true≢false}
use Rattle.plp_config.specs.declared.config.Config.{Config}
use Rattle.plp_config.specs.declared.moment.TheConstants.{MOST_FRAMES}
use Rattle.terms.specs.Lists.{IsPrefix}
use Rattle.frame_groups.specs.Modulated.{FrameRecord, Numbered}
use Rattle.frame_groups.specs.declared.waiting.Waiting.{Waiting}
use Rattle.frame_groups.specs.Begun.{packets_at}
use Rattle.modulator.specs.Laws.{DueFront, DueFollow}
use Rattle.file_run.specs.Events.{Event, Gave, fed, has_ended, gave}
use Rattle.file_run.specs.Laws.{EventsTell}
use Rattle.feed_merge.specs.Groups.{AreGroups, groups_of}
use Rattle.feed_merge.specs.FeedStandsFor.{waiting_of}
use Rattle.feed_merge.specs.FeedStandsFor as feed
use Rattle.feed_merge.specs.declared.feed.FrameFeed.{FrameFeed}
use Rattle.feed_merge.specs.Picking.{is_at}
use Rattle.feed_merge.specs.Picks.{above_all}
use Rattle.feed_merge.specs.Both.{AreFedWith, IsDueBelow}
use Rattle.feed_merge.specs.Fed.{IsFedWith, IsBehind, NoneComes}
use Rattle.feed_merge.specs.Reading.{is_idle, least_of}
use Rattle.feed_merge.specs.Seen.{seen_of}
use Rattle.feed_merge.specs.Skips.{one_if, AreTaken, Takes, SkipsIf}
use Rattle.feed_merge.proofs.EventLemmas.{gave_both}
use Rattle.feed_merge.proofs.BothFeedLemmas.{took_behind}
use Rattle.feed_merge.proofs.BothLemmas.{due_below}
use Rattle.feed_merge.proofs.BothGroupsLemmas.{behind_busy, behind_absent, nothing_between}
use Rattle.feed_merge.proofs.LeastLemmas.{least_first, least_second, least_most, least_none, some_taken, are_of}
use Rattle.feed_merge.proofs.LeastLemmas.{next_taken, none_comes}
use Rattle.feed_merge.proofs.NumberLemmas.{below_of}
use Rattle.compare_run.specs.Comparing.{Answered, answered, record_at, side_of, sides_answer, whole_answer}
use Rattle.compare_run.specs.Comparing.{answered_at, answers, answers_below, PlpDifference, plp_differences}
use Rattle.compare_run.specs.AnswerLaws.{AnswersGrow, frames_by}
use Rattle.compare_run.specs.Lines.{known_text, plp_text, plp_lines, text_of}
use Rattle.compare_run.specs.Runs.{is_differing}
use Rattle.compare_run.specs.TallyStandsFor.{TallyStandsFor, CarriedStandsFor, NothingBetween, AreOthers, other_in}
use Rattle.compare_run.specs.TallyStandsFor.{plps_in, frames_in}
use Rattle.compare_run.specs.declared.answer.Answer.{Answer}
use Rattle.compare_run.specs.declared.answer.Side.{Side}
use Rattle.compare_run.specs.declared.answering.Carried.{Carried}
use Rattle.compare_run.specs.declared.counts.CompareRan.{CompareRan}
use Rattle.compare_run.specs.declared.tally.Tally.{Tally}
use Rattle.compare_run.specs.Shown.{Shown, HasShown, IsTold, text_in, plps_from}
use Rattle.compare_run.specs.Steps.{left_of}
use Rattle.compare_run.specs.Taking.{side_at, IsOfFeed}
use Rattle.compare_run.specs.declared.machine.CompareMachine.{CompareMachine}
use Rattle.compare_run.proofs.GrowLemmas.{before_more, none_of, all_below}
use Rattle.compare_run.proofs.PlpLemmas.{no_plp, one_plp, said_known, now_untold, record_fewer}
use Rattle.compare_run.proofs.TakeLemmas.{side_is}

-- ---- what becomes of both feeds

-- what is known of the records that were left behind, each by whether it was
pub record Takings (m : CompareMachine) (a b : FrameFeed) (n : ℕ) (p q : Bool) : Type 0 where
  pub is_a : p ≡ is_at n (seen_of (waiting_of m.a))
  pub is_b : q ≡ is_at n (seen_of (waiting_of m.b))
  pub least : least_of (waiting_of m.a) (waiting_of m.b) ≡ Some n
  pub busy_a : is_idle (waiting_of m.a) (feed.has_ended m.a) ≡ false
  pub busy_b : is_idle (waiting_of m.b) (feed.has_ended m.b) ≡ false
  pub took_a : SkipsIf p m.a a
  pub took_b : SkipsIf q m.b b

-- one of them was
pub fewer_left : (m : CompareMachine) (a b : FrameFeed) (n : ℕ) (p q : Bool) → Takings m a b n p q
    → feed.left_of a + feed.left_of b + 1 ≤ feed.left_of m.a + feed.left_of m.b
fewer_left m a b n p q t =
    let some = some_taken (waiting_of m.a) (waiting_of m.b) n t.least in
    let x = ap one_if t.is_a in
    let y = ap one_if t.is_b in
    let u = t.took_a.left in
    let v = t.took_b.left in
    omega (arith, some, x, y, u, v)

-- What a tally is told of a frame, and the line of it.
abbrev pub Tallies : Tally → Tally → ℕ → Answer → List ℕ → Type 0
Tallies old new n a line =
    ((xs : List Answered) → TallyStandsFor old xs → TallyStandsFor new (xs ++ answered n a ∷ []))
    × ((of : ℕ → List PlpDifference) (xs : List Answered) → TallyStandsFor old xs
    → known_text of (xs ++ answered n a ∷ []) ≡ known_text of xs ++ line ++ plp_lines of a n)

-- What a call notes of both feeds, by groups that they may have.
abbrev pub Notes_at : CompareMachine → Carried → Config → ℕ → List Numbered → List Numbered → Type 0
Notes_at m new c n ga gb = CarriedStandsFor m.carried c m.next ga gb → IsOfFeed m.a ga → IsOfFeed m.b gb
    → (is_at n (seen_of (waiting_of m.a)) ≡ false → packets_at ga n ≡ [])
    → (is_at n (seen_of (waiting_of m.b)) ≡ false → packets_at gb n ≡ [])
    → NothingBetween ga m.next n → NothingBetween gb m.next n → CarriedStandsFor new c (n + 1) ga gb

-- And what it answers.
abbrev pub Answers_at : CompareMachine → Carried → Config → ℕ → Answer → List Numbered → List Numbered → Type 0
Answers_at m new c n result ga gb = CarriedStandsFor new c (n + 1) ga gb → IsOfFeed m.a ga → IsOfFeed m.b gb
    → Some result ≡ sides_answer (side_at n (waiting_of m.a)) (side_at n (waiting_of m.b)) (whole_answer c n ga gb)

-- And, if the frame differs, what is noted of its PLPs then.
abbrev pub Others_at : CompareMachine → Carried → Config → ℕ → Answer → List Numbered → List Numbered → Type 0
Others_at m new c n result ga gb = CarriedStandsFor new c (n + 1) ga gb → IsOfFeed m.a ga → IsOfFeed m.b gb
    → is_differing result ≡ true → AreOthers new c n ga gb

abbrev pub Notes : CompareMachine → Carried → Config → ℕ → Type 0
Notes m new c n = (ga gb : List Numbered) → Notes_at m new c n ga gb

abbrev pub AnswersBy : CompareMachine → Carried → Config → ℕ → Answer → Type 0
AnswersBy m new c n result = (ga gb : List Numbered) → Answers_at m new c n result ga gb

abbrev pub OthersBy : CompareMachine → Carried → Config → ℕ → Answer → Type 0
OthersBy m new c n result = (ga gb : List Numbered) → Others_at m new c n result ga gb

-- what a call makes of the other fields
pub record Turns (m new : CompareMachine) (n : ℕ) (result : Answer) : Type 0 where
  pub plan : new.plan.now ≡ m.plan.now
  pub plps : plps_in new.carried ≡ plps_in m.carried
  pub done : new.done ≡ m.done
  pub next : new.next ≡ n + 1
  pub last : new.last ≡ n
  pub plp : new.plp ≡ cond (is_differing result) 0 (plps_in new.carried)

-- ---- by the event

-- groups of the streams are no others behind an event that feeds nothing
pub groups_gave : EventsTell → (c : Config) (events : List Event) (input : ℕ) (line : List ℕ) (gs : List Numbered)
    → AreGroups c (fed input (events ++ Gave line ∷ [])) (has_ended input (events ++ Gave line ∷ [])) gs
    → AreGroups c (fed input events) (has_ended input events) gs
groups_gave tell c events input line gs g =
    let t = tell.given line events in rw (t.ended input, t.fed input) at g

due_gave : EventsTell → (c : Config) (low input : ℕ) (events : List Event) (line : List ℕ)
    → IsDueBelow c low (fed input events)
    → IsDueBelow c low (fed input (events ++ Gave line ∷ []))
due_gave tell c low input events line due = rw ((tell.given line events).fed input) due

-- What becomes of one feed: a record was taken of it or none, and by groups of its stream no packet came of the frames
-- between, nor of one of which no record waits.
record OneSide (c : Config) (f g : FrameFeed) (bytes : List ℕ) (ended : Bool) (given : List FrameRecord) (next n : ℕ) :
    Type 0 where
  records : List FrameRecord
  are : AreTaken (is_at n (seen_of (waiting_of f))) (waiting_of f) records
  of : IsFedWith c g bytes ended (given ++ records)
  behind : IsBehind (n + 1) g (given ++ records)
  feeds : (gs : List Numbered) → AreGroups c bytes ended gs → IsOfFeed f gs
  between : (gs : List Numbered) → AreGroups c bytes ended gs → NothingBetween gs next n
  absent : (gs : List Numbered) → AreGroups c bytes ended gs → is_at n (seen_of (waiting_of f)) ≡ false
      → packets_at gs n ≡ []

one_side : DueFront → DueFollow → (c : Config) (f g : FrameFeed) (bytes : List ℕ) (ended : Bool)
    (given : List FrameRecord) (next n : ℕ) (l : Bool) → l ≡ is_at n (seen_of (waiting_of f))
    → is_idle (waiting_of f) (feed.has_ended f) ≡ false → ((w : Waiting) → waiting_of f ≡ Some w → n ≤ w.frame)
    → SkipsIf l f g → IsFedWith c f bytes ended given → above_all given ≤ next → next ≤ n
    → OneSide c f g bytes ended given next n
one_side front follow c f g bytes ended given next n l is busy least took h above low =
    let t : Takes (is_at n (seen_of (waiting_of f))) f g bytes ended given =
    rw is at (took.takes bytes ended given h.stands) in
    let now : IsFedWith c g bytes ended (given ++ t.records) =
    record { network = took.same.network ∙ h.network; stands = t.stands } in
    record {
      records = t.records;
      are = t.are;
      of = now;
      behind = took_behind follow c n f g bytes ended given busy least took.same.ended
          (λ off. ap waiting_of (took.stays (is ∙ off))) t now;
      feeds = λ gs are. record {
        bytes = bytes;
        ended = ended;
        given = given;
        stands = h.stands;
        groups = rw h.network are;
      };
      between = λ gs are. nothing_between front follow c f _ _ given next n gs h above
          (behind_busy n f given busy least) are;
      absent = λ gs are off. nothing_between front follow c f _ _ given next (n + 1) gs h above
          (behind_absent n f given busy least off) are n low (omega arith);
    }

module _ (tell : EventsTell) (front : DueFront) (follow : DueFollow) (grow : AnswersGrow) (c : Config)
    (m new : CompareMachine) (events : List Event) (n : ℕ) (p q : Bool) (t : Takings m new.a new.b n p q)
    (s : Shown c events m) where
  low : m.next ≤ n
  low = least_most (waiting_of m.a) (waiting_of m.b) n m.next t.least s.both.behind_a.waits s.both.behind_b.waits

  side_a : OneSide c m.a new.a (fed 0 events) (has_ended 0 events) s.given_a m.next n
  side_a = one_side front follow c m.a new.a _ _ s.given_a m.next n p t.is_a t.busy_a
      (least_first (waiting_of m.a) (waiting_of m.b) n t.least) t.took_a s.both.of_a
      (let is = s.both.next_is in omega (arith, is)) low

  side_b : OneSide c m.b new.b (fed 1 events) (has_ended 1 events) s.given_b m.next n
  side_b = one_side front follow c m.b new.b _ _ s.given_b m.next n q t.is_b t.busy_b
      (least_second (waiting_of m.a) (waiting_of m.b) n t.least) t.took_b s.both.of_b
      (let is = s.both.next_is in omega (arith, is)) low

  abbrev xs : List FrameRecord
  xs = side_a.records

  abbrev ys : List FrameRecord
  ys = side_b.records

  abbrev now_a : List FrameRecord
  now_a = s.given_a ++ xs

  abbrev now_b : List FrameRecord
  now_b = s.given_b ++ ys

  -- ---- by the groups of two streams

  module _ (ga gb : List Numbered) (are_a : AreGroups c (fed 0 events) (has_ended 0 events) ga)
      (are_b : AreGroups c (fed 1 events) (has_ended 1 events) gb) where
    told : IsTold c m s.given_a s.given_b s.low (gave events) ga gb
    told = s.told ga gb are_a are_b

    feed_a : IsOfFeed m.a ga
    feed_a = side_a.feeds ga are_a

    feed_b : IsOfFeed m.b gb
    feed_b = side_b.feeds gb are_b

    carried_now : (new : Carried) → Notes m new c n → CarriedStandsFor new c (n + 1) ga gb
    carried_now new notes =
        notes ga gb told.carried feed_a feed_b (side_a.absent ga are_a) (side_b.absent gb are_b)
        (side_a.between ga are_a) (side_b.between gb are_b)

    abbrev was_said : List Answered
    was_said = answers c (frames_by s.given_a ga) (frames_by s.given_b gb)

    abbrev now_said : List Answered
    now_said = answers c (frames_by now_a ga) (frames_by now_b gb)

    grown : now_said ≡ was_said ++ option_to_list (answered_at c (frames_by xs ga) (frames_by ys gb) n)
    grown =
        let was = s.both.next_is in
        grow c ga gb s.given_a s.given_b xs ys n (below_of n s.given_a (omega (arith, was, low)))
        (below_of n s.given_b (omega (arith, was, low)))
        (are_of (waiting_of m.a) n xs side_a.are) (are_of (waiting_of m.b) n ys side_b.are)

    -- what both sides are to each other is what the call says of them
    answer_is : (new : Carried) (result : Answer) → Notes m new c n → AnswersBy m new c n result
        → Some result ≡ sides_answer (side_of (record_at n xs)) (side_of (record_at n ys)) (whole_answer c n ga gb)
    answer_is new result notes says =
        says ga gb (carried_now new notes) feed_a feed_b
        ∙ ap₂ (λ (x y : Side). sides_answer x y (whole_answer c n ga gb))
        (sym (side_is n (waiting_of m.a) xs side_a.are)) (sym (side_is n (waiting_of m.b) ys side_b.are))

    -- so the frame is told
    now_is : (result : Answer) → Some result ≡ sides_answer (side_of (record_at n xs)) (side_of (record_at n ys))
        (whole_answer c n ga gb)
        → now_said ≡ was_said ++ answered n result ∷ []
    now_is result is = grown ∙ ap (λ (o : Option Answer). was_said ++ option_to_list (option_map (answered n) o))
        (sym is)

    abbrev of : ℕ → List PlpDifference
    of = plp_differences c ga gb

    -- all of the frames before is said
    was : plps_in m.carried ≤ m.plp → m.done ≡ false → gave events ≡ known_text of was_said
    was = said_known c m told

    -- they are those below this one
    before : answers_below c (frames_by now_a ga) (frames_by now_b gb) n ≡ was_said
    before =
        let is = s.both.next_is in
        before_more c ga gb s.given_a s.given_b xs ys n
        (λ k lt. none_of n k xs (are_of (waiting_of m.a) n xs side_a.are) lt)
        (λ k lt. none_of n k ys (are_of (waiting_of m.b) n ys side_b.are) lt)
        ∙ sym (all_below c ga gb s.given_a s.given_b n (below_of n s.given_a (omega (arith, is, low)))
        (below_of n s.given_b (omega (arith, is, low))))

    told_now : (result : Answer) (line : List ℕ) → plps_in m.carried ≤ m.plp → m.done ≡ false
        → Turns m new n result → Notes m new.carried c n → AnswersBy m new.carried c n result
        → OthersBy m new.carried c n result
        → Tallies m.tally new.tally n result line → IsTold c new now_a now_b n (gave events ++ line) ga gb
    told_now result line over going turns notes says others tallies =
        let now = now_is result (answer_is new.carried result notes says) in
        let next = turns.next in
        let noted = carried_now new.carried notes in
        record {
          carried = rw next noted;
          tallied = rw now (tallies.0 was_said told.tallied);
          few = (let l = ap length now in let w = told.few in
              omega (arith, next, l, length-append was_said (answered n result ∷ []), w, low));
          said_is = ap₂ (λ (x y : List ℕ). x ++ line ++ y) (was over going)
              (now_untold c ga gb new n result turns.last turns.plp (turns.plps ∙ s.plps)
              (others ga gb noted feed_a feed_b))
              ∙ sym (tallies.1 of was_said told.tallied) ∙ ap (known_text of) (sym now)
              ∙ ap (λ (d : Bool). text_in d of now_said) (sym (turns.done ∙ going));
          since = (line, ap (λ (l : List ℕ). l ++ line) (was over going ∙ ap (known_text of) (sym before)));
        }

  pub shown_compared : (result : Answer) → Turns m new n result → plps_in m.carried ≤ m.plp → m.done ≡ false
      → n < MOST_FRAMES → Notes m new.carried c n → AnswersBy m new.carried c n result
      → OthersBy m new.carried c n result → (line : List ℕ) → Tallies m.tally new.tally n result line
      → Shown c (events ++ Gave line ∷ []) new
  shown_compared result turns over going few notes says plps line told =
      let next = turns.next in
      let is = s.both.next_is in
      let both = subst (λ (k : ℕ). AreFedWith c events false false k new.a new.b now_a now_b) (sym next) (record {
        of_a = side_a.of;
        of_b = side_b.of;
        behind_a = side_a.behind;
        behind_b = side_b.behind;
        next_is = next_taken (waiting_of m.a) (waiting_of m.b) n m.next s.given_a s.given_b xs ys t.least
            low is side_a.are side_b.are;
        early = omega (arith, few);
      }) in
      record {
        config = turns.plan ∙ s.config;
        plps = turns.plps ∙ s.plps;
        given_a = now_a;
        given_b = now_b;
        both = gave_both tell c events line false false new.next new.a new.b now_a now_b both;
        low = n;
        few = omega (arith, next);
        due_a = due_gave tell c n 0 events line
            (due_below c m.a (fed 0 events) (has_ended 0 events) s.given_a n (omega (arith, is, low)) s.both.of_a);
        due_b = due_gave tell c n 1 events line
            (due_below c m.b (fed 1 events) (has_ended 1 events) s.given_b n (omega (arith, is, low)) s.both.of_b);
        told = λ ga gb are_a are_b. rw (tell.given line events).gave
            (told_now ga gb (groups_gave tell c events 0 line ga are_a) (groups_gave tell c events 1 line gb are_b)
            result line over going turns notes says plps told);
        over = λ on. absurd (true≢false (sym on ∙ turns.done ∙ going));
      }

-- how often a machine gives that has not ended
left_going : (m : CompareMachine) → m.done ≡ false
    → left_of m ≡ (feed.left_of m.a + feed.left_of m.b + 1) * (plps_in m.carried + 1) + (plps_in m.carried - m.plp)
left_going m going =
    let x : ℕ = feed.left_of m.a + feed.left_of m.b + 1 in
    let k : ℕ = plps_in m.carried in
    ap (λ (d : Bool). cond d 0 x * (k + 1) + (k - m.plp)) going

-- all PLPs of a frame are told before the next record is left behind
pub left_compared : (m : CompareMachine) (a b : FrameFeed) (done : Bool) (n : ℕ) (p q : Bool) (plps plp : ℕ)
    → Takings m a b n p q → m.done ≡ false → done ≡ m.done → plps ≡ plps_in m.carried
    → cond done 0 (feed.left_of a + feed.left_of b + 1) * (plps + 1) + (plps - plp) < left_of m
left_compared m a b done n p q plps plp t going same count =
    let fewer = fewer_left m a b n p q t in
    let was = left_going m going in
    let x : ℕ = feed.left_of a + feed.left_of b + 1 in
    let y : ℕ = feed.left_of m.a + feed.left_of m.b + 1 in
    let k : ℕ = plps_in m.carried in
    let is : cond done 0 x * (plps + 1) + (plps - plp) ≡ x * (k + 1) + (k - plp) =
    ap₂ (λ (d : Bool) (j : ℕ). cond d 0 x * (j + 1) + (j - plp)) (same ∙ going) count in
    let less = record_fewer x y k (k - plp) (omega (arith, fewer)) (omega arith) in
    omega (arith, was, is, less)

-- the groups of the streams that end here
pub groups_here : (c : Config) (bytes : List ℕ) (ended : Bool) → AreGroups c bytes ended (groups_of c (bytes ++ []))
groups_here c bytes ended = record { more = []; none = λ on. refl; are = refl }

pub told_here : (c : Config) (m : CompareMachine) (events : List Event) (s : Shown c events m)
    → IsTold c m s.given_a s.given_b s.low (gave events) (groups_of c (fed 0 events ++ []))
    (groups_of c (fed 1 events ++ []))
told_here c m events s =
    s.told _ _ (groups_here c (fed 0 events) (has_ended 0 events)) (groups_here c (fed 1 events) (has_ended 1 events))

-- its PLPs are those of its plan
pub plps_fit : {m : CompareMachine} (h : HasShown m) → plps_in m.carried ≡ length m.plan.now.plps
plps_fit h = h.shown.plps ∙ ap (λ (k : Config). length k.plps) (sym h.shown.config)

-- there is room for one more
pub few_said : (c : Config) (m : CompareMachine) (events : List Event) → Shown c events m → frames_in m.tally < 2 ^ 62
few_said c m events s =
    let t = told_here c m events s in
    let e = ap (λ (n : CompareRan). n.frames) t.tallied.counts in
    let f = t.few in
    let l = s.both.early in
    omega (arith, e, f, l)

-- the next number is no greater than the least
pub next_least : (c : Config) (m : CompareMachine) (events : List Event) (n : ℕ) → Shown c events m
    → least_of (waiting_of m.a) (waiting_of m.b) ≡ Some n → m.next ≤ n
next_least c m events n s least = least_most (waiting_of m.a) (waiting_of m.b) n m.next least s.both.behind_a.waits
    s.both.behind_b.waits

-- ---- bytes more were given

pub prefix_more : (tell : EventsTell) (events : List Event) (line text : List ℕ) → IsPrefix text (gave events)
    → IsPrefix text (gave (events ++ Gave line ∷ []))
prefix_more tell events line text p =
    (p.0 ++ line, (tell.given line events).gave ∙ ap (λ (l : List ℕ). l ++ line) p.1 ∙ append_assoc text p.0 line)

-- Of what is left to say this was said, and nothing else was done.
shown_gave : EventsTell → (c : Config) (m : CompareMachine) (events : List Event) (line : List ℕ)
    (s : Shown c events m) (plp : ℕ) (done : Bool)
    → ((ga gb : List Numbered) → IsTold c m s.given_a s.given_b s.low (gave events) ga gb
    → (gave events ++ line) ++ plps_from c m.carried m.last plp
    ≡ text_in done (plp_differences c ga gb) (answers c (frames_by s.given_a ga) (frames_by s.given_b gb)))
    → (done ≡ true → NoneComes m.a × NoneComes m.b)
    → Shown c (events ++ Gave line ∷ []) (record m { plp = plp; done = done })
shown_gave tell c m events line s plp done said over = record {
  config = s.config;
  plps = s.plps;
  given_a = s.given_a;
  given_b = s.given_b;
  both = gave_both tell c events line false false m.next m.a m.b s.given_a s.given_b s.both;
  low = s.low;
  few = s.few;
  due_a = due_gave tell c s.low 0 events line s.due_a;
  due_b = due_gave tell c s.low 1 events line s.due_b;
  told = λ ga gb are_a are_b.
      let t = s.told ga gb (groups_gave tell c events 0 line ga are_a) (groups_gave tell c events 1 line gb are_b) in
      record {
        carried = t.carried;
        tallied = t.tallied;
        few = t.few;
        said_is = rw (tell.given line events).gave (said ga gb t);
        since = prefix_more tell events line _ t.since;
      };
  over = over;
}

-- ---- a PLP is told

pub shown_told : EventsTell → (c : Config) (m : CompareMachine) (events : List Event) (line : List ℕ) → Shown c events m
    → m.plp < plps_in m.carried → line ≡ plp_text c m.last m.plp (other_in m.carried m.plp)
    → Shown c (events ++ Gave line ∷ []) (record m { plp = m.plp + 1 })
shown_told tell c m events line s lt is =
    let rest : List ℕ = plps_from c m.carried m.last (m.plp + 1) in
    shown_gave tell c m events line s (m.plp + 1) m.done
    (λ ga gb t.
    append_assoc (gave events) line rest
    ∙ ap (λ (l : List ℕ). gave events ++ l)
    (ap (λ (l : List ℕ). l ++ rest) is ∙ sym (one_plp c m.carried m.last m.plp lt))
    ∙ t.said_is) s.over

-- ---- no more frames come

pub shown_finished : EventsTell → (c : Config) (m : CompareMachine) (events : List Event) (line : List ℕ)
    → Shown c events m
    → plps_in m.carried ≤ m.plp → m.done ≡ false
    → least_of (waiting_of m.a) (waiting_of m.b) ≡ None → is_idle (waiting_of m.a) (feed.has_ended m.a) ≡ false
    → is_idle (waiting_of m.b) (feed.has_ended m.b) ≡ false
    → ((of : ℕ → List PlpDifference) (xs : List Answered) → TallyStandsFor m.tally xs
    → text_of of xs ≡ known_text of xs ++ line)
    → Shown c (events ++ Gave line ∷ []) (record m { done = true })
shown_finished tell c m events line s over going least busy_a busy_b says =
    let none = least_none (waiting_of m.a) (waiting_of m.b) least in
    shown_gave tell c m events line s m.plp true
    (λ ga gb t.
    ap (λ (l : List ℕ). (gave events ++ line) ++ l) (no_plp c m.carried m.last m.plp over)
    ∙ append-nil (gave events ++ line) ∙ ap (λ (l : List ℕ). l ++ line) (said_known c m t over going)
    ∙ sym (says (plp_differences c ga gb) _ t.tallied))
    (λ _. (none_comes m.a none.0 busy_a, none_comes m.b none.1 busy_b))
