-- Of the frames between those that were given and those that come no packet came.
use Rattle.std.proofs.Common.{◌≡◌, ◌≢◌, ℕ, ◌+◌, ◌<◌, ◌≤◌, ◌==◌, Bool, false, List, [], ◌∷◌, ◌++◌, length, Option, Some}
use Rattle.std.proofs.Common.{refl, ap, sym, subst, ◌∙◌, arith, length-append}
use Rattle.std.specs.List.{AllByRecursion}
use Rattle.std.proofs.lemmas.Bool.{true≢false, eq-eqb}
use Rattle.plp_config.specs.declared.config.Config.{Config}
use Rattle.frame_groups.specs.Modulated.{FrameRecord, Numbered}
use Rattle.frame_groups.specs.declared.waiting.Waiting.{Waiting}
use Rattle.frame_groups.specs.Begun.{packets_at}
use Rattle.modulator.specs.Laws.{DueFront, DueFollow}
use Rattle.modulator.specs.StandsFor.{records_of}
use Rattle.feed_merge.specs.Laws.{AllBelow}
use Rattle.feed_merge.specs.Picking.{is_at}
use Rattle.feed_merge.specs.Picks.{above_all}
use Rattle.file_run.specs.FileRun.{IsFed}
use Rattle.feed_merge.specs.Groups.{AreGroups}
use Rattle.feed_merge.specs.FeedStandsFor.{waiting_of}
use Rattle.feed_merge.specs.FeedStandsFor as feed
use Rattle.feed_merge.specs.declared.feed.FrameFeed.{FrameFeed}
use Rattle.feed_merge.proofs.GroupsLemmas.{none_came}
use Rattle.feed_merge.specs.Fed.{IsFedWith, IsBehind}
use Rattle.feed_merge.specs.Reading.{is_idle}
use Rattle.feed_merge.specs.Seen.{seen_of}
use Rattle.feed_merge.proofs.BothFeedLemmas.{idle_none}
use Rattle.feed_merge.proofs.NumberLemmas.{AllFrom, below_of}
use Rattle.feed_merge.proofs.SplitLemmas.{split_at}

-- a feed that has a record, or has ended, is behind what waits
pub behind_busy : (n : ℕ) (f : FrameFeed) (given : List FrameRecord) → is_idle (waiting_of f) (feed.has_ended f) ≡ false
    → ((w : Waiting) → waiting_of f ≡ Some w → n ≤ w.frame) → IsBehind n f given
behind_busy n f given busy least = record {
  waits = least;
  idle = λ none going.
      let over = idle_none (feed.has_ended f)
      (subst (λ (o : Option Waiting). is_idle o (feed.has_ended f) ≡ false) none busy) in
      absurd (true≢false (sym over ∙ going));
}

-- and behind a number of which no record waits
pub behind_absent : (n : ℕ) (f : FrameFeed) (given : List FrameRecord)
    → is_idle (waiting_of f) (feed.has_ended f) ≡ false
    → ((w : Waiting) → waiting_of f ≡ Some w → n ≤ w.frame) → is_at n (seen_of (waiting_of f)) ≡ false
    → IsBehind (n + 1) f given
behind_absent n f given busy least absent = behind_busy (n + 1) f given busy (λ w is. above w is (least w is))
  where
    above : (w : Waiting) → waiting_of f ≡ Some w → n ≤ w.frame → n + 1 ≤ w.frame
    above w is low =
        let off : (w.frame == n) ≡ false = sym (ap (λ (o : Option Waiting). is_at n (seen_of o)) is) ∙ absent in
        let apart : w.frame ≡ n → ⊥ = λ e. true≢false (sym (eq-eqb w.frame n e) ∙ off) in
        omega (arith, low, apart)

other_than : (m low : ℕ) (given : List FrameRecord) → AllBelow low given → low ≤ m
    → AllByRecursion (λ (x : FrameRecord). x.number ≢ m) given
other_than m low [] below le = tt
other_than m low (x ∷ given) below le =
    let first = below.0 in ((λ e. absurd (omega (arith, e, first, le))), other_than m low given below.1 le)

other_from : (m n : ℕ) (after : List FrameRecord) → AllFrom n after → m < n
    → AllByRecursion (λ (x : FrameRecord). x.number ≢ m) after
other_from m n [] from lt = tt
other_from m n (x ∷ after) from lt =
    let first = from.0 in ((λ e. absurd (omega (arith, e, first, lt))), other_from m n after from.1 lt)

both_other : (m : ℕ) (xs ys : List FrameRecord) → AllByRecursion (λ (x : FrameRecord). x.number ≢ m) xs
    → AllByRecursion (λ (x : FrameRecord). x.number ≢ m) ys → AllByRecursion (λ (x : FrameRecord). x.number ≢ m)
    (xs ++ ys)
both_other m [] ys a b = b
both_other m (x ∷ xs) ys a b = (a.0, both_other m xs ys a.1 b)

-- no packet came of the frames from the number behind those that were given on, up to one that is behind
pub nothing_between : DueFront → DueFollow → (c : Config) (f : FrameFeed) (bytes : List ℕ) (ended : Bool)
    (given : List FrameRecord)
    (low n : ℕ) (gs : List Numbered) → IsFedWith c f bytes ended given → above_all given ≤ low → IsBehind n f given
    → AreGroups c bytes ended gs → (m : ℕ) → low ≤ m → m < n → packets_at gs m ≡ []
nothing_between front follow c f bytes ended given low n gs h above behind groups m le lt =
    let file : List ℕ = bytes ++ groups.more in
    let len = length-append bytes groups.more in
    let fed : IsFed file (length bytes) bytes ended = record {
      more = groups.more;
      parts = refl;
      ahead = omega arith;
      within = omega (arith, len);
      end = groups.none;
    } in
    let s = split_at front follow c f file (length bytes) bytes ended given fed h n behind in
    let others : AllByRecursion (λ (x : FrameRecord). x.number ≢ m) (records_of c file) =
    subst (AllByRecursion (λ (x : FrameRecord). x.number ≢ m)) (sym s.all)
    (both_other m given s.after (other_than m low given (below_of low given above) le)
    (other_from m n s.after s.from lt)) in
    ap (λ (l : List Numbered). packets_at l m) groups.are ∙ none_came c file m others
