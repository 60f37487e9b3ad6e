-- What two feeds want can be read, and there is room for it.
use Rattle.std.proofs.Common.{◌≡◌, ℕ, ◌+◌, ◌^◌, ◌<◌, ◌≤◌, Bool, true, false, cond, List, length, Option, Some, None}
use Rattle.std.proofs.Common.{refl, sym, ◌∙◌, arith}
use Rattle.std.specs.Prelude.{nat_lt}
use Rattle.file_run.specs.Reading.{longest_file}
use Rattle.plp_config.specs.declared.config.Config.{Config}
use Rattle.plp_config.specs.declared.moment.TheConstants.{MOST_FRAMES}
use Rattle.frame_groups.specs.Modulated.{FrameRecord}
use Rattle.file_run.specs.Events.{Event, fed, has_ended}
use Rattle.file_run.specs.FileRun.{read_ahead}
use Rattle.file_run.specs.Steps.{IsWanted, CanBeRead, Suffices}
use Rattle.file_run.specs.declared.machine.Step.TheVariants.{Give, End}
use Rattle.feed_merge.specs.FeedStandsFor.{waiting_of, fed_of}
use Rattle.feed_merge.specs.FeedStandsFor as feed
use Rattle.feed_merge.specs.declared.feed.FrameFeed.{FrameFeed}
use Rattle.feed_merge.specs.Both.{OfFeed, AreFedWith}
use Rattle.feed_merge.specs.Reading.{is_idle, wants_of, step_at, least_of, fed_at, reach_by, step_for}
use Rattle.feed_merge.proofs.FilesLemmas.{two}
use Rattle.feed_merge.proofs.HeldLemmas.{end_of, count_of}
use Rattle.feed_merge.proofs.StepLemmas.{Wants, First, Second, idle_is, suffices_by}

module _ (c : Config) (events : List Event) (held_a held_b : Bool) (next : ℕ) (a b : FrameFeed)
    (ga gb : List FrameRecord)
    (s : AreFedWith c events held_a held_b next a b ga gb) where
  -- as many bytes were fed of each input
  pub fed_count : (input : ℕ) → input < 2 → fed_at (fed_of a) (fed_of b) input ≡ length (fed input events)
  fed_count = two (λ (input : ℕ). fed_at (fed_of a) (fed_of b) input ≡ length (fed input events))
      (count_of c a _ _ ga held_a s.of_a)
      (count_of c b _ _ gb held_b s.of_b)

  can_be_read : (input : ℕ) (f : FrameFeed) (given : List FrameRecord) (held : Bool) → input < 2
      → OfFeed held c f (fed input events) (has_ended input events) given
      → is_idle (waiting_of f) (feed.has_ended f) ≡ true
      → CanBeRead 2 events (reach_by a b) input 1 read_ahead
  can_be_read input f given held lt h on =
      let count = fed_count input lt in
      record {
        place = lt;
        is_open = sym (end_of c f _ _ given held h) ∙ (idle_is (waiting_of f) (feed.has_ended f) on).1;
        some = omega arith;
        few = omega arith;
        order = omega arith;
        near = omega (arith, count);
      }

  pub wanted_by : IsWanted 2 events (reach_by a b) (step_for a b)
  wanted_by = reads (is_idle (waiting_of a) (feed.has_ended a)) (is_idle (waiting_of b) (feed.has_ended b)) refl refl
    where
      none : (o : Option ℕ) → IsWanted 2 events (reach_by a b) (step_at o)
      none None = tt
      none (Some n) = go (nat_lt n MOST_FRAMES)
        where
          go : (t : Bool) → IsWanted 2 events (reach_by a b) (cond t Give End)
          go true = tt
          go false = tt

      reads : (t u : Bool) → is_idle (waiting_of a) (feed.has_ended a) ≡ t
          → is_idle (waiting_of b) (feed.has_ended b) ≡ u
          → IsWanted 2 events (reach_by a b)
          (cond t (wants_of 0) (cond u (wants_of 1) (step_at (least_of (waiting_of a) (waiting_of b)))))
      reads true u on over = can_be_read 0 a ga held_a (omega arith) s.of_a on
      reads false true off on = can_be_read 1 b gb held_b (omega arith) s.of_b on
      reads false false off over = none (least_of (waiting_of a) (waiting_of b))

  -- so many bytes have room
  pub room_of : (input count : ℕ) → Suffices (step_for a b) input count
      → length (fed input events) + count ≤ longest_file
      → fed_at (fed_of a) (fed_of b) input + count < 2 ^ 60
  room_of input count wants few =
      let same = fed_count input (inside (suffices_by _ _ _ _ input count wants).0) in
      omega (arith, same, few)
    where
      inside : Wants (waiting_of a) (feed.has_ended a) (waiting_of b) (feed.has_ended b) input → input < 2
      inside (First at idle) = omega (arith, at)
      inside (Second at idle) = omega (arith, at)
