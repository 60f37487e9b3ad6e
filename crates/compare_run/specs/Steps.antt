-- What two feeds do next. No public clause cites this module.
use Rattle.std.specs.Prelude.{ℕ, ◌+◌, ◌-◌, ◌*◌, nat_lt, Bool, if◌then◌else◌}
use Rattle.file_run.specs.declared.machine.Step.{Step}
use Rattle.file_run.specs.declared.machine.Step.TheVariants.{Give, End}
use Rattle.feed_merge.specs.FeedStandsFor as feed
use Rattle.feed_merge.specs.Reading.{reach_by, step_for}
use Rattle.compare_run.specs.TallyStandsFor.{plps_in}
use Rattle.compare_run.specs.declared.machine.CompareMachine.{CompareMachine}

-- A PLP is left to tell of the frame that was compared last.
abbrev pub is_telling : CompareMachine → Bool
is_telling m = nat_lt m.plp (plps_in m.carried)

abbrev pub step_of : CompareMachine → Step
step_of m = if is_telling m then Give else (if m.done then End else step_for m.a m.b)

abbrev pub reach_of : CompareMachine → ℕ → ℕ
reach_of m = reach_by m.a m.b

-- It gives no more often before it wants bytes: so many records may come, each with all PLPs, and then the end.
abbrev pub left_of : CompareMachine → ℕ
left_of m =
    (if m.done then 0 else feed.left_of m.a + feed.left_of m.b + 1) * (plps_in m.carried + 1)
    + (plps_in m.carried - m.plp)
