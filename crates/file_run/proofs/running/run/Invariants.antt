use Rattle.std.proofs.Common.{◌≡◌, ◌≢◌, []}
use Rattle.std.specs.List.{sum_by}
use Rattle.file_run.specs.Running.{IsRunning, start_of, place_of}
use Rattle.file_run.specs.Sink.{sink_of}
use Rattle.file_run.specs.declared.machine.Step.TheVariants.{Give}
use Rattle.file_run.specs.Reading.{spare}
use Rattle.file_run.proofs.running.run.Given as goal

abbrev pub invariant-loop-input : goal.invariant-loop-input
invariant-loop-input g l = record {
  running : IsRunning (g.M.Machine.Becomes l.fn.machine) g.M.Machine.reach (start_of (g.D.Desk.state l.fn.desk)
      (sink_of l.fn.output) l.fn.ins) (g.D.Desk.state l.desk) l.machine l.readers;
  place : l.out ≡ place_of (start_of (g.D.Desk.state l.fn.desk) (sink_of l.fn.output) l.fn.ins);
  dry : g.M.Machine.next l.machine ≢ Give;
  nothing : l.buffer ≡ [];
}

abbrev pub decreases-loop-input : goal.decreases-loop-input
decreases-loop-input g l = sum_by spare l.readers
