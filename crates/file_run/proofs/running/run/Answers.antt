use Rattle.std.proofs.Common.{refl, sym, ◌∙◌, arith}
use Rattle.file_run.specs.Running.{start_of}
use Rattle.file_run.specs.Sink.{sink_of}
use Rattle.file_run.proofs.RunningLemmas.{running_first, running_drained, stopped_drained, running_fed, stopped_fed}
use Rattle.file_run.proofs.RunningLemmas.{run_all, at_end, place_first}
use Rattle.file_run.proofs.running.run.Goals as goal

pub returns-in-Err-clause-err : goal.returns-in-Err-clause-err
returns-in-Err-clause-err g c =
    let b = start_of (g.D.Desk.state c.args.desk.now) (sink_of c.args.output) c.args.ins.now in
    let f = c.drain.ensures.counts in
    stopped_drained g.M.Machine.Becomes c.args.machine.now _ _ g.M.Machine.reach g.M.Machine.next b _ _ _ _
    (place_first b _ _ _ _ c.in_ok-open_files.ensures.ok c.in_ok-out.ensures.ok)
    (record {
      rose = c.in-Err.ensures.counts.err;
      first = c.in-Err.ensures.counts.first;
      later = f.later;
      others = f.others;
    })
    c.in-Err.ensures.gives c.in-Err.ensures.err
    (running_first c.creates_law.ensures _ g.M.Machine.reach _ b _ _ c.open_files.new.readers _ c.requires.apart
    c.in_ok-open_files.ensures.ok c.in_ok-out.ensures.ok c.requires.start)

pub loop-input-init : goal.loop-input-init
loop-input-init g c =
    let b = start_of (g.D.Desk.state c.args.desk.now) (sink_of c.args.output) c.args.ins.now in
    let place = place_first b _ _ _ _ c.in_ok-open_files.ensures.ok c.in_ok-out.ensures.ok in
    record {
      running = running_drained g.M.Machine.Becomes c.args.machine.now _ _ g.M.Machine.reach b _ _ _ _ place
          c.in-Ok.ensures.counts.ok c.drain.ensures.reach c.in-Ok.ensures.ok
          (running_first c.creates_law.ensures _ g.M.Machine.reach _ b _ _ c.open_files.new.readers _ c.requires.apart
          c.in_ok-open_files.ensures.ok c.in_ok-out.ensures.ok c.requires.start);
      place = place;
      dry = c.in-Ok.ensures.dry;
      nothing = c.in-Ok.ensures.nothing;
    }

pub loop-input-preserved : goal.loop-input-preserved
loop-input-preserved g c =
    let w = c.in-Read.ensures.wanted _ _ c.loop-input.invariant.running.came in
    record {
      running =
          running_drained g.M.Machine.Becomes c.args.machine.now _ _ g.M.Machine.reach _ _ _ _ _
          c.loop-input.invariant.place
          c.in-Ok-drain.ensures.counts.ok c.drain-in-Read.ensures.reach c.in-Ok-drain.ensures.ok
          (running_fed g.M.Machine.Becomes c.args.machine.now _ _ g.M.Machine.reach _ _ _ _ _ c.in-Read.most _ _
          c.index-readers-input.result
          (omega (arith, w.place, c.requires.inputs, c.loop-input.invariant.running.runs.reached.all)) refl
          (record { reads = c.feed.ensures.reads; limit = c.feed.ensures.limit }) c.in-Ok-feed.ensures.counts
          c.in-Ok-feed.ensures.short c.feed.ensures.reach c.in-Ok-feed.ensures.feeds c.loop-input.invariant.running
          w.near);
      place = c.loop-input.invariant.place;
      dry = c.in-Ok-drain.ensures.dry;
      nothing = c.in-Ok-drain.ensures.nothing;
    }

pub returns-in-Err-feed-clause-err : goal.returns-in-Err-feed-clause-err
returns-in-Err-feed-clause-err g c =
    let w = c.in-Read.ensures.wanted _ _ c.loop-input.invariant.running.came in
    rw c.fault_of.ensures
    (stopped_fed _ _ _ g.M.Machine.reach g.M.Machine.next _ _ _ _ _ c.in-Read.least c.in-Read.most _ _
    c.index-readers-input.result _
    (omega (arith, w.place, c.requires.inputs, c.loop-input.invariant.running.runs.reached.all)) refl
    (record { reads = c.feed.ensures.reads; limit = c.feed.ensures.limit }) c.in-Err-feed.ensures.none
    c.in-Err-feed.ensures.machine (sym c.step.ensures.next ∙ c.in-Read.is) c.in-Err-feed.ensures.err
    c.loop-input.invariant.running w.is_open w.near)

pub returns-in-Err-drain-clause-err : goal.returns-in-Err-drain-clause-err
returns-in-Err-drain-clause-err g c =
    let w = c.in-Read.ensures.wanted _ _ c.loop-input.invariant.running.came in
    let f = c.drain-in-Read.ensures.counts in
    stopped_drained g.M.Machine.Becomes c.args.machine.now _ _ g.M.Machine.reach g.M.Machine.next _ _ _ _ _
    c.loop-input.invariant.place (record {
      rose = c.in-Err-drain.ensures.counts.err;
      first = c.in-Err-drain.ensures.counts.first;
      later = f.later;
      others = f.others;
    }) c.in-Err-drain.ensures.gives c.in-Err-drain.ensures.err
    (running_fed g.M.Machine.Becomes c.args.machine.now _ _ g.M.Machine.reach _ _ _ _ _ c.in-Read.most _ _
    c.index-readers-input.result
    (omega (arith, w.place, c.requires.inputs, c.loop-input.invariant.running.runs.reached.all))
    refl
    (record { reads = c.feed.ensures.reads; limit = c.feed.ensures.limit }) c.in-Ok-feed.ensures.counts
    c.in-Ok-feed.ensures.short
    c.feed.ensures.reach c.in-Ok-feed.ensures.feeds c.loop-input.invariant.running w.near)

pub returns-clause-ok : goal.returns-clause-ok
returns-clause-ok g c = run_all _ _ g.M.Machine.reach _ _ _ c.loop-input.invariant.running

pub returns-clause-end : goal.returns-clause-end
returns-clause-end g c = at_end (g.M.Machine.next c.loop-input.machine) c.loop-input.invariant.dry
    (λ input least most e. c.in_default.not-Read input least most (c.step.ensures.next ∙ e))
