use Rattle.std.proofs.Common.{ap, ◌∙◌}
use Rattle.ports.specs.MemoryDesk.{with_file}
use Rattle.trial_run.proofs.StageLemmas.{has_file}
use Rattle.trial_run.proofs.stages.desk_with.Goals as goal

pub returns : goal.returns
returns c =
    has_file c.args.name.now c.args.bytes.now _
    (c.in_ok-put_file.ensures.ok ∙ ap (with_file c.args.name.now c.args.bytes.now) c.new-desk.ensures)
