use Rattle.std.proofs.Common.{codes, ap, ◌∙◌, arith}
use Rattle.ports.specs.MemoryDesk.{with_file}
use Rattle.trial_run.proofs.StageLemmas.{has_inputs, given_at}
use Rattle.trial_run.proofs.stages.desk_of_inputs.Goals as goal

pub returns : goal.returns
returns c = λ files are.
    let inputs = c.args.inputs.now in
    has_inputs files _ _ _ _
    (c.in_ok-put_file-3.ensures.ok
    ∙ ap (with_file (codes "2") _) (c.in_ok-put_file-2.ensures.ok
    ∙ ap (with_file (codes "1") _) (c.in_ok-put_file.ensures.ok ∙ ap (with_file (codes "0") _) c.new-desk.ensures)))
    (c.deref.ensures.value ∙ given_at files inputs 3 0 _ are (omega arith) c.index-inputs-0.is)
    (c.deref-2.ensures.value ∙ given_at files inputs 3 1 _ are (omega arith) c.index-inputs-1.is)
    (c.deref-3.ensures.value ∙ given_at files inputs 3 2 _ are (omega arith) c.index-inputs-2.is)
