use Rattle.std.proofs.Common.{ap, sym, ◌∙◌}
use Rattle.std.specs.Str.{bytes_eq}
use Rattle.ports.proofs.GivenLemmas.{given_by_more, counted, passed}
use Rattle.ports.proofs.memory_files.given_by.Goals as goal
use Rattle.ports.proofs.memory_files.given_by.Goals.{then-eq, else-eq}

pub loop-handle-preserved : goal.loop-handle-preserved
loop-handle-preserved c =
    let step =
    given_by_more c.args.name.now c.args.handles.now c.loop-handle.handle-index c.handle-item.result
    c.loop-handle-test.true
    c.handle-item.is in
    let test = ap (λ s. bytes_eq s c.args.name.now) (sym c.as_str.ensures.value) ∙ sym c.eq.ensures in
    elim c.if-eq.branch [
      | then-eq w ↦ counted _ _ _ _ _ _ (test ∙ w.if-eq.true) step c.loop-handle.invariant
          (w.given-is ∙ w.saturating_add-given.ensures)
      | else-eq w ↦ passed _ _ _ _ _ _ (test ∙ w.if-eq.false) step c.loop-handle.invariant w.given-is
    ]
