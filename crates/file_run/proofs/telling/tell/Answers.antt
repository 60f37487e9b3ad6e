use Rattle.std.proofs.lemmas.Result.{on_ok_weaker, IfErr-weaker}
use Rattle.file_run.proofs.TellLemmas.{telling_first}
use Rattle.file_run.proofs.ToldLemmas.{told_all, told_fault, finishes_since, breaks_since}
use Rattle.file_run.proofs.telling.tell.Goals as goal

pub returns-clause-ok : goal.returns-clause-ok
returns-clause-ok g c =
    let first = telling_first (g.M.Machine.Becomes c.args.machine.now) g.M.Machine.next c.args.machine.now
    _ _ c.args.name.now _ _
    _ c.in-Ok.ensures.ok c.begin.ensures c.requires.nothing c.requires.start in
    told_all _ g.M.Machine.next (g.D.Desk.state c.args.desk.now) _ _ c.args.name.now _ _ _ _ _
    (on_ok_weaker c.tell_on-told.result (λ h. h c.args.machine.now _ c.args.name.now first) c.tell_on-told.ensures.ok)
    (on_ok_weaker c.tell_on-told.result
    (λ h. finishes_since g.M.Machine.next _ _ _ _ c.tell_on-told.new.reader c.in-Ok.ensures.counts.ok h)
    c.tell_on-told.ensures.end)
    c.tell_last.ensures

pub returns-clause-err : goal.returns-clause-err
returns-clause-err g c =
    let first = telling_first (g.M.Machine.Becomes c.args.machine.now) g.M.Machine.next c.args.machine.now
    _ _ c.args.name.now _ _
    _ c.in-Ok.ensures.ok c.begin.ensures c.requires.nothing c.requires.start in
    told_fault _ g.M.Machine.next (g.D.Desk.state c.args.desk.now) _ _ c.args.name.now _ _ _ _ _
    (on_ok_weaker c.tell_on-told.result (λ h. h c.args.machine.now _ c.args.name.now first) c.tell_on-told.ensures.ok)
    (on_ok_weaker c.tell_on-told.result
    (λ h. finishes_since g.M.Machine.next _ _ _ _ c.tell_on-told.new.reader c.in-Ok.ensures.counts.ok h)
    c.tell_on-told.ensures.end)
    (IfErr-weaker c.tell_on-told.result _ _ (λ why h. h c.args.machine.now _ c.args.name.now first)
    c.tell_on-told.ensures.err)
    (IfErr-weaker c.tell_on-told.result _ _
    (λ why h. breaks_since g.M.Machine.next _ _ _ _ c.tell_on-told.new.reader why c.in-Ok.ensures.counts.ok h)
    c.tell_on-told.ensures.cause)
    c.tell_last.ensures
