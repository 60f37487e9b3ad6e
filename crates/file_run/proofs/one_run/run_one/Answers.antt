use Rattle.std.proofs.Common.{sym, ◌∙◌}
use Rattle.file_run.proofs.OneRunLemmas.{ends_noted}
use Rattle.file_run.proofs.one_run.run_one.Goals as goal

pub returns-in-Ok : goal.returns-in-Ok
returns-in-Ok g c =
    ends_noted _ _ _ _ _ g.M.Machine.reach g.M.Machine.next _ _ _ _ c.note.ensures c.in_ok-ran.ensures.ok
    c.in_ok-ran.ensures.end (sym c.ending.ensures ∙ c.in-Ok.is)

pub returns : goal.returns
returns g c =
    ends_noted _ _ _ _ _ g.M.Machine.reach g.M.Machine.next _ _ _ _ c.note.ensures c.in_ok-ran.ensures.ok
    c.in_ok-ran.ensures.end (sym c.ending.ensures ∙ c.in-Err.is)
