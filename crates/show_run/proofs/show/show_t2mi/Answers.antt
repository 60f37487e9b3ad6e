use Rattle.std.proofs.Common.{refl}
use Rattle.std.proofs.lemmas.Result.{err_from_is_err_and}
use Rattle.show_run.specs.T2miText.{IsT2miText}
use Rattle.show_run.proofs.ToldLemmas.{shows_none}
use Rattle.show_run.proofs.T2miShowLemmas.{t2mi_end, t2mi_stop}
use Rattle.show_run.proofs.show.show_t2mi.Goals as goal

pub returns-in_default : goal.returns-in_default
returns-in_default g c = shows_none IsT2miText (λ file. refl) _ _ c.args.name.now refl

pub returns-in_err-told : goal.returns-in_err-told
returns-in_err-told g c =
    let p = err_from_is_err_and c.from_residual.result c.from_residual.ensures.1 in
    rw (p.1, p.2)
    (t2mi_stop c.first_pid_law.ensures.none c.accepted_front_law.ensures c.first_pid_law.ensures.behind _
    c.tell_lines-told.new.machine _ _ c.args.name.now _ (c.count-count.ensures.all _) c.in_err-told.ensures.err)

pub returns : goal.returns
returns g c =
    rw c.count-count.ensures.count
    (t2mi_end _ c.tell_lines-told.new.machine _ _ c.args.name.now c.in_ok-told.ensures.ok)
