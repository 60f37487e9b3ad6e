use Rattle.std.proofs.lemmas.Result.{err_from_is_err_and}
use Rattle.show_run.proofs.FrameGivenLemmas.{comes_first}
use Rattle.show_run.proofs.FrameShowLemmas.{frames_end, frames_stop}
use Rattle.show_run.proofs.show.show_frames.Goals as goal

pub tell_lines-requires-clause-start : goal.tell_lines-requires-clause-start
tell_lines-requires-clause-start g c = comes_first _ c.new-lines.ensures

pub returns-in_err-tell_lines : goal.returns-in_err-tell_lines
returns-in_err-tell_lines g c =
    let p = err_from_is_err_and c.from_residual.result c.from_residual.ensures.1 in
    rw (p.1, p.2)
    (frames_stop c.reading_law.ensures.one c.refusal_law.ensures.never c.stands_law.ensures.takes
    c.stands_law.ensures.within _
    c.tell_lines.new.machine _ _ c.args.name.now _ c.in_err-tell_lines.ensures.err)

pub returns : goal.returns
returns g c = rw c.records_end.ensures (frames_end _ c.tell_lines.new.machine _ _ c.args.name.now
    c.in_ok-tell_lines.ensures.ok)
