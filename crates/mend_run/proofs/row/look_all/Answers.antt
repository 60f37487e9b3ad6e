use Rattle.std.proofs.Common.{◌≡◌, ◌<◌, ◌≤◌, Some, ap, sym, subst, ◌∙◌, ⊎_elim, arith}
use Rattle.std.specs.Prelude.{slice_get}
use Rattle.std.proofs.lemmas.Bool.{cases_lt}
use Rattle.std.proofs.lemmas.Option.{slice_get_within, same_Some}
use Rattle.mended_frames.proofs.RowLemmas.{got}
use Rattle.mend_run.specs.Row.{Shows}
use Rattle.mend_run.proofs.row.look_all.Goals as goal

pub loop-i-preserved : goal.loop-i-preserved
loop-i-preserved c = λ i f l is.
    let n = c.loop-i.i in
    let feeds = c.args.feeds.now in
    let at = c.index-feeds-i.result in
    ⊎_elim (λ (a : i < n). c.loop-i.invariant i f a is)
    (λ (a : n ≤ i).
    let same : i ≡ n = omega (arith, a, l) in
    let there : slice_get feeds n ≡ Some f = ap (slice_get feeds) (sym same) ∙ is in
    subst Shows (same_Some at f (sym (got feeds n at (slice_get_within feeds n f there) c.index-feeds-i.is) ∙ there))
    c.look.ensures)
    (cases_lt i n)

pub returns : goal.returns
returns c = λ i f is.
    let inside = slice_get_within c.args.feeds.now i f is in
    c.loop-i.invariant i f (omega (arith, inside, c.loop-i-test.false)) is
