use Rattle.std.proofs.Common.{ℕ, List, ◌+◌, ◌≤◌, ◌++◌, length, ap, sym, ◌∙◌, arith, take, drop, length-drop}
use Rattle.std.proofs.lemmas.List.{take_at}
use Rattle.std.proofs.lemmas.Result.{err_from_is_err_and}
use Rattle.file_run.specs.Waiting.{part_in}
use Rattle.file_run.proofs.InputLemmas.{kept, still_front, grown, reads_on, reads_not, reads_as}
use Rattle.file_run.proofs.input.read_behind.Goals as goal

pub returns-in_err-count-clause-reads : goal.returns-in_err-count-clause-reads
returns-in_err-count-clause-reads g c =
    let front = c.read_at.ensures.before ∙ ap (take c.settle.result.end) c.deref_mut-2.ensures.value
    ∙ c.lay_out.ensures.front c.settle.result.end
    (omega (arith, c.settle.ensures.within, c.settle.ensures.len, c.deref_mut.ensures.len))
    ∙ still_front c.settle.new.bytes _ c.settle.result.end _ c.settle.ensures.within
    (omega (arith, c.settle.ensures.within, c.settle.ensures.len, c.deref_mut.ensures.len)) in
    let same = kept c.settle.new.bytes c.read_at.new.bytes c.settle.result.start c.settle.result.end
    c.settle.ensures.order
    front ∙ c.settle.ensures.same in
    let whole = take_at c.read_at.new.bytes _ _ (c.read_at.ensures.len ∙ c.deref_mut-2.ensures.len) in
    reads_as _ _ c.args.handle c.args.span.now c.settle.result _ _ _ _ c.deref_mut.ensures.value (sym whole)
    (reads_not _ _ c.args.handle _ _ c.requires.opened c.in_err-count.ensures.err same)

pub returns-in_err-count-clause-err : goal.returns-in_err-count-clause-err
returns-in_err-count-clause-err g c =
    let front = c.read_at.ensures.before ∙ ap (take c.settle.result.end) c.deref_mut-2.ensures.value
    ∙ c.lay_out.ensures.front c.settle.result.end
    (omega (arith, c.settle.ensures.within, c.settle.ensures.len, c.deref_mut.ensures.len))
    ∙ still_front c.settle.new.bytes _ c.settle.result.end _ c.settle.ensures.within
    (omega (arith, c.settle.ensures.within, c.settle.ensures.len, c.deref_mut.ensures.len)) in
    let whole = take_at c.read_at.new.bytes _ _ (c.read_at.ensures.len ∙ c.deref_mut-2.ensures.len) in
    let p = err_from_is_err_and c.from_residual.result c.from_residual.ensures.1 in
    rw p.1 (ap (part_in c.settle.result) whole
    ∙ kept c.settle.new.bytes c.read_at.new.bytes c.settle.result.start c.settle.result.end c.settle.ensures.order
    front ∙ c.settle.ensures.same ∙ ap (part_in c.args.span.now) c.deref_mut.ensures.value)

pub returns-clause-reads : goal.returns-clause-reads
returns-clause-reads g c =
    let front = c.read_at.ensures.before ∙ ap (take c.settle.result.end) c.deref_mut-2.ensures.value
    ∙ c.lay_out.ensures.front c.settle.result.end
    (omega (arith, c.settle.ensures.within, c.settle.ensures.len, c.deref_mut.ensures.len))
    ∙ still_front c.settle.new.bytes _ c.settle.result.end _ c.settle.ensures.within
    (omega (arith, c.settle.ensures.within, c.settle.ensures.len, c.deref_mut.ensures.len)) in
    let rest : List ℕ = drop c.settle.result.end c.read_at.new.bytes in
    let inside : c.in_ok-count.count ≤ length rest =
    omega (arith, length-drop c.settle.result.end c.read_at.new.bytes, c.in_ok-count.ensures.count) in
    let more = grown c.settle.new.bytes c.read_at.new.bytes c.settle.result.start c.settle.result.end
    c.in_ok-count.count
    c.settle.ensures.order front
    ∙ ap (λ (front : List ℕ). front ++ take c.in_ok-count.count rest) c.settle.ensures.same in
    let whole = take_at c.read_at.new.bytes _ _ (c.read_at.ensures.len ∙ c.deref_mut-2.ensures.len) in
    reads_as _ _ c.args.handle c.args.span.now
    (record { start = c.settle.result.start; end = c.settle.result.end + c.in_ok-count.count }) _ _ _ _
    c.deref_mut.ensures.value (sym whole)
    (reads_on _ _ c.args.handle c.in_ok-count.count rest _ _ c.in_ok-count.ensures.ok inside more)
