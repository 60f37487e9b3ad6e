use Rattle.std.proofs.Common.{◌≡◌, ℕ, ◌+◌, ◌-◌, length, ap, sym, ◌∙◌, arith, take, drop}
use Rattle.terms.proofs.BitLemmas.{length-part}
use Rattle.file_run.proofs.InputLemmas.{skipped}
use Rattle.file_run.proofs.input.InBuffer.skip.Goals as goal

pub returns : goal.returns
returns c =
    let i = c.self.inside in
    let size : length c.args.self.now ≡ i.span.end - i.span.start = sym (ap length c.self.view_is)
    ∙ length-part i.bytes.items i.span.start (i.span.end - i.span.start) (omega arith) in
    let left : i.span.end - (i.span.start + c.args.count) ≡ i.span.end - i.span.start - c.args.count = omega arith in
    ap (λ (n : ℕ). take n (drop (i.span.start + c.args.count) i.bytes.items)) left
    ∙ skipped i.bytes.items i.span.start (i.span.end - i.span.start) c.args.count (omega arith)
    ∙ ap (drop c.args.count) c.self.view_is
