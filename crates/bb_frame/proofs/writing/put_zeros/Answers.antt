use Rattle.std.proofs.Common.{◌≡◌, ◌≤◌, ℕ, ◌+◌, ◌-◌, ◌++◌, false, length, ap, sym, ◌∙◌, arith}
use Rattle.std.specs.Prelude.{replicate}
use Rattle.std.proofs.lemmas.List.{length-replicate}
use Rattle.std.proofs.lemmas.Result.{err_from_is_err_and}
use Rattle.terms.specs.Bits.{field}
use Rattle.bb_frame.proofs.WriteLemmas.{zeros_more, zeros_left}
use Rattle.bb_frame.proofs.writing.put_zeros.Goals as goal
use Rattle.bit_slice.proofs.WriterLemmas.{part_stops}

pub returns-in_err-put-clause-fault : goal.returns-in_err-put-clause-fault
returns-in_err-put-clause-fault g c =
    let p = err_from_is_err_and c.from_residual.result c.from_residual.ensures.1 in
    let left = c.loop-left.left in
    let done = c.args.count - left in
    let few : c.min-width.result ≤ length (replicate left false) =
    omega (arith, length-replicate left false, c.min-width.ensures) in
    let sum : done + left ≡ c.args.count = omega (arith, c.loop-left.invariant.0) in
    let whole : replicate c.args.count false ≡ replicate done false ++ replicate left false =
    sym (zeros_left done left ∙ ap (λ (n : ℕ). replicate n false) sum) in
    rw (p.1, p.2) (part_stops c.stops_law.ensures.here c.stops_law.ensures.later _ _ _ (replicate done false)
    (replicate left false) (replicate c.args.count false)
    c.min-width.result c.in_err-put.field-0.0 c.loop-left.invariant.1 c.in_err-put.ensures.fault
    c.in_err-put.ensures.err few
    whole)

pub loop-left-preserved : goal.loop-left-preserved
loop-left-preserved g c =
    let left = c.loop-left.left in
    let done = c.args.count - left in
    let width = c.min-width.result in
    let fits : done + width ≤ c.args.count = omega (arith, c.min-width.ensures, c.loop-left.invariant.0) in
    let sum : done + width ≡ c.args.count - (left - width) = omega (
      arith,
      c.min-width.ensures,
      c.loop-left.invariant.0,
    ) in (
      omega (arith, c.loop-left.invariant.0),
      rw (← sum, ← zeros_more done width c.args.count fits)
          (c.puts_law.ensures _ _ _ (replicate done false) (field width 0) c.loop-left.invariant.1
          c.in_ok-put.ensures.ok),
    )
