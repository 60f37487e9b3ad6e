use Rattle.std.proofs.Common.{◌≡◌, ◌∙◌, ℕ, min, length, ap, take, arith, sym}
use Rattle.terms.specs.Bits.{bytes_for}
use Rattle.show_run.proofs.LineLemmas.{head_more, head_whole}
use Rattle.show_run.proofs.packet_line.head.Goals as goal

pub loop-k-preserved : goal.loop-k-preserved
loop-k-preserved c = head_more c.args.bits.now c.loop-k.bytes c.loop-k.k c.byte.result
    (omega arith) c.loop-k.invariant c.byte.ensures

pub returns-clause-head : goal.returns-clause-head
returns-clause-head c =
    let last : c.min-count.result ≡ c.loop-k.k = omega arith in
    let count : c.loop-k.k ≡ min (bytes_for (length c.args.bits.now)) 8 = sym last ∙ c.min-count.ensures
    ∙ ap (λ (n : ℕ). min (bytes_for n) 8) c.len.ensures.len in
    ap (λ (k : ℕ). take k c.loop-k.bytes) last ∙ c.loop-k.invariant ∙ head_whole c.args.bits.now c.loop-k.k count
