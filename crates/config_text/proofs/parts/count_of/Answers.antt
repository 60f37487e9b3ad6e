use Rattle.std.proofs.Common.{◌==◌, arith}
use Rattle.config_text.proofs.PartLemmas.{counted}
use Rattle.config_text.proofs.parts.count_of.Goals as goal

pub returns-clause-parts : goal.returns-clause-parts
returns-clause-parts c =
    counted (λ b. b == c.args.separator) c.args.bytes.now c.loop-b.count c.loop-b.b-index c.loop-b.invariant.all
    (omega arith)
