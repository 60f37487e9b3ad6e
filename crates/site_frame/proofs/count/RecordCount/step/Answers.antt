use Rattle.std.proofs.Common.{take, rules, refl, ◌∙◌, arith}
use Rattle.site_frame.proofs.CountLemmas.{part_came, head_came}
use Rattle.site_frame.proofs.count.RecordCount.step.Goals as goal

pub returns-then-lacks-eq0-clause-counts : goal.returns-then-lacks-eq0-clause-counts
returns-then-lacks-eq0-clause-counts c = λ came s.
    head_came c.args.self.now _ (take c.take-count.result c.args.bytes.now) came c.whole.result c.requires.between
    (c.whole.ensures ∙ c.take-count.ensures.took) (search (rules, arith)) c.told-self.ensures c.clear.ensures
    (search rules) s

pub returns-else-lacks-eq0-clause-counts : goal.returns-else-lacks-eq0-clause-counts
returns-else-lacks-eq0-clause-counts c = λ came s.
    part_came c.args.self.now _ (take c.take-count.result c.args.bytes.now) came c.requires.between c.requires.between
    c.take-count.ensures.took (search (rules, arith)) refl s
