use Rattle.std.proofs.Common.{take, rules, refl, arith}
use Rattle.std.proofs.lemmas.List.{length-take-le}
use Rattle.site_frame.proofs.CountLemmas.{passes}
use Rattle.site_frame.proofs.count.RecordCount.pass.Goals as goal

pub returns-clause-counts : goal.returns-clause-counts
returns-clause-counts c = λ came s.
    let size = length-take-le c.min-count.result c.args.bytes.now (search (rules, arith)) in
    passes c.args.self.now _ (take c.min-count.result c.args.bytes.now) came c.requires.under_way
    (search (rules, arith, size)) refl refl s
