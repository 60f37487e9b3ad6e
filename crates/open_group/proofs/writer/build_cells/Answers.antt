use Rattle.std.proofs.Common.{arith, ap}
use Rattle.plp_config.specs.declared.config.Config.{Config}
use Rattle.open_group.proofs.RecordLemmas.{words_given}
use Rattle.open_group.proofs.writer.build_cells.Goals as goal

pub returns-clause-bytes : goal.returns-clause-bytes
returns-clause-bytes c = λ lists.
    let e = ap (λ (c : Config). c.cells) c.config.ensures.value in
    words_given c.args.plan.now c.args.shape.now c.args.frame_idx c.args.address c.fitting-count.result c.args.out.now
    c.put_words.new.self
    c.requires.empty c.put_words.ensures (omega (arith, c.fitting-count.ensures.most, e, c.requires.inside))
