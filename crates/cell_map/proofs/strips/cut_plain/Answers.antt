use Rattle.cell_map.proofs.StripLemmas.{plain_cut}
use Rattle.cell_map.proofs.strips.cut_plain.Goals as goal

pub returns : goal.returns
returns c = plain_cut c.args.run c.args.limit c.cell_of.result c.requires.inside c.requires.plain.0 c.requires.plain.1
    c.requires.limit.0 c.requires.limit.1 c.cell_of.ensures.ordinal c.cell_of.ensures.cell
