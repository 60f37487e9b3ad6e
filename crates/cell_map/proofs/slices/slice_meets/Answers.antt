use Rattle.std.proofs.Common.{arith}
use Rattle.cell_map.proofs.MeetingLemmas.{meets_law}
use Rattle.cell_map.proofs.slices.slice_meets.Goals as goal

pub returns : goal.returns
returns c = meets_law c.args.start c.args.len c.args.slices c.args.interval c.min-last.result (omega arith)
    (omega arith)
    (omega arith) c.min-last.ensures
