use Rattle.std.proofs.Common.{arith}
use Rattle.cell_map.proofs.MeetingLemmas.{meet_law}
use Rattle.cell_map.proofs.slices.slices_meet.Goals as goal

pub returns-else-slice_meets : goal.returns-else-slice_meets
returns-else-slice_meets c = meet_law c.args.a c.args.b c.args.interval c.slice_meets.result
    c.slice_meets-else-slice_meets.result
    (omega arith) (omega arith) c.slice_meets.ensures c.if-slice_meets.false c.slice_meets-else-slice_meets.ensures
