use Rattle.std.proofs.Common.{sym, arith, ◌<◌}
use Rattle.cell_map.proofs.ReadingLemmas.{ready, read, reading_on, reading_hand, dummy_here}
use Rattle.cell_map.proofs.MapLemmas.{get-none}
use Rattle.cell_map.proofs.reading.Cells.next_cell.Goals as goal

pub returns-in-Some-clause-cell : goal.returns-in-Some-clause-cell
returns-in-Some-clause-cell c =
    rw (← c.self.view_is)
    (read c.self.inside.plan.now c.self.inside.shape.now c.self.inside.frame_idx c.self.inside.address
    c.in-Some.found.run
    c.cell_of.result
    c.self.invariant.passes c.in-Some.ensures.some.0 c.cell_of.ensures.ordinal c.cell_of.ensures.cell)

pub returns-in-None-clause-cell : goal.returns-in-None-clause-cell
returns-in-None-clause-cell c =
    rw (← c.self.view_is)
    (sym (get-none c.self.inside.plan.now c.self.inside.shape.now c.self.inside.frame_idx c.self.inside.address
    c.in-None.ensures.none))

pub returns-then-self-gt0-2-clause-cell : goal.returns-then-self-gt0-2-clause-cell
returns-then-self-gt0-2-clause-cell c =
    rw (← c.self.view_is)
    (dummy_here c.self.inside.plan.now c.self.inside.shape.now c.self.inside.frame_idx c.self.inside.address
    c.self.inside.run
    c.self.inside.mark
    c.self.inside.dummy c.self.invariant (omega arith))

pub invariant_of-self : goal.invariant_of-self
invariant_of-self c =
    let inside : c.self.inside.address < c.self.inside.plan.now.cells = rw (← c.self.view_is) at c.requires in
    reading_hand c.self.inside.plan.now c.self.inside.shape.now c.self.inside.frame_idx c.self.inside.address
    c.self.inside.run
    c.step-self-inside.result
    c.self.inside.mark c.self.inside.dummy c.self.invariant inside (omega arith) c.step-self-inside.ensures

pub returns-then-self-gt0-clause-cell : goal.returns-then-self-gt0-clause-cell
returns-then-self-gt0-clause-cell c =
    rw (← c.self.view_is)
    (read c.self.inside.plan.now c.self.inside.shape.now c.self.inside.frame_idx c.self.inside.address c.self.inside.run
    c.cell_of-cell.result
    c.self.invariant.passes (c.self.invariant.next (omega arith)) c.cell_of-cell.ensures.ordinal
    c.cell_of-cell.ensures.cell)

pub invariant_of-self-in-Some : goal.invariant_of-self-in-Some
invariant_of-self-in-Some c =
    let inside : c.self.inside.address < c.self.inside.plan.now.cells = rw (← c.self.view_is) at c.requires in
    reading_on c.self.inside.plan.now c.self.inside.shape.now c.self.inside.frame_idx c.self.inside.address
    c.self.inside.run
    c.in-Some.found.run
    c.step-self-inside-in-Some.result c.self.inside.mark c.in-Some.found.mark c.self.inside.dummy c.self.invariant
    inside
    (omega arith) c.in-Some.ensures.some.0 c.in-Some.ensures.some.1 c.step-self-inside-in-Some.ensures

pub cell_of-cell-requires-clause-row : goal.cell_of-cell-requires-clause-row
cell_of-cell-requires-clause-row c =
    (ready c.self.inside.plan.now c.self.inside.shape.now c.self.inside.frame_idx c.self.inside.address
    c.self.inside.run
    (c.self.invariant.next (omega arith))).row

pub step-self-inside-requires-clause-row : goal.step-self-inside-requires-clause-row
step-self-inside-requires-clause-row c =
    let is =
    (ready c.self.inside.plan.now c.self.inside.shape.now c.self.inside.frame_idx c.self.inside.address
    c.self.inside.run
    (c.self.invariant.next (omega arith))) in
    omega (arith, is.row, is.few)

pub cell_of-requires-clause-row : goal.cell_of-requires-clause-row
cell_of-requires-clause-row c =
    (ready c.self.inside.plan.now c.self.inside.shape.now c.self.inside.frame_idx c.self.inside.address
    c.in-Some.found.run
    c.in-Some.ensures.some.0).row

pub step-self-inside-requires-in-Some-clause-row : goal.step-self-inside-requires-in-Some-clause-row
step-self-inside-requires-in-Some-clause-row c =
    let is =
    (ready c.self.inside.plan.now c.self.inside.shape.now c.self.inside.frame_idx c.self.inside.address
    c.in-Some.found.run
    c.in-Some.ensures.some.0) in
    omega (arith, is.row, is.few)
