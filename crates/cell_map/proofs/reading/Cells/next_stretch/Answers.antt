use Rattle.std.proofs.Common.{◌+◌, ◌*◌, ◌≤◌, arith}
use Rattle.cell_map.proofs.StripLemmas.{inside_of, strip_here, reading_found, reading_cut, dummies_here}
use Rattle.cell_map.proofs.MapLemmas.{get-none}
use Rattle.cell_map.proofs.reading.Cells.next_stretch.Goals as goal

pub invariant_of-self : goal.invariant_of-self
invariant_of-self c =
    let room : c.self.inside.address + c.args.most ≤ c.self.inside.plan.now.cells = rw (← c.self.view_is)
    at c.requires.inside in
    let strip = c.split-next.result.strip in
    let fits : c.self.inside.address + strip.columns * strip.blocks ≤ c.self.inside.plan.now.cells =
    omega (arith, room, c.split-next.ensures.most) in
    reading_cut c.self.inside.plan.now c.self.inside.shape.now c.self.inside.frame_idx c.self.inside.address
    (strip.columns * strip.blocks) c.self.inside.run c.split-next.result.rest c.self.inside.mark c.self.inside.dummy
    c.self.invariant fits c.if-self-gt0.true c.split-next.ensures.skips

pub returns-then-self-gt0-clause-cells : goal.returns-then-self-gt0-clause-cells
returns-then-self-gt0-clause-cells c =
    rw (← c.self.view_is)
    (strip_here c.self.inside.plan.now c.self.inside.shape.now c.self.inside.frame_idx c.self.inside.address c.args.most
    c.self.inside.run
    c.split-next.result c.self.invariant.passes (c.self.invariant.next c.if-self-gt0.true) c.split-next.ensures)

pub returns-then-self-gt0-2-clause-cells : goal.returns-then-self-gt0-2-clause-cells
returns-then-self-gt0-2-clause-cells c =
    rw (← c.self.view_is)
    (λ i less. dummies_here c.self.inside.plan.now c.self.inside.shape.now c.self.inside.frame_idx c.self.inside.address
    i
    c.self.inside.run
    c.self.inside.mark c.self.inside.dummy c.self.invariant (omega (arith, less, c.min-count.ensures)))

pub invariant_of-self-in-Some : goal.invariant_of-self-in-Some
invariant_of-self-in-Some c =
    let room : c.self.inside.address + c.args.most ≤ c.self.inside.plan.now.cells = rw (← c.self.view_is)
    at c.requires.inside in
    let strip = c.split-next-in-Some.result.strip in
    let fits : c.self.inside.address + strip.columns * strip.blocks ≤ c.self.inside.plan.now.cells =
    omega (arith, room, c.split-next-in-Some.ensures.most) in
    reading_found c.self.inside.plan.now c.self.inside.shape.now c.self.inside.frame_idx c.self.inside.address
    (strip.columns * strip.blocks) c.self.inside.run c.in-Some.found.run c.split-next-in-Some.result.rest
    c.self.inside.mark c.in-Some.found.mark c.self.inside.dummy c.self.invariant fits
    (omega (arith, c.if-self-gt0-2.false)) c.in-Some.ensures.some.0 c.in-Some.ensures.some.1
    c.split-next-in-Some.ensures.skips

pub returns-in-Some-clause-cells : goal.returns-in-Some-clause-cells
returns-in-Some-clause-cells c =
    rw (← c.self.view_is)
    (strip_here c.self.inside.plan.now c.self.inside.shape.now c.self.inside.frame_idx c.self.inside.address c.args.most
    c.in-Some.found.run
    c.split-next-in-Some.result c.self.invariant.passes c.in-Some.ensures.some.0 c.split-next-in-Some.ensures)

pub returns-in-None-clause-cells : goal.returns-in-None-clause-cells
returns-in-None-clause-cells c =
    rw (← c.self.view_is)
    (λ i less. get-none c.self.inside.plan.now c.self.inside.shape.now c.self.inside.frame_idx
    (c.self.inside.address + i)
    (λ plp b q cell here. c.in-None.ensures.none plp b q cell (omega (arith, here, less))))

pub split-next-requires-clause-inside : goal.split-next-requires-clause-inside
split-next-requires-clause-inside c =
    inside_of c.self.inside.plan.now c.self.inside.shape.now c.self.inside.frame_idx c.self.inside.address
    c.self.inside.run
    (c.self.invariant.next c.if-self-gt0.true)

pub split-next-requires-in-Some-clause-inside : goal.split-next-requires-in-Some-clause-inside
split-next-requires-in-Some-clause-inside c =
    inside_of c.self.inside.plan.now c.self.inside.shape.now c.self.inside.frame_idx c.self.inside.address
    c.in-Some.found.run
    c.in-Some.ensures.some.0
