use Rattle.std.proofs.Common.{◌+◌, ◌++◌, ◌∙◌, ℕ, List, drop, ap, sym, arith}
use Rattle.open_group.specs.Steps.{step_bytes}
use Rattle.open_group.proofs.RecordLemmas.{taken, taken_through, stays_behind}
use Rattle.open_group.proofs.writer.Writer.take.Goals as goal

pub returns-then-self-size-clause-bytes : goal.returns-then-self-size-clause-bytes
returns-then-self-size-clause-bytes c =
    let rest = step_bytes c.args.plan.now c.args.shape.now c.args.self.now.frame_idx c.args.pool.now.lists
    c.args.self.now.step in
    taken c.args.self.now.piece rest c.args.self.now.at c.copy_from-size.result
    ∙ ap (λ (l : List ℕ). l ++ (drop (c.args.self.now.at + c.copy_from-size.result) c.args.self.now.piece ++ rest))
    (sym c.copy_from-size.ensures.out)

pub build-self-requires : goal.build-self-requires
build-self-requires c = c.fill_cells-filled.ensures.step c.args.pool.now.lists c.requires

pub returns-clause-bytes : goal.returns-clause-bytes
returns-clause-bytes c =
    let lists = c.args.pool.now.lists in
    let mid = step_bytes c.args.plan.now c.args.shape.now c.args.self.now.frame_idx lists
    c.fill_cells-filled.new.step in
    let more =
    step_bytes c.args.plan.now c.args.shape.now c.args.self.now.frame_idx c.build-self.new.pool.lists
    c.build-self.result in
    taken_through c.args.self.now.piece
    (step_bytes c.args.plan.now c.args.shape.now c.args.self.now.frame_idx lists c.args.self.now.step) mid
    c.build-self.new.out more c.copy_from-size.new.out c.fill_cells-filled.new.out c.args.self.now.at
    c.copy_from-size.result
    c.fill_cells-filled.result
    (omega (arith, c.if-self-size.false, c.len.ensures.value)) c.copy_from-size.ensures.out
    c.fill_cells-filled.ensures.front
    (c.fill_cells-filled.ensures.bytes c.args.pool.now.lists) c.build-self.ensures.bytes

pub returns-clause-stays : goal.returns-clause-stays
returns-clause-stays c = (
  c.fill_cells-filled.ensures.stays.0 ∙ c.copy_from-size.ensures.stays.0,
  stays_behind c.args.out.now c.copy_from-size.new.out c.fill_cells-filled.new.out c.copy_from-size.result
      c.fill_cells-filled.result c.copy_from-size.ensures.stays.1 c.fill_cells-filled.ensures.stays.1,
)
