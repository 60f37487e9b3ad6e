use Rattle.std.proofs.Common.{◌∙◌, ◌==◌, ◌&&◌, ℕ, ap, sym}
use Rattle.plp_receiver.specs.Parts.{part_with}
use Rattle.plp_receiver.proofs.TakeLemmas.{agrees}
use Rattle.plp_receiver.proofs.HeldLemmas.{goes_on}
use Rattle.plp_receiver.proofs.parts.see_part.Goals as goal

pub see_cells-requires-clause-passes : goal.see_cells-requires-clause-passes
see_cells-requires-clause-passes c =
    (agrees c.map_test_law.ensures c.args.plan.now c.args.number c.args.blocks.now c.args.cells.now c.args.shape.now
    c.rules_law.ensures.plan c.requires.agrees).passes

pub returns-then-goes_on-clause-sees : goal.returns-then-goes_on-clause-sees
returns-then-goes_on-clause-sees c =
    goes_on c.args.plan.now c.args.plp (part_with c.args.number c.args.blocks.now c.args.shape.now c.args.cells.now)
    c.args.number
    c.args.held.now c.see_cells.new.self
    (sym c.is_first.ensures ∙ c.if-is_first.false)
    (sym (c.goes_on.ensures ∙ ap (λ (n : ℕ). c.args.held.now.there && (c.args.held.now.count == n))
    (c.from.ensures ∙ c.count.ensures))
    ∙ c.if-goes_on.true)
    (record {
      same = c.see_cells.ensures.blocks;
      each = λ k l. c.see_cells.ensures.each c.args.blocks.now k l;
    })
