use Rattle.std.proofs.Common.{◌<◌, ◌++◌, List, length, sym, subst, ◌∙◌, arith, append_assoc}
use Rattle.std.specs.Prelude.{slice_index_or}
use Rattle.linked_pool.specs.Pool.{State}
use Rattle.open_group.specs.Shown.{AreBlocks}
use Rattle.frame_weave.specs.Holds.{no_block}
use Rattle.frame_weave.proofs.PlaceLemmas.{placed_step, placed_all}
use Rattle.frame_weave.specs.Placed.{Placed, one_placed, placed_from}
use Rattle.frame_weave.specs.Slots.{Fills}
use Rattle.frame_weave.proofs.placing.place_blocks.Goals as goal

pub loop-i-preserved : goal.loop-i-preserved
loop-i-preserved c =
    let i = c.loop-i.invariant in
    let k = c.loop-i.i in
    let first = c.loop-i.first in
    let step = c.place_block-first.ensures in
    record {
      few = step.most;
      walk = step.walk ∙ i.walk;
      places = step.places ∙ i.places;
      holds = λ c' counts packets blocks placed laid room marks lists fills.
          let before = i.holds c' counts packets blocks placed laid room marks lists fills in
          let b = slice_index_or blocks k no_block in
          let inside : k < length blocks = omega (arith, marks.len, c.loop-i-test.true) in
          let one = one_placed counts c.args.origin first b in
          let next = step.stands c' counts packets b (placed ++ before.0) laid room (marks.each k inside)
          (subst (λ (s : State). AreBlocks c' packets s.lists) (sym i.walk) lists) before.1 in (
            before.0 ++ one,
            subst (λ (l : List Placed). Fills c' counts c.place_block-first.new.slots l)
                (append_assoc placed before.0 one) next.0,
            placed_step counts c.args.origin first c.place_block-first.result k blocks before.0
                (placed_from counts c.args.origin 0 blocks) inside next.1 before.2,
          );
    }

pub returns-clause-placed : goal.returns-clause-placed
returns-clause-placed c = λ c' counts packets blocks placed laid room marks lists fills.
    let i = c.loop-i.invariant in
    let all = i.holds c' counts packets blocks placed laid room marks lists fills in
    subst (λ (l : List Placed). Fills c' counts c.loop-i.slots (placed ++ l))
    (placed_all counts c.args.origin c.loop-i.first c.loop-i.i blocks all.0 (placed_from counts c.args.origin 0 blocks)
    (omega (arith, marks.len, c.loop-i-test.false)) all.2)
    all.1
