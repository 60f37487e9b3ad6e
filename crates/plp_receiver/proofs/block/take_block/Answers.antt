use Rattle.std.proofs.Common.{◌∙◌, sym, subst, arith}
use Rattle.plp_receiver.specs.declared.slot_rule.SlotRule.{SlotRule}
use Rattle.plp_receiver.specs.TakenBlocks.{block_of, IsBegun}
use Rattle.plp_receiver.proofs.FieldLemmas.{begun_next}
use Rattle.plp_receiver.proofs.block.take_block.Goals as goal

pub loop-at-preserved : goal.loop-at-preserved
loop-at-preserved c =
    let i = c.loop-at.invariant in
    let e = c.take_up-at.ensures in
    let s = c.loop-at.assembler.sound.up in
    record {
      first = λ l. i.first c.loop-at-test.true;
      begun = λ l. subst (λ (q : SlotRule). IsBegun c.start_of-start.result c.take_up-at.result q.up_len) (sym e.rule)
          (begun_next c.loop-at.assembler.rule.up_len 0 (block_of c.args.block.now) c.start_of-start.result
          (i.first c.loop-at-test.true) (omega (arith, s)) c.loop-at.at c.take_up-at.result
          (i.begun c.loop-at-test.true) e.next l);
      within = omega (arith, e.next);
      times = record {
        rule = e.times.rule ∙ i.times.rule;
        first = e.times.first ∙ i.times.first;
        end = e.times.end ∙ i.times.end;
        due = e.times.due ∙ i.times.due;
      };
      rule = e.rule ∙ i.rule;
      both = λ r z h. e.both r z (i.both r z h);
    }
