use Rattle.std.proofs.Common.{ap, ◌∙◌, refl}
use Rattle.linked_pool.specs.Pool.{list_at, chunks_for}
use Rattle.mode_adapt.specs.Events.{offered, cuts}
use Rattle.mode_adapt.proofs.EventLemmas.{opened, cut_on}
use Rattle.mode_adapt.proofs.PutLemmas.{cut_step, need_is, never_put, cut_short}
use Rattle.mode_adapt.proofs.FinalLemmas.{early_is, early_cut}
use Rattle.mode_adapt.proofs.chain.Chain.cut.Goals as goal

pub returns-in-Ok-clause-ends : goal.returns-in-Ok-clause-ends
returns-in-Ok-clause-ends c = λ config plp events stands due.
    let o = opened c.args.self.now config plp events stands in
    let none = c.in-Ok.ensures.none in
    let end = cut_step c.length_law.ensures.slot c.block_law.ensures.field c.block_law.ensures.user_packet
    c.within_law.ensures
    c.backlog_law.ensures c.args.self.now c.put_rest.new.self c.end_frame.new.self config plp (offered events)
    (cuts events)
    (list_at c.args.pool.now c.args.list) (list_at c.put_rest.new.pool c.args.list) o.0 o.1 due
    (λ over. ((none over).0, ap (λ s. list_at s c.args.list) (none over).1)) c.in-Ok.ensures.some
    c.end_frame.ensures.resets in
    let next = cut_on c.end_frame.new.self config plp events end.holds end.partial in
    record {
      stands = next;
      blocks = λ put. end.blocks (put ∙ early_is c.block_law.ensures.field c.args.self.now config plp events o.0 o.1);
      answer = c.end_frame.ensures.made ∙ end.count;
      none_put = early_cut c.block_law.ensures.field c.end_frame.new.self config plp events end.holds end.partial
          c.end_frame.ensures.resets.made;
      kept = cut_short c.block_law.ensures.field c.block_law.ensures.user_packet c.within_law.ensures
          c.backlog_law.ensures
          c.end_frame.new.self config plp events next due;
    }

pub returns-in-Err-clause-lacks : goal.returns-in-Err-clause-lacks
returns-in-Err-clause-lacks c = λ config plp events stands. record {
  need = c.in-Err.ensures.full.wanted ∙ ap chunks_for
      (need_is c.block_law.ensures.field c.args.self.now config plp events stands);
  never = λ ready. never_put c.block_law.ensures.field c.early_fits_law.ensures.early c.plan_fits_law.ensures.next
      c.args.self.now
      c.args.self.now config plp events c.args.pool.now c.args.list c.in-Err.full.need c.in-Err.full.spare
      stands refl refl
      c.in-Err.ensures.full ready.put ready.place;
}
