use Rattle.std.proofs.Common.{◌+◌, ◌++◌, ◌∷◌, [], length, refl, ap, ◌∙◌, arith}
use Rattle.bb_frame.specs.declared.header.TheConstants.{HEADER_BYTES}
use Rattle.linked_pool.specs.Pool.{list_at, chunks_for}
use Rattle.plp_config.specs.Plps.{plp_at}
use Rattle.null_delete.specs.Deletion.{dnp, packet_at}
use Rattle.mode_adapt.specs.Blocks.{plp_keeps}
use Rattle.mode_adapt.specs.Events.{offered, cuts}
use Rattle.mode_adapt.proofs.OfferLemmas.{skipped, kept_on, is_deleted, is_answer}
use Rattle.mode_adapt.proofs.EventLemmas.{opened, both_on, on_err, told_err}
use Rattle.mode_adapt.proofs.PutLemmas.{kept_bound, goes_on, goes_kept, need_is, never_put, kept_short}
use Rattle.mode_adapt.proofs.FinalLemmas.{has_space}
use Rattle.mode_adapt.proofs.chain.Chain.offer.Goals as goal

pub returns-in-None-clause-takes : goal.returns-in-None-clause-takes
returns-in-None-clause-takes c = λ config plp events stands room.
    let h = (opened c.args.self.now config plp events stands).0 in
    let off = is_deleted (plp_keeps config plp (packet_at (offered events ++ c.args.packet.now ∷ []))
    (length (offered events)))
    (dnp (plp_keeps config plp (packet_at (offered events ++ c.args.packet.now ∷ []))) (length (offered events)))
    (c.in-None.ensures.answer (plp_at config.plps plp).delete (offered events) h.deleter) in
    let s = c.skip.ensures in
    let on = goes_on c.decided_by_the_past_law.ensures c.length_law.ensures.slot c.block_law.ensures.field
    c.block_law.ensures.user_packet c.args.self.now c.skip.new.self config plp events c.args.packet.now
    (list_at c.args.pool.now c.args.list) stands c.as_array-bytes.ensures.whole room off
    (skipped c.args.self.now c.skip.new.self config plp (offered events) c.args.packet.now s.settings s.slot
    (rw s.deleter (c.in-None.ensures.stands (plp_at config.plps plp).delete (offered events) h.deleter)) s.sent s.made
    s.pending s.slots) s.pending in
    record {
      stands = on.stands;
      blocks = on.blocks;
      kept = kept_short c.length_law.ensures.slot c.block_law.ensures.field c.block_law.ensures.user_packet
          c.within_law.ensures
          c.backlog_law.ensures c.skip.new.self config plp _ on.stands;
    }

pub returns-in-Some-clause-takes : goal.returns-in-Some-clause-takes
returns-in-Some-clause-takes c = both_on c.put_full.result c.put_full.ensures.none c.put_full.ensures.some
    (λ none some config plp events stands room.
    let o = opened c.args.self.now config plp events stands in
    let space = has_space c.length_law.ensures.slot c.block_law.ensures.field c.block_law.ensures.user_packet
    c.within_law.ensures
    c.backlog_law.ensures c.args.self.now config plp (offered events) (cuts events) o.0 o.1 in
    let on = is_answer (plp_keeps config plp (packet_at (offered events ++ c.args.packet.now ∷ []))
    (length (offered events)))
    (dnp (plp_keeps config plp (packet_at (offered events ++ c.args.packet.now ∷ []))) (length (offered events)))
    c.in-Some.dnp
    (c.in-Some.ensures.answer (plp_at config.plps plp).delete (offered events) o.0.deleter) in
    let keeps = rw c.as_array-bytes.ensures.bytes at c.keep.ensures.keeps space in
    let kept = goes_kept c.decided_by_the_past_law.ensures c.length_law.ensures.slot c.block_law.ensures.field
    c.block_law.ensures.user_packet c.args.self.now c.keep.new.self c.put_full.new.self config plp events
    c.args.packet.now
    (list_at c.args.pool.now c.args.list) (list_at c.put_full.new.pool c.args.list) stands
    c.as_array-bytes.ensures.whole room
    on.kept
    (kept_on c.args.self.now _ _ config plp (offered events) (cuts events) c.args.packet.now c.in-Some.dnp o.0
    c.as_array-bytes.ensures.whole refl refl refl refl refl refl
    (c.in-Some.ensures.stands (plp_at config.plps plp).delete (offered events) o.0.deleter) on.dnp keeps)
    (kept_bound _ c.keep.new.self c.args.packet.now c.in-Some.dnp keeps space)
    (λ p. ((none p).0, ap (λ s. list_at s c.args.list) (none p).1)) some in
    record {
      stands = kept.stands;
      blocks = kept.blocks;
      kept = kept_short c.length_law.ensures.slot c.block_law.ensures.field c.block_law.ensures.user_packet
          c.within_law.ensures
          c.backlog_law.ensures c.put_full.new.self config plp _ kept.stands;
    })

pub returns-in-Some-clause-lacks : goal.returns-in-Some-clause-lacks
returns-in-Some-clause-lacks c = on_err c.put_full.result c.put_full.ensures.full
    (λ e full config plp events stands. record {
      need = full.wanted ∙ ap chunks_for (ap (λ s. s.field_bytes + HEADER_BYTES) c.keep.ensures.stays.settings
          ∙ need_is c.block_law.ensures.field c.args.self.now config plp events stands);
      never = λ ready. never_put c.block_law.ensures.field c.early_fits_law.ensures.early c.plan_fits_law.ensures.next
          c.args.self.now
          c.keep.new.self config plp events c.args.pool.now c.args.list e.need e.spare stands
          c.keep.ensures.stays.settings
          c.keep.ensures.stays.made full ready.put ready.place;
    })

pub returns-in-Some-clause-due : goal.returns-in-Some-clause-due
returns-in-Some-clause-due c = told_err c.put_full.result c.put_full.ensures.due (λ e due config plp events stands.
    let h = (opened c.args.self.now config plp events stands).0 in
    let same = ap (λ s. s.field_bytes) c.keep.ensures.stays.settings in
    omega (arith, due, same, h.settings.field))
