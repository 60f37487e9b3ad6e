use Rattle.std.proofs.Common.{◌≡◌, ◌*◌, ap, arith}
use Rattle.plp_config.specs.SlotTime.{epoch_ticks}
use Rattle.plp_config.specs.Capacity.{field_bytes}
use Rattle.mode_adapt.specs.Blocks.{rates_of, plp_keeps}
use Rattle.mode_adapt.specs.Events.{offered, cuts}
use Rattle.mode_adapt.specs.StandsFor.{full_fields}
use Rattle.null_delete.specs.Deletion.{packet_at}
use Rattle.mode_adapt.proofs.SendLemmas.{waits, left_over}
use Rattle.mode_adapt.proofs.PutLemmas.{none_made}
use Rattle.mode_adapt.proofs.FinalLemmas.{made_is, all_short}
use Rattle.mode_adapt.proofs.EventLemmas.{opened, was_cut}
use Rattle.mode_adapt.proofs.chain.Chain.backlog.Goals as goal

pub returns-clause-answer : goal.returns-clause-answer
returns-clause-answer c = λ config plp events stands.
    let o = opened c.args.self.now config plp events stands in
    let h = o.0 in
    let w = waits c.args.self.now config plp (offered events) h.rest in
    let s = h.sent in
    let made : c.args.self.now.made * field_bytes config plp ≡ full_fields config plp events * field_bytes config plp =
    ap (λ v. v * field_bytes config plp) (made_is c.block_law.ensures.field c.args.self.now config plp (offered events)
    (cuts events) h o.1) in
    let short = all_short c.length_law.ensures.slot c.block_law.ensures.field c.block_law.ensures.user_packet
    c.within_law.ensures
    c.backlog_law.ensures c.args.self.now config plp (offered events) (cuts events) h o.1 in
    let range = c.block_law.ensures.field config plp in
    omega (arith, c.len.ensures, w, s, made, short, range.1)

pub returns-clause-few : goal.returns-clause-few
returns-clause-few c = λ config plp events stands due.
    let o = was_cut c.args.self.now config plp events stands in
    let h = o.0 in
    let none = none_made c.block_law.ensures.field c.block_law.ensures.user_packet c.within_law.ensures
    c.backlog_law.ensures
    c.args.self.now config plp (offered events) (cuts events) h o.1 due in
    let w = left_over c.args.self.now config plp (offered events) (cuts events) h none due in
    let within = c.within_law.ensures config plp h.plan h.place in
    let law = c.backlog_law.ensures (rates_of config plp (epoch_ticks config plp)) (plp_keeps config plp
    (packet_at (offered events)))
    (cuts events) within.0 in
    omega (arith, c.len.ensures, w, law)

pub returns-clause-after_cut : goal.returns-clause-after_cut
returns-clause-after_cut c = λ config plp events stands due.
    let o = was_cut c.args.self.now config plp events stands in
    let h = o.0 in
    let none = none_made c.block_law.ensures.field c.block_law.ensures.user_packet c.within_law.ensures
    c.backlog_law.ensures
    c.args.self.now config plp (offered events) (cuts events) h o.1 due in
    let w = left_over c.args.self.now config plp (offered events) (cuts events) h none due in
    let within = c.within_law.ensures config plp h.plan h.place in
    let law = c.backlog_law.ensures (rates_of config plp (epoch_ticks config plp)) (plp_keeps config plp
    (packet_at (offered events)))
    (cuts events) within.0 in
    let up = c.block_law.ensures.user_packet config plp in
    omega (arith, c.len.ensures, w, law, up.1)
