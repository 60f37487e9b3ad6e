use Rattle.std.proofs.Common.{◌∙◌, ap, subst}
use Rattle.plp_receiver.proofs.StandsLemmas.{record_came, came_in}
use Rattle.plp_receiver.specs.StandsFor.{ReceiverStandsFor, Status, Unseen}
use Rattle.plp_receiver.specs.Taking.{EndsRecord}
use Rattle.plp_receiver.proofs.receiver.Receiver.frame.Goals as goal

pub returns-clause-stands : goal.returns-clause-stands
unfolding ReceiverStandsFor
returns-clause-stands c = λ first views released s.
    let v = c.args.self.now in
    let seen = c.see.new.self in
    let new = c.end_record.new.self in
    came_in v.network new.network v.plp new.plp new.slots new.held first _ released
    (ap (λ (s : Status). s.network) c.end_record.ensures.status ∙ ap (λ (u : Unseen). u.network) c.see.ensures.unseen)
    (ap (λ (s : Status). s.plp) c.end_record.ensures.status ∙ ap (λ (u : Unseen). u.plp) c.see.ensures.unseen)
    (record_came v.network v.plp v.slots new.slots v.held seen.held new.held c.args.view.now first views
    released v.spread
    c.see.ensures.sees
    (subst (λ (u : Unseen). EndsRecord u.network u.plp seen.held new.held u.slots new.slots) c.see.ensures.unseen
    c.end_record.ensures.ends)
    s)
