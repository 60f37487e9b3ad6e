use Rattle.std.proofs.Common.{◌++◌, ◌∷◌, [], ◌∙◌, ap}
use Rattle.gateway_core.specs.Events.{Ended}
use Rattle.gateway_core.specs.StandsFor.{Status}
use Rattle.gateway_core.specs.SplitStandsFor.{SplitGatewayStandsFor}
use Rattle.gateway_core.proofs.StandLemmas.{ended_wanted, ended_works, asked_going, worked_by}
use Rattle.gateway_core.proofs.split_gateway.SplitGateway.end_input.Goals as goal

pub returns-clause-stands : goal.returns-clause-stands
unfolding SplitGatewayStandsFor
returns-clause-stands c = λ d events s.
    let r = c.requires in (
      s.0,
      ended_works c.args.plp (r.inside, r.own) r.none
          (asked_going c.args.plp c.args.self.now.plps s.1 (r.inside, r.own) r.some).0 c.end_input.ensures.stands s.1,
    )

pub invariant_of-self-clause-wanted : goal.invariant_of-self-clause-wanted
invariant_of-self-clause-wanted c =
    let m = c.args.self.now in
    ended_wanted m.plan.now m.gateway c.end_input.new.self m.held.items c.args.plp m.wanted c.requires.none
    c.end_input.ensures.others

pub invariant_of-self-clause-worked : goal.invariant_of-self-clause-worked
invariant_of-self-clause-worked c =
    let m = c.args.self.now in
    let r = c.requires in
    worked_by m.worked (λ events works. (
      events ++ Ended c.args.plp ∷ [],
      ended_works c.args.plp (r.inside, r.own) r.none
          (asked_going c.args.plp m.plps works (r.inside, r.own) r.some).0 c.end_input.ensures.stands works,
    ))

pub invariant_of-self-clause-plps : goal.invariant_of-self-clause-plps
invariant_of-self-clause-plps c = ap (λ (s : Status). s.plps) c.end_input.ensures.status ∙ c.args.self.now.plps
