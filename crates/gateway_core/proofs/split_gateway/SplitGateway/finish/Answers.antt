use Rattle.std.proofs.Common.{◌++◌, ◌∷◌, [], ◌∙◌, ap, refl}
use Rattle.gateway_core.specs.Events.{Finished}
use Rattle.gateway_core.specs.StandsFor.{Status}
use Rattle.gateway_core.specs.SplitStandsFor.{SplitGatewayStandsFor}
use Rattle.gateway_core.proofs.StandLemmas.{same_wanted, quiet_works, worked_by}
use Rattle.gateway_core.proofs.split_gateway.SplitGateway.finish.Goals as goal

pub returns-clause-stands : goal.returns-clause-stands
unfolding SplitGatewayStandsFor
returns-clause-stands c = λ d events s. (s.0, quiet_works Finished (λ k. refl) (λ k. refl) c.finish.ensures.stands s.1)

pub invariant_of-self-clause-wanted : goal.invariant_of-self-clause-wanted
invariant_of-self-clause-wanted c =
    let m = c.args.self.now in
    same_wanted m.plan.now m.gateway c.finish.new.self m.held.items m.wanted c.finish.ensures.wants

pub invariant_of-self-clause-worked : goal.invariant_of-self-clause-worked
invariant_of-self-clause-worked c =
    worked_by c.args.self.now.worked
    (λ events works. (
      events ++ Finished ∷ [],
      quiet_works Finished (λ k. refl)
          (λ k. refl) c.finish.ensures.stands works,
    ))

pub invariant_of-self-clause-plps : goal.invariant_of-self-clause-plps
invariant_of-self-clause-plps c = ap (λ (s : Status). s.plps) c.finish.ensures.status ∙ c.args.self.now.plps
