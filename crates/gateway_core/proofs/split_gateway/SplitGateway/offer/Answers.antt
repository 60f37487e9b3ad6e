use Rattle.std.proofs.Common.{◌++◌, ◌∷◌, [], ◌<◌, None, Some, length, arith}
use Rattle.std.proofs.lemmas.List.{get_or-set_same, get_or-set_other}
use Rattle.gateway_core.specs.Events.{Offered}
use Rattle.gateway_core.specs.SplitStandsFor.{SplitGatewayStandsFor}
use Rattle.gateway_core.proofs.StandLemmas.{offered_wanted, offered_works, asked_going, worked_by}
use Rattle.gateway_core.proofs.split_gateway.SplitGateway.offer.Goals as goal

pub returns-clause-stands : goal.returns-clause-stands
unfolding SplitGatewayStandsFor
returns-clause-stands c = λ d events s.
    let m = c.args.self.now in
    let r = c.requires in
    let inside : c.args.plp < length m.held.items = omega (arith, m.held.ok, m.whole, r.inside) in (
      s.0,
      offered_works m.plan.now m.gateway m.held.items _ events c.args.plp c.args.packet.now (r.inside, r.own) r.none
          (asked_going c.args.plp m.plps s.1 (r.inside, r.own) r.some).0
          (get_or-set_same m.held.items c.args.plp (Some c.args.packet.now) None inside)
          (λ k d. get_or-set_other m.held.items c.args.plp k (Some c.args.packet.now) None d) s.1,
    )

pub invariant_of-self-clause-wanted : goal.invariant_of-self-clause-wanted
invariant_of-self-clause-wanted c =
    let m = c.args.self.now in
    offered_wanted m.plan.now m.gateway m.held.items _ c.args.plp m.wanted c.requires.some
    (λ k d. get_or-set_other m.held.items c.args.plp k (Some c.args.packet.now) None d)

pub invariant_of-self-clause-worked : goal.invariant_of-self-clause-worked
invariant_of-self-clause-worked c =
    let m = c.args.self.now in
    let r = c.requires in
    let inside : c.args.plp < length m.held.items = omega (arith, m.held.ok, m.whole, r.inside) in
    worked_by m.worked (λ events works. (
      events ++ Offered c.args.plp c.args.packet.now ∷ [],
      offered_works m.plan.now m.gateway m.held.items _ events c.args.plp c.args.packet.now (r.inside, r.own) r.none
          (asked_going c.args.plp m.plps works (r.inside, r.own) r.some).0
          (get_or-set_same m.held.items c.args.plp (Some c.args.packet.now) None inside)
          (λ k d. get_or-set_other m.held.items c.args.plp k (Some c.args.packet.now) None d) works,
    ))
