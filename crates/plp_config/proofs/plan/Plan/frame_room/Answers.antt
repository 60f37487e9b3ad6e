use Rattle.std.proofs.Common.{◌≡◌, subst, ◌∙◌, ap, arith}
use Rattle.plp_config.specs.Capacity.{IsPlan, frame_room}
use Rattle.plp_config.specs.Plps.{plp_at}
use Rattle.plp_config.specs.declared.config.Config.{Config}
use Rattle.plp_config.proofs.SpreadLemmas.{room_fits}
use Rattle.plp_config.proofs.plan.Plan.frame_room.Goals as goal

pub returns-clause-greatest : goal.returns-clause-greatest
returns-clause-greatest c =
    let plan : Config = c.args.self.now in
    let all : IsPlan plan = subst IsPlan c.self.view_is c.self.invariant in
    let is : c.frame_room.result ≡ frame_room (plp_at plan.plps c.args.plp) =
    c.frame_room.ensures.value ∙ ap (λ (x : Config). frame_room (plp_at x.plps c.args.plp)) c.self.view_is in
    omega (arith, is, room_fits plan c.args.plp all c.requires)
