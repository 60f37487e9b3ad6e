use Rattle.std.proofs.Common.{◌≡◌, ◌*◌, ◌<◌, ◌≤◌, subst, ap, ◌∙◌, arith}
use Rattle.plp_config.specs.Capacity.{Throughput, IsPlan, need_of, capacity, up_bytes}
use Rattle.plp_config.specs.SlotTime.{num, den, epoch_ticks}
use Rattle.plp_config.specs.declared.config.Config.{Config}
use Rattle.plp_config.proofs.NeedLemmas.{div_ceil-le}
use Rattle.plp_config.proofs.TableLemmas.{slot_length}
use Rattle.plp_config.proofs.plan.Plan.need.Goals as goal

pub returns-clause-fits : goal.returns-clause-fits
returns-clause-fits c =
    let plan : Config = c.args.self.now in
    let all : IsPlan plan = subst IsPlan c.self.view_is c.self.invariant in
    let range = slot_length plan c.args.plp all.rules c.requires in
    let some : 0 < num plan = omega (arith, range.0, range.2) in
    let fits : up_bytes plan c.args.plp * epoch_ticks plan c.args.plp * den plan c.args.plp ≤ capacity
    plan c.args.plp * num plan =
    all.tests Throughput c.args.plp c.requires in
    let least = div_ceil-le (up_bytes plan c.args.plp * epoch_ticks plan c.args.plp * den plan c.args.plp) (num plan)
    (capacity plan c.args.plp) some fits in
    let value : c.throughput_need.result ≡ need_of Throughput plan c.args.plp = c.throughput_need.ensures
    ∙ ap (λ (x : Config). need_of Throughput x c.args.plp) c.self.view_is in
    omega (arith, value, least)
