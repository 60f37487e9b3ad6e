use Rattle.std.proofs.Common.{◌≡◌, ℕ, subst, ap, ap₂, ◌∙◌, arith}
use Rattle.plp_config.specs.Capacity.{IsPlan}
use Rattle.plp_config.specs.SlotTime.{window, window_slots}
use Rattle.plp_config.specs.SlotTimes.{delay_of}
use Rattle.plp_config.specs.declared.config.Config.{Config}
use Rattle.plp_config.specs.declared.slot_times.SlotTimes.{SlotTimes}
use Rattle.plp_config.proofs.ReleaseLemmas.{window_few}
use Rattle.plp_config.proofs.plan.Plan.window.Goals as goal

pub returns-clause-small : goal.returns-clause-small
returns-clause-small c =
    let plan : Config = c.args.self.now in
    let all : IsPlan plan = subst IsPlan c.self.view_is c.self.invariant in
    let ticks = c.from-ticks.ensures ∙ c.ticks.ensures.value ∙ ap (λ (x : Config). x.ticks) c.self.view_is in
    let value : c.window.result ≡ window plan c.args.plp = c.window.ensures.value
    ∙ ap₂ (λ (t : SlotTimes) (n : ℕ). window_slots t.num t.den (delay_of t) n) c.slot_times.ensures.times ticks in
    omega (arith, value, window_few plan c.args.plp all.rules c.requires)
