use Rattle.std.proofs.Common.{◌≡◌, ◌∙◌, [], ℕ, Option, refl, ap, sym, subst, false}
use Rattle.frame_groups.specs.Modulated.{Rules}
use Rattle.frame_groups.specs.Waits.{waits_by}
use Rattle.plp_config.specs.declared.config.Config.{Config}
use Rattle.t2mi_stream.specs.UnpiperStandsFor.{UnpiperStandsFor}
use Rattle.modulator.specs.StandsFor.{ModulatorStandsFor}
use Rattle.modulator.proofs.TookLemmas.{opened}
use Rattle.modulator.proofs.modulator.Modulator.open.Goals as goal

pub returns-clause-config : goal.returns-clause-config
returns-clause-config c = ap (λ (r : Rules). r.network) c.new-sequence.ensures.rules ∙ c.in_ok-open.ensures.network

pub returns-clause-stands : goal.returns-clause-stands
unfolding ModulatorStandsFor
returns-clause-stands c =
    let sequence = c.new-sequence.result in
    let at = sequence.progress in
    let network : sequence.group.network ≡ c.args.plan.now = ap (λ (r : Rules). r.network) c.new-sequence.ensures.rules
    ∙ c.in_ok-open.ensures.network in
    opened (record { unpiper = c.in_ok-unpiper.unpiper; sequence = sequence; finished = false }) refl
    c.new-sequence.ensures.«open» (ap (λ (o : Option ℕ). waits_by o at.next at.closing at.fault)
    c.new-sequence.ensures.none)
    (subst (λ (pid : ℕ). UnpiperStandsFor c.in_ok-unpiper.unpiper pid [])
    (ap (λ (k : Config). k.pid) (c.config.ensures.value ∙ sym network)) c.in_ok-unpiper.ensures.stands)
    c.new-sequence.ensures.stands
