use Rattle.std.proofs.Common.{◌≡◌, ◌∙◌, [], ℕ, false, refl, ap, sym, subst}
use Rattle.frame_groups.specs.Modulated.{Rules}
use Rattle.plp_config.specs.declared.config.Config.{Config}
use Rattle.t2mi_stream.specs.UnpiperStandsFor.{UnpiperStandsFor}
use Rattle.feed_merge.proofs.FeedLemmas.{opened, stands_first}
use Rattle.feed_merge.proofs.feed.FrameFeed.open.Goals as goal

pub returns-clause-stands : goal.returns-clause-stands
returns-clause-stands c =
    let sequence = c.new-sequence.result in
    let network : sequence.group.network ≡ c.args.plan.now = ap (λ (r : Rules). r.network) c.new-sequence.ensures.rules
    ∙ c.in_ok-open.ensures.network in
    opened _ refl c.in_ok-unpiper.ensures.fed
    (stands_first (record { unpiper = c.in_ok-unpiper.unpiper; sequence = sequence; finished = false })
    c.new-sequence.ensures.«open»
    (subst (λ (pid : ℕ). UnpiperStandsFor c.in_ok-unpiper.unpiper pid [])
    (ap (λ (k : Config). k.pid) (c.config.ensures.value ∙ sym network)) c.in_ok-unpiper.ensures.stands)
    c.new-sequence.ensures.stands)
    (c.waiting-waiting.ensures.some, c.waiting-waiting.ensures.none)
