use Rattle.std.proofs.Common.{ℕ, ◌%◌, ap, ◌∙◌, arith}
use Rattle.std.specs.Prelude.{slice_index_or}
use Rattle.plp_config.specs.declared.config.Config.{Config}
use Rattle.open_group.proofs.PastLemmas.{past_more}
use Rattle.open_group.proofs.past.HeldPast.note.Goals as goal

pub returns-clause-holds : goal.returns-clause-holds
returns-clause-holds c = λ past g h above counts.
    let range = c.rules_law.ensures.ranges.frames in
    let frames = c.from-frames.ensures ∙ ap (λ (k : Config). k.frames) c.config.ensures.value in
    past_more c.interleaving_law.ensures.first c.interleaving_law.ensures.last c.args.plan.now
    c.rules_law.ensures.plan.rules past c.args.number g h.falling above c.args.blocks.now counts c.args.self.now
    c.note_need.new.self (omega (arith, range)) h
    (λ plp inside. cc (c.note_plps.ensures.begun plp inside)) (cc)
    (λ place other.
    c.note_need.ensures.others place (λ e. other (e ∙ ap (λ (k : ℕ). c.args.number % k) frames))
    ∙ ap (λ v. slice_index_or v.items place (record { superframe = 0; chunks = 0 })) c.note_plps.ensures.needs)
