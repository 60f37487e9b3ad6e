use Rattle.std.proofs.Common.{◌≡◌, ◌+◌, ◌*◌, ℕ, true, ap, sym, ◌∙◌, arith}
use Rattle.plp_config.specs.InterleavingFrames.{is_first}
use Rattle.plp_config.specs.SlotTime.{slots_by}
use Rattle.gateway_core.specs.InputSoFar.{in_next}
use Rattle.gateway_core.specs.IsFed.{Bounds}
use Rattle.region_swap.proofs.RegionLemmas.{has_place, serves_on, supplied, supplies_cut, gives_cut}
use Rattle.region_swap.proofs.region.Region.cut.Goals as goal

pub cut-self-requires-clause-ready : goal.cut-self-requires-clause-ready
cut-self-requires-clause-ready c = supplied c.requires.free c.requires.of

pub returns-clause-stands : goal.returns-clause-stands
returns-clause-stands c = λ t h.
    let r = c.args.self.now in
    let p = c.args.plan.now in
    let first : is_first p c.args.list t.frame ≡ true = ap (is_first p c.args.list) (sym h.next_is)
    ∙ c.requires.first in
    let due : c.due-slots.result ≡ slots_by p c.args.list ((t.frame + 1) * p.ticks) =
    c.due-slots.ensures.due ∙ ap (λ (n : ℕ). slots_by p c.args.list ((n + 1) * p.ticks)) h.next_is in
    let fed = rw c.requires.free at h.fed in
    supplies_cut c.spread_law.ensures.frames c.cut-self.new.self c.cut-self.new.pool r.next c.cut-self.result
    p c.args.list t
    c.rules_law.ensures.plan c.requires.of.place first h.next_is
    (c.cut-self.ensures.cut p c.args.list t c.rules_law.ensures.plan c.requires.of.place
    (has_place c.requires.of) first due fed)

pub returns-clause-gives : goal.returns-clause-gives
returns-clause-gives c = λ t h input more.
    let r = c.args.self.now in
    let p = c.args.plan.now in
    let first : is_first p c.args.list t.frame ≡ true = ap (is_first p c.args.list) (sym h.next_is)
    ∙ c.requires.first in
    let due : c.due-slots.result ≡ slots_by p c.args.list ((t.frame + 1) * p.ticks) =
    c.due-slots.ensures.due ∙ ap (λ (n : ℕ). slots_by p c.args.list ((n + 1) * p.ticks)) h.next_is in
    let fed = rw c.requires.free at h.fed in
    gives_cut c.cut-self.new.self c.cut-self.new.pool p c.args.list t c.cut-self.result input first
    (c.cut-self.ensures.cut p c.args.list t c.rules_law.ensures.plan c.requires.of.place
    (has_place c.requires.of) first due fed) more

pub returns-clause-of : goal.returns-clause-of
returns-clause-of c = serves_on c.cut-self.ensures.others c.cut-self.ensures.short
    (ap (λ (b : Bounds). b.most) c.cut-self.ensures.bounds)
    (omega (arith, c.cut-self.ensures.few, c.requires.of.most_is)) in_next (returns-clause-stands c) c.requires.of
