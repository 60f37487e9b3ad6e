use Rattle.std.proofs.Common.{◌≡◌, ◌+◌, ◌*◌, ℕ, false, ap, sym, ◌∙◌}
use Rattle.plp_config.specs.InterleavingFrames.{is_first}
use Rattle.plp_config.specs.SlotTime.{slots_by}
use Rattle.gateway_core.specs.InputSoFar.{in_next}
use Rattle.region_swap.specs.RegionFed.{early_in}
use Rattle.gateway_core.specs.IsFed.{Bounds}
use Rattle.region_swap.proofs.RegionLemmas.{serves_on, same_lists, supplies_pass, gives_pass}
use Rattle.region_swap.proofs.region.Region.pass.Goals as goal

pub returns-clause-stands : goal.returns-clause-stands
returns-clause-stands c = λ t h.
    let r = c.args.self.now in
    let p = c.args.plan.now in
    let later : is_first p c.args.list t.frame ≡ false = ap (is_first p c.args.list) (sym h.next_is)
    ∙ c.requires.later in
    let due : c.due-slots.result ≡ slots_by p c.args.list ((t.frame + 1) * p.ticks) =
    c.due-slots.ensures.due ∙ ap (λ (n : ℕ). slots_by p c.args.list ((n + 1) * p.ticks)) h.next_is in
    supplies_pass c.spread_law.ensures.frames r.input c.pass.new.self r.blocks r.sends r.next r.count p c.args.list t
    c.rules_law.ensures.plan c.requires.of.place later
    (c.pass.ensures.fed p c.args.list t (early_in r.sends r.blocks c.args.list) c.rules_law.ensures.plan
    c.requires.of.place later due) h

pub returns-clause-gives : goal.returns-clause-gives
returns-clause-gives c = λ t h input more.
    let r = c.args.self.now in
    let p = c.args.plan.now in
    let later : is_first p c.args.list t.frame ≡ false = ap (is_first p c.args.list) (sym h.next_is)
    ∙ c.requires.later in
    rw c.requires.free
    (gives_pass r.input r.blocks r.next r.count p c.args.list t input later (rw c.requires.free at h) more)

pub returns-clause-of : goal.returns-clause-of
returns-clause-of c = serves_on (same_lists _ _) (λ short. short) (ap (λ (b : Bounds). b.most) c.pass.ensures.bounds)
    c.requires.of.few in_next (returns-clause-stands c) c.requires.of
