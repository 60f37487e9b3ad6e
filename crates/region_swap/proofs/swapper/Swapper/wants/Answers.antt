use Rattle.std.proofs.Common.{Bool, cond, ap, sym, ◌∙◌}
use Rattle.region_swap.specs.StandsFor.{SwapperStandsFor}
use Rattle.gateway_core.specs.IsFed.{wanted}
use Rattle.region_swap.proofs.SwapLemmas.{wants_is}
use Rattle.region_swap.proofs.swapper.Swapper.wants.Goals as goal

pub returns-then-self-clause-answer : goal.returns-then-self-clause-answer
unfolding SwapperStandsFor
returns-then-self-clause-answer c = λ config plp t left frames given h.
    rw (sym h.0, sym h.1) (sym (h.2.offered c.if-self.true))

pub returns-clause-answer : goal.returns-clause-answer
unfolding SwapperStandsFor
returns-clause-answer c = λ config plp t left frames given h.
    let s = c.args.self.now in
    rw (sym h.0, sym h.1)
    (c.wanted.ensures ∙ sym (ap (λ (b : Bool). cond b 0 (wanted s.region.input)) c.if-self.false)
    ∙ wants_is s.plan.now s.list s.region s.flow s.place s.number s.begun t left frames given h.2)
