use Rattle.std.proofs.Common.{refl, sym, ◌∙◌}
use Rattle.std.proofs.lemmas.List.{with_items_is}
use Rattle.mend_run.specs.declared.phase.Phase.TheVariants as phase
use Rattle.mend_run.proofs.ShownLemmas.{from_place, shown_passed}
use Rattle.mend_run.proofs.WantLemmas.{reach_by}
use Rattle.mend_run.proofs.machine.MendMachine.pass.Goals as goal

pub returns-clause-shown : goal.returns-clause-shown
returns-clause-shown c = λ k count done s.
    let m = c.args.self.now in
    let number = c.args.number in
    let silent = c.args.silent in
    let items = with_items_is m.feeds c.pass_next.new.feeds (c.pass_next.auto.feeds ∙ c.deref_mut.ensures.len) in
    let value = c.deref_mut.ensures.value in
    let p = c.pass_next.ensures.passes k count done s.gone (rw value s.come) (rw value s.is_at.1) in
    from_place k count done _ phase.Looks c.requires.looks
    (shown_passed k count done m _ number silent s (rw (items, ← value) p) refl refl refl refl)

pub returns-clause-reach : goal.returns-clause-reach
returns-clause-reach c =
    let m = c.args.self.now in
    let items = with_items_is m.feeds c.pass_next.new.feeds (c.pass_next.auto.feeds ∙ c.deref_mut.ensures.len) in
    reach_by m.feeds.items c.deref_mut.result.now c.pass_next.new.feeds _ c.deref_mut.ensures.value items
    c.pass_next.ensures.len
    c.pass_next.ensures.fed

pub invariant_of-self-clause-of : goal.invariant_of-self-clause-of
invariant_of-self-clause-of c =
    let m = c.args.self.now in
    rw (with_items_is m.feeds c.pass_next.new.feeds (c.pass_next.auto.feeds ∙ c.deref_mut.ensures.len))
    (c.pass_next.ensures.of m.plan.now (rw c.deref_mut.ensures.value m.of))

pub invariant_of-self-clause-inside : goal.invariant_of-self-clause-inside
invariant_of-self-clause-inside c = λ n i sends. absurd (let z = sym c.requires.looks ∙ sends in cc)

pub invariant_of-self-clause-lends : goal.invariant_of-self-clause-lends
invariant_of-self-clause-lends c = λ n i f sends is. absurd (let z = sym c.requires.looks ∙ sends in cc)
