use Rattle.std.proofs.Common.{length, refl, sym, ◌∙◌}
use Rattle.std.proofs.lemmas.List.{with_items_is}
use Rattle.mend_run.specs.declared.phase.Phase.TheVariants as phase
use Rattle.mend_run.proofs.ShownLemmas.{at_place, from_place, shown_fed}
use Rattle.mend_run.proofs.WantLemmas.{short, reach_by}
use Rattle.mend_run.proofs.machine.MendMachineMachine.end_input.Goals as goal

pub end_one-requires-clause-inside : goal.end_one-requires-clause-inside
end_one-requires-clause-inside c =
    rw c.deref_mut.ensures.value (short c.args.self.now c.args.input _ c.requires.wanted).0.waits.inside

pub end_one-requires-clause-unknown : goal.end_one-requires-clause-unknown
end_one-requires-clause-unknown c =
    rw c.deref_mut.ensures.value (short c.args.self.now c.args.input _ c.requires.wanted).0.waits.there

pub invariant_of-self-clause-of : goal.invariant_of-self-clause-of
invariant_of-self-clause-of c =
    let m = c.args.self.now in
    rw (with_items_is m.feeds c.end_one.new.feeds (c.end_one.auto.feeds ∙ c.deref_mut.ensures.len))
    (c.end_one.ensures.of m.plan.now (rw c.deref_mut.ensures.value m.of))

pub invariant_of-self-clause-inside : goal.invariant_of-self-clause-inside
invariant_of-self-clause-inside c = λ n i sends.
    absurd (let z = sym (short c.args.self.now c.args.input _ c.requires.wanted).0.looks ∙ sends in cc)

pub invariant_of-self-clause-lends : goal.invariant_of-self-clause-lends
invariant_of-self-clause-lends c = λ n i f sends is.
    absurd (let z = sym (short c.args.self.now c.args.input _ c.requires.wanted).0.looks ∙ sends in cc)

pub returns-clause-becomes : goal.returns-clause-becomes
returns-clause-becomes c = λ start events came.
    let m = c.args.self.now in
    let k = start.plan.now in
    let count = length start.feeds.items in
    let looks = (short c.args.self.now c.args.input _ c.requires.wanted).0.looks in
    let s = at_place k count events m phase.Looks looks came in
    let items = with_items_is m.feeds c.end_one.new.feeds (c.end_one.auto.feeds ∙ c.deref_mut.ensures.len) in
    let value = c.deref_mut.ensures.value in
    let go = rw value at (c.end_one.ensures.goes k count events s.gone (rw value s.come)) in
    from_place k count _ _ phase.Looks looks
    (shown_fed k count events _ m _ s (rw items go)
    (c.events_law.ensures.ended c.args.input c.args.bytes.now events).gave refl refl refl refl)

pub returns-clause-reach : goal.returns-clause-reach
returns-clause-reach c =
    let m = c.args.self.now in
    let items = with_items_is m.feeds c.end_one.new.feeds (c.end_one.auto.feeds ∙ c.deref_mut.ensures.len) in
    reach_by m.feeds.items c.deref_mut.result.now c.end_one.new.feeds _ c.deref_mut.ensures.value items
    c.end_one.ensures.len
    c.end_one.ensures.fed
