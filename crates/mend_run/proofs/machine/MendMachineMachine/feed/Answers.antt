use Rattle.std.proofs.Common.{List, length, take, refl, ap, sym, ◌∙◌}
use Rattle.std.specs.Prelude.{slice_get}
use Rattle.std.proofs.lemmas.List.{with_items_is}
use Rattle.mended_frames.specs.StandsFor.{Feed}
use Rattle.mend_run.specs.declared.phase.Phase.TheVariants as phase
use Rattle.mend_run.proofs.ShownLemmas.{at_place, from_place, shown_fed}
use Rattle.mend_run.proofs.WantLemmas.{enough, reach_by, room_of}
use Rattle.mend_run.proofs.machine.MendMachineMachine.feed.Goals as goal

pub feed_one-requires-clause-inside : goal.feed_one-requires-clause-inside
feed_one-requires-clause-inside c =
    rw c.deref_mut.ensures.value (enough c.args.self.now c.args.input _ c.requires.wanted).0.waits.inside

pub feed_one-requires-clause-unknown : goal.feed_one-requires-clause-unknown
feed_one-requires-clause-unknown c =
    rw c.deref_mut.ensures.value (enough c.args.self.now c.args.input _ c.requires.wanted).0.waits.there

pub feed_one-requires-clause-room : goal.feed_one-requires-clause-room
feed_one-requires-clause-room c = λ f is.
    let m = c.args.self.now in
    let r = c.requires.room in
    room_of r.start.plan.now (length r.start.feeds.items) m r.events r.came.gone r.came.come c.args.input
    (length c.args.bytes.now) f
    (ap (λ (l : List Feed). slice_get l c.args.input) (sym c.deref_mut.ensures.value) ∙ is) r.few

pub invariant_of-self-clause-of : goal.invariant_of-self-clause-of
invariant_of-self-clause-of c =
    let m = c.args.self.now in
    rw (with_items_is m.feeds c.feed_one.new.feeds (c.feed_one.auto.feeds ∙ c.deref_mut.ensures.len))
    (c.feed_one.ensures.of m.plan.now (rw c.deref_mut.ensures.value m.of))

pub invariant_of-self-clause-inside : goal.invariant_of-self-clause-inside
invariant_of-self-clause-inside c = λ n i sends.
    absurd (let z = sym (enough c.args.self.now c.args.input _ c.requires.wanted).0.looks ∙ sends in cc)

pub invariant_of-self-clause-lends : goal.invariant_of-self-clause-lends
invariant_of-self-clause-lends c = λ n i f sends is.
    absurd (let z = sym (enough c.args.self.now c.args.input _ c.requires.wanted).0.looks ∙ sends in cc)

pub returns-clause-becomes : goal.returns-clause-becomes
returns-clause-becomes c = λ start events came.
    let m = c.args.self.now in
    let k = start.plan.now in
    let count = length start.feeds.items in
    let looks = (enough c.args.self.now c.args.input _ c.requires.wanted).0.looks in
    let s = at_place k count events m phase.Looks looks came in
    let items = with_items_is m.feeds c.feed_one.new.feeds (c.feed_one.auto.feeds ∙ c.deref_mut.ensures.len) in
    let value = c.deref_mut.ensures.value in
    let go = rw value at (c.feed_one.ensures.goes k count events s.gone (rw value s.come)) in
    from_place k count _ _ phase.Looks looks
    (shown_fed k count events _ m _ s (rw items go)
    (c.events_law.ensures.fed c.args.input (take c.feed_one.result c.args.bytes.now) events).gave refl refl refl refl)

pub returns-clause-reach : goal.returns-clause-reach
returns-clause-reach c =
    let m = c.args.self.now in
    let items = with_items_is m.feeds c.feed_one.new.feeds (c.feed_one.auto.feeds ∙ c.deref_mut.ensures.len) in
    reach_by m.feeds.items c.deref_mut.result.now c.feed_one.new.feeds _ c.deref_mut.ensures.value items
    c.feed_one.ensures.len
    c.feed_one.ensures.fed
