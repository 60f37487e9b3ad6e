use Rattle.std.proofs.Common.{◌≡◌, ◌∙◌, refl, sym, arith, take}
use Rattle.std.proofs.lemmas.Bool.{true≢false}
use Rattle.site_frame.specs.FeedStandsFor.{coming_of, left_of}
use Rattle.site_frame.specs.declared.coming.Coming.TheVariants.{Whole}
use Rattle.plp_receiver.specs.JointStandsFor.{due_of}
use Rattle.receive_run.proofs.FedLemmas.{fed_some, fed_whole}
use Rattle.receive_run.proofs.StepLemmas.{known_of}
use Rattle.receive_run.proofs.WantedLemmas.{enough, fits, is_ready, near_left, all_left}
use Rattle.receive_run.proofs.machine.ReceiverMachineMachine.feed.Goals as goal

pub feed-count-requires-clause-wants : goal.feed-count-requires-clause-wants
feed-count-requires-clause-wants c = (enough c.args.self.now _ _ c.requires.wanted).0.some

pub feed-count-requires-clause-some : goal.feed-count-requires-clause-some
feed-count-requires-clause-some c = (enough c.args.self.now _ _ c.requires.wanted).1

pub feed-count-requires-clause-few : goal.feed-count-requires-clause-few
feed-count-requires-clause-few c =
    let few = fits c.args.self.now _ _ c.requires.room (enough c.args.self.now _ _ c.requires.wanted).0.only in
    omega (arith, few)

pub invariant_of-self : goal.invariant_of-self
invariant_of-self c = let m = c.args.self.now in
    record { network = m.network; place = m.place; inside = m.inside; room = c.feed-count.ensures.room m.room }

pub see-requires-clause-ready : goal.see-requires-clause-ready
see-requires-clause-ready c =
    is_ready c.args.self.now _ _ _ c.requires.room (enough c.args.self.now _ _ c.requires.wanted).0.idle
    c.feed-count.ensures.accepted

pub returns-then-is_whole-clause-becomes : goal.returns-then-is_whole-clause-becomes
returns-then-is_whole-clause-becomes c = λ start events came.
    let whole : coming_of c.feed-count.new.self ≡ Whole =
    c.is_whole.ensures.0 c.if-is_whole.true in
    fed_whole c.events_law.ensures c.joined_law.ensures.front start c.args.self.now _ c.see.new.self
    events c.args._input _
    (take c.feed-count.result c.args.bytes.now) (known_of c.args.self.now c.rules_law.ensures.plan c.joins_law.ensures)
    c.requires.wanted
    (record { receiver = refl; first = refl; slots = refl }) refl whole
    c.feed-count.ensures.stands c.see.ensures.sees came

pub returns-then-is_whole-clause-reach : goal.returns-then-is_whole-clause-reach
returns-then-is_whole-clause-reach c = λ other.
    let m = c.args.self.now in
    let f = c.feed-count.ensures in
    let whole : coming_of c.feed-count.new.self ≡ Whole =
    c.is_whole.ensures.0 c.if-is_whole.true in
    let near = near_left (due_of m.receiver) (left_of m.feed) in
    let all = f.left in
    let none = f.whole whole in
    let came = f.came in
    let same = c.see.ensures.came in
    omega (arith, near, all, none, came, same)

pub returns-else-is_whole-clause-becomes : goal.returns-else-is_whole-clause-becomes
returns-else-is_whole-clause-becomes c = λ start events came.
    let seen : coming_of c.feed-count.new.self ≡ Whole → ⊥ =
    λ whole. true≢false (sym (c.is_whole.ensures.1 whole) ∙ c.if-is_whole.false) in
    fed_some c.events_law.ensures start c.args.self.now _ events c.args._input _
    (take c.feed-count.result c.args.bytes.now)
    c.requires.wanted (record { receiver = refl; first = refl; slots = refl }) refl seen
    c.feed-count.ensures.stands came

pub returns-else-is_whole-clause-reach : goal.returns-else-is_whole-clause-reach
returns-else-is_whole-clause-reach c = λ other.
    let m = c.args.self.now in
    let f = c.feed-count.ensures in
    let idle = (enough m _ _ c.requires.wanted).0.idle in
    let near = near_left (due_of m.receiver) (left_of m.feed) in
    let later = all_left (due_of m.receiver) (left_of c.feed-count.new.self) idle in
    let all = f.left in
    let came = f.came in
    omega (arith, near, later, all, came)
