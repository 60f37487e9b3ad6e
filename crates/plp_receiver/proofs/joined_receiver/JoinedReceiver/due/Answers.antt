use Rattle.std.proofs.Common.{length, ap, arith, ℕ, List}
use Rattle.plp_receiver.specs.StandsFor as one
use Rattle.plp_receiver.specs.JointStandsFor.{JoinedReceiverStandsFor, common_at, due_of}
use Rattle.plp_receiver.proofs.DueLemmas.{of_plan, told}
use Rattle.plp_receiver.proofs.LawLemmas.{joined_once}
use Rattle.plp_receiver.proofs.joined_receiver.JoinedReceiver.due.Goals as goal

pub returns-clause-some : goal.returns-clause-some
unfolding JoinedReceiverStandsFor
returns-clause-some c = λ first views released s.
    let m = c.args.self.now in
    let p = of_plan c.groups_law.ensures.step c.join_law.ensures.slots m.own m.common m.plan.now m.network
    c.rules_law.ensures.plan.rules m.inside m.step c.due_law.ensures c.common_due_law.ensures in
    let t = told m.own m.common p first views released s.0 s.1 in
    (t.0, t.1)

pub returns-clause-answer : goal.returns-clause-answer
unfolding JoinedReceiverStandsFor due_of
returns-clause-answer c = λ first views released packets s back.
    let m = c.args.self.now in
    let p = of_plan c.groups_law.ensures.step c.join_law.ensures.slots m.own m.common m.plan.now m.network
    c.rules_law.ensures.plan.rules m.inside m.step c.due_law.ensures c.common_due_law.ensures in
    let t = told m.own m.common p first views released s.0 s.1 in
    let same = joined_once c.readback_law.ensures.once (common_at m.common) (one.network_of m.own) (one.plp_of m.own)
    first views packets t.0 back t.1 in
    let count = ap (λ (l : List (List ℕ)). length l) same in
    let due = t.2 in
    let top = c.max.ensures in
    let mine = c.due.ensures.value in
    let other = c.due_of_common.ensures.value in
    omega (arith, count, due, top, mine, other)
