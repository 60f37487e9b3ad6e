use Rattle.frame_weave.proofs.MadeLemmas.{added_body, alone_more, alone_first}
use Rattle.frame_weave.proofs.made.MadeGroup.push.Goals as goal

pub returns-then-self-clause-holds : goal.returns-then-self-clause-holds
returns-then-self-clause-holds c = λ bodies body is h.
    let made = c.args.self.now in
    added_body made.plan.now c.args.number made.is_begun made.group c.add.new.self bodies body c.args.packet.now
    c.if-self.true is
    c.add.ensures.group h

pub returns-then-self-clause-alone : goal.returns-then-self-clause-alone
returns-then-self-clause-alone c = alone_more c.args.self.now.group c.add.new.self c.args.packet.now
    (c.args.self.now.key c.if-self.true) c.add.ensures.group

pub returns-clause-alone : goal.returns-clause-alone
returns-clause-alone c = alone_first c.args.self.now.group c.begin.new.self _ c.args.packet.now c.begin.ensures.group
