use Rattle.open_group.proofs.HoldLemmas.{stamps_more, l1_more, blocks_more}
use Rattle.open_group.proofs.group.PooledGroup.hold.Goals as goal

pub returns-clause-holds : goal.returns-clause-holds
returns-clause-holds c = λ packets h. record {
  stamps = stamps_more c.tally_law.ensures.grows c.args.self.now.network packets c.args.packet.now
      c.args.self.now.stamps
      c.add.new.self c.add.ensures h.stamps;
  l1 = l1_more c.tally_law.ensures.grows c.args.self.now.network packets c.args.packet.now c.args.self.now.l1
      c.add-2.new.self
      c.add-2.ensures.adds h.l1;
  blocks = blocks_more c.tally_law.ensures.grows c.args.self.now.network packets c.args.packet.now
      c.args.self.now.blocks
      c.add-3.new.self (rw c.plan.ensures at c.add-3.ensures.counts) h.blocks;
  lists = (rw c.plan.ensures at c.add-3.ensures.lists) packets h.lists;
}
