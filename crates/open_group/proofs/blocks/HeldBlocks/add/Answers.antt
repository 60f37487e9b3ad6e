use Rattle.std.proofs.Common.{ap}
use Rattle.frame_groups.specs.Carried.{body_block}
use Rattle.frame_groups.specs.Tests.{body_known}
use Rattle.open_group.proofs.BlockLemmas.{others_counted, others_listed}
use Rattle.open_group.proofs.blocks.HeldBlocks.add.Goals as goal

pub returns-in-Block-clause-counts : goal.returns-in-Block-clause-counts
returns-in-Block-clause-counts c =
    λ t h. c.add_block.ensures.counts t c.args.packet.now c.in-Block.frame_idx c.in-Block.first c.in-Block.is h

pub returns-in-L1Current-clause-counts : goal.returns-in-L1Current-clause-counts
returns-in-L1Current-clause-counts c =
    λ t h. others_counted c.args.plan.now c.args.packet.now (λ id. ap (body_block id) c.in-L1Current.is)
    c.args.self.now t
    (ap (body_known c.args.plan.now) c.in-L1Current.is) h

pub returns-in-L1Current-clause-lists : goal.returns-in-L1Current-clause-lists
returns-in-L1Current-clause-lists c = λ packets h. others_listed c.args.plan.now c.args.packet.now
    (λ id. ap (body_block id) c.in-L1Current.is) c.args.self.now packets h

pub returns-in-Timestamp-clause-counts : goal.returns-in-Timestamp-clause-counts
returns-in-Timestamp-clause-counts c =
    λ t h. others_counted c.args.plan.now c.args.packet.now (λ id. ap (body_block id) c.in-Timestamp.is)
    c.args.self.now t
    (ap (body_known c.args.plan.now) c.in-Timestamp.is) h

pub returns-in-Timestamp-clause-lists : goal.returns-in-Timestamp-clause-lists
returns-in-Timestamp-clause-lists c = λ packets h. others_listed c.args.plan.now c.args.packet.now
    (λ id. ap (body_block id) c.in-Timestamp.is) c.args.self.now packets h

pub returns-in-Other-clause-counts : goal.returns-in-Other-clause-counts
returns-in-Other-clause-counts c =
    λ t h. others_counted c.args.plan.now c.args.packet.now (λ id. ap (body_block id) c.in-Other.is) c.args.self.now t
    (ap (body_known c.args.plan.now) c.in-Other.is) h

pub returns-in-Other-clause-lists : goal.returns-in-Other-clause-lists
returns-in-Other-clause-lists c = λ packets h. others_listed c.args.plan.now c.args.packet.now
    (λ id. ap (body_block id) c.in-Other.is) c.args.self.now packets h
