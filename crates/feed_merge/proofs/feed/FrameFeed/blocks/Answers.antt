use Rattle.std.proofs.Common.{◌∙◌, sym}
use Rattle.feed_merge.proofs.CameLemmas.{came, gap_waits, blocks_held, lacks_room}
use Rattle.feed_merge.proofs.feed.FrameFeed.blocks.Goals as goal

pub returns-then-number-self-clause-none : goal.returns-then-number-self-clause-none
returns-then-number-self-clause-none c = λ bytes ended given s w is gs are room.
    let x = came c.accepted_front_law.ensures c.args.self.now bytes ended given w gs
    (λ off. c.is_ready-ready.ensures.none (c.is_ready-ready.ensures.is ∙ off)) s is are in
    gap_waits c.args.self.now w gs is x c.in-Some.number c.in-Some.is c.if-number-self.true

pub returns-then-not-has_room-clause-none : goal.returns-then-not-has_room-clause-none
returns-then-not-has_room-clause-none c = λ bytes ended given s w is gs are room.
    let x = came c.accepted_front_law.ensures c.args.self.now bytes ended given w gs
    (λ off. c.is_ready-ready.ensures.none (c.is_ready-ready.ensures.is ∙ off)) s is are in
    lacks_room c.args.self.now w gs is x c.in-Some.number c.in-Some.is c.if-number-self.false
    (sym c.has_room.ensures ∙ c.if-not-has_room.true) room

pub returns-clause-some : goal.returns-clause-some
returns-clause-some c = λ bytes ended given s w is gs are.
    let x = came c.accepted_front_law.ensures c.args.self.now bytes ended given w gs
    (λ off. c.is_ready-ready.ensures.none (c.is_ready-ready.ensures.is ∙ off)) s is are in
    blocks_held c.args.self.now w gs c.blocks-2.result.now.lists is x c.in-Some.number c.in-Some.is
    c.if-number-self.false
    (λ past h intact holds. c.blocks-2.ensures.blocks past h intact holds
    (sym c.has_room.ensures ∙ c.if-not-has_room.false))
