use Rattle.std.proofs.Common.{◌≡◌, false, sym, subst}
use Rattle.linked_pool.specs.Pool.{State}
use Rattle.gateway_core.specs.BlocksLeft.{blocks_left}
use Rattle.gateway_core.specs.Lists.{own_in, AllShort}
use Rattle.frame_writer.specs.Builds.{Builds}
use Rattle.gateway_core.specs.Left.{early_at}
use Rattle.frame_writer.specs.FirstPacket.{from_step}
use Rattle.frame_writer.specs.FramePackets.{l1_body}
use Rattle.gateway_core.proofs.LeftLemmas.{built_block, nothing_left, pop_short, early_popped, early_end}
use Rattle.gateway_core.proofs.frame.Frame.build_block.Goals as goal

pub returns-in_default-clause-none : goal.returns-in_default-clause-none
returns-in_default-clause-none c = λ off s.
    let f = c.args.self.now in
    nothing_left c.args.plan.now f.number f.step (l1_body c.args.plan.now f.number s.pre s.conf f.dynamic.bits)
    f.blocks f.plp
    f.first c.requires.step c.in_default.ensures.none

pub returns-in_default-clause-early : goal.returns-in_default-clause-early
returns-in_default-clause-early c = λ j.
    let f = c.args.self.now in
    early_end c.args.plan.now f.number f.plp f.step f.blocks c.requires.step c.in_default.ensures.none j

pub invariant_of-self-2-clause-short : goal.invariant_of-self-2-clause-short
invariant_of-self-2-clause-short c =
    subst AllShort (sym c.pop.ensures.popped)
    (pop_short c.args.self.now.blocks c.in-Some.list c.in-Some.ensures.next.inside c.args.self.now.short)

pub returns-clause-early : goal.returns-clause-early
returns-clause-early c = λ j.
    let f = c.args.self.now in
    let p = c.args.plan.now in
    subst (λ (q : State). early_at p f.number f.step c.in-Some.list q j ≡ early_at p f.number f.step f.plp f.blocks j)
    (sym c.pop.ensures.popped)
    (early_popped p f.number f.plp c.in-Some.list f.step f.blocks c.requires.step c.in-Some.ensures.next j)

pub returns-clause-some : goal.returns-clause-some
returns-clause-some c = λ on s.
    let f = c.args.self.now in
    let p = c.args.plan.now in
    let built = built_block p f.number c.args.packet_count f.step (l1_body p f.number s.pre s.conf f.dynamic.bits)
    f.blocks f.plp
    c.in-Some.list f.first c.is_first-first.result _ c.write_block.new.out c.requires.step c.requires.plps
    c.in-Some.ensures.next c.is_first-first.ensures c.front_block-block.ensures c.write_block.ensures.bits
    c.write_block.ensures.whole in
    subst (λ (q : State). Builds p f.number c.args.packet_count
    (from_step p f.number f.step (l1_body p f.number s.pre s.conf f.dynamic.bits)
    (blocks_left p f.number (own_in p f.number f.blocks) f.plp f.first))
    (from_step p f.number f.step (l1_body p f.number s.pre s.conf f.dynamic.bits)
    (blocks_left p f.number (own_in p f.number q) c.in-Some.list false)) c.write_block.new.out)
    (sym c.pop.ensures.popped) built
