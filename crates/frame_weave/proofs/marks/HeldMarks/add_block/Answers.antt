use Rattle.std.proofs.Common.{refl, sym, arith}
use Rattle.frame_weave.proofs.MarkLemmas.{stray_held, wrong_held, right_held, last_place}
use Rattle.frame_weave.proofs.marks.HeldMarks.add_block.Goals as goal

pub returns-in_default-clause-marks : goal.returns-in_default-clause-marks
returns-in_default-clause-marks c = λ packets p frame_idx first is count blocks h.
    stray_held c.args.plan.now packets p frame_idx c.args.id first c.args.bits.now is c.args.self.now
    c.in_default.ensures.none h

pub returns-then-len-block_bytes-clause-marks : goal.returns-then-len-block_bytes-clause-marks
returns-then-len-block_bytes-clause-marks c = λ packets p frame_idx first is count blocks h.
    wrong_held c.args.plan.now packets p frame_idx c.args.id first c.args.bits.now is c.in-Some.plp
    c.in-Some.ensures.some
    c.args.self.now (λ e. c.if-len-block_bytes.true (cc)) h

pub returns-clause-marks : goal.returns-clause-marks
returns-clause-marks c = λ packets p frame_idx first is count blocks h.
    right_held c.args.plan.now packets p frame_idx c.args.id first c.args.bits.now is c.in-Some.plp
    c.in-Some.ensures.some
    (cc) c.args.self.now c.push.new.self
    (record { plp = c.in-Some.plp; count = c.args.count; place = c.saturating_sub.result }) c.args.self.now.most
    c.requires.most c.push.ensures.pushed c.push.ensures.origin refl (sym count)
    (λ fits.
    let all = last_place c.args.plan.now packets p frame_idx c.args.id first c.args.bits.now is c.in-Some.plp
    c.in-Some.ensures.some (cc) c.args.pool.now.lists (blocks fits) in
    let size = c.count.ensures in
    let less = c.saturating_sub.ensures in
    omega (arith, all, size, less))
    h
