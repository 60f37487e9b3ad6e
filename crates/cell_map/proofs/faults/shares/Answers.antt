use Rattle.std.proofs.Common.{ℕ, subst, ◌↔◌, false, ltb, IsTrue, arith}
use Rattle.cell_map.specs.CellMap.{Shares}
use Rattle.cell_map.proofs.ShareLemmas.{shares_law, empty_first, empty_second, self_law, self_one}
use Rattle.cell_map.proofs.MeetingLemmas.{never_law}
use Rattle.cell_map.proofs.faults.shares.Goals as goal

pub returns : goal.returns
returns c =
    shares_law c.args.plan.now c.args.shape.now c.args.first c.args.second c.plp_in_frame-one.result.slices
    c.plp_in_frame-other.result.slices c.slices_meet.result
    c.plp_in_frame-one.ensures.plan c.requires.first c.requires.second c.if-first-second.false
    c.plp_in_frame-one.ensures.slices
    c.plp_in_frame-other.ensures.slices (omega (arith, c.if-one-eq0.false)) (omega (arith, c.if-other-eq0.false))
    (rw (c.from-interval.ensures, c.interval.ensures) at c.slices_meet.ensures)

pub returns-then-one-eq1 : goal.returns-then-one-eq1
returns-then-one-eq1 c =
    subst (λ (x : ℕ). IsTrue false ↔ Shares c.args.plan.now c.args.shape.now c.args.first x) c.if-first-second.true
    (never_law
    (self_one c.args.plan.now c.args.shape.now c.args.first c.plp_in_frame-one.result.slices
    c.plp_in_frame-one.ensures.plan
    c.plp_in_frame-one.ensures.slices c.if-one-eq1.true))

pub returns-then-first-second : goal.returns-then-first-second
returns-then-first-second c =
    rw (c.from-interval.ensures, c.interval.ensures)
    (subst (λ (x : ℕ). IsTrue (ltb c.args.shape.now.interval c.plp_in_frame-one.result.slices.len)
    ↔ Shares c.args.plan.now c.args.shape.now c.args.first x) c.if-first-second.true
    (self_law c.args.plan.now c.args.shape.now c.args.first c.plp_in_frame-one.result.slices
    c.plp_in_frame-one.ensures.plan
    c.requires.first c.plp_in_frame-one.ensures.slices c.plp_in_frame-one.ensures.some c.if-one-eq1.false))

pub returns-then-one-eq0 : goal.returns-then-one-eq0
returns-then-one-eq0 c =
    never_law
    (empty_first c.args.plan.now c.args.shape.now c.args.first c.args.second c.plp_in_frame-one.result.slices
    c.plp_in_frame-one.ensures.plan c.plp_in_frame-one.ensures.slices c.if-one-eq0.true)

pub returns-then-other-eq0 : goal.returns-then-other-eq0
returns-then-other-eq0 c =
    never_law
    (empty_second c.args.plan.now c.args.shape.now c.args.first c.args.second c.plp_in_frame-other.result.slices
    c.plp_in_frame-other.ensures.plan c.plp_in_frame-other.ensures.slices c.if-other-eq0.true)
