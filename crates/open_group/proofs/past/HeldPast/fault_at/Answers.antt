use Rattle.std.proofs.Common.{◌≡◌, ℕ, ◌+◌, ◌*◌, ◌/◌, ◌<◌, ◌^◌, true, false, Some, ap, sym, subst, ◌∙◌, arith}
use Rattle.plp_config.specs.declared.config.Config.{Config}
use Rattle.frame_groups.specs.declared.cause.MuteCause.TheVariants.{PoolFull}
use Rattle.frame_groups.specs.Begun.{is_begin}
use Rattle.frame_groups.specs.Tests.{pool_chunks}
use Rattle.open_group.proofs.PastLemmas.{needed_at, not_begun, has_room_there, lacks_room_there}
use Rattle.open_group.proofs.past.HeldPast.fault_at.Goals as goal

pub returns-then-need-superframe : goal.returns-then-need-superframe
returns-then-need-superframe c = λ past h above.
    let plan = c.args.plan.now in
    let frames = c.from-frames.ensures ∙ ap (λ (k : Config). k.frames) c.config.ensures.value in
    let range = c.rules_law.ensures.ranges.frames in
    let few : pool_chunks plan < 2 ^ 32 = omega (arith, c.group_chunks.ensures.value) in
    let needed =
    needed_at plan c.args.self.now past c.args.place c.args.number c.need-need.result h (omega (arith, range))
    c.requires.inside
    c.need-need.ensures in
    sym (has_room_there plan past c.args.place c.need-need.result c.args.number needed above c.requires.inside few
    (λ e. absurd (c.if-need-superframe.true (e ∙ ap (λ (k : ℕ). c.args.number / k) (sym frames)))))

pub returns-then-need-chunks : goal.returns-then-need-chunks
returns-then-need-chunks c = λ past h above.
    let plan = c.args.plan.now in
    let range = c.rules_law.ensures.ranges.frames in
    let few : pool_chunks plan < 2 ^ 32 = omega (arith, c.group_chunks.ensures.value) in
    let needed =
    needed_at plan c.args.self.now past c.args.place c.args.number c.need-need.result h (omega (arith, range))
    c.requires.inside
    c.need-need.ensures in
    sym (has_room_there plan past c.args.place c.need-need.result c.args.number needed above c.requires.inside few
    (λ e. omega (arith, c.if-need-chunks.true, c.from-chunks.ensures, c.group_chunks.ensures.value)))

pub returns-then-not-is_begin : goal.returns-then-not-is_begin
returns-then-not-is_begin c = λ past h above.
    let plan = c.args.plan.now in
    let frames = c.from-frames.ensures ∙ ap (λ (k : Config). k.frames) c.config.ensures.value in
    sym (not_begun plan past c.args.number (c.args.number / plan.frames * plan.frames + c.args.place)
    (subst (λ (k : ℕ). is_begin plan c.args.number (c.args.number / k * k + c.args.place) ≡ false) frames
    (sym c.is_begin.ensures ∙ c.if-not-is_begin.true)))

pub returns : goal.returns
returns c = λ past h above.
    let plan = c.args.plan.now in
    let frames = c.from-frames.ensures ∙ ap (λ (k : Config). k.frames) c.config.ensures.value in
    let range = c.rules_law.ensures.ranges.frames in
    let few : pool_chunks plan < 2 ^ 32 = omega (arith, c.group_chunks.ensures.value) in
    let needed =
    needed_at plan c.args.self.now past c.args.place c.args.number c.need-need.result h (omega (arith, range))
    c.requires.inside
    c.need-need.ensures in
    ap (λ (k : ℕ). Some (PoolFull c.need-need.result.chunks k)) (c.from-chunks.ensures ∙ c.group_chunks.ensures.value)
    ∙ sym (lacks_room_there plan past c.args.place c.need-need.result c.args.number needed few
    (c.if-need-superframe.false ∙ ap (λ (k : ℕ). c.args.number / k) frames)
    (omega (arith, c.if-need-chunks.false, c.from-chunks.ensures, c.group_chunks.ensures.value))
    (subst (λ (k : ℕ). is_begin plan c.args.number (c.args.number / k * k + c.args.place) ≡ true) frames
    (sym c.is_begin.ensures ∙ c.if-not-is_begin.false)))
