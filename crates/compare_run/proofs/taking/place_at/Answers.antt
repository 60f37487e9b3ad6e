use Rattle.std.proofs.Common.{◌∙◌}
use Rattle.compare_run.proofs.CarriedLemmas.{are_others}
use Rattle.compare_run.proofs.NoteLemmas.{dynamic_by, room_by}
use Rattle.compare_run.proofs.TakeLemmas.{waits_whole}
use Rattle.compare_run.proofs.taking.place_at.Goals as goal

pub returns : goal.returns
returns c = λ same_a same_b ga gb stands a b whole_a whole_b.
    let first = waits_whole c.args.number _ whole_a in
    let second = waits_whole c.args.number _ whole_b in
    let room_a = room_by c.args.plan.now c.args.a.now c.args.number ga same_a first c.frame-first.ensures.room a in
    let room_b = room_by c.args.plan.now c.args.b.now c.args.number gb same_b second c.frame-second.ensures.room b in (
      c.place.ensures c.args.number ga gb stands room_a room_b
          (c.frame-first.ensures.is.dynamic
          ∙ dynamic_by c.args.a.now c.args.number ga first c.frame-first.ensures.came a)
          (c.frame-second.ensures.is.dynamic
          ∙ dynamic_by c.args.b.now c.args.number gb second c.frame-second.ensures.came b),
      are_others c.args.plan.now c.args.number ga gb c.args.carried.now stands room_a room_b,
    )
