use Rattle.std.proofs.Common.{◌*◌, arith}
use Rattle.plp_config.specs.SlotTimes.{delay_of}
use Rattle.plp_receiver.proofs.window.SlotWindow.enter.Goals as goal

pub push_empty-requires : goal.push_empty-requires
push_empty-requires c =
    let w = c.args.self.now in
    let s = w.sound in
    let holds = c.release_law.ensures.window w.rule.times.num w.rule.times.den (delay_of w.rule.times) w.rule.ticks
    (c.args.frame * w.rule.ticks) w.first (let a = s.times.some in let b = s.times.long in omega (arith, a, b))
    (let a = s.times.some in omega (arith, a))
    c.requires.given_out in
    let span = w.span in
    let room = w.room in
    omega (arith, holds, span, room, c.over_after-end.ensures)
