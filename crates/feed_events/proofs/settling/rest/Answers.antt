use Rattle.std.proofs.Common.{◌≡◌, false, rules}
use Rattle.feed_events.proofs.StandsLemmas.{fell_silent, came_end}
use Rattle.feed_events.proofs.settling.rest.Goals as goal

pub returns-then-idle-clause-stands : goal.returns-then-idle-clause-stands
returns-then-idle-clause-stands g c = λ bytes gone h.
    let none : c.is_ready.result ≡ false = search rules in
    fell_silent (g.G.OpenGroup.holds c.args.frames.now.group) (g.G.OpenGroup.holds c.fall_silent.new.self.group)
    (g.G.OpenGroup.rules c.args.frames.now.group) c.args.unpiper.now c.args.frames.now.course
    c.fall_silent.new.self.course
    c.args.idle c.fall_silent.result c.args.finished bytes gone (c.is_ready.ensures.none none) c.if-idle.true
    c.fall_silent.ensures.went c.fall_silent.ensures.waits h

pub returns-then-finished-clause-stands : goal.returns-then-finished-clause-stands
returns-then-finished-clause-stands g c = λ bytes gone h.
    let none : c.is_ready.result ≡ false = search rules in
    came_end (g.G.OpenGroup.holds c.args.frames.now.group) (g.G.OpenGroup.holds c.end.new.self.group)
    (g.G.OpenGroup.rules c.args.frames.now.group) c.args.unpiper.now c.args.frames.now.course c.end.new.self.course
    c.args.idle c.args.finished bytes gone (c.is_ready.ensures.none none) c.if-idle.false c.if-finished.true
    c.end.ensures.ended h
