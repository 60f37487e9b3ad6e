use Rattle.std.proofs.Common.{◌≡◌, ◌<◌, ◌≤◌, ◌+◌, ◌/◌, ap, arith}
use Rattle.spaced_frames.specs.StandsFor.{bodies_as, content_of, later_in}
use Rattle.spaced_frames.specs.declared.stage.Stage.{Stage}
use Rattle.spaced_frames.proofs.SendLemmas.{frame_next, spacer_next, later_spaces, spacer_left_of}
use Rattle.spaced_frames.proofs.sender.Sender.go_on.Goals as goal

pub returns-then-superframe_of-superframe-clause-goes : goal.returns-then-superframe_of-superframe-clause-goes
returns-then-superframe_of-superframe-clause-goes c = λ n all gave s.
    let k = c.args.self.now.plan.now in
    let x = content_of c.args.frame.now in
    let new = c.begin_spacer.new.self in
    let t = c.args.number / k.frames in
    let e : c.superframe_of.result ≡ t = c.superframe_of.ensures in
    let far : c.args.superframe + 14 < t = omega (arith, c.if-superframe_of-superframe.true, e) in
    spacer_next k new x c.args.superframe t c.args.number (bodies_as k c.args.number x) all gave far
    (later_spaces k new x (c.args.superframe + 14) c.args.number c.begin_spacer.ensures.stage
    c.begin_spacer.ensures.number.1
    c.begin_spacer.ensures.number.0)
    (c.begin_spacer.ensures.begun x n all gave s)

pub returns-else-superframe_of-superframe-clause-goes : goal.returns-else-superframe_of-superframe-clause-goes
returns-else-superframe_of-superframe-clause-goes c = λ n all gave s.
    let k = c.args.self.now.plan.now in
    let x = content_of c.args.frame.now in
    let new = c.begin_frame.new.self in
    let t = c.args.number / k.frames in
    let e : c.superframe_of.result ≡ t = c.superframe_of.ensures in
    let near : t ≤ c.args.superframe + 14 = omega (arith, c.if-superframe_of-superframe.false, e) in
    frame_next k new x c.args.superframe t c.args.number (bodies_as k c.args.number x) all gave near
    (ap (λ (a : Stage). later_in k a new x) c.begin_frame.ensures.stage)
    (c.begin_frame.ensures.begun n all gave s)

pub returns-then-superframe_of-superframe-clause-left : goal.returns-then-superframe_of-superframe-clause-left
returns-then-superframe_of-superframe-clause-left c =
    let k = c.args.self.now.plan.now in
    let x = content_of c.args.frame.now in
    let t = c.args.number / k.frames in
    let e : c.superframe_of.result ≡ t = c.superframe_of.ensures in
    let far : c.args.superframe + 14 < t = omega (arith, c.if-superframe_of-superframe.true, e) in
    spacer_left_of k c.args.self.now c.begin_spacer.new.self x c.args.superframe c.args.number far
    c.begin_spacer.ensures.stage
    c.begin_spacer.ensures.number.1 c.begin_spacer.ensures.number.0 (c.begin_spacer.ensures.bound x)
