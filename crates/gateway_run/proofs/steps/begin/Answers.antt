use Rattle.std.proofs.Common.{refl, ap}
use Rattle.gateway_run.proofs.BeginLemmas.{frame_begun, frames_ended, too_many}
use Rattle.gateway_run.proofs.StreamLemmas.{own_length}
use Rattle.gateway_run.proofs.WaitingLemmas.{ready_for}
use Rattle.gateway_run.specs.declared.place.Place.{Place}
use Rattle.gateway_run.proofs.steps.begin.Goals as goal

pub returns-then-last-clause-holds : goal.returns-then-last-clause-holds
returns-then-last-clause-holds g c = λ done h.
    let way = g.G.FrameGateway.sharing in
    let s = g.G.FrameGateway.seen c.args.gateway.now c.args.plan.now in
    let next = g.G.FrameGateway.seen c.finish.new.self c.args.plan.now in
    frames_ended way c.args.plan.now done s.stands next.stands c.args.place _ _
    (ready_for way c.args.plan.now s _ c.args.place c.args.ran.now c.requires.ready done c.requires.begins)
    (ap (λ (p : Place). p.phase) c.place_in.ensures)
    (λ events stands. (c.last.ensures events stands).0 c.if-last.true) c.finish.ensures.stands h

pub returns-then-ran-eq-MOST_FRAMES-clause-holds : goal.returns-then-ran-eq-MOST_FRAMES-clause-holds
returns-then-ran-eq-MOST_FRAMES-clause-holds g c = λ done h.
    let way = g.G.FrameGateway.sharing in
    let s = g.G.FrameGateway.seen c.args.gateway.now c.args.plan.now in
    too_many way c.not_yet_last_law.ensures (own_length c.split_law.ensures.length way) c.args.plan.now
    done s.stands c.args.place _ _
    (ready_for way c.args.plan.now s _ c.args.place c.args.ran.now c.requires.ready done c.requires.begins)
    (ap (λ (p : Place). p.phase) c.place_in-then-ran-eq-MOST_FRAMES.ensures) c.if-ran-eq-MOST_FRAMES.true
    (λ events stands last. let on = (c.last.ensures events stands).1 last in let off = c.if-last.false in cc) h

pub returns-clause-holds : goal.returns-clause-holds
returns-clause-holds g c = λ done h.
    let way = g.G.FrameGateway.sharing in
    let s = g.G.FrameGateway.seen c.args.gateway.now c.args.plan.now in
    let next = g.G.FrameGateway.seen c.begin_frame.new.self c.args.plan.now in
    frame_begun way c.not_yet_last_law.ensures (own_length c.split_law.ensures.length way) c.front_law.ensures.grow
    c.args.plan.now
    done s.stands next.stands c.args.place _ _ _
    (ready_for way c.args.plan.now s _ c.args.place c.args.ran.now c.requires.ready done c.requires.begins)
    (ap (λ (p : Place). p.phase) c.place_in-2.ensures) refl refl
    (λ events stands last. let on = (c.last.ensures events stands).1 last in let off = c.if-last.false in cc)
    c.begin_frame.ensures.stands h
