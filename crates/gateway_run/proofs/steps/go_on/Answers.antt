use Rattle.std.proofs.Common.{◌≡◌, arith, refl, sym, ap, subst, ◌∙◌, ◌<◌, [], ◌∷◌, ◌++◌, ℕ}
use Rattle.std.proofs.lemmas.List.{take_all}
use Rattle.ts_packet.specs.declared.sizes.TheConstants.{SIZE}
use Rattle.file_run.specs.Events.{Gave}
use Rattle.gateway_core.specs.StandsFor.{Status}
use Rattle.gateway_run.specs.Holds.{Holds}
use Rattle.gateway_run.specs.Phases.{frame_read, left_by}
use Rattle.gateway_run.specs.Ready.{IsReady}
use Rattle.gateway_run.specs.declared.place.Phase.{Phase}
use Rattle.gateway_run.specs.declared.place.Phase.TheVariants.{Gives}
use Rattle.gateway_run.specs.declared.place.Place.{Place}
use Rattle.gateway_run.proofs.GiveLemmas.{unit_gave, units_out, looked_left}
use Rattle.gateway_run.proofs.PhaseLemmas.{looked_read, gives_at}
use Rattle.gateway_run.proofs.ReadyLemmas.{ready_behind}
use Rattle.gateway_run.proofs.steps.go_on.Goals as goal

pub returns-then-next_ts-clause-holds : goal.returns-then-next_ts-clause-holds
returns-then-next_ts-clause-holds g c = λ done h.
    let s = g.G.FrameGateway.seen c.args.gateway.now c.args.plan.now in
    let next = g.G.FrameGateway.seen c.next_ts.new.self c.args.plan.now in
    unit_gave g.G.FrameGateway.sharing c.events_law.ensures c.args.plan.now done s.stands next.stands
    c.args.place.now _ _
    c.next_ts.new.out _ c.requires.gives (take_all SIZE c.next_ts.new.out (omega (arith, c.next_ts.array_long)))
    refl refl
    (c.next_ts.ensures.unit c.if-next_ts.true) (c.next_ts.ensures.gave c.if-next_ts.true) h

pub returns-clause-ready : goal.returns-clause-ready
returns-clause-ready g c =
    let s = g.G.FrameGateway.seen c.args.gateway.now c.args.plan.now in
    let next = g.G.FrameGateway.seen c.look.new.self c.args.plan.now in
    let n = c.next_ts.ensures in
    subst (λ (p : Place). IsReady g.G.FrameGateway.sharing c.args.plan.now next
    (g.G.FrameGateway.status c.look.new.self) p
    c.args.ran.now) (sym c.place_by.ensures)
    (ready_behind g.G.FrameGateway.sharing c.args.plan.now s next _ (g.G.FrameGateway.status c.next_ts.new.self)
    _ c.args.place.now
    c.look.result c.args.ran.now c.requires.ready (gives_at c.args.place.now.phase c.requires.gives
    c.in_default.not-Rests)
    (n.none c.if-next_ts.false) n.end n.frame (n.kept c.if-next_ts.false) c.look.ensures.status c.look.ensures.asks)

pub returns-clause-left : goal.returns-clause-left
returns-clause-left g c =
    let n = c.next_ts.ensures in
    let gives = gives_at c.args.place.now.phase c.requires.gives c.in_default.not-Rests in
    let was : ℕ = (g.G.FrameGateway.status c.args.gateway.now).left in
    let is : ℕ = (g.G.FrameGateway.status c.look.new.self).left in
    let kept : is ≡ was = ap (λ (t : Status). t.left) c.look.ensures.status ∙ n.kept c.if-next_ts.false in
    subst (λ (p : Phase). left_by is c.place_by.result.phase c.args.ran.now.frames < left_by was p
    c.args.ran.now.frames) (sym gives)
    (subst (λ (p : Place). left_by is p.phase c.args.ran.now.frames < left_by was Gives c.args.ran.now.frames)
    (sym c.place_by.ensures)
    (looked_left c.look.result was is c.args.ran.now.frames kept))

pub returns-clause-read : goal.returns-clause-read
returns-clause-read g c =
    let gives = gives_at c.args.place.now.phase c.requires.gives c.in_default.not-Rests in
    let frames = c.args.ran.now.frames in
    let was = ap (λ (p : Phase). frame_read p frames) gives in
    let is = ap (λ (p : Place). frame_read p.phase frames) c.place_by.ensures in
    omega (arith, was, is, looked_read frames c.look.result)

pub returns-clause-holds : goal.returns-clause-holds
returns-clause-holds g c = λ done h.
    let s = g.G.FrameGateway.seen c.args.gateway.now c.args.plan.now in
    let next = g.G.FrameGateway.seen c.look.new.self c.args.plan.now in
    let n = c.next_ts.ensures in
    let gives = gives_at c.args.place.now.phase c.requires.gives c.in_default.not-Rests in
    subst (λ (p : Place). Holds g.G.FrameGateway.sharing c.args.plan.now (done ++ Gave [] ∷ []) next.stands
    p c.args.ran.now)
    (sym c.place_by.ensures)
    (units_out g.G.FrameGateway.sharing c.events_law.ensures c.args.plan.now done s.stands next.stands
    c.args.place.now c.look.result _
    gives (λ events stands. c.look.ensures.stands events (n.still c.if-next_ts.false events stands))
    (n.complete c.if-next_ts.false) (λ events stands. n.finished events stands ∙ c.requires.ready.giving gives) h)
