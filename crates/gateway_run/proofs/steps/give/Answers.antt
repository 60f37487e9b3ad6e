use Rattle.std.proofs.Common.{rules, arith, refl, ◌≤◌, length}
use Rattle.gateway_run.proofs.GiveLemmas.{nothing_gave, piece_gave}
use Rattle.gateway_run.proofs.steps.give.Goals as goal

pub loop-out-init : goal.loop-out-init
loop-out-init g c = record {
  inside = omega arith;
  size = refl;
  ready = c.requires.ready;
  gives = c.requires.gives;
  left = omega arith;
  less = λ some. absurd (omega (arith, some));
  read = omega arith;
  holds =
      λ done h. nothing_gave g.G.FrameGateway.sharing c.events_law.ensures c.args.plan.now done
      (g.G.FrameGateway.seen c.args.gateway.now c.args.plan.now).stands c.args.place.now c.args.ran.now h;
}

pub returns-then-count-eq0-clause-holds : goal.returns-then-count-eq0-clause-holds
returns-then-count-eq0-clause-holds g c = λ done h.
    let now = c.loop-out in
    let s = c.go_on_front-count in
    let none = c.if-count-eq0.true in
    piece_gave g.G.FrameGateway.sharing c.events_law.ensures c.args.plan.now done
    (g.G.FrameGateway.seen s.new.gateway c.args.plan.now).stands s.new.place s.new.ran now.out s.new.out now.len _
    s.result now.len (omega (arith, none)) now.invariant.inside (omega (arith, none))
    (s.ensures.holds _ (now.invariant.holds done h))

pub loop-out-preserved : goal.loop-out-preserved
loop-out-preserved g c =
    let now = c.loop-out in
    let i = now.invariant in
    let s = c.go_on_front-count in
    let few : s.result ≤ length s.new.out = search (rules, arith) in
    let read = s.ensures.read in
    let left = s.ensures.left in
    record {
      inside = search (rules, arith);
      size = search (rules, arith);
      ready = s.ensures.ready;
      gives = search (rules, arith);
      left = (let was = i.left in omega (arith, was, left));
      less = λ some. (let was = i.left in omega (arith, was, left));
      read = (let was = i.read in omega (arith, was, read));
      holds =
          λ done h. piece_gave g.G.FrameGateway.sharing c.events_law.ensures c.args.plan.now done
          (g.G.FrameGateway.seen s.new.gateway c.args.plan.now).stands s.new.place s.new.ran now.out s.new.out now.len _
          s.result _ refl i.inside few (s.ensures.holds _ (i.holds done h));
    }
