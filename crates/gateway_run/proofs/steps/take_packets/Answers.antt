use Rattle.std.proofs.Common.{rules, arith, refl, ◌≡◌, ◌++◌, ◌∷◌, ℕ, [], true, drop, take, subst, ◌+◌, ◌-◌, ◌∙◌}
use Rattle.std.proofs.Common.{ap, sym, List, length}
use Rattle.std.proofs.lemmas.List.{take_all, length-drop}
use Rattle.std.proofs.Math.Seq.{take-add}
use Rattle.ts_packet.specs.declared.sizes.TheConstants.{SIZE}
use Rattle.file_run.specs.Events.{Fed}
use Rattle.gateway_run.specs.Holds.{Holds}
use Rattle.gateway_run.proofs.TakeLemmas.{nothing_fed, pieces_fed}
use Rattle.gateway_run.proofs.steps.take_packets.Goals as goal

pub packets-init : goal.packets-init
packets-init g c = record {
  first = λ e. refl;
  inside = omega arith;
  ready = c.requires.ready;
  read = search rules;
  holds =
      λ done h. nothing_fed g.G.FrameGateway.sharing c.events_law.ensures c.args.plan.now done
      (g.G.FrameGateway.seen c.args.gateway.now c.args.plan.now).stands c.args.place.now c.args.ran
      c.args.place.now.input h;
}

pub packets-preserved : goal.packets-preserved
packets-preserved g c =
    let now = c.packets in
    let i = now.invariant in
    let t = c.take_packet-now in
    let on : c.looks_at.result ≡ true = search rules in
    let at = c.looks_at.ensures.0 on in
    let room = c.if-bytes-len-ge-SIZE.true in
    let inside = i.inside in
    let left : List ℕ = take (length c.args.bytes.now - now.len) (drop now.len c.args.bytes.now) in
    let size = length-drop now.len c.args.bytes.now in
    let rest : left ≡ drop now.len c.args.bytes.now = take_all (length c.args.bytes.now - now.len)
    (drop now.len c.args.bytes.now) (omega (arith, size)) in
    let next = g.G.FrameGateway.seen t.new.gateway c.args.plan.now in
    record {
      first = λ e. absurd (omega (arith, e));
      inside = omega (arith, room, inside);
      ready = t.ensures.ready;
      read = t.ensures.read;
      holds =
          λ done h. pieces_fed g.G.FrameGateway.sharing c.events_law.ensures c.args.plan.now done next.stands t.result
          c.args.ran c.args.place.now.input (take now.len c.args.bytes.now) (take SIZE left)
          (take (now.len + SIZE) c.args.bytes.now)
          (take-add now.len SIZE c.args.bytes.now ∙ ap (λ (l : List ℕ). take now.len c.args.bytes.now ++ take SIZE
          l) (sym rest))
          (subst (λ (k : ℕ). Holds g.G.FrameGateway.sharing c.args.plan.now
          ((done ++ Fed c.args.place.now.input (take now.len c.args.bytes.now) ∷ [])
          ++ Fed k (take SIZE left) ∷ []) next.stands t.result c.args.ran) at.1
          (t.ensures.holds _ (i.holds done h)));
    }
