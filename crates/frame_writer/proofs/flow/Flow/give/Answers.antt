use Rattle.std.proofs.Common.{◌≡◌, ℕ, List, [], ◌∷◌, ◌++◌, true, false, take, refl, ap, sym, subst, ◌∙◌, rules, arith}
use Rattle.std.proofs.Common.{length-append}
use Rattle.ts_packet.proofs.JoinedLemmas.{joined_push}
use Rattle.ts_packet.specs.declared.sizes.TheConstants.{SIZE}
use Rattle.frame_writer.specs.Units.{Gives, HasCaughtUp}
use Rattle.frame_writer.proofs.UnitsLemmas.{piece_taken, gives_none, gives_then, ends_full, ends_behind}
use Rattle.frame_writer.proofs.flow.Flow.give.Goals as goal

pub loop-out-init : goal.loop-out-init
loop-out-init g c = record {
  inside = omega arith;
  size = refl;
  units = [];
  bytes = refl;
  count = refl;
  gives = gives_none c.args.plan.now c.args.self.now _ _;
  number = refl;
  of = c.requires.of;
  over = c.requires.over;
  ends = c.requires.ends;
}

pub loop-out-preserved : goal.loop-out-preserved
loop-out-preserved g c =
    let now = c.loop-out in
    let i = now.invariant in
    let u = c.next_front in
    let unit = take SIZE u.new.out in
    let on : u.result ≡ true = search rules in
    record {
      inside = search (rules, arith);
      size = search (rules, arith);
      units = i.units ++ unit ∷ [];
      bytes = piece_taken now.out u.new.out now.len _ SIZE i.inside (search (rules, arith))
          ∙ ap (λ (l : List ℕ). l ++ unit) i.bytes ∙ sym (joined_push i.units unit);
      count = (let e = i.count in let s = length-append i.units (unit ∷ []) in omega (arith, e, s));
      gives = gives_then c.args.plan.now c.args.self.now now.self u.new.flow (g.S.FrameSource.number c.args.source.now)
          _ _ _ i.units
          (unit ∷ []) i.gives
          (subst (λ (n : ℕ). Gives c.args.plan.now now.self u.new.flow n
          (g.S.FrameSource.left now.source c.args.frame.now c.args.plan.now)
          (g.S.FrameSource.left u.new.source c.args.frame.now c.args.plan.now) (unit ∷ [])) i.number
          (u.ensures.some on));
      number = u.ensures.number ∙ i.number;
      of = u.ensures.of;
      over = u.ensures.over;
      ends = u.ensures.ends;
    }

pub returns-then-not-next_front-clause-gives : goal.returns-then-not-next_front-clause-gives
returns-then-not-next_front-clause-gives g c =
    let now = c.loop-out in
    let i = now.invariant in
    let u = c.next_front in
    let off : u.result ≡ false = search rules in
    let s = u.ensures.stays off in
    let caught : HasCaughtUp c.args.plan.now u.new.flow (g.S.FrameSource.number c.args.source.now)
    (g.S.FrameSource.left u.new.source c.args.frame.now c.args.plan.now) =
    subst (λ (n : ℕ). HasCaughtUp c.args.plan.now u.new.flow n
    (g.S.FrameSource.left u.new.source c.args.frame.now c.args.plan.now)) i.number (u.ensures.none off) in
    ends_behind c.args.plan.now c.args.self.now u.new.flow (g.S.FrameSource.number c.args.source.now) _
    (g.S.FrameSource.left u.new.source c.args.frame.now c.args.plan.now) now.out u.new.out now.len _
    i.units i.inside i.bytes i.count
    (rw (s.0, s.1) i.gives) caught

pub returns-clause-gives : goal.returns-clause-gives
returns-clause-gives g c =
    let now = c.loop-out in
    let i = now.invariant in
    let end = c.loop-out-test.false in
    let room = c.requires.room in
    let size = i.size in
    ends_full c.args.plan.now c.args.self.now now.self _ _ _ now.out now.len i.units i.inside
    (search (rules, arith)) i.bytes i.count i.gives
