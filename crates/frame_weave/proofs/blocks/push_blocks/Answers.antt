use Rattle.std.proofs.Common.{ℕ, ◌++◌, ◌-◌, ap, subst, ◌∙◌, arith, length}
use Rattle.std.specs.Prelude.{slice_index}
use Rattle.plp_config.specs.declared.config.Config.{Config}
use Rattle.frame_weave.proofs.MadeLemmas.{added_plp}
use Rattle.frame_weave.specs.Made.{HoldsMade, slot_bodies, all_bodies}
use Rattle.frame_weave.proofs.blocks.push_blocks.Goals as goal

pub loop-plp-preserved : goal.loop-plp-preserved
loop-plp-preserved c =
    let i = c.loop-plp.invariant in
    let network = c.args.plan.now in
    let pool = c.args.slots.now.pool in
    let plp = c.loop-plp.plp in
    let starts = c.args.layout.now.starts.items in
    record {
      holds = λ bodies h.
          let before = bodies ++ all_bodies network c.args.number pool starts plp in
          added_plp network c.args.number c.push_plp.new.made.is_begun c.push_plp.new.made.group bodies pool starts plp
          (subst (λ (l : ℕ). HoldsMade network c.args.number c.push_plp.new.made
          (before ++ slot_bodies network c.args.number pool plp (slice_index starts plp) (l - slice_index starts plp)))
          c.start-in-loop-plp.ensures
          (subst (λ (l : ℕ). HoldsMade network c.args.number c.push_plp.new.made
          (before ++ slot_bodies network c.args.number pool plp l (c.start-in-loop-plp.result - l))) c.start.ensures
          (subst (λ (k : Config). HoldsMade k c.args.number c.loop-plp.made before
          → HoldsMade k c.args.number c.push_plp.new.made
          (before ++ slot_bodies k c.args.number pool plp c.start.result (c.start-in-loop-plp.result - c.start.result)))
          (i.plan ∙ c.requires.same) (c.push_plp.ensures.holds before) (i.holds bodies h))));
      alone = λ a. c.push_plp.ensures.alone (i.alone a);
      plan = c.push_plp.ensures.plan ∙ i.plan;
    }

pub returns-clause-holds : goal.returns-clause-holds
returns-clause-holds c = λ bodies h.
    let network = c.args.plan.now in
    subst (λ (k : ℕ). HoldsMade network c.args.number c.loop-plp.made
    (bodies ++ all_bodies network c.args.number c.args.slots.now.pool c.args.layout.now.starts.items k))
    (omega (arith, c.loop-plp.auto.plp-end, c.loop-plp-test.false, c.len-plp-end.ensures)
    ∙ ap (λ (k : Config). length k.plps) c.config.ensures.value)
    (c.loop-plp.invariant.holds bodies h)
