use Rattle.std.proofs.Common.{ℕ, [], ◌∷◌, ◌++◌, ◌-◌, subst, ◌∙◌, arith}
use Rattle.std.specs.Prelude.{slice_index_or}
use Rattle.linked_pool.specs.Pool.{list_at}
use Rattle.plp_config.specs.declared.config.Config.{Config}
use Rattle.frame_weave.proofs.MadeLemmas.{added_slot, same_end}
use Rattle.frame_weave.specs.Made.{HoldsMade, slot_bodies}
use Rattle.frame_weave.specs.Woven.{block_body}
use Rattle.frame_weave.proofs.blocks.push_plp.Goals as goal

pub loop-place-preserved : goal.loop-place-preserved
loop-place-preserved c =
    let i = c.loop-place.invariant in
    let network = c.args.made.now.plan.now in
    let pool = c.args.slots.now.pool in
    let place = c.loop-place.place in
    record {
      holds = λ bodies h.
          let before = bodies ++ slot_bodies network c.args.number pool c.args.plp c.args.start
          (place - c.args.start) in
          added_slot network c.args.number c.push_place.new.made.is_begun c.push_place.new.made.group
          bodies pool c.args.plp
          c.args.start place (omega (arith, c.loop-place.auto.place))
          (subst (λ (k : Config). HoldsMade k c.args.number c.loop-place.made before
          → HoldsMade k c.args.number c.push_place.new.made
          (before ++ block_body k c.args.number c.args.plp (slice_index_or (list_at pool place) 0 []) ∷ [])) i.plan
          (c.push_place.ensures.holds before) (i.holds bodies h));
      none = λ l. absurd (omega (arith, l, i.none l, c.loop-place-test.true));
      alone = λ a. c.push_place.ensures.alone (i.alone a);
      plan = c.push_place.ensures.plan ∙ i.plan;
    }

pub returns-clause-holds : goal.returns-clause-holds
returns-clause-holds c = λ bodies h.
    let network = c.args.made.now.plan.now in
    subst (λ (k : ℕ). HoldsMade network c.args.number c.loop-place.made
    (bodies ++ slot_bodies network c.args.number c.args.slots.now.pool c.args.plp c.args.start k))
    (same_end c.args.start c.args.end c.loop-place.place c.loop-place.auto.place c.loop-place.auto.place-end
    c.loop-place.invariant.none (omega (arith, c.loop-place-test.false)))
    (c.loop-place.invariant.holds bodies h)
