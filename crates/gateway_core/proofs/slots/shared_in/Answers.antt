use Rattle.std.proofs.Common.{◌∙◌, ap, subst, sym, List, ℕ, None, length, rules, arith, ◌≡◌}
use Rattle.std.specs.declared.option.Option.{Option}
use Rattle.std.specs.List.{flat_map, range_with_len}
use Rattle.common_plp.specs.StandsFor.{SplitterStandsFor}
use Rattle.common_plp.specs.Shared.{shared_packet}
use Rattle.gateway_core.specs.Slots.{seen_of}
use Rattle.gateway_core.proofs.RangeLemmas.{flat_more, seen_slot}
use Rattle.gateway_core.proofs.slots.shared_in.Goals as goal

pub loop-plp-preserved : goal.loop-plp-preserved
loop-plp-preserved c =
    subst (λ (slot : List (Option (List ℕ))). SplitterStandsFor c.see_in.new.splitter slot None)
    (sym (flat_more (seen_of c.args.plan.now c.args.held.now c.args.turn) c.loop-plp.plp))
    (c.see_in.ensures _ None c.loop-plp.invariant)

pub returns : goal.returns
returns c =
    let whole : c.loop-plp.plp ≡ length c.args.plan.now.plps = search (rules, arith) in
    c.verdict.ensures _ None c.loop-plp.invariant
    ∙ ap (λ (n : ℕ). shared_packet (flat_map (seen_of c.args.plan.now c.args.held.now c.args.turn)
    (range_with_len 0 n))) whole
    ∙ ap shared_packet (seen_slot c.args.plan.now c.args.held.now c.args.turn c.requires.common)
