use Rattle.std.proofs.Common.{◌<◌, length, rules, arith, sym, ◌∙◌}
use Rattle.common_plp.specs.Groups.{is_common_in}
use Rattle.common_plp.proofs.PlaceLemmas.{found_none, found_first}
use Rattle.common_plp.proofs.groups.common_in.Goals as goal

pub returns-then-is_common_in : goal.returns-then-is_common_in
returns-then-is_common_in c =
    let below : c.loop-place.place < length c.args.config.now.plps = search (rules, arith) in
    sym (found_first (is_common_in c.args.config.now c.args.group) (length c.args.config.now.plps) c.loop-place.place
    below
    c.loop-place.invariant (sym c.is_common_in.ensures ∙ c.if-is_common_in.true))

pub loop-place-preserved : goal.loop-place-preserved
loop-place-preserved c =
    found_none (is_common_in c.args.config.now c.args.group) c.loop-place.place c.loop-place.invariant
    (sym c.is_common_in.ensures ∙ c.if-is_common_in.false)
