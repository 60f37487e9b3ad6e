use Rattle.std.proofs.Common.{◌≡◌, ◌<◌, ◌≤◌, true, false, length, rules, arith, ◌∙◌}
use Rattle.common_plp.specs.Groups.{is_common}
use Rattle.common_plp.proofs.InputLemmas.{commons_here, commons_on, commons_all}
use Rattle.common_plp.proofs.places.commons.Goals as goal

pub returns-then-not-is_common : goal.returns-then-not-is_common
returns-then-not-is_common c =
    let own : is_common c.args.config.now c.loop-place.place ≡ false =
    (let e = c.is_common.ensures in let f = c.if-not-is_common.true in cc) in
    commons_here c.args.config.now c.loop-place.place c.loop-place.invariant own

pub loop-place-preserved : goal.loop-place-preserved
loop-place-preserved c =
    let below : c.loop-place.place < length c.args.config.now.plps = search (rules, arith) in
    let common : is_common c.args.config.now c.loop-place.place ≡ true =
    (let e = c.is_common.ensures in let f = c.if-not-is_common.false in cc) in
    commons_on c.args.config.now c.loop-place.place below c.loop-place.invariant common

pub returns : goal.returns
returns c =
    let end : length c.args.config.now.plps ≤ c.loop-place.place = search (rules, arith) in
    c.len.ensures ∙ commons_all c.args.config.now c.loop-place.place c.loop-place.invariant end
