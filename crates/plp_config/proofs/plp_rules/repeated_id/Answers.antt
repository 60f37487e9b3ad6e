use Rattle.std.proofs.Common.{◌≡◌, ◌∙◌, true, ◌<◌, false, arith, get_or, length}
use Rattle.std.proofs.lemmas.List.{length-replicate, length-set}
use Rattle.plp_config.specs.Plps.{plp_at}
use Rattle.plp_config.proofs.PlpRuleLemmas.{DistinctIds-more, seen-more, only-more, none_seen}
use Rattle.plp_config.proofs.plp_rules.repeated_id.Goals as goal

pub loop-place-init : goal.loop-place-init
loop-place-init c = record {
  items = c.as_slice-plp-items.ensures;
  size = length-replicate 256 false;
  holds = λ place lt. absurd (omega arith);
  seen = λ place lt. absurd (omega arith);
  only = λ id on. absurd (none_seen 256 id on);
}

pub loop-place-preserved : goal.loop-place-preserved
loop-place-preserved c =
    let kept = c.loop-place.invariant in
    let place = c.loop-place.place in
    let is : c.from-id.result ≡ (plp_at c.args.config.now.plps place).id = rw (← kept.items) c.from-id.ensures in
    let new : get_or c.loop-place.seen (plp_at c.args.config.now.plps place).id false ≡ false = rw is
    at c.if-seen-id.false in
    let inside : (plp_at c.args.config.now.plps place).id < length c.loop-place.seen = omega (arith, is) in
    record {
      items = kept.items;
      size = length-set c.loop-place.seen c.from-id.result true ∙ kept.size;
      holds = DistinctIds-more c.args.config.now c.loop-place.seen place kept.holds kept.seen new;
      seen = rw is (seen-more c.args.config.now c.loop-place.seen place kept.seen inside);
      only = λ id. rw is (only-more c.args.config.now c.loop-place.seen place id (kept.only id));
    }
