use Rattle.std.proofs.Common.{◌≡◌, inr, sym, arith}
use Rattle.plp_config.specs.Plps.{plp_at, type_number}
use Rattle.plp_config.proofs.PlpRuleLemmas.{TypeOrder-more, greatest-more}
use Rattle.plp_config.proofs.plp_rules.falling_type.Goals as goal

pub loop-place-preserved : goal.loop-place-preserved
loop-place-preserved c =
    let kept = c.loop-place.invariant in
    let place = c.loop-place.place in
    let is : c.number-plp_type.result ≡ type_number (plp_at c.args.config.now.plps place).plp_type =
    rw (← kept.items) c.number-plp_type.ensures.value in
    record {
      items = kept.items;
      holds = TypeOrder-more c.args.config.now _ _ place kept.holds kept.greatest is (omega arith);
      greatest = greatest-more c.args.config.now _ _ place kept.greatest is (omega arith);
      reached = inr (place, omega arith, sym is);
    }
