use Rattle.std.proofs.Common.{ap, sym, subst, length, arith, ◌∙◌}
use Rattle.std.proofs.lemmas.Grind.{merely}
use Rattle.plp_config.specs.declared.config.Config.{Config}
use Rattle.linked_pool.specs.Pool.{State, list_at}
use Rattle.gateway_core.specs.Lists.{AllShort}
use Rattle.std.proofs.lemmas.List.{length-replicate}
use Rattle.region_swap.specs.StandsFor.{none_told}
use Rattle.region_swap.proofs.RegionLemmas.{supplies_open, empty_list, empty_short}
use Rattle.region_swap.proofs.region.Region.open.Goals as goal

pub returns-clause-stands : goal.returns-clause-stands
returns-clause-stands c =
    supplies_open c.in_ok-input.input c.in_ok-blocks.blocks c.args.plan.now c.args.plp c.frame_chunks.result
    c.len-plps.result c.in_ok-blocks.ensures.opened
    c.in_ok-input.ensures.fed

pub returns-clause-of : goal.returns-clause-of
returns-clause-of c =
    let e = c.in_ok-blocks.ensures.opened in
    record {
      place = c.requires;
      lists = ap (λ (p : State). length p.lists) e ∙ length-replicate _ _
          ∙ omega (arith, c.len-plps.ensures, ap (λ (k : Config). length k.plps) c.config.ensures.value);
      chunks = ap (λ (p : State). p.opened) e ∙ c.frame_chunks.ensures;
      alone = λ other differ. ap (λ (p : State). list_at p other) e ∙ empty_list c.frame_chunks.result
          c.len-plps.result other;
      short = subst AllShort (sym e) (empty_short c.frame_chunks.result c.len-plps.result);
      most_is = c.in_ok-input.ensures.most;
      few = omega arith;
      told = merely (record { told = none_told; stands = returns-clause-stands c });
    }
