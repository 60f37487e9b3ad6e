-- Frames that carry whole interleaving frames.
use Rattle.std.proofs.Common.{ℕ, ◌+◌, map, length, ap, ◌∙◌, arith}
use Rattle.terms.proofs.RangeLemmas.{map_same, flat_same, sums_same}
use Rattle.mode_adapt.specs.Blocks.{plp_blocks, own_blocks, told_count}
use Rattle.mode_adapt.specs.Laws.{AloneBlocks}
use Rattle.scheduler.specs.Shape.{shape_of}
use Rattle.record_laws.specs.Frames.{sent_block}
use Rattle.record_laws.specs.Laws.{OrdinalCounts, AloneLaw}

pub alone_law : OrdinalCounts → AloneBlocks → AloneLaw
alone_law counts law c inputs n alone = record {
  count = λ plp inside. (law c inputs n plp (alone plp inside)).1;
  shape = ap (shape_of c)
      (map_same (told_count c inputs n) (λ plp. length (plp_blocks c inputs n plp)) 0 (length c.plps)
      (λ plp low high. (law c inputs n plp (alone plp (omega (arith, high)))).1));
  blocks = flat_same (λ plp. map (sent_block c plp) (own_blocks c inputs n plp))
      (λ plp. map (sent_block c plp) (plp_blocks c inputs n plp)) 0 (length c.plps)
      (λ plp low high. ap (map (sent_block c plp)) (law c inputs n plp (alone plp (omega (arith, high)))).0);
  ordinal = λ plp block inside. counts c inputs n plp block inside
      ∙ ap (λ (s : ℕ). s + block)
      (sums_same (told_count c inputs n) (λ before. length (plp_blocks c inputs n before)) 0 plp
      (λ before low high. (law c inputs n before (alone before (omega (arith, high, inside)))).1));
}
