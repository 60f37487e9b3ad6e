use Rattle.stream_laws.proofs.WholeLemmas.{carries_alone}
use Rattle.stream_laws.proofs.WholeLemmas.{whole_told, whole_is_all, not_whole_misses}
use Rattle.stream_laws.proofs.damage_laws.whole_law.Goals as goal

pub returns : goal.returns
returns c = record {
  told = whole_told;
  all = whole_is_all;
  misses = not_whole_misses;
  alone = carries_alone c.interleaving_law.ensures.alone;
}
