use Rattle.frame_groups.proofs.PartsLemmas.{same_pre, conf_is_told, parts_told}
use Rattle.frame_groups.proofs.test_laws.parts_law.Goals as goal

pub returns : goal.returns
returns c = record {
  pre = same_pre;
  conf = conf_is_told c.pre_law.ensures.back c.pre_law.ensures.spelled c.conf_law.ensures.back
      c.conf_law.ensures.spelled
      c.dyn_law.ensures.back c.dyn_law.ensures.spelled;
  whole = parts_told c.pre_law.ensures.back c.pre_law.ensures.spelled c.conf_law.ensures.back c.conf_law.ensures.spelled
      c.dyn_law.ensures.back c.dyn_law.ensures.spelled;
}
