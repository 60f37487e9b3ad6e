use Rattle.plp_config.proofs.TimeLemmas.{starts_before, starts_from, starts_at, over_by, not_over_by, count_reaches}
use Rattle.plp_config.proofs.TimeLemmas.{start_rises}
use Rattle.plp_config.proofs.TimeLemmas.{count_rises, none_at_zero, ends_after_start, starts_apart}
use Rattle.plp_config.proofs.laws.slot_time_law.Goals as goal

pub returns-clause-starts_before : goal.returns-clause-starts_before
returns-clause-starts_before c = starts_before

pub returns-clause-starts_from : goal.returns-clause-starts_from
returns-clause-starts_from c = starts_from

pub returns-clause-starts_at : goal.returns-clause-starts_at
returns-clause-starts_at c = starts_at

pub returns-clause-over_by : goal.returns-clause-over_by
returns-clause-over_by c = over_by

pub returns-clause-not_over_by : goal.returns-clause-not_over_by
returns-clause-not_over_by c = not_over_by

pub returns-clause-count_reaches : goal.returns-clause-count_reaches
returns-clause-count_reaches c = count_reaches

pub returns-clause-start_rises : goal.returns-clause-start_rises
returns-clause-start_rises c = start_rises

pub returns-clause-count_rises : goal.returns-clause-count_rises
returns-clause-count_rises c = count_rises

pub returns-clause-none_at_zero : goal.returns-clause-none_at_zero
returns-clause-none_at_zero c = none_at_zero

pub returns-clause-ends_after_start : goal.returns-clause-ends_after_start
returns-clause-ends_after_start c = ends_after_start

pub returns-clause-starts_apart : goal.returns-clause-starts_apart
returns-clause-starts_apart c = starts_apart
