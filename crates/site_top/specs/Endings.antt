-- How a run ends, behind all that it does.
use Rattle.std.specs.Prelude.{◌≡◌, List, ℕ}
use Rattle.ports.specs.Counts.{MayFailAtLast}
use Rattle.ports.specs.Desk.{State, SaysLast}
use Rattle.site_top.specs.declared.outcome.Outcome.{Outcome}
use Rattle.site_top.specs.declared.outcome.Outcome.TheVariants.{Done}
use Rattle.site_top.specs.Outcomes.{last_line}

-- The last line was said, once, unless its own count rose, and no other count changed.
pub record EndsBy (before after : State) (line : List ℕ) : Type 0 where
  pub said : SaysLast before after line
  pub counts : MayFailAtLast before.counts after.counts

-- A run that is done says nothing more, and any other says its last line.
abbrev pub Ends : State → State → Outcome → Type 0
Ends before after Done = after ≡ before
Ends before after outcome = EndsBy before after (last_line outcome)
