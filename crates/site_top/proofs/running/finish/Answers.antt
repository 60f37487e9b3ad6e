use Rattle.std.proofs.Common.{rules, ◌∙◌}
use Rattle.site_top.proofs.RunLemmas.{ends_other, ends_done}
use Rattle.site_top.proofs.running.finish.Goals as goal

pub returns-then-ne : goal.returns-then-ne
returns-then-ne g c =
    ends_other _ _ c.args.outcome _ (search rules) (c.as_bytes.ensures ∙ c.last_line.ensures) c.say_last.ensures.said
    c.say_last.ensures.counts

pub returns-else-ne : goal.returns-else-ne
returns-else-ne g c = ends_done _ c.args.outcome (search rules)
