use Rattle.site_top.specs.Commands.{command_of}
use Rattle.site_top.proofs.RunLemmas.{run_does, run_complete, run_refuses, run_usage}
use Rattle.site_top.proofs.TouchLemmas.{run_touches}
use Rattle.site_top.proofs.running.run.Goals as goal

pub returns-clause-does : goal.returns-clause-does
returns-clause-does g c = run_does (command_of c.args.words.now) _ _ _ _ c.command-outcome.ensures.does c.finish.ensures

pub returns-clause-complete : goal.returns-clause-complete
returns-clause-complete g c =
    run_complete c.completeness_law.ensures (command_of c.args.words.now) _ _ _ _ c.command-outcome.ensures.does
    c.finish.ensures

pub returns-clause-usage : goal.returns-clause-usage
returns-clause-usage g c = run_usage (command_of c.args.words.now) _ _ _ c.command-outcome.ensures.refuses

pub returns-clause-refuses : goal.returns-clause-refuses
returns-clause-refuses g c = run_refuses (command_of c.args.words.now) _ _ _ _ c.command-outcome.ensures.refuses
    c.finish.ensures

pub returns-clause-touches : goal.returns-clause-touches
returns-clause-touches g c =
    run_touches c.only_out_changes_law.ensures (command_of c.args.words.now) _ _ _ _ c.command-outcome.ensures.does
    c.finish.ensures
