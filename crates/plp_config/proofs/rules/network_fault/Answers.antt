use Rattle.plp_config.proofs.RuleLemmas.{RulesBelow-from_tests, refused_by_test}
use Rattle.plp_config.proofs.rules.network_fault.Goals as goal

pub returns-in_err-place : goal.returns-in_err-place
returns-in_err-place c =
    rw c.from_residual.ensures
    (RulesBelow-from_tests c.args.config.now c.network_tests.result c.network_tests.ensures.count
    c.network_tests.ensures.tells
    c.in_err-place.ensures)

pub returns : goal.returns
returns c = refused_by_test c.args.config.now c.network_tests.result c.in_ok-place.place c.network_tests.ensures.count
    c.network_tests.ensures.tells c.in_ok-place.ensures
