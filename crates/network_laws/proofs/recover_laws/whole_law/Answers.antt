use Rattle.network_laws.proofs.GivenLemmas.{whole_comes_back, run_comes_back}
use Rattle.network_laws.proofs.recover_laws.whole_law.Goals as goal

pub returns-clause-whole : goal.returns-clause-whole
returns-clause-whole c = whole_comes_back c.none_law.ensures c.epochs_law.ensures.lost c.recover_law.ensures

pub returns-clause-run : goal.returns-clause-run
returns-clause-run c =
    run_comes_back c.length_law.ensures.slot c.spread_law.ensures.frames c.slot_time_law.ensures.none_at_zero
    c.release_law.ensures.first c.run_length_law.ensures
    (whole_comes_back c.none_law.ensures c.epochs_law.ensures.lost c.recover_law.ensures)
