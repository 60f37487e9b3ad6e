use Rattle.plp_config.proofs.RuleLemmas.{TellsRules-from}
use Rattle.plp_config.proofs.network_rules.network_tests.Goals as goal

pub returns-clause-tells : goal.returns-clause-tells
returns-clause-tells c =
    TellsRules-from c.args.config.now _ _ _ _ _ _ _ _ _
    c.has_frame_duration.ensures c.has_superframe_length.ensures c.has_least_cells.ensures
    c.has_start_time.ensures c.has_utc_offset.ensures c.has_pid.ensures
    c.has_l1_fields.ensures c.has_sub_slices.ensures c.has_plp_count.ensures
