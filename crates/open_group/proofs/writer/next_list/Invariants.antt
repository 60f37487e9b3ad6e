use Rattle.std.proofs.Common.{◌≡◌, drop}
use Rattle.plp_config.specs.declared.config.Config.{Config}
use Rattle.open_group.specs.RecordBytes.{lists_bytes}
use Rattle.open_group.proofs.writer.next_list.Given as goal

abbrev pub invariant-loop-plp : goal.invariant-loop-plp
invariant-loop-plp l = (c : Config) → lists_bytes c l.first (drop l.first l.pool.lists)
    ≡ lists_bytes c l.plp (drop l.plp l.pool.lists)
