use Rattle.std.proofs.Common.{None}
use Rattle.std.specs.List.{flat_map, range_with_len}
use Rattle.common_plp.specs.StandsFor.{SplitterStandsFor}
use Rattle.gateway_core.specs.Slots.{seen_of}
use Rattle.gateway_core.proofs.slots.shared_in.Given as goal

abbrev pub invariant-loop-plp : goal.invariant-loop-plp
invariant-loop-plp l =
    SplitterStandsFor l.splitter (flat_map (seen_of l.plan l.held l.turn) (range_with_len 0 l.plp)) None
