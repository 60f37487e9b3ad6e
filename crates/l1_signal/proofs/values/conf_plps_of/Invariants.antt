use Rattle.std.proofs.Common.{◌≡◌, map, take}
use Rattle.std.specs.List.{All}
use Rattle.l1_signal.specs.Fields.{RowsFit}
use Rattle.l1_signal.specs.L1Of.{conf_plp_of}
use Rattle.l1_signal.specs.L1Configurable.{conf_plp_rows}
use Rattle.l1_signal.proofs.values.conf_plps_of.Given as goal

abbrev pub invariant-loop-place : goal.invariant-loop-place
invariant-loop-place l = record {
  value : l.plps ≡ map conf_plp_of (take l.place l.plan.plps);
  fits : All (RowsFit conf_plp_rows) l.plps;
}
