use Rattle.std.proofs.Common.{◌≡◌, ◌*◌, ◌≤◌, ◌^◌, take, sum_by}
use Rattle.plp_config.specs.Capacity.{superframe_room}
use Rattle.plp_config.proofs.capacity.superframe_need.Given as goal

abbrev pub invariant-loop-plp : goal.invariant-loop-plp
invariant-loop-plp l = record {
  sum : l.need ≡ sum_by (superframe_room l.config.frames) (take l.plp l.config.plps);
  bound : l.need ≤ l.plp * 2 ^ 34;
}
