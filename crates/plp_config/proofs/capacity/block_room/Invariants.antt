use Rattle.std.proofs.Common.{◌≡◌, ◌*◌, ◌≤◌, take, sum_by}
use Rattle.plp_config.specs.Capacity.{block_room}
use Rattle.plp_config.proofs.capacity.block_room.Given as goal

abbrev pub invariant-loop-plp : goal.invariant-loop-plp
invariant-loop-plp l = record {
  items : l.plp-items ≡ l.config.plps;
  sum : l.room ≡ sum_by block_room (take l.plp-index l.config.plps);
  bound : l.room ≤ l.plp-index * 441312690;
}
