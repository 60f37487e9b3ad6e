use Rattle.std.proofs.Common.{arith, ap, length, ◌≤◌, ◌*◌}
use Rattle.std.proofs.lemmas.Nat.{mul-le}
use Rattle.plp_config.specs.Rules.{PlpCount}
use Rattle.plp_config.proofs.capacity.block_room.Goals as goal

pub overflow_add-room : goal.overflow_add-room
overflow_add-room c =
    let one : c.from.result * c.from-in-loop-plp.result ≤ 65535 * 6734 =
    mul-le c.from.result c.from-in-loop-plp.result 65535 6734 (omega arith) (omega arith) in
    omega (arith, c.requires PlpCount, ap length c.loop-plp.invariant.items)

pub returns-clause-small : goal.returns-clause-small
returns-clause-small c = omega (arith, c.requires PlpCount, ap length c.loop-plp.invariant.items)
