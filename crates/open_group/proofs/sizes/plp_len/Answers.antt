use Rattle.std.proofs.Common.{◌≤◌, ◌+◌, arith}
use Rattle.std.proofs.Math.Nat.{mul-le-mul}
use Rattle.plp_config.specs.Rules.{BlockLimit}
use Rattle.open_group.proofs.sizes.plp_len.Goals as goal

pub returns-clause-most : goal.returns-clause-most
returns-clause-most c =
    let limit = c.rules_law.ensures.plan.rules BlockLimit c.args.plp c.requires.plp in
    let count : c.from.result ≤ 1023 =
    omega (
      arith,
      c.requires.passes.counts c.args.plp c.requires.plp,
      limit,
      c.from.ensures,
      c.own_count.ensures.most,
    ) in
    let size : 4 + c.block_bytes.result ≤ 6734 = omega (arith, c.block_bytes.ensures.greatest) in
    mul-le-mul count size
