use Rattle.std.proofs.Common.{◌≡◌, ◌*◌, ◌/◌, ◌^◌, ◌≤◌, ℕ, ap, arith}
use Rattle.std.proofs.Math.Nat.{div-mul-le_self}
use Rattle.std.proofs.lemmas.Nat.{mul-le}
use Rattle.plp_config.proofs.IscrLemmas.{over_far}
use Rattle.plp_config.proofs.slot_times.SlotTimes.over_by.Goals as goal

pub returns-clause-far : goal.returns-clause-far
returns-clause-far c =
    let num : ℕ = c.args.self.now.num in
    let den : ℕ = c.args.self.now.den in
    let tick : ℕ = c.args.epochs * c.args.self.now.epoch in
    let most = c.requires.are.most in
    let small : tick ≤ 2 ^ 53 = omega (
      arith,
      mul-le c.args.epochs c.args.self.now.epoch (2 ^ 31) (2 ^ 22)
          c.requires.few (omega (arith, most)),
    ) in
    let value : c.slots_by.result * num ≡ tick * den / num * num = ap (λ (n : ℕ). n * num) c.slots_by.ensures.value in
    over_far tick den (c.slots_by.result * num) small (omega (arith, value, div-mul-le_self (tick * den) num))
