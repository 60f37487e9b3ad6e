use Rattle.std.proofs.Common.{◌≡◌, ◌/◌, sym, ap, ◌∙◌}
use Rattle.std.specs.Int.{IsGcd}
use Rattle.plp_config.specs.SlotTime.{num, den}
use Rattle.plp_config.specs.declared.config.Config.{Config}
use Rattle.plp_config.proofs.plan.Plan.slot_length.Goals as goal

pub returns : goal.returns
returns c =
    let plan = c.args.self.now in
    let same = c.self.view_is in
    let n : c.num-num.result ≡ num plan = c.num-num.ensures.value ∙ ap num same in
    let d : c.den-den.result ≡ den plan c.args.plp = c.den-den.ensures.value
    ∙ ap (λ (x : Config). den x c.args.plp) same in
    let divisor : IsGcd c.num-num.result c.den-den.result c.gcd-divisor.result = c.gcd-divisor.ensures.divisor in (
      c.gcd-divisor.result,
      rw (sym n, sym d) divisor,
      ap (λ x. x / c.gcd-divisor.result) n,
      ap
          (λ x. x / c.gcd-divisor.result) d,
    )
