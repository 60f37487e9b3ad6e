use Rattle.std.proofs.Common.{arith}
use Rattle.config_text.proofs.NumberLemmas.{same_number}
use Rattle.config_text.proofs.decimal.number_within.Goals as goal

pub returns-then-number-least-clause-none : goal.returns-then-number-least-clause-none
returns-then-number-least-clause-none c = λ n h.
    omega (
      arith,
      h,
      same_number c.args.word.now c.in_ok-number.number n c.in_ok-number.ensures.some h.0 (omega arith)
          (omega (arith, h)),
    )

pub returns-then-greatest-number-clause-none : goal.returns-then-greatest-number-clause-none
returns-then-greatest-number-clause-none c = λ n h.
    omega (
      arith,
      h,
      same_number c.args.word.now c.in_ok-number.number n c.in_ok-number.ensures.some h.0 (omega arith)
          (omega (arith, h)),
    )
