use Rattle.std.proofs.Common.{◌≡◌, ℕ, ◌+◌, length, vec_len, min, ap, ap₂, ◌∙◌, rules, arith}
use Rattle.std.specs.List.{copy_within}
use Rattle.mode_adapt.proofs.WaitingLemmas.{taken_out, dropped}
use Rattle.mode_adapt.proofs.front.drop_front.Goals as goal

pub returns-clause-items : goal.returns-clause-items
returns-clause-items g c =
    let old = c.args.items.now.items in
    let some : ℕ = c.min-count.result in
    let whole : vec_len c.args.items.now ≡ length old = search rules in
    let few : some ≡ min c.args.count (length old) = c.min-count.ensures ∙ ap (min c.args.count) (c.len.ensures
    ∙ whole) in
    let from : some ≡ 0 + some = omega arith in
    taken_out old c.copy_within.new.self.items c.truncate.new.self.items c.len-2.result 0 some
    (c.len-2.ensures ∙ whole) (omega (arith, few))
    (c.copy_within.ensures.items ∙ ap₂ (λ (i j : ℕ). copy_within old i j 0) from whole) c.truncate.ensures.items
    ∙ dropped old c.args.count some few
