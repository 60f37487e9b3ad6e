use Rattle.std.proofs.Common.{◌∙◌, ◌≤◌, length, ap, arith}
use Rattle.std.proofs.lemmas.Bool.{cond-true}
use Rattle.plp_config.specs.Rules.{PlpCount}
use Rattle.plp_config.specs.declared.config.Config.{Config}
use Rattle.open_group.proofs.ReadLemmas.{read_len}
use Rattle.open_group.proofs.l1.HeldL1.add_first.Goals as goal

pub invariant_of-self : goal.invariant_of-self
invariant_of-self c = record {
  rows = c.tell_shape.ensures.len;
  short = λ ok.
      let size = read_len c.dyn_law.ensures.spelled c.dyn_law.ensures.len (length c.args.self.now.dynamic.plps)
      c.args.dynamic.now
      c.read_dynamic-self.new.out (c.read_dynamic-self.ensures.value ∙ cond-true _ _ _ ok) in
      let few : length c.plan.result.now.plps ≤ 255 = (c.rules_law.ensures.plan.rules PlpCount).1 in
      let same = ap (λ (c : Config). length c.plps) c.plan.ensures in
      omega (arith, size, few, same, c.requires.rows, c.hold.ensures.dynamic);
}
