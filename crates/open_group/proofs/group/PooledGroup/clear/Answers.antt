use Rattle.std.proofs.Common.{refl}
use Rattle.open_group.proofs.HoldLemmas.{no_l1, no_blocks}
use Rattle.open_group.proofs.group.PooledGroup.clear.Goals as goal

pub returns-clause-holds : goal.returns-clause-holds
returns-clause-holds c = record {
  stamps = record { first = refl; unlike = refl };
  l1 = no_l1 c.args.self.now.network c.clear.new.self c.clear.ensures.held c.clear.ensures.alike;
  blocks = no_blocks c.args.self.now.network c.clear-2.new.self _ _ _ c.clear-2.ensures.held;
  lists = λ few plp inside. (rw c.plan.ensures at c.clear-2.ensures.none) plp inside;
}
