use Rattle.std.proofs.Common.{arith}
use Rattle.frame_groups.specs.Waits.{most_number}
use Rattle.frame_groups.proofs.WantLemmas.{wants_open}
use Rattle.frame_groups.proofs.sequence.Sequence.close.Goals as goal

pub invariant_of-self : goal.invariant_of-self
invariant_of-self g c = record {
  near = c.close_group-self.ensures.near most_number (omega arith) c.args.self.now.near;
  intact = λ _. c.args.self.now.intact (wants_open c.args.self.now.progress c.requires.open);
  frame = λ _. c.close_group-self.ensures.frame;
}
