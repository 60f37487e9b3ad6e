use Rattle.std.specs.Bool.{beq}
use Rattle.std.specs.Cmp.{booleans_Decides}
use Rattle.std.specs.Cmp.Lexicographic.{pointwise, pointwise_decides}
use Rattle.std.proofs.lemmas.Bool.Decides.{same_from_decides}
use Rattle.frame_weave.proofs.weaver.is_same.Goals as goal

pub returns : goal.returns
returns c =
    same_from_decides c.same_bits.result (pointwise beq c.args.a.now c.args.b.now) c.same_bits.ensures
    (pointwise_decides booleans_Decides c.args.a.now c.args.b.now)
