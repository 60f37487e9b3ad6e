use Rattle.std.specs.Bool.{beq}
use Rattle.std.specs.Cmp.{booleans_Decides}
use Rattle.std.specs.Cmp.Lexicographic.{pointwise, pointwise_decides}
use Rattle.std.proofs.lemmas.Bool.Decides.{same_from_decides}
use Rattle.open_group.proofs.parts.is_same.Goals as goal

pub returns : goal.returns
returns c =
    same_from_decides c.same_bits.result (pointwise beq c.args.one.now c.args.other.now) c.same_bits.ensures
    (pointwise_decides booleans_Decides c.args.one.now c.args.other.now)
