use Rattle.std.proofs.Common.{◌≡◌, map}
use Rattle.std.specs.List.{range_with_len}
use Rattle.common_plp.specs.Groups.{common_of}
use Rattle.common_plp.proofs.groups.commons_of.Given as goal

abbrev pub invariant-loop-plp : goal.invariant-loop-plp
invariant-loop-plp l = l.commons.items ≡ map (common_of l.config) (range_with_len 0 l.plp)
