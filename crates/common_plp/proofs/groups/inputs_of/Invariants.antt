use Rattle.std.proofs.Common.{◌≡◌, not}
use Rattle.std.specs.Prelude.{filter}
use Rattle.std.specs.List.{range_with_len}
use Rattle.common_plp.specs.Groups.{is_common}
use Rattle.common_plp.proofs.groups.inputs_of.Given as goal

abbrev pub invariant-loop-plp : goal.invariant-loop-plp
invariant-loop-plp l = l.inputs.items ≡ filter (λ place. not (is_common l.config place)) (range_with_len 0 l.plp)
