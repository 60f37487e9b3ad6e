use Rattle.std.proofs.Common.{◌≡◌, None}
use Rattle.std.specs.List.{find, range_with_len}
use Rattle.common_plp.specs.Groups.{is_common_in}
use Rattle.common_plp.proofs.groups.common_in.Given as goal

abbrev pub invariant-loop-place : goal.invariant-loop-place
invariant-loop-place l = find (is_common_in l.config l.group) (range_with_len 0 l.place) ≡ None
