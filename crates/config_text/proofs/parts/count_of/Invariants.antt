use Rattle.std.proofs.Common.{◌≡◌, ◌+◌, ◌≤◌, ◌==◌, drop}
use Rattle.std.specs.List.{count_by}
use Rattle.config_text.proofs.parts.count_of.Given as goal

abbrev pub invariant-loop-b : goal.invariant-loop-b
invariant-loop-b l = record {
  all : count_by (λ b. b == l.separator) l.bytes ≡ l.count + count_by (λ b. b == l.separator) (drop l.b-index l.bytes);
  small : l.count ≤ l.b-index;
}
