use Rattle.std.proofs.Common.{◌≡◌, length}
use Rattle.file_run.proofs.one_run.open_readers.Given as goal

abbrev pub invariant-loop : goal.invariant-loop
invariant-loop l = length l.readers.items ≡ l.counter
