use Rattle.std.proofs.Common.{◌≡◌, ◌+◌, ◌++◌, length, replicate, None}
use Rattle.plp_receiver.proofs.window.push_empty.Given as goal

abbrev pub invariant-loop : goal.invariant-loop
invariant-loop l = record {
  items : l.slots.items ≡ l.initial.slots.items ++ replicate l.counter None;
  capacity : l.slots.capacity ≡ l.initial.slots.capacity;
  longer : length l.slots.items ≡ length l.initial.slots.items + l.counter;
}
