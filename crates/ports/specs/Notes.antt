-- What a run counts besides, for people.
use Rattle.std.specs.Prelude.{ℕ, ◌+◌, ◌-◌, ◌^◌, ◌==◌, min, if◌then◌else◌}
use Rattle.ports.specs.declared.note.Note.{Note}

-- A note after those of two numbers and all between were met. It counts up to 2^64 - 1.
abbrev pub with_run : Note → ℕ → ℕ → Note
with_run note first last = record note {
  count = min (note.count + (last - first + 1)) (2 ^ 64 - 1);
  first = if note.count == 0 then first else note.first;
  last = last;
}
