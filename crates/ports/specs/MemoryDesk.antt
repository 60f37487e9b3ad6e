-- A desk in memory: at its start, with a file set, after a call, and what its reads gave.
use Rattle.std.specs.Prelude.{◌≡◌, ℕ, ◌+◌, ◌-◌, ◌^◌, List, [], ◌∷◌, Some, IfSome, slice_index_or, option_map}
use Rattle.std.specs.Prelude.{if◌then◌else◌}
use Rattle.std.specs.declared.option.Option.{Option}
use Rattle.std.specs.Str.{bytes_eq}
use Rattle.std.specs.FinMap.{empty, insert}
use Rattle.ports.specs.declared.script.CallKind.{CallKind}
use Rattle.ports.specs.declared.script.Script.{Script}
use Rattle.ports.specs.Counts.{no_faults}
use Rattle.ports.specs.Desk.{Held, State}
use Rattle.ports.specs.Faults.{with_read_fault, with_write_fault, with_line_fault}
use Rattle.ports.specs.Script.{no_script, one_call_of, listed_at}

-- what a desk in memory means, how many bytes a read or a write moves at most, and how many calls of each kind there
-- were and which of them fail
pub record Memory : Type 0 where
  pub state : State
  pub cap : ℕ
  pub script : Script

-- a desk with no file, on which nothing was done, which moves as many bytes as there are, and of which no call is to
-- fail
abbrev pub empty_memory : Memory
empty_memory = record {
  state = record {
    held = Some (record { files = empty; names = []; outs = [] });
    said = Some [];
    opened = [];
    ended = [];
    created = 0;
    counts = no_faults;
  };
  cap = 2 ^ 64 - 1;
  script = no_script;
}

-- with these bytes as the file of that name
abbrev pub set_file : List ℕ → List ℕ → Held → Held
set_file name bytes h = record h { files = insert h.files name bytes }

abbrev pub with_file : List ℕ → List ℕ → Memory → Memory
with_file name bytes m = record m { state = record m.state { held = option_map (set_file name bytes) m.state.held } }

-- with one more call of a kind that fails
abbrev pub with_failing : CallKind → ℕ → Memory → Memory
with_failing kind nth m = record m { script = listed_at kind nth m.script }

-- after one more call of a kind, which did nothing yet
abbrev pub after_call : CallKind → Memory → Memory
after_call kind m = record m { script = one_call_of kind m.script }

-- with one more fault of a kind
abbrev pub fails_reading : Memory → Memory
fails_reading m = record m { state = with_read_fault m.state }

abbrev pub fails_writing : Memory → Memory
fails_writing m = record m { state = with_write_fault m.state }

abbrev pub fails_at_last : Memory → Memory
fails_at_last m = record m { state = with_line_fault m.state }

-- how many bytes the reads of a file gave: the places of its handles together, since each began at the start of the
-- file
abbrev pub given_by : List ℕ → List (List ℕ) → List ℕ → ℕ
given_by name (other ∷ names) (place ∷ places) = (if bytes_eq other name then place else 0) + given_by name names places
given_by name _ _ = 0

-- how many bytes the reads of a file gave over all handles, if the desk tells
abbrev pub given_of : State → List ℕ → Option ℕ
given_of s name = option_map (λ h. given_by name h.names s.opened) s.held

-- The reads of the file of a handle gave n more bytes, and those of each other file as many as before.
unfoldable pub Gives : State → State → ℕ → ℕ → Type 0
Gives old new handle n = IfSome old.held (λ h. (name : List ℕ)
    → given_of new name
    ≡ Some (given_by name h.names old.opened + (if bytes_eq (slice_index_or h.names handle []) name then n else 0)))
