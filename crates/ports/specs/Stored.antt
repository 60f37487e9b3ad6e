-- How a `MemoryDesk` holds its files. No public clause cites this module.
use Rattle.std.specs.Prelude.{ℕ, List, map, string_bytes}
use Rattle.std.specs.declared.alloc.Global.{Global}
use Rattle.std.specs.declared.string.String.{String}
use Rattle.std.specs.declared.vec.Vec.{Vec}
use Rattle.std.specs.BTreeMap.{BTreeMap}
use Rattle.std.specs.FinMap.{from_entries}
use Rattle.ports.specs.Desk.{Files}

-- a file's name and its bytes
abbrev pub entry_of : String Global × Vec ℕ Global → List ℕ × List ℕ
entry_of entry = (string_bytes entry.0, entry.1.items)

-- the files that a map holds
abbrev pub files_of : BTreeMap (String Global) (Vec ℕ Global) → Files
files_of files = from_entries (map entry_of files.entries)
