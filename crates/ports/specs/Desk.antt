-- What a desk means, and what its calls do.
use Rattle.std.specs.Prelude.{◌≡◌, ◌≢◌, ◌⊎◌, ◌↔◌, ℕ, ◌+◌, ◌<◌, ◌==◌, Bool, false, List, [], ◌∷◌, ◌++◌, length, take}
use Rattle.std.specs.Prelude.{drop, slice_index, slice_index_or, slice_set, unwrap_or, None, Some, IsSome, IfSome}
use Rattle.std.specs.Prelude.{option_map, option_and_then}
use Rattle.std.specs.declared.option.Option.{Option}
use Rattle.std.specs.Ordering.{nat_cmp}
use Rattle.std.specs.Cmp.Lexicographic.{slice_cmp}
use Rattle.std.specs.FinMap.{FinMap, get, insert}
use Rattle.ports.specs.declared.counts.Counts.{Counts}
use Rattle.ports.specs.Counts.{FailsAtLast}

-- the bytes of each file, by its name
abbrev pub Files : Type 0
Files = FinMap (slice_cmp nat_cmp) (List ℕ)

-- the files, the name of each handle for reading in order of opening, and of each handle for writing in order of
-- creating
pub record Held : Type 0 where
  pub files : Files
  pub names : List (List ℕ)
  pub outs : List (List ℕ)

-- What a desk means: what it holds and which texts were said, one for each call, if it tells; the place of each handle
-- for reading in order of opening, and whether its last read gave no byte, which is the end; the number of handles for
-- writing; and how often its calls failed, and which first.
pub record State : Type 0 where
  pub held : Option Held
  pub said : Option (List (List ℕ))
  pub opened : List ℕ
  pub ended : List Bool
  pub created : ℕ
  pub counts : Counts

-- the bytes of a named file, none if there is none of that name
abbrev pub bytes_of : Files → List ℕ → List ℕ
bytes_of files name = unwrap_or (get files name) []

-- the bytes of a handle's file
abbrev pub content : Held → ℕ → List ℕ
content h handle = bytes_of h.files (slice_index_or h.names handle [])

-- the bytes of a named file, if there is one and the desk tells
abbrev pub file_of : State → List ℕ → Option (List ℕ)
file_of s name = option_and_then (λ h. get h.files name) s.held

-- the bytes of a handle's file from its place on, if the desk tells
abbrev pub left_of : State → ℕ → Option (List ℕ)
left_of s handle = option_map (λ h. drop (slice_index s.opened handle) (content h handle)) s.held

-- whether a handle was read to its end: then it is not read again
abbrev pub has_run_out : State → ℕ → Bool
has_run_out s handle = slice_index_or s.ended handle false

-- the name of a handle for writing
abbrev pub out_name : Held → ℕ → List ℕ
out_name h out = slice_index_or h.outs out []

-- the bytes of the file of a handle for writing, if the desk tells
abbrev pub written_of : State → ℕ → Option (List ℕ)
written_of s out = option_map (λ h. bytes_of h.files (out_name h out)) s.held

-- A handle for reading is of another file than that of a name, if the desk tells.
abbrev pub IsApart : Option Held → ℕ → List ℕ → Type 0
IsApart held handle name = IfSome held (λ h. slice_index_or h.names handle [] ≢ name)

-- No count changed.
abbrev pub SameCounts : State → State → Type 0
SameCounts old new = new.counts ≡ old.counts

-- Nothing but counts changed.
pub record Keeps (old new : State) : Type 0 where
  pub held : new.held ≡ old.held
  pub said : new.said ≡ old.said
  pub opened : new.opened ≡ old.opened
  pub ended : new.ended ≡ old.ended
  pub created : new.created ≡ old.created

-- the same files, and one more handle of this name
abbrev pub with_name : List ℕ → Held → Held
with_name name h = record h { names = h.names ++ name ∷ [] }

-- The named file is there, and one more handle stands at its start.
pub record Opens (old new : State) (name : List ℕ) (handle : ℕ) : Type 0 where
  pub number : handle ≡ length old.opened
  pub present : IfSome old.held (λ h. IsSome (get h.files name))
  pub held : new.held ≡ option_map (with_name name) old.held
  pub names : IfSome new.held (λ h. length h.names ≡ length new.opened)
  pub said : new.said ≡ old.said
  pub opened : new.opened ≡ old.opened ++ 0 ∷ []
  pub ended : new.ended ≡ old.ended ++ false ∷ []
  pub created : new.created ≡ old.created
  -- so this handle has the whole file left, and every other one what it had
  pub left : left_of new handle ≡ file_of old name
  pub fresh : has_run_out new handle ≡ false
  pub others : (other : ℕ) → other < length old.opened → left_of new other ≡ left_of old other

-- The first n bytes of the buffer are the next ones of a handle's file, and n is 0 exactly at its end: then the handle
-- has ended.
pub record Reads (old new : State) (handle n : ℕ) (buffer : List ℕ) : Type 0 where
  pub held : new.held ≡ old.held
  pub said : new.said ≡ old.said
  pub opened : new.opened ≡ slice_set old.opened handle (slice_index old.opened handle + n)
  pub ended : new.ended ≡ slice_set old.ended handle (n == 0)
  pub created : new.created ≡ old.created
  pub next : left_of old handle ≡ option_map (λ left. take n buffer ++ left) (left_of new handle)
  pub end : IfSome (left_of old handle) (λ left. (n ≡ 0) ↔ (left ≡ []))
  pub runs_out : has_run_out new handle ≡ (n == 0)
  -- so every other handle has left what it had
  pub others : (other : ℕ) → other ≢ handle → left_of new other ≡ left_of old other

-- an empty file of this name, and one more handle for writing to it
abbrev pub with_empty : List ℕ → Held → Held
with_empty name h = record h { files = insert h.files name []; outs = h.outs ++ name ∷ [] }

-- The named file is there and empty, and one more handle writes to it.
pub record Creates (old new : State) (name : List ℕ) (out : ℕ) : Type 0 where
  pub number : out ≡ old.created
  pub held : new.held ≡ option_map (with_empty name) old.held
  pub named : IfSome new.held (λ h. out_name h out ≡ name)
  pub outs : IfSome new.held (λ h. length h.outs ≡ new.created)
  pub said : new.said ≡ old.said
  pub opened : new.opened ≡ old.opened
  pub ended : new.ended ≡ old.ended
  pub created : new.created ≡ old.created + 1
  -- so a handle for reading from another file has left what it had
  pub others : (handle : ℕ) → IsApart old.held handle name → left_of new handle ≡ left_of old handle

-- The files but for that of this name are as before, and so are the names of handles.
abbrev pub SameButFor : List ℕ → Option Held → Option Held → Type 0
SameButFor name None new = new ≡ None
SameButFor name (Some h) new = (k : Held) × (new ≡ Some k) × (k.names ≡ h.names) × (k.outs ≡ h.outs)
    × ((other : List ℕ) → other ≢ name → get k.files other ≡ get h.files other)

-- The named file could not be created. Nothing is said of it.
pub record FailsToCreate (old new : State) (name : List ℕ) : Type 0 where
  pub held : SameButFor name old.held new.held
  pub said : new.said ≡ old.said
  pub opened : new.opened ≡ old.opened
  pub ended : new.ended ≡ old.ended
  pub created : new.created ≡ old.created

-- with bytes behind those of the file of a handle for writing
abbrev pub with_bytes : ℕ → List ℕ → Held → Held
with_bytes out bytes h = record h {
  files = insert h.files (out_name h out) (bytes_of h.files (out_name h out)
      ++ bytes);
}

-- The bytes were written behind those of the handle's file.
pub record Writes (old new : State) (out : ℕ) (bytes : List ℕ) : Type 0 where
  pub held : new.held ≡ option_map (with_bytes out bytes) old.held
  pub said : new.said ≡ old.said
  pub opened : new.opened ≡ old.opened
  pub ended : new.ended ≡ old.ended
  pub created : new.created ≡ old.created
  -- so the file has these bytes at its end, and a handle for reading from another file has left what it had
  pub behind : written_of new out ≡ option_map (λ written. written ++ bytes) (written_of old out)
  pub others : (handle : ℕ) → IfSome old.held (λ h. IsApart old.held handle (out_name h out)) → left_of new handle
      ≡ left_of old handle

-- The text was said, by one call.
pub record Says (old new : State) (text : List ℕ) : Type 0 where
  pub held : new.held ≡ old.held
  pub said : new.said ≡ option_map (λ said. said ++ text ∷ []) old.said
  pub opened : new.opened ≡ old.opened
  pub ended : new.ended ≡ old.ended
  pub created : new.created ≡ old.created

-- The last text was said, or nothing was if that failed.
abbrev pub SaysLast : State → State → List ℕ → Type 0
SaysLast old new text = (Says old new text × SameCounts old new) ⊎ (Keeps old new × FailsAtLast old.counts new.counts)
