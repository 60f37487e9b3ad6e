-- Where the bytes of a run go.
use Rattle.std.specs.Prelude.{◌≡◌, ◌≢◌, ℕ, ◌<◌, List, [], ◌++◌, length, slice_index_or}
use Rattle.ports.specs.Desk.{State, Creates}
use Rattle.file_run.specs.Saying.{SaysBytes}
use Rattle.file_run.specs.Writing.{Appends}
use Rattle.file_run.specs.declared.output.Output.{Output}
use Rattle.file_run.specs.declared.output.Output.TheVariants as asked
use Rattle.file_run.specs.declared.output.OpenOutput.{OpenOutput}
use Rattle.file_run.specs.declared.output.OpenOutput.TheVariants.{File, Standard}

-- where the bytes go: into a file, which is created, or to standard output
pub data Sink : Type 0 where
  Into : List ℕ → Sink
  Aloud : Sink

-- where a caller lets them go
abbrev pub sink_of : Output → Sink
sink_of (asked.File name) = Into name.now
sink_of asked.Standard = Aloud

-- how many files a run creates at most
abbrev pub creates : Sink → ℕ
creates (Into out) = 1
creates Aloud = 0

-- A file is not the one that is written.
abbrev pub IsOther : Sink → List ℕ → Type 0
IsOther (Into out) name = name ≢ out
IsOther Aloud name = Unit {0}

-- No input is the file that is written.
abbrev pub AreOthers : Sink → List (List ℕ) → Type 0
AreOthers sink ins = (input : ℕ) → input < length ins → IsOther sink (slice_index_or ins input [])

-- The output was begun: the file was created, or nothing was done.
abbrev pub Begins : Sink → State → State → OpenOutput → Type 0
Begins (Into name) old new out = (handle : ℕ) × Creates old new name handle × (out ≡ File handle)
Begins Aloud old new out = (new ≡ old) × (out ≡ Standard)

-- what is begun, by how many files were created before
abbrev pub out_of : Sink → ℕ → OpenOutput
out_of (Into name) created = File created
out_of Aloud created = Standard

-- The file of this handle was created.
abbrev pub IsOpen : OpenOutput → State → Type 0
IsOpen (File handle) s = handle < s.created
IsOpen Standard s = Unit {0}

-- Bytes, or none, went out behind those before, and nothing else was done. Of counts it says nothing.
abbrev pub Puts : OpenOutput → State → State → List ℕ → Type 0
Puts (File handle) old new bytes = Appends old new handle bytes
Puts Standard old new bytes = SaysBytes old new bytes

-- Some bytes went out but for the last ones, of which there is one at least, and nothing else was done.
pub record PutsFront (out : OpenOutput) (old new : State) (bytes : List ℕ) : Type 0 where
  pub front : List ℕ
  pub more : List ℕ
  pub some : more ≢ []
  pub parts : bytes ≡ front ++ more
  pub puts : Puts out old new front
