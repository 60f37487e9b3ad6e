-- What a command leaves alone, however it ends.
use Rattle.std.specs.Prelude.{◌≡◌, ◌≢◌, ℕ, ◌+◌, ◌≤◌, List, [], ◌∷◌, ◌++◌, length, Option, None, Some, option_map}
use Rattle.std.specs.FinMap.{get}
use Rattle.ports.specs.Desk.{State, Held}
use Rattle.site_top.specs.Commands.{Command, ShowPackets, ShowT2mi, ShowFrames, ShowConfig, Plan, Gateway, Modulate}
use Rattle.site_top.specs.Commands.{Receive, Merge, Mend, Swap, Trial, Compare}

-- the file that a command writes, if it writes one
abbrev pub out_of : Command → Option (List ℕ)
out_of (ShowPackets file) = None
out_of (ShowT2mi file) = None
out_of (ShowFrames file) = None
out_of (ShowConfig file) = None
out_of (Plan config) = None
out_of (Gateway sharing config out ins) = Some out
out_of (Modulate config file out) = Some out
out_of (Receive sharing config id file out) = Some out
out_of (Merge config a b out) = Some out
out_of (Mend config out ins) = Some out
out_of (Swap config id t2mi file out) = Some out
out_of (Compare config a b) = None
out_of (Trial seed frames) = None

-- the files that it reads
abbrev pub ins_of : Command → List (List ℕ)
ins_of (ShowPackets file) = file ∷ []
ins_of (ShowT2mi file) = file ∷ []
ins_of (ShowFrames file) = file ∷ []
ins_of (ShowConfig file) = file ∷ []
ins_of (Plan config) = config ∷ []
ins_of (Gateway sharing config out ins) = config ∷ ins
ins_of (Modulate config file out) = config ∷ file ∷ []
ins_of (Receive sharing config id file out) = config ∷ file ∷ []
ins_of (Merge config a b out) = config ∷ a ∷ b ∷ []
ins_of (Mend config out ins) = config ∷ ins
ins_of (Swap config id t2mi file out) = config ∷ t2mi ∷ file ∷ []
ins_of (Compare config a b) = config ∷ a ∷ b ∷ []
ins_of (Trial seed frames) = []

-- how many files it writes
abbrev pub outs : Option (List ℕ) → ℕ
outs None = 0
outs (Some out) = 1

-- No file has changed but that one.
abbrev pub OthersStay : Option (List ℕ) → Option Held → Option Held → Type 0
OthersStay out None new = new ≡ None
OthersStay out (Some h) new = (k : Held) × (new ≡ Some k)
    × ((name : List ℕ) → out ≢ Some name → get k.files name ≡ get h.files name)

-- No file has changed but the one that is written, which is created once at most; no more files were opened than are
-- read; and what was said before stands.
pub record Touches (out : Option (List ℕ)) (reads : ℕ) (old new : State) : Type 0 where
  pub files : OthersStay out old.held new.held
  pub created : new.created ≤ old.created + outs out
  pub places : List ℕ
  pub opened : new.opened ≡ old.opened ++ places
  pub few : length places ≤ reads
  pub texts : List (List ℕ)
  pub said : new.said ≡ option_map (λ said. said ++ texts) old.said
