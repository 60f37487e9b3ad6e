-- How bytes are written to a file.
use Rattle.std.specs.Prelude.{◌≡◌, ◌≢◌, ℕ, List, [], ◌++◌, IsSome, Option, None, Some, IfSome, option_map}
use Rattle.std.specs.FinMap.{get}
use Rattle.ports.specs.Desk.{State, Held, IsApart, out_name, left_of, written_of}

-- No file but that of this handle is another, and no handle.
abbrev pub OnlyOut : ℕ → Option Held → Option Held → Type 0
OnlyOut out None new = new ≡ None
OnlyOut out (Some h) new = (k : Held) × (new ≡ Some k) × (k.names ≡ h.names) × (k.outs ≡ h.outs)
    × ((other : List ℕ) → other ≢ out_name h out → get k.files other ≡ get h.files other)

-- Bytes, or none, were written behind those of a file, and nothing else was done. Of counts it says nothing.
pub record Appends (old new : State) (out : ℕ) (bytes : List ℕ) : Type 0 where
  pub held : OnlyOut out old.held new.held
  pub said : new.said ≡ old.said
  pub opened : new.opened ≡ old.opened
  pub ended : new.ended ≡ old.ended
  pub created : new.created ≡ old.created
  pub behind : written_of new out ≡ option_map (λ written. written ++ bytes) (written_of old out)
  -- and a file that was there is there
  pub there : IfSome old.held (λ h. IsSome (get h.files (out_name h out)))
      → IfSome new.held (λ h. IsSome (get h.files (out_name h out)))
  -- so a handle for reading from another file has left what it had
  pub others : (handle : ℕ) → IfSome old.held (λ h. IsApart old.held handle (out_name h out)) → left_of new handle
      ≡ left_of old handle

-- Some bytes were written but for the last ones, of which there is one at least, and nothing else was done.
pub record AppendsFront (old new : State) (out : ℕ) (bytes : List ℕ) : Type 0 where
  pub front : List ℕ
  pub more : List ℕ
  pub some : more ≢ []
  pub parts : bytes ≡ front ++ more
  pub appends : Appends old new out front
