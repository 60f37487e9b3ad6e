-- What a modulator tells of its next record, and what a front of a file has of its records.
use Rattle.std.proofs.Common.{◌≡◌, ℕ, ◌+◌, Bool, true, false, List, [], ◌∷◌, ◌++◌, length, Option, Some, None, sym}
use Rattle.std.proofs.Common.{subst, refl, ap, ◌∙◌, arith, append-nil}
use Rattle.std.specs.Prelude.{IfSome, IfNone}
use Rattle.plp_config.specs.declared.config.Config.{Config}
use Rattle.frame_groups.specs.Laws.{AreFrom}
use Rattle.terms.specs.Lists.{IsPrefix}
use Rattle.frame_groups.specs.Modulated.{FrameRecord}
use Rattle.frame_groups.specs.declared.waiting.Waiting.{Waiting}
use Rattle.modulator.specs.Laws.{DueFront}
use Rattle.modulator.specs.StandsFor.{ModulatorStandsFor, WaitsAs, config_of, is_finished, is_waiting, next_of}
use Rattle.modulator.specs.StandsFor.{records_due, bytes_due, records_of}
use Rattle.modulator.specs.declared.modulator.Modulator.{Modulator}

-- This waits, or nothing.
abbrev pub TellsNext : Modulator → Option Waiting → Type 0
TellsNext m o =
    IfSome o (λ w. (is_waiting m ≡ true) × (w.frame ≡ next_of m) × ((bytes taken : List ℕ)
    → ModulatorStandsFor m bytes taken
    → WaitsAs (config_of m) (is_finished m) bytes taken w))
    × IfNone o
    ((is_waiting m ≡ false) × ((bytes taken : List ℕ) → ModulatorStandsFor m bytes taken
    → bytes_due (config_of m) (is_finished m) bytes ≡ taken))

abbrev pub NextIs : Config → Bool → List ℕ → List ℕ → Option Waiting → Type 0
NextIs c e bytes taken None = bytes_due c e bytes ≡ taken
NextIs c e bytes taken (Some w) = WaitsAs c e bytes taken w

pub next_told : (m : Modulator) (o : Option Waiting) (bytes taken : List ℕ) → TellsNext m o
    → ModulatorStandsFor m bytes taken
    → NextIs (config_of m) (is_finished m) bytes taken o
next_told m None bytes taken t s = t.1.1 bytes taken s
next_told m (Some w) bytes taken t s = t.0.2 bytes taken s

-- What was taken is a front of the file, and all of it if it ended; so what is due by it is a front of the records.
pub front_due : DueFront → (c : Config) (ended : Bool) (file bytes more : List ℕ) → file ≡ bytes ++ more
    → (ended ≡ true → more ≡ [])
    → IsPrefix (records_due c ended bytes) (records_of c file)
front_due law c false file bytes more is end = subst (λ (l : List ℕ). IsPrefix (records_due c false bytes)
    (records_of c l))
    (sym is) (law c true bytes more)
front_due law c true file bytes more is end =
    ([], ap (records_of c) (is ∙ ap (λ (l : List ℕ). bytes ++ l) (end refl) ∙ append-nil bytes) ∙ sym (append-nil _))

-- the number of a record is by its place
pub number_at : (m : ℕ) (given : List FrameRecord) (y : FrameRecord) (later : List FrameRecord)
    → AreFrom m (given ++ y ∷ later) → y.number ≡ m + length given
number_at m [] y later are = let n = are.0 in omega (arith, n)
number_at m (x ∷ given) y later are = let n = number_at (m + 1) given y later are.1 in omega (arith, n)
