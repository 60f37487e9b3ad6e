-- Runs over one input.
use Rattle.std.proofs.Common.{◌≡◌, ℕ, Bool, true, List, length, arith, append-nil}
use Rattle.file_run.specs.FileRun.{IsFed}

-- the file was fed whole
pub whole_file : (file : List ℕ) (place : ℕ) (bytes : List ℕ) (ended : Bool) → IsFed file place bytes ended
    → ended ≡ true
    → (bytes ≡ file) × (place ≡ length file)
whole_file file place bytes ended f e = grind (arith, append-nil)
