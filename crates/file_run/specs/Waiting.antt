-- How an `InBuffer` holds the bytes that wait. No public clause cites this module.
use Rattle.std.specs.Prelude.{◌≡◌, ℕ, ◌+◌, ◌-◌, ◌≤◌, List, length, take, drop}
use Rattle.file_run.specs.declared.input.Span.{Span}
use Rattle.file_run.specs.declared.input.TheConstants.{BUFFER, MOST_WANTED}

-- the part that a span names
abbrev pub part_in : Span → List ℕ → List ℕ
part_in s bytes = take (s.end - s.start) (drop s.start bytes)

-- The part stands elsewhere, with room behind it for as many bytes as may be wanted at once.
pub record IsSettled (old : List ℕ) (was : Span) (new : List ℕ) (now : Span) : Type 0 where
  pub same : part_in now new ≡ part_in was old
  pub order : now.start ≤ now.end
  pub count : now.end - now.start ≡ was.end - was.start
  pub room : now.end + MOST_WANTED ≤ BUFFER
  pub within : now.end ≤ length new
  pub len : length new ≡ length old
