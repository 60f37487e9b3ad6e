-- Sources of bits: what a take does to the bits that are left.
use Rattle.std.specs.Prelude.{◌≡◌, ◌≤◌, ℕ, Bool, List, length, drop}

-- So many bits were taken from the front of those left.
pub record Takes (old new : List Bool) (count : ℕ) : Type 0 where
  pub inside : count ≤ length old
  pub left : new ≡ drop count old
