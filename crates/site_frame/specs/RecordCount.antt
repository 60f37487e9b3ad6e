-- Records that are counted by their heads.
use Rattle.std.specs.Prelude.{◌≡◌, ◌⊎◌, ℕ, zero, suc, ◌+◌, ◌-◌, ◌^◌, ◌<◌, ◌≤◌, min, List, [], ◌++◌, length, take, drop}
use Rattle.site_frame.specs.Record.{head_len}
use Rattle.site_frame.specs.Whole.{Follow, RefusesHead}
use Rattle.site_frame.specs.declared.fault.RecordWhy.{RecordWhy}
use Rattle.site_frame.specs.declared.count.RecordCount.{RecordCount}

-- A head tells how many bytes follow it: none if no record begins with it.
abbrev pub Tells : List ℕ → ℕ → Type 0
Tells head len = Follow head len ⊎ ((len ≡ 0) × ((why : RecordWhy) × RefusesHead head why))

-- Of the bytes that the head at the front tells so many are lacking, and nothing came of a next head.
abbrev pub EndsWithin : List ℕ → ℕ → List ℕ → ℕ → Type 0
EndsWithin bytes len part left = (part ≡ []) × (0 < left) × (length bytes + left ≡ head_len + len)

-- Bytes have so many heads: one at the front, and the others behind the bytes that it tells. Then these bytes came of
-- the next one, or so many are lacking of those that the last one tells.
abbrev pub HasHeads : ℕ → List ℕ → List ℕ → ℕ → Type 0
HasHeads zero bytes part left = (bytes ≡ part) × (length part < head_len) × (left ≡ 0)
HasHeads (suc n) bytes part left = (len : ℕ) × (head_len ≤ length bytes) × Tells (take head_len bytes) len
    × (((n ≡ 0) × EndsWithin bytes len part left)
    ⊎ ((head_len + len ≤ length bytes) × HasHeads n (drop (head_len + len) bytes) part left))

-- no count is greater
abbrev pub greatest_count : ℕ
greatest_count = 2 ^ 64 - 1

-- how many heads were counted
abbrev pub heads_of : RecordCount → ℕ
heads_of c = c.count

-- These bytes came of a file: their heads are counted.
pub record RecordCountStandsFor (c : RecordCount) (came : List ℕ) : Type 0 where
  pub heads : ℕ
  pub has : HasHeads heads came c.head c.left
  pub count : heads_of c ≡ min heads greatest_count

-- Bytes more came.
abbrev pub CountsOn : RecordCount → RecordCount → List ℕ → Type 0
CountsOn old new piece = (came : List ℕ) → RecordCountStandsFor old came → RecordCountStandsFor new (came ++ piece)
