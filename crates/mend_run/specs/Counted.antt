-- The numbers of frames that are sent.
use Rattle.std.specs.Prelude.{ℕ, ◌+◌, ◌-◌, ◌^◌, Bool, List, [], ◌∷◌, length, min}
use Rattle.std.specs.List.{filter}
use Rattle.mended_frames.specs.Mended.{Made}
use Rattle.mend_run.specs.declared.stop.MendRan.{MendRan}

-- a number as it is told: it has 64 bits, and stands still at the greatest
abbrev pub told : ℕ → ℕ
told n = min n (2 ^ 64 - 1)

abbrev pub is_woven : Made → Bool
is_woven x = x.is_woven

-- the number of the last of some frames, behind one
abbrev pub last_from : ℕ → List Made → ℕ
last_from n [] = n
last_from n (x ∷ made) = last_from x.number made

-- how many numbers there are from the first frame to the last one
abbrev pub span : List Made → ℕ
span [] = 0
span (x ∷ made) = last_from x.number made + 1 - x.number

-- how many frames were sent, how many of them were woven, how many between the first and the last were not, and so many
-- units
abbrev pub counted : List Made → ℕ → MendRan
counted made units = record {
  frames = told (length made);
  woven = told (length (filter is_woven made));
  missing = span made - length made;
  units = told units;
}
