-- The numbers of records.
use Rattle.std.specs.Prelude.{ℕ, Bool, List, [], ◌∷◌, length, is_some}
use Rattle.std.specs.List.{filter}
use Rattle.frame_groups.specs.Modulated.{FrameRecord}
use Rattle.modulator.specs.StandsFor.{mute_of}
use Rattle.modulate_run.specs.declared.stop.ModulateRan.{ModulateRan}

abbrev pub is_muted : FrameRecord → Bool
is_muted x = is_some (mute_of x.content)

-- the number of the first record, 0 if there is none
abbrev pub first_number : List FrameRecord → ℕ
first_number [] = 0
first_number (x ∷ xs) = x.number

abbrev pub counted : List FrameRecord → ModulateRan
counted records = record {
  first = first_number records;
  records = length records;
  muted = length
      (filter is_muted records);
}
