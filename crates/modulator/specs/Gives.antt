-- Which bytes of the records were taken.
use Rattle.std.specs.Prelude.{◌≡◌, ℕ, false, List, [], ◌++◌, Option, Some, flat_map}
use Rattle.frame_groups.specs.Groups.{Group}
use Rattle.frame_groups.specs.Modulated.{FrameRecord}
use Rattle.frame_groups.specs.Records.{record_of}
use Rattle.frame_groups.specs.Waits.{waiting_of}
use Rattle.frame_groups.specs.declared.waiting.Waiting.{Waiting}
use Rattle.open_group.specs.FrameBytes.{bytes_left}
use Rattle.open_group.specs.Written.{spelled}
use Rattle.modulator.specs.Modulating.{StandsAt, has_record}
use Rattle.modulator.specs.declared.modulating.Modulating.{Modulating}

-- The records given were taken, and a part of the one that waits, of this group; the rest of it is left.
pub record Took (m : Modulating) (g : Option Group) (given : List FrameRecord) (taken : List ℕ) : Type 0 where
  pub part : List ℕ
  pub taken_is : taken ≡ flat_map (spelled m.sequence.group.network) given ++ part
  pub rest : (w : Waiting) → waiting_of m.sequence.progress ≡ Some w → (h : Group) → g ≡ Some h
      → spelled m.sequence.group.network (record_of h w) ≡ part ++ bytes_left m.sequence.group
  pub idle : has_record m ≡ false → part ≡ []

-- Bytes were fed, and bytes of records were taken.
pub record Gives (m : Modulating) (bytes taken : List ℕ) : Type 0 where
  pub given : List FrameRecord
  pub stands : StandsAt m bytes given
  pub took : Took m stands.keeps.group given taken
