-- Laws of the records that are due.
use Rattle.std.specs.Prelude.{◌≡◌, ℕ, ◌<◌, ◌^◌, Bool, false, List, [], ◌∷◌, ◌++◌, None}
use Rattle.std.specs.List.{AllByRecursion}
use Rattle.plp_config.specs.Capacity.{IsPlan}
use Rattle.plp_config.specs.declared.config.Config.{Config}
use Rattle.frame_groups.specs.Laws.{AreFrom}
use Rattle.terms.specs.Lists.{IsPrefix}
use Rattle.frame_groups.specs.Modulated.{FrameRecord, past_after}
use Rattle.record_laws.specs.Frames.{HasByteIds}
use Rattle.site_frame.specs.Whole.{Spells}
use Rattle.open_group.specs.Written.{content_view, spelled}
use Rattle.modulator.specs.StandsFor.{records_due}
use Rattle.frame_groups.specs.Groups.{Group, groups}
use Rattle.frame_groups.specs.Modulated.Content.{Whole}
use Rattle.frame_groups.specs.Tests.{group_fault, rules}
use Rattle.t2mi_stream.specs.Units.{accepted_of}
use Rattle.modulator.specs.Modulating.{packets_of}

-- What is fed later changes no record that is due; the bytes fed first need not be whole units.
abbrev pub DueFront : Type 0
DueFront = (c : Config) (finished : Bool) (bytes more : List ℕ)
    → IsPrefix (records_due c false bytes) (records_due c finished (bytes ++ more))

-- Records have one number after another.
abbrev pub DueFollow : Type 0
DueFollow = (c : Config) (finished : Bool) (bytes : List ℕ) → (n : ℕ) × AreFrom n (records_due c finished bytes)

-- A group is one of some groups, and passes the tests as frame n, behind those before it that have numbers.
pub record PassesAmong (c : Config) (gs : List Group) (g : Group) (n : ℕ) : Type 0 where
  pub before : List Group
  pub after : List Group
  pub parts : gs ≡ before ++ g ∷ after
  pub none : group_fault c (past_after (rules c) [] before) g n ≡ None

-- A record that is not muted has such a group, and its number.
abbrev pub IsRight : Config → List Group → FrameRecord → Type 0
IsRight c gs x = (g : Group) → x.content ≡ Whole g → PassesAmong c gs g x.number

-- So has each that is due, of the groups that came.
abbrev pub DuePass : Type 0
DuePass = (c : Config) (finished : Bool) (bytes : List ℕ)
    → AllByRecursion (IsRight c (groups c.frames (packets_of (accepted_of c.pid bytes)))) (records_due c finished bytes)

-- The bytes of each record below frame 2^32 spell it.
abbrev pub AreSpelled : Config → List FrameRecord → Type 0
AreSpelled c xs = AllByRecursion (λ x. x.number < 2 ^ 32 → Spells (content_view c x.number x.content) (spelled c x)) xs

-- Of a plan, each record that is due is one, as its bytes are: so it is read back.
abbrev pub DueSpelled : Type 0
DueSpelled = (c : Config) (finished : Bool) (bytes : List ℕ) → IsPlan c → HasByteIds c
    → AreSpelled c (records_due c finished bytes)
