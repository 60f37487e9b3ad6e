-- The records of the frames whose packets came: each frame, or why it is muted.
use Rattle.std.specs.Prelude.{ℕ, ◌+◌, ◌-◌, ◌==◌, List, [], ◌∷◌, ◌++◌, map, Option, Some, None, if◌then◌else◌}
use Rattle.std.specs.List.{range_with_len}
use Rattle.plp_config.specs.declared.config.Config.{Config}
use Rattle.t2mi_packet.specs.declared.packet.Packet.{Packet}
use Rattle.frame_groups.specs.Groups.{Group, groups}
use Rattle.frame_groups.specs.Numbers.{next_number}
use Rattle.frame_groups.specs.declared.cause.MuteCause.{MuteCause}
use Rattle.frame_groups.specs.declared.cause.MuteCause.TheVariants.{Gap}

-- what is sent in a frame: that of the group's packets, or nothing
pub data Content : Type 0 where
  Whole : Group → Content
  Muted : MuteCause → Content

pub record FrameRecord : Type 0 where
  pub number : ℕ
  pub content : Content

-- a group, and the number of its frame
pub record Numbered : Type 0 where
  pub number : ℕ
  pub group : Group

-- what decides of a group: the network, how many frames a superframe has, the frame that a group's timestamp names, and
-- why it is not the frame of a number, behind groups that have numbers, the last one in front
pub record Rules : Type 0 where
  pub network : Config
  pub frames : ℕ
  pub named : Group → Option ℕ
  pub fault : List Numbered → Group → ℕ → Option MuteCause

abbrev pub content_of : Group → Option MuteCause → Content
content_of g None = Whole g
content_of g (Some cause) = Muted cause

-- the record of a group as a frame, behind others
abbrev pub group_record : Rules → List Numbered → Group → ℕ → FrameRecord
group_record r past g n = record { number = n; content = content_of g (r.fault past g n) }

abbrev pub gap_record : ℕ → FrameRecord
gap_record n = record { number = n; content = Muted Gap }

-- a number, unless something is at fault
abbrev pub unless_fault : ℕ → Option MuteCause → Option ℕ
unless_fault n None = Some n
unless_fault n (Some cause) = None

abbrev pub passing : Rules → Group → Option ℕ → Option ℕ
passing r g None = None
passing r g (Some n) = unless_fault n (r.fault [] g n)

-- the number of a group as the join: it has frame_idx 0, and passes as the frame that its timestamp names
abbrev pub join_number : Rules → Group → Option ℕ
join_number r g = if g.key.frame == 0 then passing r g (r.named g) else None

-- the number of a group behind others; before the join there are none
abbrev pub number_behind : Rules → List Numbered → Group → Option ℕ
number_behind r [] g = join_number r g
number_behind r (b ∷ past) g = Some (next_number r.frames b.number g.key)

-- and the groups with it, if it has a number
abbrev pub past_with : List Numbered → Group → Option ℕ → List Numbered
past_with past g None = past
past_with past g (Some n) = record { number = n; group = g } ∷ past

abbrev pub past_behind : Rules → List Numbered → Group → List Numbered
past_behind r past g = past_with past g (number_behind r past g)

-- the records between two numbers
abbrev pub gaps_between : ℕ → ℕ → List FrameRecord
gaps_between m n = map gap_record (range_with_len (m + 1) (n - (m + 1)))

abbrev pub gaps_behind : List Numbered → Option ℕ → List FrameRecord
gaps_behind [] number = []
gaps_behind (b ∷ past) None = []
gaps_behind (b ∷ past) (Some n) = gaps_between b.number n

abbrev pub own_record : Rules → List Numbered → Group → Option ℕ → List FrameRecord
own_record r past g None = []
own_record r past g (Some n) = group_record r past g n ∷ []

-- the records that a group adds: those of the numbers that no group has, and its own
abbrev pub records_with : Rules → List Numbered → Group → List FrameRecord
records_with r past g = gaps_behind past (number_behind r past g) ++ own_record r past g (number_behind r past g)

abbrev pub records_from : Rules → List Numbered → List Group → List FrameRecord
records_from r past [] = []
records_from r past (g ∷ gs) = records_with r past g ++ records_from r (past_behind r past g) gs

-- the groups that have numbers
abbrev pub past_after : Rules → List Numbered → List Group → List Numbered
past_after r past [] = past
past_after r past (g ∷ gs) = past_after r (past_behind r past g) gs

-- one record for each number from the join to the last group
unfoldable pub modulated : Rules → List Packet → List FrameRecord
modulated r ps = records_from r [] (groups r.frames ps)
