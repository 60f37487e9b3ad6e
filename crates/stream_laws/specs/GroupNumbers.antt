-- The numbers that groups get by their keys alone, once one of them is the join.
use Rattle.std.specs.Prelude.{◌≡◌, ◌≢◌, ℕ, ◌<◌, nat_le, nat_lt, List, [], ◌∷◌, map, length, Option, Some, None}
use Rattle.std.specs.Prelude.{if◌then◌else◌, Bool}
use Rattle.std.specs.List.{filter, items_where_true, range_with_len}
use Rattle.frame_groups.specs.Groups.{Group, groups}
use Rattle.frame_groups.specs.Modulated.{Numbered, Rules, join_number, number_behind, past_behind}
use Rattle.stream_laws.specs.SentPackets.{Sent, packets_of, frame_packets, frame_group}
use Rattle.stream_laws.specs.DamageLaws.{Survive}

-- the number of each group behind groups with numbers, or behind none; up to the join there is none
abbrev pub numbers_behind : Rules → List Numbered → List Group → List (Option ℕ)
numbers_behind r past [] = []
numbers_behind r past (g ∷ gs) = number_behind r past g ∷ numbers_behind r (past_behind r past g) gs

-- the frames of which a packet survives, of so many
abbrev pub is_met : List Sent → ℕ → Bool
is_met survivors n = nat_lt 0 (length (frame_packets n survivors))

abbrev pub frames_left : ℕ → List Sent → List ℕ
frames_left count survivors = filter (is_met survivors) (range_with_len 0 count)

-- the number of a frame from one on, and none before it
abbrev pub number_from : ℕ → ℕ → Option ℕ
number_from first n = if nat_le first n then Some n else None

-- The join is what survives of a frame: it gets the number of this frame, and no earlier frame's survivors are a join.
pub record JoinsAt (r : Rules) (survivors : List Sent) (first : ℕ) : Type 0 where
  pub some : frame_packets first survivors ≢ []
  pub number : join_number r (frame_group r.frames survivors first) ≡ Some first
  pub before : (n : ℕ) → n < first → frame_packets n survivors ≢ []
      → join_number r (frame_group r.frames survivors n) ≡ None

-- Then the groups from there on have, in order, the numbers of the frames of which a packet survives, whatever the
-- tests say of them.
abbrev pub GroupsNumbered : Type 0
GroupsNumbered = (r : Rules) (count : ℕ) (sent : List Sent) (survival : List Bool) (first : ℕ)
    → Survive r.frames count sent survival → JoinsAt r (items_where_true survival sent) first
    → numbers_behind r [] (groups r.frames (packets_of (items_where_true survival sent)))
    ≡ map (number_from first) (frames_left count (items_where_true survival sent))
