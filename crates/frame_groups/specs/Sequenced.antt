-- How far the records of groups have come, as `Sequence` and the crates above it say it.
use Rattle.std.specs.Prelude.{◌≡◌, ℕ, ◌+◌, ◌-◌, ◌<◌, ◌≤◌, nat_lt, Bool, true, false, List, [], ◌∷◌, ◌++◌, map, Option}
use Rattle.std.specs.Prelude.{Some, None, if◌then◌else◌}
use Rattle.std.specs.List.{filter, range_with_len}
use Rattle.frame_groups.specs.declared.cause.MuteCause.{MuteCause}
use Rattle.frame_groups.specs.declared.key.Key.{Key}
use Rattle.t2mi_packet.specs.declared.packet.Packet.{Packet}
use Rattle.frame_groups.specs.Groups.{Group, is_counted, is_same, key_behind}
use Rattle.frame_groups.specs.Grouping.{Grouped, grouped, no_groups}
use Rattle.frame_groups.specs.declared.waiting.Progress.{Progress}
use Rattle.frame_groups.specs.Numbers.{IsKey}
use Rattle.frame_groups.specs.Modulated.{Numbered, Rules, FrameRecord, gap_record, group_record, number_behind}
use Rattle.frame_groups.specs.Modulated.{past_with, gaps_behind, records_with, records_from, past_after}

-- the number of a group: under way it is known behind the join alone
abbrev pub known_number : Rules → List Numbered → Group → Option ℕ
known_number r [] h = None
known_number r (b ∷ past) h = number_behind r (b ∷ past) h

abbrev pub number_now : Rules → Bool → List Numbered → Group → Option ℕ
number_now r true past h = number_behind r past h
number_now r false past h = known_number r past h

-- A number is above those of other groups: above that of the last one.
abbrev pub IsAbove : List Numbered → ℕ → Type 0
IsAbove [] n = Unit {0}
IsAbove (b ∷ past) n = b.number < n

-- the groups behind which the next one comes: with the last one, if it has a number
abbrev pub past_of : List Numbered → Option Group → Option ℕ → List Numbered
past_of past None number = past
past_of past (Some h) number = past_with past h number

-- the records from one number up to another
abbrev pub gaps_from : ℕ → ℕ → List FrameRecord
gaps_from next n = map gap_record (range_with_len next (n - next))

-- Behind others, the records of a group with a number were given, up to the next.
pub record Given (r : Rules) (others : List FrameRecord) (past : List Numbered) (h : Group) (n next : ℕ)
    (given : List FrameRecord) : Type 0 where
  pub above : IsAbove past next
  pub most : next ≤ n + 1
  pub front : next ≤ n → given ++ gaps_from next n ≡ others ++ gaps_behind past (Some n)
  pub all : next ≡ n + 1 → given ≡ others ++ records_with r past h

abbrev pub HasGiven : Rules → List FrameRecord → List Numbered → Group → Option ℕ → ℕ → List FrameRecord → Type 0
HasGiven r others past h None next given = (past ≡ []) × (given ≡ [])
HasGiven r others past h (Some n) next given = Given r others past h n next given

-- Behind closed groups, of which some have numbers, a group follows, which may be closed too.
pub record Follows (r : Rules) (closed : List Group) (past : List Numbered) (h : Group) (number : Option ℕ) (next : ℕ)
    (closing : Bool) (fault : Option MuteCause) (given : List FrameRecord) : Type 0 where
  pub key : IsKey r.frames h.key
  pub past_is : past ≡ past_after r [] closed
  pub number_is : number ≡ number_now r closing past h
  pub under_way : closing ≡ false → (n : ℕ) → number ≡ Some n → next ≤ n
  pub fault_is : closing ≡ true → (n : ℕ) → number ≡ Some n → fault ≡ r.fault past h n
  pub records : HasGiven r (records_from r [] closed) past h number next given

-- the packets that belong to frames, in groups
abbrev pub kept_groups : Rules → List Packet → Grouped
kept_groups r ps = grouped (filter (is_counted r.frames) ps)

-- Packets came, and records were given. The group under way comes behind groups that have numbers.
abbrev pub Sequenced : Rules → List Numbered → Option Group → Option ℕ → ℕ → Bool → Option MuteCause → List Packet
    → List FrameRecord → Type 0
Sequenced r past None number next closing fault ps given = (kept_groups r ps ≡ no_groups) × (past ≡ [])
    × (number ≡ None)
    × (closing ≡ false) × (given ≡ [])
Sequenced r past (Some h) number next closing fault ps given = (closed : List Group)
    × (kept_groups r ps ≡ record { closed = closed; under_way = Some h })
    × Follows r closed past h number next closing fault given

-- the record that waits
abbrev pub record_now : Rules → List Numbered → Option Group → Option ℕ → ℕ → Option FrameRecord
record_now r past None number next = None
record_now r past (Some h) None next = None
record_now r past (Some h) (Some n) next = if nat_lt next n then Some (gap_record next) else Some
    (group_record r past h n)

-- A packet ends a group: it belongs to a frame, and has another key.
abbrev pub Ends : Rules → Option Key → Packet → Type 0
Ends r None p = ⊥
Ends r (Some k) p = (is_counted r.frames p ≡ true) × (is_same k (key_behind (Some k) p) ≡ false)

-- Some group is held behind others, and packets came and records were given.
pub record Keeps (Holds : List Numbered → Option Group → Type 0) (r : Rules) (p : Progress) (ps : List Packet)
    (given : List FrameRecord) : Type 0 where
  pub past : List Numbered
  pub group : Option Group
  pub holds : Holds past group
  pub sequenced : Sequenced r past group p.number p.next p.closing p.fault ps given
