-- What two streams make of each frame, number by number: its L1 and all blocks that it carries (EN 302 755, clauses 5
-- to 8).
use Rattle.std.specs.Prelude.{ℕ, ◌+◌, ◌==◌, not, max, Bool, true, false, List, [], ◌∷◌, map, find, bytes_eq, option_map}
use Rattle.std.specs.Prelude.{option_to_list, Option, Some, None, if◌then◌else◌}
use Rattle.std.specs.Cmp.Lexicographic.{pointwise}
use Rattle.std.specs.List.{flat_map, range_with_len}
use Rattle.std.specs.Option.{option_or}
use Rattle.plp_config.specs.InterleavingFrames.{begin_of}
use Rattle.plp_config.specs.Places.{places}
use Rattle.plp_config.specs.Plps.{plp_at}
use Rattle.plp_config.specs.declared.config.Config.{Config}
use Rattle.frame_groups.specs.Modulated.{Content, FrameRecord, Numbered}
use Rattle.frame_groups.specs.Modulated.Content.{Whole, Muted}
use Rattle.frame_groups.specs.Begun.{packets_at}
use Rattle.frame_groups.specs.Carried.{right_blocks}
use Rattle.open_group.specs.Sent.{held_bytes}
use Rattle.open_group.specs.Written.{dynamic_in}
use Rattle.modulator.specs.StandsFor.{records_of}
use Rattle.feed_merge.specs.Groups.{groups_of}
use Rattle.feed_merge.specs.Picks.{above_all}
use Rattle.compare_run.specs.declared.answer.Answer.{Answer}
use Rattle.compare_run.specs.declared.answer.Answer.TheVariants.{Same, MutedA, MutedB, MutedBoth, OnlyA, OnlyB, Differs}
use Rattle.compare_run.specs.declared.answer.Other.{Other}
use Rattle.compare_run.specs.declared.answer.Place.{Place}
use Rattle.compare_run.specs.declared.answer.Place.TheVariants.{L1}
use Rattle.compare_run.specs.declared.answer.Place.TheVariants as place
use Rattle.compare_run.specs.declared.answer.Side.{Side}
use Rattle.compare_run.specs.declared.answer.Side.TheVariants as side

-- what a stream makes: the records of its frames, and the groups that have numbers, the last one in front
pub record Frames : Type 0 where
  pub records : List FrameRecord
  pub groups : List Numbered

-- those of a whole stream
abbrev pub frames_of : Config → List ℕ → Frames
frames_of c bytes = record { records = records_of c bytes; groups = groups_of c bytes }

-- ---- what a frame carries

-- the baseband frames of a PLP that frame n carries: those of the group in which its interleaving frame begins, whether
-- that frame is muted or not (EN 302 755, clause 6.5)
abbrev pub carried : Config → List Numbered → ℕ → ℕ → List (List ℕ)
carried c gs plp n = map held_bytes (right_blocks c plp (packets_at gs (begin_of c plp n)))

-- the dynamic part of L1 of frame n
abbrev pub dynamic_at : List Numbered → ℕ → List Bool
dynamic_at gs n = dynamic_in (packets_at gs n)

-- ---- where two frames differ

abbrev pub same_bit : Bool → Bool → Bool
same_bit true b = b
same_bit false b = not b

abbrev pub same_bits : List Bool → List Bool → Bool
same_bits a b = pointwise same_bit a b

-- a place in a list, and whether the list ends there; the same with one element more in front
abbrev pub other_by : ℕ → Bool → Other
other_by number is_end = record { number = number; is_end = is_end }

abbrev pub one_later : Other → Other
one_later o = other_by (o.number + 1) o.is_end

-- the first place, from 0, at which two lists do not have the same, and whether one of them ends there: they have
-- different numbers of blocks then, and all that both have are the same
abbrev pub first_other : List (List ℕ) → List (List ℕ) → Option Other
first_other [] [] = None
first_other [] (y ∷ ys) = Some (other_by 0 true)
first_other (x ∷ xs) [] = Some (other_by 0 true)
first_other (x ∷ xs) (y ∷ ys) =
    if bytes_eq x y then option_map one_later (first_other xs ys) else Some (other_by 0 false)

-- the first answer in a list
abbrev pub first_some : {X Y : Type 0} → (X → Option Y) → List X → Option Y
first_some answer [] = None
first_some answer (x ∷ xs) = option_or (answer x) (first_some answer xs)

-- the block that is told of a PLP
abbrev pub place_in : Config → ℕ → Other → Place
place_in c plp o = place.Block (plp_at c.plps plp).id o.number

-- the first block that differs, PLP by PLP in the order of the configuration, by the first one of each PLP
abbrev pub block_place : Config → (ℕ → Option Other) → Option Place
block_place c other = first_some (λ plp. option_map (place_in c plp) (other plp)) (places c)

-- the first part in which two frames of a number differ: L1, or else a block that they carry. L1-pre and the
-- configurable part are the configuration's in both, if both are whole
unfoldable pub place_of : Config → ℕ → List Numbered → List Numbered → Option Place
place_of c n ga gb =
    if same_bits (dynamic_at ga n) (dynamic_at gb n)
    then block_place c (λ plp. first_other (carried c ga plp n) (carried c gb plp n)) else Some L1

-- a PLP in which two frames differ, and the first block of it that they do not have the same
pub record PlpDifference : Type 0 where
  pub plp_id : ℕ
  pub other : Other

abbrev pub difference : ℕ → Other → PlpDifference
difference id o = record { plp_id = id; other = o }

abbrev pub difference_in : Config → ℕ → Other → PlpDifference
difference_in c plp o = difference (plp_at c.plps plp).id o

-- those of some PLPs that differ, by where each does
abbrev pub differing : Config → (ℕ → Option Other) → List ℕ → List PlpDifference
differing c other plps = flat_map (λ plp. option_to_list (option_map (difference_in c plp) (other plp))) plps

-- the PLPs of which two frames of a number do not carry the same, in the order of the configuration
unfoldable pub plp_differences : Config → List Numbered → List Numbered → ℕ → List PlpDifference
plp_differences c ga gb n = differing c (λ plp. first_other (carried c ga plp n) (carried c gb plp n)) (places c)

-- what two whole frames are to each other, by where they differ first
abbrev pub place_answer : Option Place → Answer
place_answer None = Same
place_answer (Some at) = Differs at

abbrev pub whole_answer : Config → ℕ → List Numbered → List Numbered → Answer
whole_answer c n ga gb = place_answer (place_of c n ga gb)

-- ---- what either stream has of a frame

abbrev pub content_side : Content → Side
content_side (Whole g) = side.Whole
content_side (Muted cause) = side.Muted

abbrev pub side_of : Option FrameRecord → Side
side_of None = side.Absent
side_of (Some x) = content_side x.content

-- what both sides are to each other, if this is what two whole frames are
abbrev pub sides_answer : Side → Side → Answer → Option Answer
sides_answer side.Absent side.Absent whole = None
sides_answer side.Absent side.Muted whole = Some OnlyB
sides_answer side.Absent side.Whole whole = Some OnlyB
sides_answer side.Muted side.Absent whole = Some OnlyA
sides_answer side.Muted side.Muted whole = Some MutedBoth
sides_answer side.Muted side.Whole whole = Some MutedA
sides_answer side.Whole side.Absent whole = Some OnlyA
sides_answer side.Whole side.Muted whole = Some MutedB
sides_answer side.Whole side.Whole whole = Some whole

-- the record of a number, of which a list has one at most
abbrev pub record_at : ℕ → List FrameRecord → Option FrameRecord
record_at n records = find (λ x. x.number == n) records

-- ---- number by number

-- a frame, and what both streams have of it
pub record Answered : Type 0 where
  pub frame : ℕ
  pub answer : Answer

abbrev pub answered : ℕ → Answer → Answered
answered n a = record { frame = n; answer = a }

-- frame n, by the groups of both streams and by its records, if one of them has it
abbrev pub answered_by : Config → ℕ → List Numbered → List Numbered → Option FrameRecord → Option FrameRecord
    → Option Answered
answered_by c n ga gb a b = option_map (answered n) (sides_answer (side_of a) (side_of b) (whole_answer c n ga gb))

abbrev pub answered_at : Config → Frames → Frames → ℕ → Option Answered
answered_at c a b n = answered_by c n a.groups b.groups (record_at n a.records) (record_at n b.records)

-- the frames below a number, in order
abbrev pub answers_below : Config → Frames → Frames → ℕ → List Answered
answers_below c a b end = flat_map (λ n. option_to_list (answered_at c a b n)) (range_with_len 0 end)

-- all of them
unfoldable pub answers : Config → Frames → Frames → List Answered
answers c a b = answers_below c a b (max (above_all a.records) (above_all b.records))
