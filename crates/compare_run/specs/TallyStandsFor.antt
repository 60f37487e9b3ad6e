-- What a tally stands for, and what is noted of two streams.
use Rattle.std.specs.Prelude.{◌≡◌, ℕ, ◌-◌, ◌<◌, ◌≤◌, List, [], length, slice_index_or, Option, Some, None, option_map}
use Rattle.plp_config.specs.InterleavingFrames.{begin_of}
use Rattle.plp_config.specs.declared.config.Config.{Config}
use Rattle.linked_pool.specs.Pool.{State}
use Rattle.frame_groups.specs.Modulated.{Numbered}
use Rattle.frame_groups.specs.Begun.{packets_at}
use Rattle.open_group.specs.Shown.{AreBlocks}
use Rattle.feed_merge.specs.Groups.{HasRoom}
use Rattle.compare_run.specs.Comparing.{Answered, carried, first_other}
use Rattle.compare_run.specs.Runs.{runs_of, open_run, counts_of}
use Rattle.compare_run.specs.declared.answer.Other.{Other}
use Rattle.compare_run.specs.declared.answering.Carried.{Carried}
use Rattle.compare_run.specs.declared.counts.CompareRan.{CompareRan}
use Rattle.compare_run.specs.declared.tally.Tally.{Tally}

-- These frames were added, in turn.
pub record TallyStandsFor (t : Tally) (xs : List Answered) : Type 0 where
  pub run : t.run ≡ open_run (runs_of xs)
  pub counts : t.counts ≡ counts_of xs

-- its numbers
abbrev pub counts_in : Tally → CompareRan
counts_in t = t.counts

-- how many frames were added
abbrev pub frames_in : Tally → ℕ
frames_in t = t.counts.frames

-- ---- what two streams carry

-- the lists of a pool, if there is one
abbrev pub lists_in : Option State → Option (List (List (List ℕ)))
lists_in pool = option_map (λ p. p.lists) pool

-- the blocks of a PLP in them
abbrev pub blocks_in : Option (List (List (List ℕ))) → ℕ → List (List ℕ)
blocks_in None plp = []
blocks_in (Some lists) plp = slice_index_or lists plp []

-- What is shown of frame n: its blocks that have the length of their PLP; or nothing, if no packet of it came or they
-- have no room.
abbrev pub Brings : Config → List Numbered → ℕ → Option (List (List (List ℕ))) → Type 0
Brings c gs n (Some lists) = AreBlocks c (packets_at gs n) lists
Brings c gs n None = HasRoom c gs n → packets_at gs n ≡ []

-- Of the frames from one on to another no packet came.
abbrev pub NothingBetween : List Numbered → ℕ → ℕ → Type 0
NothingBetween gs from n = (m : ℕ) → from ≤ m → m < n → packets_at gs m ≡ []

-- This is the first block of a PLP that two streams do not have the same, of the interleaving frame that the last frame
-- below a number carries, if there is one, and if what they have of it has room.
abbrev pub IsOther : Config → ℕ → ℕ → List Numbered → List Numbered → Option Other → Type 0
IsOther c plp next ga gb other =
    0 < next → HasRoom c ga (begin_of c plp (next - 1)) → HasRoom c gb (begin_of c plp (next - 1))
    → other ≡ first_other (carried c ga plp (next - 1)) (carried c gb plp (next - 1))

-- what is noted of a PLP
abbrev pub other_in : Carried → ℕ → Option Other
other_in x plp = slice_index_or x.others.items plp None

-- The frames below a number were noted.
abbrev pub CarriedStandsFor : Carried → Config → ℕ → List Numbered → List Numbered → Type 0
CarriedStandsFor x c next ga gb = (plp : ℕ) → plp < length c.plps → IsOther c plp next ga gb (other_in x plp)

-- What is noted of each PLP is of frame n.
abbrev pub AreOthers : Carried → Config → ℕ → List Numbered → List Numbered → Type 0
AreOthers x c n ga gb =
    (plp : ℕ) → plp < length c.plps → other_in x plp ≡ first_other (carried c ga plp n) (carried c gb plp n)

-- how many PLPs it has
abbrev pub plps_in : Carried → ℕ
plps_in x = length x.others.items
