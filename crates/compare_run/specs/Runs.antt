-- Runs of frames with one answer.
use Rattle.std.specs.Prelude.{ℕ, ◌+◌, ◌==◌, ◌&&◌, nat_lt, Bool, List, [], ◌∷◌, length, find, filter}
use Rattle.std.specs.Prelude.{option_map, Option, Some, None, if◌then◌else◌}
use Rattle.std.specs.Option.{option_or}
use Rattle.compare_run.specs.Comparing.{Answered}
use Rattle.compare_run.specs.declared.answer.Answer.{Answer}
use Rattle.compare_run.specs.declared.answer.Answer.TheVariants.{Same, MutedA, MutedB, MutedBoth, OnlyA, OnlyB, Differs}
use Rattle.compare_run.specs.declared.counts.CompareRan.{CompareRan}
use Rattle.compare_run.specs.declared.answer_run.Run.{Run}

-- the answers by number; the last ones have a run for each frame
abbrev pub kind : Answer → ℕ
kind Same = 0
kind MutedA = 1
kind MutedB = 2
kind MutedBoth = 3
kind OnlyA = 4
kind OnlyB = 5
kind (Differs at) = 6

abbrev pub is_differing : Answer → Bool
is_differing a = kind a == 6

abbrev pub is_same : Answer → Bool
is_same a = kind a == 0

-- Two answers are one, and frames with it are told together.
abbrev pub is_one : Answer → Answer → Bool
is_one a b = (kind a == kind b) && nat_lt (kind a) 6

-- the run of one frame
abbrev pub single : Answered → Run
single x = record { first = x.frame; last = x.frame; answer = x.answer }

-- a frame in front of runs: it belongs to the first one if that begins with the next frame, and has its answer
abbrev pub in_front : Answered → List Run → List Run
in_front x [] = single x ∷ []
in_front x (r ∷ runs) =
    if (x.frame + 1 == r.first) && is_one x.answer r.answer
    then record { first = x.frame; last = r.last; answer = x.answer } ∷ runs
    else single x ∷ r ∷ runs

-- the greatest runs of frames that follow each other with one answer; a frame that differs has a run of its own
abbrev pub runs_of : List Answered → List Run
runs_of [] = []
runs_of (x ∷ xs) = in_front x (runs_of xs)

-- those that are known to be whole, whatever frames follow: all but the last one, which may go on if it does not differ
abbrev pub known : List Run → List Run
known [] = []
known (r ∷ []) = if is_differing r.answer then r ∷ [] else []
known (r ∷ s ∷ runs) = r ∷ known (s ∷ runs)

-- the one that may go on
abbrev pub open_run : List Run → Option Run
open_run [] = None
open_run (r ∷ []) = if is_differing r.answer then None else Some r
open_run (r ∷ s ∷ runs) = open_run (s ∷ runs)

-- ---- one frame more

-- A run goes on with a frame.
abbrev pub goes_on : Run → Answered → Bool
goes_on r x = (r.last + 1 == x.frame) && is_one r.answer x.answer

abbrev pub longer_by : Run → Answered → Run
longer_by r x = record { first = r.first; last = x.frame; answer = r.answer }

-- the run that may go on then
abbrev pub single_open : Answered → Option Run
single_open x = if is_differing x.answer then None else Some (single x)

abbrev pub next_open : Option Run → Answered → Option Run
next_open None x = single_open x
next_open (Some r) x = if goes_on r x then Some (longer_by r x) else single_open x

-- and the runs that are known to be whole by it
abbrev pub single_known : Answered → List Run
single_known x = if is_differing x.answer then single x ∷ [] else []

abbrev pub told_by : Option Run → Answered → List Run
told_by None x = single_known x
told_by (Some r) x = if goes_on r x then [] else r ∷ single_known x

-- ---- how many frames there are

-- the first frame that differs
abbrev pub first_differing : List Answered → Option ℕ
first_differing xs = option_map (λ x. x.frame) (find (λ x. is_differing x.answer) xs)

-- how many frames, how many of them are the same and how many differ, and the first one that does
abbrev pub counts_of : List Answered → CompareRan
counts_of xs = record {
  frames = length xs;
  same = length (filter (λ x. is_same x.answer) xs);
  differ = length (filter (λ x. is_differing x.answer) xs);
  first = first_differing xs;
}

abbrev pub one_if : Bool → ℕ
one_if b = if b then 1 else 0

-- with one frame more
abbrev pub counted : CompareRan → Answered → CompareRan
counted n x = record {
  frames = n.frames + 1;
  same = n.same + one_if (is_same x.answer);
  differ = n.differ + one_if (is_differing x.answer);
  first = option_or n.first (if is_differing x.answer then Some x.frame else None);
}
