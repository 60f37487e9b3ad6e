-- The lines that tell of two streams.
use Rattle.std.specs.Prelude.{ℕ, ◌==◌, List, [], ◌∷◌, ◌++◌, codes, Option, Some, None, option_to_list, if◌then◌else◌}
use Rattle.std.specs.List.{flat_map}
use Rattle.std.specs.Fmt.{decimal}
use Rattle.plp_config.specs.declared.config.Config.{Config}
use Rattle.compare_run.specs.Comparing.{Answered, PlpDifference, difference_in}
use Rattle.compare_run.specs.Runs.{runs_of, known, counts_of, is_differing}
use Rattle.compare_run.specs.declared.answer.Answer.{Answer}
use Rattle.compare_run.specs.declared.answer.Answer.TheVariants.{Same, MutedA, MutedB, MutedBoth, OnlyA, OnlyB, Differs}
use Rattle.compare_run.specs.declared.answer.Other.{Other}
use Rattle.compare_run.specs.declared.answer.Place.{Place}
use Rattle.compare_run.specs.declared.answer.Place.TheVariants.{L1, Block}
use Rattle.compare_run.specs.declared.counts.CompareRan.{CompareRan}
use Rattle.compare_run.specs.declared.answer_run.Run.{Run}

abbrev pub place_text : Place → List ℕ
place_text L1 = codes "l1"
place_text (Block plp_id number) = codes "block plp=" ++ decimal plp_id ++ codes " block=" ++ decimal number

-- the line of frames from one to another, with a word
abbrev pub span_line : ℕ → ℕ → List ℕ → List ℕ
span_line first last word =
    codes "frames=" ++ decimal first ++ codes ".." ++ decimal last ++ codes " is=" ++ word ++ codes "\n"

-- the line of a frame that differs
abbrev pub differs_line : ℕ → Place → List ℕ
differs_line frame at = codes "frame=" ++ decimal frame ++ codes " is=differs at=" ++ place_text at ++ codes "\n"

abbrev pub line_by : Answer → ℕ → ℕ → List ℕ
line_by Same first last = span_line first last (codes "same")
line_by MutedA first last = span_line first last (codes "muted-a")
line_by MutedB first last = span_line first last (codes "muted-b")
line_by MutedBoth first last = span_line first last (codes "muted-both")
line_by OnlyA first last = span_line first last (codes "only-a")
line_by OnlyB first last = span_line first last (codes "only-b")
line_by (Differs at) first last = differs_line first at

-- ---- PLP by PLP

-- what is said of a PLP that differs: that its number of blocks does, or which block
abbrev pub other_text : Other → List ℕ
other_text o = if o.is_end then codes "count" else codes "block block=" ++ decimal o.number

-- the line of a PLP in which a frame differs
unfoldable pub plp_line : ℕ → PlpDifference → List ℕ
plp_line frame d =
    codes "frame=" ++ decimal frame ++ codes " plp=" ++ decimal d.plp_id ++ codes " at=" ++ other_text d.other
    ++ codes "\n"

-- the same of a PLP that may differ
abbrev pub plp_text : Config → ℕ → ℕ → Option Other → List ℕ
plp_text c frame plp None = []
plp_text c frame plp (Some o) = plp_line frame (difference_in c plp o)

-- the lines of the PLPs of a frame, if it differs; these are the PLPs in which each frame does
abbrev pub plp_lines : (ℕ → List PlpDifference) → Answer → ℕ → List ℕ
plp_lines of answer frame = if is_differing answer then flat_map (plp_line frame) (of frame) else []

-- ---- run by run

-- the line of a run
unfoldable pub run_line : Run → List ℕ
run_line r = line_by r.answer r.first r.last

abbrev pub lines_of : List Run → List ℕ
lines_of runs = flat_map run_line runs

-- the line that ends the lines
unfoldable pub compared_line : CompareRan → List ℕ
compared_line n = codes "compared frames=" ++ decimal n.frames ++ codes " same=" ++ decimal n.same ++ codes " differ="
    ++ decimal n.differ ++ codes "\n"

-- and behind it those of its PLPs, if it is of a frame that differs
abbrev pub run_text : (ℕ → List PlpDifference) → Run → List ℕ
run_text of r = run_line r ++ plp_lines of r.answer r.first

-- the lines that are known by some frames, whatever frames follow; these are the PLPs in which each frame differs
unfoldable pub known_text : (ℕ → List PlpDifference) → List Answered → List ℕ
known_text of xs = flat_map (run_text of) (known (runs_of xs))

-- what is left at the end: the run that might go on, and the numbers
unfoldable pub rest_text : Option Run → CompareRan → List ℕ
rest_text run n = if n.frames == 0 then [] else lines_of (option_to_list run) ++ compared_line n

-- all lines of all frames; of no frame nothing is said
unfoldable pub text_of : (ℕ → List PlpDifference) → List Answered → List ℕ
text_of of [] = []
text_of of (x ∷ xs) = flat_map (run_text of) (runs_of (x ∷ xs)) ++ compared_line (counts_of (x ∷ xs))
