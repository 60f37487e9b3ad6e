-- The lines of frames, one frame more, and all of them.
use Rattle.std.proofs.Common.{◌≡◌, ℕ, suc, Bool, true, false, cond, List, [], ◌∷◌, ◌++◌, length, Option, Some, None}
use Rattle.std.proofs.Common.{refl, ap, ap₂, sym, ◌∙◌, append-nil, append_assoc, arith}
use Rattle.std.proofs.lemmas.Bool.{ne_eqb, and_parts}
use Rattle.std.specs.Prelude.{◌+◌, ◌==◌, option_to_list}
use Rattle.std.specs.List.{flat_map}
use Rattle.std.proofs.lemmas.List.Concat.{flat_map-append}
use Rattle.compare_run.specs.Comparing.{Answered, PlpDifference}
use Rattle.compare_run.specs.AnswerLaws.{KnownBegins}
use Rattle.compare_run.specs.Lines.{run_line, lines_of, compared_line, plp_line, plp_lines, run_text, known_text}
use Rattle.compare_run.specs.Lines.{text_of, rest_text}
use Rattle.compare_run.specs.Runs.{runs_of, known, open_run, single, single_known, goes_on, told_by, next_open}
use Rattle.compare_run.specs.Runs.{counts_of, counted, is_differing, is_one}
use Rattle.compare_run.specs.TallyStandsFor.{TallyStandsFor}
use Rattle.compare_run.specs.declared.counts.CompareRan.{CompareRan}
use Rattle.compare_run.specs.declared.answer.Answer.{Answer}
use Rattle.compare_run.specs.declared.answer_run.Run.{Run}
use Rattle.compare_run.specs.declared.tally.Tally.{Tally}
use Rattle.compare_run.proofs.AnswerRunLemmas.{known_behind, open_behind, open_alike, other_alike, all_told}
use Rattle.compare_run.proofs.AnswerRunLemmas.{counts_behind}

-- no run that may go on differs
abbrev Alike : Option Run → Type 0
Alike o = (r : Run) → o ≡ Some r → is_differing r.answer ≡ false

pub open_is_alike : (runs : List Run) (o : Option Run) → o ≡ open_run runs → Alike o
open_is_alike runs o e r is = open_alike runs r (sym e ∙ is)

-- ---- the lines of PLPs

module _ (of : ℕ → List PlpDifference) where
  abbrev pub texts : List Run → List ℕ
  texts runs = flat_map (run_text of) runs

  texts_append : (a b : List Run) → texts (a ++ b) ≡ texts a ++ texts b
  texts_append a b = flat_map-append (run_text of) a b

  -- none stand behind a frame that does not differ
  pub no_plps : (a : Answer) (frame : ℕ) → is_differing a ≡ false → plp_lines of a frame ≡ []
  no_plps a frame off = ap (λ (b : Bool). cond b (flat_map (plp_line frame) (of frame)) []) off

  alike_text : (r : Run) → is_differing r.answer ≡ false → run_text of r ≡ run_line r
  alike_text r off = ap (λ (l : List ℕ). run_line r ++ l) (no_plps r.answer r.first off) ∙ append-nil (run_line r)

  -- the run of one frame, and behind it those of its PLPs
  single_text : (x : Answered) → texts (single_known x) ≡ lines_of (single_known x) ++ plp_lines of x.answer x.frame
  single_text x = go (is_differing x.answer) refl
    where
      go : (d : Bool) → is_differing x.answer ≡ d
          → texts (cond d (single x ∷ []) []) ≡ lines_of (cond d (single x ∷ []) []) ++ plp_lines of x.answer x.frame
      go true on =
          append-nil (run_text of (single x))
          ∙ ap (λ (l : List ℕ). l ++ plp_lines of x.answer x.frame) (sym (append-nil (run_line (single x))))
      go false off = sym (no_plps x.answer x.frame off)

  told_text : (o : Option Run) (x : Answered) → Alike o
      → texts (told_by o x) ≡ lines_of (told_by o x) ++ plp_lines of x.answer x.frame
  told_text None x alike = single_text x
  told_text (Some r) x alike = go (goes_on r x) refl
    where
      go : (g : Bool) → goes_on r x ≡ g
          → texts (cond g [] (r ∷ single_known x))
          ≡ lines_of (cond g [] (r ∷ single_known x)) ++ plp_lines of x.answer x.frame
      go true on =
          sym (no_plps x.answer x.frame
          (other_alike r.answer x.answer (and_parts (r.last + 1 == x.frame) (is_one r.answer x.answer) on).1))
      go false off =
          ap₂ (λ (k l : List ℕ). k ++ l) (alike_text r (alike r refl)) (single_text x)
          ∙ sym (append_assoc (run_line r) (lines_of (single_known x)) (plp_lines of x.answer x.frame))

  rest_runs : (o : Option Run) → Alike o → texts (option_to_list o) ≡ lines_of (option_to_list o)
  rest_runs None alike = refl
  rest_runs (Some r) alike = ap (λ (l : List ℕ). l ++ []) (alike_text r (alike r refl))

  -- ---- one frame more

  pub known_more : (xs : List Answered) (x : Answered) (run : Option Run) → run ≡ open_run (runs_of xs)
      → known_text of (xs ++ x ∷ []) ≡ known_text of xs ++ lines_of (told_by run x) ++ plp_lines of x.answer x.frame
  unfolding known_text
  known_more xs x run e =
      ap texts (known_behind xs x) ∙ texts_append (known (runs_of xs)) (told_by (open_run (runs_of xs)) x)
      ∙ ap (λ (o : Option Run). texts (known (runs_of xs)) ++ texts (told_by o x)) (sym e)
      ∙ ap (λ (l : List ℕ). texts (known (runs_of xs)) ++ l) (told_text run x (open_is_alike (runs_of xs) run e))
      ∙ sym (append_assoc (texts (known (runs_of xs))) (lines_of (told_by run x)) (plp_lines of x.answer x.frame))

  pub nothing_known : known_text of [] ≡ []
  unfolding known_text
  nothing_known = refl

  pub nothing_told : text_of of [] ≡ []
  unfolding text_of
  nothing_told = refl

  -- ---- all lines

  pub all_lines : (xs : List Answered)
      → text_of of xs ≡ known_text of xs ++ rest_text (open_run (runs_of xs)) (counts_of xs)
  unfolding text_of known_text rest_text
  all_lines [] = refl
  all_lines (x ∷ xs) =
      let runs : List Run = runs_of (x ∷ xs) in
      let rest : List Run = option_to_list (open_run runs) in
      let end : List ℕ = compared_line (counts_of (x ∷ xs)) in
      ap (λ (l : List Run). texts l ++ end) (all_told runs)
      ∙ ap (λ (l : List ℕ). l ++ end)
      (texts_append (known runs) rest
      ∙ ap (λ (l : List ℕ). texts (known runs) ++ l) (rest_runs (open_run runs) (open_is_alike runs _ refl)))
      ∙ append_assoc (texts (known runs)) (lines_of rest) end
      ∙ ap (λ (t : Bool). texts (known runs) ++ cond t [] (lines_of rest ++ end))
      (sym (ne_eqb (suc (length xs)) 0 (λ e. absurd (omega (arith, e)))))

  pub known_front : (xs ys : List Answered) → (rest : List ℕ) × (known_text of (xs ++ ys) ≡ known_text of xs ++ rest)
  known_front xs [] = ([], ap (known_text of) (append-nil xs) ∙ sym (append-nil (known_text of xs)))
  known_front xs (y ∷ ys) =
      let more = known_front (xs ++ y ∷ []) ys in
      let lines : List ℕ = lines_of (told_by (open_run (runs_of xs)) y) in
      let one : List ℕ = lines ++ plp_lines of y.answer y.frame in (
        one ++ more.0,
        ap (known_text of) (sym (append_assoc xs (y ∷ []) ys)) ∙ more.1
            ∙ ap (λ (l : List ℕ). l ++ more.0) (known_more xs y (open_run (runs_of xs)) refl
            ∙ append_assoc (known_text of xs) lines (plp_lines of y.answer y.frame))
            ∙ append_assoc (known_text of xs) one more.0,
      )

pub known_begins : KnownBegins
known_begins of xs ys =
    let k = known_front of xs ys in
    let r : List ℕ = rest_text (open_run (runs_of (xs ++ ys))) (counts_of (xs ++ ys)) in (
      k.0 ++ r,
      all_lines of (xs ++ ys) ∙ ap (λ (l : List ℕ). l ++ r) k.1 ∙ append_assoc (known_text of xs) k.0 r,
    )

-- ---- of a tally

pub stands_more : (t new : Tally) (xs : List Answered) (x : Answered) → TallyStandsFor t xs
    → new.run ≡ next_open t.run x → new.counts ≡ counted t.counts x → TallyStandsFor new (xs ++ x ∷ [])
stands_more t new xs x s run counts = record {
  run = run ∙ ap (λ (o : Option Run). next_open o x) s.run ∙ sym (open_behind xs x);
  counts = counts ∙ ap (λ (n : CompareRan). counted n x) s.counts ∙ sym (counts_behind xs x);
}

pub known_of : (of : ℕ → List PlpDifference) (t : Tally) (xs : List Answered) (x : Answered) (line : List ℕ)
    → TallyStandsFor t xs → line ≡ lines_of (told_by t.run x)
    → known_text of (xs ++ x ∷ []) ≡ known_text of xs ++ line ++ plp_lines of x.answer x.frame
known_of of t xs x line s is =
    known_more of xs x t.run s.run
    ∙ ap (λ (l : List ℕ). known_text of xs ++ l ++ plp_lines of x.answer x.frame) (sym is)

pub rest_of : (of : ℕ → List PlpDifference) (t : Tally) (xs : List Answered) (line : List ℕ) → TallyStandsFor t xs
    → line ≡ rest_text t.run t.counts → text_of of xs ≡ known_text of xs ++ line
rest_of of t xs line s is =
    all_lines of xs
    ∙ ap (λ (l : List ℕ). known_text of xs ++ l) (sym (is ∙ ap₂ rest_text s.run s.counts))
