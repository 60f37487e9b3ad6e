-- The lines of the PLPs of a frame that differs, one after the other, and how often a machine gives.
use Rattle.std.proofs.Common.{◌≡◌, ℕ, suc, ◌+◌, ◌*◌, ◌-◌, ◌<◌, ◌≤◌, Bool, true, false, cond, List, [], ◌∷◌, ◌++◌}
use Rattle.std.proofs.Common.{length, Option, Some, None, refl, ap, ap₂, sym, ◌∙◌, arith, append-nil, add-mul}
use Rattle.std.proofs.Math.Nat.{mul-le-mul_right}
use Rattle.std.specs.Prelude.{option_map, option_to_list}
use Rattle.std.specs.List.{flat_map, range_with_len}
use Rattle.std.proofs.lemmas.List.Concat.{flat_map-append}
use Rattle.terms.proofs.RangeLemmas.{flat_same}
use Rattle.plp_config.specs.Places.{places}
use Rattle.plp_config.specs.declared.config.Config.{Config}
use Rattle.frame_groups.specs.Modulated.{FrameRecord, Numbered}
use Rattle.compare_run.specs.AnswerLaws.{frames_by}
use Rattle.compare_run.specs.Comparing.{carried, first_other, difference_in, differing, plp_differences, answers}
use Rattle.compare_run.specs.Lines.{plp_line, plp_text, plp_lines, known_text}
use Rattle.compare_run.specs.Runs.{is_differing}
use Rattle.compare_run.specs.TallyStandsFor.{AreOthers, other_in, plps_in}
use Rattle.compare_run.specs.Shown.{IsTold, text_in, plps_from, untold}
use Rattle.compare_run.specs.declared.answer.Answer.{Answer}
use Rattle.compare_run.specs.declared.answer.Other.{Other}
use Rattle.compare_run.specs.declared.answering.Carried.{Carried}
use Rattle.compare_run.specs.declared.machine.CompareMachine.{CompareMachine}

-- the lines of some PLPs that differ
lines_each : (c : Config) (frame : ℕ) (other : ℕ → Option Other) (plps : List ℕ)
    → flat_map (plp_line frame) (differing c other plps)
    ≡ flat_map (λ plp. plp_text c frame plp (other plp)) plps
lines_each c frame other [] = refl
lines_each c frame other (plp ∷ plps) =
    flat_map-append (plp_line frame) (option_to_list (option_map (difference_in c plp) (other plp)))
    (differing c other plps)
    ∙ ap₂ (λ (x y : List ℕ). x ++ y) (one (other plp)) (lines_each c frame other plps)
  where
    one : (o : Option Other)
        → flat_map (plp_line frame) (option_to_list (option_map (difference_in c plp) o)) ≡ plp_text c frame plp o
    one None = refl
    one (Some o) = append-nil (plp_line frame (difference_in c plp o))

abbrev line_at : Config → Carried → ℕ → ℕ → List ℕ
line_at c x frame plp = plp_text c frame plp (other_in x plp)

-- all of them, by what is noted of each
all_plps : (c : Config) (ga gb : List Numbered) (x : Carried) (n : ℕ) → plps_in x ≡ length c.plps
    → AreOthers x c n ga gb → plps_from c x n 0 ≡ flat_map (plp_line n) (plp_differences c ga gb n)
unfolding plp_differences
all_plps c ga gb x n size are =
    let count : plps_in x - 0 ≡ length c.plps = omega (arith, size) in
    let other : ℕ → Option Other = λ (plp : ℕ). first_other (carried c ga plp n) (carried c gb plp n) in
    ap (λ (k : ℕ). flat_map (line_at c x n) (range_with_len 0 k)) count
    ∙ flat_same (line_at c x n) (λ plp. plp_text c n plp (other plp)) 0 (length c.plps)
    (λ plp le lt. ap (plp_text c n plp) (are plp (omega (arith, lt))))
    ∙ sym (lines_each c n other (places c))

-- behind the last one there are none
pub no_plp : (c : Config) (x : Carried) (frame plp : ℕ) → plps_in x ≤ plp → plps_from c x frame plp ≡ []
no_plp c x frame plp le =
    let none : plps_in x - plp ≡ 0 = omega (arith, le) in
    ap (λ (k : ℕ). flat_map (line_at c x frame) (range_with_len plp k)) none

-- so all is said that is known by the frames that were compared, or of all at the end
pub said_so_far : (c : Config) (m : CompareMachine) {xs ys : List FrameRecord} {low : ℕ} {said : List ℕ}
    {ga gb : List Numbered} → IsTold c m xs ys low said ga gb → plps_in m.carried ≤ m.plp
    → said ≡ text_in m.done (plp_differences c ga gb) (answers c (frames_by xs ga) (frames_by ys gb))
said_so_far c m {said = said} t le =
    sym (append-nil said) ∙ ap (λ (l : List ℕ). said ++ l) (sym (no_plp c m.carried m.last m.plp le)) ∙ t.said_is

pub said_known : (c : Config) (m : CompareMachine) {xs ys : List FrameRecord} {low : ℕ} {said : List ℕ}
    {ga gb : List Numbered} → IsTold c m xs ys low said ga gb → plps_in m.carried ≤ m.plp → m.done ≡ false
    → said ≡ known_text (plp_differences c ga gb) (answers c (frames_by xs ga) (frames_by ys gb))
said_known c m {xs} {ys} {ga = ga} {gb = gb} t le going =
    said_so_far c m t le
    ∙ ap (λ (d : Bool). text_in d (plp_differences c ga gb) (answers c (frames_by xs ga) (frames_by ys gb))) going

-- one, and those behind it
pub one_plp : (c : Config) (x : Carried) (frame plp : ℕ) → plp < plps_in x
    → plps_from c x frame plp ≡ plp_text c frame plp (other_in x plp) ++ plps_from c x frame (plp + 1)
one_plp c x frame plp lt =
    let count : plps_in x - plp ≡ suc (plps_in x - (plp + 1)) = omega (arith, lt) in
    ap (λ (k : ℕ). flat_map (line_at c x frame) (range_with_len plp k)) count

-- what is to be told of a frame that was compared
pub now_untold : (c : Config) (ga gb : List Numbered) (m : CompareMachine) (n : ℕ) (answer : Answer) → m.last ≡ n
    → m.plp ≡ cond (is_differing answer) 0 (plps_in m.carried) → plps_in m.carried ≡ length c.plps
    → (is_differing answer ≡ true → AreOthers m.carried c n ga gb)
    → untold c m ≡ plp_lines (plp_differences c ga gb) answer n
now_untold c ga gb m n answer last first size others =
    ap₂ (λ (frame plp : ℕ). plps_from c m.carried frame plp) last first ∙ go (is_differing answer) refl
  where
    go : (d : Bool) → is_differing answer ≡ d
        → plps_from c m.carried n (cond d 0 (plps_in m.carried))
        ≡ cond d (flat_map (plp_line n) (plp_differences c ga gb n)) []
    go true on = all_plps c ga gb m.carried n size (others on)
    go false off = no_plp c m.carried n (plps_in m.carried) (omega arith)

-- ---- how often it gives

-- a record fewer is all PLPs of one and a step fewer
pub record_fewer : (x y p rest : ℕ) → x + 1 ≤ y → rest ≤ p → x * (p + 1) + rest < y * (p + 1)
record_fewer x y p rest le few =
    let up : (x + 1) * (p + 1) ≤ y * (p + 1) = mul-le-mul_right (p + 1) le in
    let sum = add-mul x 1 (p + 1) in
    omega (arith, up, sum, few)
