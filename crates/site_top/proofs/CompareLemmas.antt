-- What holds of two streams that were compared.
use Rattle.std.proofs.Common.{◌≡◌, Bool, true, false, ℕ, List, refl, ap, sym, ◌∙◌}
use Rattle.std.specs.Prelude.{Result, Ok, Err}
use Rattle.std.proofs.lemmas.Bool.{true≢false}
use Rattle.std.proofs.lemmas.Option.{IfSome_then}
use Rattle.terms.proofs.OptionLemmas.{if_any, none_some}
use Rattle.ports.specs.Desk.{State, bytes_of}
use Rattle.plp_config.specs.Capacity.{IsPlan}
use Rattle.plp_config.specs.declared.config.Config.{Config}
use Rattle.plp_config.specs.declared.moment.TheConstants.{MOST_FRAMES}
use Rattle.stream_laws.specs.SentFrames.{run_length, run_stream, stream_bytes}
use Rattle.stream_laws.specs.Types.{TypesFit}
use Rattle.file_run.specs.Work.{Ends, Aloud}
use Rattle.file_run.specs.declared.stop.RunFault.TheVariants as run_fault
use Rattle.file_run.specs.declared.stop.RunStop.{RunStop}
use Rattle.file_run.specs.declared.stop.RunStop.TheVariants as run
use Rattle.file_run.proofs.EndsLemmas.{decides}
use Rattle.feed_merge.specs.Fed.{names_of}
use Rattle.compare_run.specs.Comparing.{answers, frames_of}
use Rattle.compare_run.specs.AnswerLaws.{NoneDiffers}
use Rattle.compare_run.specs.Runs.{first_differing}
use Rattle.compare_run.specs.declared.counts.CompareRan.{CompareRan}
use Rattle.compare_run.specs.CompareRun.{compare_work}
use Rattle.compare_run.specs.declared.stop.CompareStop.{CompareStop}
use Rattle.compare_run.specs.declared.stop.CompareStop.TheVariants as stop
use Rattle.site_top.specs.declared.outcome.Outcome.{Outcome}
use Rattle.site_top.specs.declared.outcome.Outcome.TheVariants.{Done, Differs, NoSuperframe, TooLong, ReadFault}
use Rattle.site_top.specs.declared.outcome.Outcome.TheVariants.{WriteFault, OutOfMemory}
use Rattle.site_top.specs.CompareCommand.{DamageIsAlike, NeverDiffers}
use Rattle.site_top.specs.Outcomes.{run_outcome, stop_outcome, compare_cause}

-- ---- damage

pub damage_is_alike : (c : Config) → IsPlan c → TypesFit c → NoneDiffers → DamageIsAlike c
damage_is_alike c plan types law inputs a b few d =
    ap (λ (l : List ℕ). first_differing (answers c (frames_of c l) (frames_of c b))) d.is_a
    ∙ ap (λ (l : List ℕ). first_differing
    (answers c (frames_of c (stream_bytes (run_stream c inputs) d.from_a d.fates_a)) (frames_of c l))) d.is_b
    ∙ law c inputs (run_length c inputs) d.from_a d.from_b d.fates_a d.fates_b plan types few d.honest_a d.honest_b

-- whether an outcome tells of a frame that differs
abbrev differs_in : Outcome → Bool
differs_in (Differs frame) = true
differs_in other = false

-- what the outcome is if a frame differs
pub never_differs : (c : Config) (mid new : State) (a b : List ℕ) (result : Result CompareRan (RunStop CompareStop))
    (outcome : Outcome)
    → DamageIsAlike c → Ends (compare_work c) mid new Aloud (names_of a b) result
    → outcome ≡ run_outcome (stop_outcome compare_cause) result → NeverDiffers c mid a b outcome
never_differs c mid new a b result outcome law ends is = go result ends is
  where
    not_so : (o : Outcome) → outcome ≡ o → differs_in o ≡ false → NeverDiffers c mid a b outcome
    not_so o e off = if_any mid.held _ (λ h inputs few d frame f. absurd (true≢false (sym (ap differs_in (sym e ∙ f))
        ∙ off)))

    go : (result : Result CompareRan (RunStop CompareStop)) → Ends (compare_work c) mid new Aloud (names_of a b) result
        → outcome ≡ run_outcome (stop_outcome compare_cause) result → NeverDiffers c mid a b outcome
    go (Ok counts) r is = not_so Done is refl
    go (Err (run.Refused stop.NoSuperframe)) r is = not_so NoSuperframe is refl
    go (Err (run.Refused stop.TooManyFrames)) r is = not_so (TooLong MOST_FRAMES) is refl
    go (Err (run.Refused (stop.Differs n))) r is =
        let why = decides (compare_work c) mid new Aloud (names_of a b) (Err (run.Refused (stop.Differs n))) r in
        IfSome_then mid.held why.1 (λ h w. λ inputs few d frame f.
        none_some n (sym (law inputs (bytes_of h.files a) (bytes_of h.files b) few d) ∙ w.2.1.first))
    go (Err (run.Files (run_fault.TooLong input))) r is = not_so (stop_outcome compare_cause
        (run.Files (run_fault.TooLong input))) is refl
    go (Err (run.Files (run_fault.ReadFault input))) r is = not_so ReadFault is refl
    go (Err (run.Files run_fault.WriteFault)) r is = not_so WriteFault is refl
    go (Err run.OutOfMemory) r is = not_so OutOfMemory is refl
