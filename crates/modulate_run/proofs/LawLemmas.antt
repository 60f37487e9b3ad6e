-- A file decides how a run over it ends.
use Rattle.std.proofs.Common.{◌≡◌, ◌≢◌, List, [], ◌∷◌, length, refl, ap, sym, subst, ◌∙◌, arith}
use Rattle.std.specs.Prelude.{nat_lt, Result, Ok, Err}
use Rattle.std.specs.List.{list_all}
use Rattle.std.proofs.lemmas.Bool.{true≢false}
use Rattle.terms.proofs.CaseLemmas.{bool_cases}
use Rattle.modulator.specs.StandsFor.{records_of}
use Rattle.plp_config.specs.declared.moment.TheConstants.{MOST_FRAMES}
use Rattle.frame_groups.specs.Modulated.{FrameRecord}
use Rattle.modulate_run.specs.Counted.{counted}
use Rattle.modulate_run.specs.Laws.{MustRun, OneRun, RunEnds}
use Rattle.modulate_run.specs.ModulateRun.{AreEarly}
use Rattle.modulate_run.specs.declared.stop.ModulateRan.{ModulateRan}
use Rattle.modulate_run.specs.declared.stop.ModulateStop.{ModulateStop}
use Rattle.modulate_run.specs.declared.stop.ModulateStop.TheVariants.{NoSuperframe, TooManyFrames}

none_early : (records : List FrameRecord) → records ≡ [] → AreEarly records
none_early records e = subst AreEarly (sym e) refl

pub one_run : OneRun
one_run c file (Ok ran) (Ok other) a b = ap Ok (a.2 ∙ sym b.2)
one_run c file (Ok ran) (Err NoSuperframe) a b = absurd (a.0 b)
one_run c file (Ok ran) (Err TooManyFrames) a b = absurd (b a.1)
one_run c file (Err NoSuperframe) (Ok other) a b = absurd (b.0 a)
one_run c file (Err NoSuperframe) (Err NoSuperframe) a b = refl
one_run c file (Err NoSuperframe) (Err TooManyFrames) a b = absurd (b (none_early (records_of c file) a))
one_run c file (Err TooManyFrames) (Ok other) a b = absurd (a b.1)
one_run c file (Err TooManyFrames) (Err NoSuperframe) a b = absurd (a (none_early (records_of c file) b))
one_run c file (Err TooManyFrames) (Err TooManyFrames) a b = refl

pub run_ends : RunEnds
run_ends c file = go (records_of c file) refl
  where
    some : (x : FrameRecord) (xs : List FrameRecord) → x ∷ xs ≢ []
    some x xs e = absurd (let n = ap length e in omega (arith, n))

    go : (xs : List FrameRecord) → records_of c file ≡ xs → (result : Result ModulateRan ModulateStop)
        × MustRun c file result
    go [] e = (Err NoSuperframe, e)
    go (x ∷ xs) e =
        bool_cases (list_all (λ (x : FrameRecord). nat_lt x.number MOST_FRAMES) (records_of c file))
        (λ early. (Ok (counted (records_of c file)), ((λ none. some x xs (sym e ∙ none)), early, refl)))
        (λ late. (Err TooManyFrames, λ early. true≢false (sym early ∙ late)))
