-- A run was begun by the plan of CONFIG, and told, and what its output holds.
use Rattle.std.proofs.Common.{◌≡◌, ℕ, inl, inr, List, [], Option, Some, None, ap, sym, subst, ◌∙◌}
use Rattle.std.specs.Prelude.{Result, Ok, Err, IfOk, IfErr, IfSome, unwrap_or}
use Rattle.std.specs.FinMap.{get}
use Rattle.std.proofs.lemmas.Option.{same_Some}
use Rattle.ports.specs.Desk.{State, Held, bytes_of}
use Rattle.file_run.specs.FileRun.{file_at}
use Rattle.file_run.specs.Work.{Work, Does, Into, Ends as RunEnds}
use Rattle.file_run.proofs.WorkLemmas.{works_of}
use Rattle.file_run.specs.declared.stop.RunStop.{RunStop}
use Rattle.site_top.specs.declared.outcome.Outcome.{Outcome}
use Rattle.site_top.specs.Outcomes.{stop_outcome}
use Rattle.site_top.specs.PlanCommand.{RunsAndTells}
use Rattle.site_top.specs.Saying.{Tells}

-- what was told of it, by what follows of its end, and of a stop
pub run_told : {R E : Type 0} (work : Work R E) (out : List ℕ) (ins : List (List ℕ))
    (Ends : State → State → R → Type 0) (Stops : State → State → RunStop E → Type 0) (line : R → List ℕ)
    (cause : E → Outcome) (mid after new : State) (run : Result R (RunStop E)) (outcome : Outcome)
    → ((ran : R) → RunEnds work mid after (Into out) ins (Ok ran) → Ends mid after ran)
    → ((stop : RunStop E) → RunEnds work mid after (Into out) ins (Err stop) → Stops mid after stop)
    → RunEnds work mid after (Into out) ins run
    → IfOk run (λ ran. Tells after new (line ran) outcome)
    → IfErr run (λ stop. (new ≡ after) × (outcome ≡ stop_outcome cause stop))
    → RunsAndTells Ends Stops line cause mid new outcome
run_told work out ins Ends Stops line cause mid after new (Ok ran) outcome ended stopped ends tells is =
    inr (ran, after, ended ran ends, tells)
run_told work out ins Ends Stops line cause mid after new (Err stop) outcome ended stopped ends tells is =
    inl (stop, subst (λ (s : State). Stops mid s stop) (sym is.0) (stopped stop ends), is.1)

-- What is so of files and what a work makes of them is so of the INs and OUT.
pub holds_of : {work : (ℕ → List ℕ) → List ℕ → List ℕ → Type 0} {old new : State} {out : List ℕ} {ins : List (List ℕ)}
    (P : (ℕ → List ℕ) → List ℕ → Type 0) (d : Does work old new (Into out) ins) → P d.files d.bytes
    → IfSome old.held (λ h. IfSome new.held (λ k. P (file_at h ins) (bytes_of k.files out)))
holds_of {old = old} {new = new} {out = out} {ins = ins} P d p = go old.held new.held (works_of P d p).holds
  where
    go : (h k : Option Held)
        → IfSome h (λ x. (y : Held) × (k ≡ Some y)
        × ((bytes : List ℕ) × (get y.files out ≡ Some bytes) × P (file_at x ins) bytes))
        → IfSome h (λ x. IfSome k (λ y. P (file_at x ins) (bytes_of y.files out)))
    go None k w = tt
    go (Some x) None w = tt
    go (Some x) (Some y) w =
        let here : w.2.0 ≡ bytes_of y.files out =
        sym (ap (λ (z : Held). bytes_of z.files out) (same_Some y w.0 w.1)
        ∙ ap (λ (o : Option (List ℕ)). unwrap_or o []) w.2.1) in
        subst (P (file_at x ins)) here w.2.2
