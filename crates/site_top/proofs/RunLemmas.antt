-- A run: what its command does, and its last line.
use Rattle.std.proofs.Common.{◌≡◌, ℕ, List, Option, Some, None, refl, sym, ap, subst}
use Rattle.std.specs.Prelude.{IfSome, IfNone}
use Rattle.std.proofs.lemmas.Option.{IfSome_then}
use Rattle.ports.specs.Counts.{Rose, MayFailAtLast}
use Rattle.ports.specs.Desk.{State, SaysLast}
use Rattle.site_top.specs.declared.outcome.Outcome.{Outcome}
use Rattle.site_top.specs.declared.outcome.Outcome.TheVariants.{Done, Usage}
use Rattle.site_top.specs.Commands.{Command}
use Rattle.site_top.specs.Endings.{EndsBy, Ends}
use Rattle.site_top.specs.Laws.{Completeness}
use Rattle.site_top.specs.Outcomes.{last_line}
use Rattle.site_top.specs.Runs.{Does, IsComplete}

ends_by : (before after : State) (outcome : Outcome) → (outcome ≡ Done → ⊥) → EndsBy before after (last_line outcome)
    → Ends before after outcome
ends_by before after Done other e = absurd (other refl)
ends_by before after outcome other e = e

-- the last line of a run that is not done
pub ends_other : (before after : State) (outcome : Outcome) (text : List ℕ) → (outcome ≡ Done → ⊥)
    → text ≡ last_line outcome
    → SaysLast before after text → MayFailAtLast before.counts after.counts → Ends before after outcome
ends_other before after outcome text other is said counts =
    ends_by before after outcome other (record { said = subst (SaysLast before after) is said; counts = counts })

pub ends_done : (before : State) (outcome : Outcome) → outcome ≡ Done → Ends before before outcome
ends_done before outcome is = subst (Ends before before) (sym is) refl

-- The counts of reading and writing stayed.
record Stay (before after : State) : Type 0 where
  pub reads : after.counts.reads ≡ before.counts.reads
  pub writes : after.counts.writes ≡ before.counts.writes

ends_stay : (before after : State) (outcome : Outcome) → Ends before after outcome → Stay before after
ends_stay before after Done e =
    record { reads = ap (λ (s : State). s.counts.reads) e; writes = ap (λ (s : State). s.counts.writes) e }
ends_stay before after outcome e =
    record {
      reads = ap (λ counts. counts.reads) e.counts.others;
      writes = ap (λ counts. counts.writes)
          e.counts.others;
    }

-- what a command did is complete, and its last line does not change that
pub run_complete : Completeness → (command : Option Command) (old mid new : State) (result : Outcome)
    → IfSome command (λ c. Does c old mid result) → Ends mid new result
    → IfSome command (λ c. IsComplete c old new result)
run_complete law command old mid new result does ends =
    let stay = ends_stay mid new result ends in
    IfSome_then command does (λ c did. IfSome_then old.held (law c old mid result did) (λ held x. λ outcome must r w.
    x outcome must (subst (λ (n : ℕ). ¬ (Rose old.counts.reads n)) stay.reads r)
    (subst (λ (n : ℕ). ¬ (Rose old.counts.writes n)) stay.writes w)))

-- what a command did, and then its last line
pub run_does : (command : Option Command) (old mid new : State) (result : Outcome)
    → IfSome command (λ c. Does c old mid result)
    → Ends mid new result →
    IfSome command (λ c. (before : State) × Does c old before result × Ends before new result)
run_does command old mid new result does ends = IfSome_then command does (λ c x. (mid, x, ends))

if_none : {A : Type 0} (o : Option A) (P Q : Type 0) → (P → Q) → IfNone o P → IfNone o Q
if_none None P Q f h = f h
if_none (Some x) P Q f h = h

-- words that are no command
pub run_refuses : (command : Option Command) (old mid new : State) (outcome : Outcome)
    → IfNone command ((outcome ≡ Usage) × (mid ≡ old)) → Ends mid new outcome → IfNone command (Ends old new Usage)
run_refuses command old mid new outcome h ends =
    if_none command _ _ (λ x. subst (λ (s : State). Ends s new Usage) x.1 (subst (Ends mid new) x.0 ends)) h

pub run_usage : (command : Option Command) (old mid : State) (outcome : Outcome)
    → IfNone command ((outcome ≡ Usage) × (mid ≡ old)) → IfNone command (outcome ≡ Usage)
run_usage command old mid outcome h = if_none command _ _ (λ x. x.0) h
