-- One run of a machine has ended as it did, also seen from behind its notes.
use Rattle.std.proofs.Common.{◌≡◌, ℕ, List, subst, sym}
use Rattle.std.specs.Prelude.{Result}
use Rattle.ports.specs.Desk.{State}
use Rattle.file_run.specs.Events.{Event}
use Rattle.file_run.specs.FileRun.{RunsAll}
use Rattle.file_run.specs.OneRun.{ComesToEnd}
use Rattle.file_run.specs.Sink.{Sink}
use Rattle.file_run.specs.declared.machine.Step.{Step}
use Rattle.file_run.specs.declared.machine.Step.TheVariants.{End}

pub ends_noted : {A R E : Type 0} (old mid new : State) (sink : Sink) (ins : List (List ℕ)) (reach : A → ℕ → ℕ)
    (next : A → Step) (Came : List Event → A → Type 0) (ending : A → Result R E) (now : A) (told : Result R E)
    → new ≡ mid → RunsAll old mid sink ins (reach now) (λ events. Came events now) → next now ≡ End
    → ending now ≡ told → ComesToEnd old new sink ins reach next Came ending now told
ends_noted old mid new sink ins reach next Came ending now told same runs end is = record {
  runs = subst (λ (s : State). RunsAll old s sink ins (reach now) (λ events. Came events now)) (sym same) runs;
  end = end;
  told_is = is;
}
