-- Putting out what a machine gives, step by step.
use Rattle.std.proofs.Common.{◌≡◌, ◌≢◌, ℕ, List, [], ◌∷◌, ◌++◌, ap, sym, subst, ◌∙◌, inl, inr, append_assoc, append-nil}
use Rattle.std.proofs.Common.{length, length-append, arith}
use Rattle.std.specs.Prelude.{◌⊎◌}
use Rattle.std.proofs.lemmas.List.{nil_from_length}
use Rattle.ports.specs.Desk.{State}
use Rattle.file_run.specs.DeskLaws.{AppendsNone, AppendsThen}
use Rattle.file_run.specs.Events.{Event, Gave}
use Rattle.file_run.specs.Running.{Drains, DrainsFront, Gathers, PutsSome}
use Rattle.file_run.specs.Sink.{Puts, PutsFront}
use Rattle.file_run.specs.Steps.{HasCome}
use Rattle.file_run.specs.declared.machine.Step.{Step}
use Rattle.file_run.specs.declared.machine.Step.TheVariants.{Give}
use Rattle.file_run.specs.declared.output.OpenOutput.{OpenOutput}
use Rattle.file_run.proofs.EventLemmas.{only_none, only_more, gave_piece}
use Rattle.file_run.proofs.SinkLemmas.{puts_none, puts_then}

pub drained_none : AppendsNone → {A : Type 0} (Becomes : A → List Event → A → Type 0) (out : OpenOutput)
    (m : A) (s : State)
    (waiting : List ℕ) → waiting ≡ [] → Drains Becomes out m m s s waiting
drained_none law {A = A} Becomes out m s waiting none = record {
  late = [];
  only = only_none;
  becomes = λ start events h. subst (λ (l : List Event). Becomes start l m) (sym (append-nil events)) h;
  front = [];
  parts = sym none;
  puts = puts_none law out s;
}

-- The machine has come further.
pub came_on : {A : Type 0} (Becomes : A → List Event → A → Type 0) (out : OpenOutput) (old new : A) (was is : State)
    (waiting : List ℕ) → HasCome Becomes old → Drains Becomes out old new was is waiting → HasCome Becomes new
came_on Becomes out old new was is waiting c d =
    record { start = c.start; events = c.events ++ d.late; came = d.becomes c.start c.events c.came }

-- A front of what waits went out.
pub drained_some : AppendsThen → {A : Type 0} (Becomes : A → List Event → A → Type 0) (out : OpenOutput) (old new : A)
    (was now is : State) (waiting left : List ℕ) → Drains Becomes out old new was now waiting
    → PutsSome out now is waiting left → Drains Becomes out old new was is left
drained_some law Becomes out old new was now is waiting left d p = record {
  late = d.late;
  only = d.only;
  becomes = d.becomes;
  front = d.front ++ p.front;
  parts = d.parts ∙ ap (λ (l : List ℕ). d.front ++ l) p.parts ∙ sym (append_assoc d.front p.front left);
  puts = puts_then law out was now is d.front p.front d.puts p.puts;
}

-- A machine gave a piece.
pub drained_more : {A : Type 0} (Becomes : A → List Event → A → Type 0) (out : OpenOutput) (old mid new : A)
    (was is : State)
    (waiting left : List ℕ) → Drains Becomes out old mid was is waiting → Gathers Becomes mid new waiting left
    → Drains Becomes out old new was is left
drained_more Becomes out old mid new was is waiting left d g = record {
  late = d.late ++ Gave g.piece ∷ [];
  only = only_more d.late g.piece d.only;
  becomes = λ start events h. subst (λ (l : List Event). Becomes start l new)
      (append_assoc events d.late (Gave g.piece ∷ []))
      (g.becomes start (events ++ d.late) (d.becomes start events h));
  front = d.front;
  parts = (gave_piece g.piece d.late).gave ∙ ap (λ (l : List ℕ). l ++ g.piece) d.parts
      ∙ append_assoc d.front waiting g.piece
      ∙ ap (λ (l : List ℕ). d.front ++ l) (sym g.behind);
  puts = d.puts;
}

-- All that waits went out.
pub drained_all : AppendsThen → {A : Type 0} (Becomes : A → List Event → A → Type 0) (out : OpenOutput) (old new : A)
    (was now is : State) (waiting : List ℕ) → Drains Becomes out old new was now waiting → Puts out now is waiting
    → Drains Becomes out old new was is []
drained_all law Becomes out old new was now is waiting d p =
    drained_some law Becomes out old new was now is waiting [] d
    (record { front = waiting; parts = sym (append-nil waiting); puts = p })

-- what waits did not all go out
pub drained_short : AppendsThen → {A : Type 0} (Becomes : A → List Event → A → Type 0) (out : OpenOutput) (old new : A)
    (was now is : State) (waiting : List ℕ) → Drains Becomes out old new was now waiting
    → PutsFront out now is waiting → DrainsFront Becomes out old new was is
drained_short law Becomes out old new was now is waiting d p = record {
  more = p.more;
  some = p.some;
  drains = drained_some law Becomes out old new was now is waiting p.more d
      (record { front = p.front; parts = p.parts; puts = p.puts });
}

-- A machine that is not as it was gave first.
pub gave_first : {A : Type 0} (old mid : A) (waiting : List ℕ) (next : A → Step) → ((mid ≡ old) × (waiting ≡ []))
    ⊎ (next old ≡ Give) → next mid ≡ Give → next old ≡ Give
gave_first old mid waiting next (inl same) gives = ap next (sym same.0) ∙ gives
gave_first old mid waiting next (inr first) gives = first

pub waits_first : {A : Type 0} (old mid : A) (waiting front more : List ℕ) (next : A → Step)
    → ((mid ≡ old) × (waiting ≡ []))
    ⊎ (next old ≡ Give) → waiting ≡ front ++ more → more ≢ [] → next old ≡ Give
waits_first old mid waiting front more next (inl same) parts some =
    absurd (some (nil_from_length more (let n = ap length (sym same.1 ∙ parts) in omega
    (arith, n, length-append front more))))
waits_first old mid waiting front more next (inr first) parts some = first
