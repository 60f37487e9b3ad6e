-- What the lines of a machine that were told of a file show of the run: the text but for what a definition asks for.
use Rattle.std.proofs.Common.{◌≡◌, ℕ, ◌<◌, List, [], ◌++◌, refl, ap, ◌∙◌, inl, inr, append-nil}
use Rattle.std.specs.Prelude.{◌⊎◌, IfSome, Result, Err}
use Rattle.std.proofs.lemmas.Option.{IfSome_then}
use Rattle.terms.proofs.OptionLemmas.{if_any, if_both}
use Rattle.ports.specs.Desk.{State, bytes_of}
use Rattle.ports.specs.Desk.{SameCounts}
use Rattle.file_run.specs.Opening.{Opened}
use Rattle.file_run.specs.Reading.{longest_file}
use Rattle.file_run.proofs.SayLemmas.{grows_same}
use Rattle.file_run.specs.Events.{Event, fed, has_ended, gave}
use Rattle.file_run.specs.FileRun.{IsFed}
use Rattle.file_run.specs.Telling.{StartsWith, StopsTelling, Tells, TellsAll, TellsTooMuch, TellsUntilFault}
use Rattle.file_run.specs.declared.machine.Step.{Step}
use Rattle.file_run.specs.declared.machine.Step.TheVariants.{Give}
use Rattle.file_run.specs.declared.stop.RunFault.TheVariants.{TooLong, ReadFault, WriteFault}
use Rattle.file_run.specs.declared.stop.RunStop.{RunStop}
use Rattle.file_run.specs.declared.stop.RunStop.TheVariants as run
use Rattle.show_run.specs.Shows.{Counted, ReadsFile, Shows}
use Rattle.show_run.specs.declared.stop.ShowStop.{ShowStop}
use Rattle.show_run.proofs.PacketMetLemmas.{closed_counted, opened_counted}

module _ (IsText : List ℕ → ℕ → Result ℕ (RunStop ShowStop) → List ℕ → List ℕ → Type 0) {A : Type 0}
    (Came : List Event → A → Type 0) (next : A → Step) (old new : State) (name : List ℕ) (now : A) where
  -- a run to the end, whether the file was gone through or refused
  pub shows_all : (t : TellsAll Came next old new name now) (result : Result ℕ (RunStop ShowStop))
      → (Opened old new name t.place × (t.place < longest_file) → ReadsFile old new name t.place result)
      → (SameCounts old new → Counted old new result)
      → ((file : List ℕ) → IsFed file t.place (fed 0 t.tells.events) (has_ended 0 t.tells.events)
      → gave t.tells.events ≡ gave t.tells.early → IsText file t.place result (gave t.tells.early) [])
      → Shows IsText old new name result
  shows_all t result reads counts says =
      let x = t.tells in
      record {
        given = t.place;
        text = gave x.early;
        unsaid = [];
        reads = reads (x.opened, t.short);
        grew = x.said;
        due = inl refl;
        lines = IfSome_then old.held x.inputs
            (λ held f. says (bytes_of held.files name) f (x.parts ∙ append-nil (gave x.early)));
        counts = counts t.counts;
      }

  -- the file is too long
  pub shows_long : (t : TellsTooMuch Came next old new name now) (input : ℕ) → input ≡ 0
      → IfSome old.held (λ held. IsText (bytes_of held.files name) longest_file (Err (run.Files (TooLong input)))
      (gave t.tells.early) [])
      → Shows IsText old new name (Err (run.Files (TooLong input)))
  shows_long t input only lines = record {
    given = longest_file;
    text = gave t.tells.early;
    unsaid = [];
    reads = (only, t.tells.opened, refl);
    grew = t.tells.said;
    due = inl refl;
    lines = lines;
    counts = t.counts;
  }

  -- it was not opened, or could not be read on
  pub shows_fault : (input : ℕ) → StopsTelling Came next old new name now (ReadFault input)
      → ((file : List ℕ) → IsText file 0 (Err (run.Files (ReadFault input))) [] [])
      → ((t : TellsUntilFault Came next old new name now) → IfSome old.held (λ held. IsText (bytes_of held.files name)
      t.place (Err (run.Files (ReadFault input))) (gave t.tells.early) t.unsaid))
      → Shows IsText old new name (Err (run.Files (ReadFault input)))
  shows_fault input s none lines = elim s.1 [
    | inl closed ↦ record {
      given = 0;
      text = [];
      unsaid = [];
      reads = (s.0, inl (closed.1, refl));
      grew = grows_same old.said new.said closed.1.said;
      due = inl refl;
      lines = if_any old.held _ (λ held. none (bytes_of held.files name));
      counts = closed_counted old new closed.0;
    }
    | inr more ↦
        let t = more.1 in
        record {
          given = t.place;
          text = gave t.tells.early;
          unsaid = t.unsaid;
          reads = (s.0, inr (t.tells.opened, t.short));
          grew = t.tells.said;
          due = elim t.all [ inl all ↦ inl all.0 | inr lost ↦ inr lost.1 ];
          lines = lines t;
          counts = opened_counted old new name t.place t.tells.opened more.0;
        }
  ]

  -- what it gave could not be written
  pub shows_unwritten : (s : StopsTelling Came next old new name now WriteFault)
      → IfSome old.held (λ held. IsText (bytes_of held.files name) s.1.0 (Err (run.Files WriteFault))
      (gave s.1.2.early) [])
      → Shows IsText old new name (Err (run.Files WriteFault))
  shows_unwritten s lines = record {
    given = s.1.0;
    text = gave s.1.2.early;
    unsaid = [];
    reads = (s.1.2.opened, s.1.4);
    grew = s.1.2.said;
    due = inl refl;
    lines = lines;
    counts = s.0;
  }

-- nothing was done
pub shows_none : (IsText : List ℕ → ℕ → Result ℕ (RunStop ShowStop) → List ℕ → List ℕ → Type 0)
    → ((file : List ℕ) → IsText file 0 (Err run.OutOfMemory) [] []) → (old new : State) (name : List ℕ) → new ≡ old
    → Shows IsText old new name (Err run.OutOfMemory)
shows_none IsText nothing old new name s = record {
  given = 0;
  text = [];
  unsaid = [];
  reads = s;
  grew = grows_same old.said new.said (ap (λ (x : State). x.said) s);
  due = inl refl;
  lines = if_any old.held _ (λ held. nothing (bytes_of held.files name));
  counts = ap (λ (x : State). x.counts) s;
}

-- what was said are the first of the lines, if they are where all was said, and where a machine still gave
module _ (AreFirst : List ℕ → List ℕ → Type 0) {A : Type 0} (Came : List Event → A → Type 0) (next : A → Step)
    (old new : State) (name : List ℕ) (now : A) (place : ℕ) (unsaid : List ℕ)
    (x : Tells Came next old new name now place unsaid)
    (all : unsaid ≡ [] → (file : List ℕ) → StartsWith file (fed 0 x.events) (has_ended 0 x.events)
    → AreFirst file (gave x.events))
    (early : (file : List ℕ) → StartsWith file (fed 0 x.early) (has_ended 0 x.early)
    → (x.early ≡ []) ⊎ (next x.mid ≡ Give) → AreFirst file (gave x.early)) where
  pub first_said : IfSome old.held (λ held. AreFirst (bytes_of held.files name) (gave x.early))
  first_said =
      if_both old.held _ _ _ (λ held f first. go (bytes_of held.files name) (f.more, f.parts, f.end) first x.going)
      x.inputs x.first
    where
      go : (file : List ℕ) → StartsWith file (fed 0 x.events) (has_ended 0 x.events)
          → StartsWith file (fed 0 x.early) (has_ended 0 x.early) → (unsaid ≡ [])
          ⊎ ((x.early ≡ []) ⊎ (next x.mid ≡ Give)) → AreFirst file (gave x.early)
      go file f first (inl none) =
          let same : gave x.events ≡ gave x.early =
          x.parts ∙ ap (λ (l : List ℕ). gave x.early ++ l) none ∙ append-nil (gave x.early) in
          rw same at (all none file f)
      go file f first (inr going) = early file first going
