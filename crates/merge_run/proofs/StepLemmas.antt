-- What two feeds want next, and a merger.
use Rattle.std.proofs.Common.{◌≡◌, ℕ, refl}
use Rattle.file_run.specs.declared.machine.Step.{Step}
use Rattle.file_run.specs.declared.machine.Step.TheVariants.{Give, End}
use Rattle.feed_merge.specs.Reading.{step_for}
use Rattle.merge_run.specs.Steps.{step_in, step_of}
use Rattle.merge_run.specs.declared.machine.MergeMachine.{MergeMachine}
use Rattle.merge_run.specs.declared.phase.Phase.{Phase}
use Rattle.merge_run.specs.declared.phase.Phase.TheVariants.{Reads, Gives, Rests, Done}

-- what is asked of a step that reads
pub asked : (Asks : Step → ℕ → ℕ → Type 0) → ((input count : ℕ) → Asks Give input count → ⊥)
    → ((input count : ℕ) → Asks End input count → ⊥) → (p : Phase) (step : Step) (input count : ℕ)
    → Asks (step_in p step) input count → (p ≡ Reads) × Asks step input count
asked Asks not_give not_end Reads step input count h = (refl, h)
asked Asks not_give not_end Gives step input count h = absurd (not_give input count h)
asked Asks not_give not_end Rests step input count h = absurd (not_give input count h)
asked Asks not_give not_end Done step input count h = absurd (not_end input count h)

-- and if it does not read, and gives no unit of a frame, it gives the rest
pub rests_at : (m : MergeMachine) → step_of m ≡ Give → (m.phase ≡ Reads → ⊥) → (m.phase ≡ Gives → ⊥) → m.phase ≡ Rests
rests_at m h reads gives = go m.phase refl h
  where
    go : (p : Phase) → m.phase ≡ p → step_in p (step_for m.a m.b) ≡ Give → m.phase ≡ Rests
    go Reads is h = absurd (reads is)
    go Gives is h = absurd (gives is)
    go Rests is h = is
    go Done is h = absurd (let z : End ≡ Give = h in cc)
