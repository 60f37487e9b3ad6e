-- What two feeds want next, unless a PLP is left to tell, or all is said.
use Rattle.std.proofs.Common.{◌≡◌, ℕ, Bool, true, false, cond, refl}
use Rattle.std.proofs.lemmas.Bool.{true≢false}
use Rattle.file_run.specs.declared.machine.Step.{Step}
use Rattle.file_run.specs.declared.machine.Step.TheVariants.{Give, End}

-- what is asked of a step, but not of one that gives, nor of the end
pub asked : (Asks : Step → ℕ → ℕ → Type 0) → ((input count : ℕ) → Asks Give input count → ⊥)
    → ((input count : ℕ) → Asks End input count → ⊥) → (telling done : Bool) (step : Step) (input count : ℕ)
    → Asks (cond telling Give (cond done End step)) input count
    → (telling ≡ false) × (done ≡ false) × Asks step input count
asked Asks not_give not_end true done step input count h = absurd (not_give input count h)
asked Asks not_give not_end false true step input count h = absurd (not_end input count h)
asked Asks not_give not_end false false step input count h = (refl, refl, h)

pub gives : (telling done : Bool) (step : Step) → telling ≡ false → cond telling Give (cond done End step) ≡ Give
    → (done ≡ false) × (step ≡ Give)
gives true done step off h = absurd (true≢false off)
gives false true step off h = absurd (let z : End ≡ Give = h in cc)
gives false false step off h = (refl, h)

-- Nothing is left to tell at the end.
pub ends_told : (telling : Bool) (step : Step) → cond telling Give step ≡ End → telling ≡ false
ends_told true step h = absurd (let z : Give ≡ End = h in cc)
ends_told false step h = refl

-- It has come to its end before both have.
pub ends : (telling done : Bool) (step : Step) → done ≡ false → cond telling Give (cond done End step) ≡ End
    → step ≡ End
ends true done step off h = absurd (let z : Give ≡ End = h in cc)
ends false true step off h = absurd (true≢false off)
ends false false step off h = h
