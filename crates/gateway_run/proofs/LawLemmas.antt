-- Files decide how a run over them ends.
use Rattle.std.proofs.Common.{◌≡◌, ℕ, zero, suc, ◌-◌, ◌*◌, ◌/◌, ◌<◌, ◌≤◌, List, length, Result, Ok, Err, refl, ap, sym}
use Rattle.std.proofs.Common.{subst, ◌∙◌, inl, inr, arith}
use Rattle.std.proofs.Math.Nat.{mul-le-mul_right, div-zero, div-mul-le_self}
use Rattle.std.proofs.lemmas.Nat.{le-div}
use Rattle.std.proofs.lemmas.Bool.{cases_lt}
use Rattle.plp_config.specs.SlotTime.{slots_by, num, den}
use Rattle.plp_config.specs.declared.config.Config.{Config}
use Rattle.plp_config.specs.declared.moment.TheConstants.{MOST_FRAMES}
use Rattle.ts_packet.specs.TsFile.{packets_in}
use Rattle.common_plp.specs.Inputs.{place_of}
use Rattle.common_plp.specs.Sharing.{Sharing}
use Rattle.gateway_run.specs.Inputs.{IsBefore}
use Rattle.gateway_run.specs.Laws.{OneRun}
use Rattle.gateway_run.specs.GatewayRun.{WantsBad, MeetsBad, MeetsNone}
use Rattle.gateway_run.specs.declared.stop.GatewayRan.{GatewayRan}
use Rattle.gateway_run.specs.declared.stop.GatewayStop.{GatewayStop}
use Rattle.gateway_run.specs.declared.stop.GatewayStop.TheVariants.{Bad, TooManyFrames}
use Rattle.gateway_run.proofs.OrderLemmas.{before_or}

quotient_rises : (k a b : ℕ) → a ≤ b → a / k ≤ b / k
quotient_rises zero a b le = omega (arith, div-zero a, div-zero b)
quotient_rises (suc k) a b le =
    let part : a / suc k * suc k ≤ a = div-mul-le_self a (suc k) in
    let all : a / suc k * suc k ≤ b = omega (arith, part, le) in
    le-div (a / suc k) b (suc k) (omega arith) all

-- slots are over for good
pub slots_rise : (c : Config) (plp frame later : ℕ) → frame ≤ later → slots_by c plp (frame * c.ticks)
    ≤ slots_by c plp (later * c.ticks)
slots_rise c plp frame later le = quotient_rises (num c) (frame * c.ticks * den c plp) (later * c.ticks * den c plp)
    (mul-le-mul_right (den c plp) (mul-le-mul_right c.ticks le))

same_bad : (plp other packet next : ℕ) → plp ≡ other → packet ≡ next
    → (let r : Result GatewayRan GatewayStop = Err (Bad plp packet) in r)
    ≡ Err (Bad other next)
same_bad plp other packet next e f = rw (e, f) refl

ran_of : (f g u v : ℕ) → f ≡ g → u ≡ v → (let r : Result GatewayRan GatewayStop = Ok
    (record { frames = f; units = u }) in r)
    ≡ Ok (record { frames = g; units = v })
ran_of f g u v e h = rw (e, h) refl

same_ran : (ran other : GatewayRan) → ran.frames ≡ other.frames → ran.units ≡ other.units
    → (let r : Result GatewayRan GatewayStop = Ok ran in r)
    ≡ Ok other
same_ran ran other e f = ran_of ran.frames other.frames ran.units other.units e f

module _ (way : Sharing) where
  -- a later frame wants what one wants
  still_wants : (c : Config) (files : ℕ → List ℕ) (frame later plp : ℕ) → frame ≤ later → WantsBad way c files frame plp
      → WantsBad way c files later plp
  still_wants c files frame later plp le w =
      (w.0, (let lt = w.1 in let rises = slots_rise c (place_of way c plp) frame later le in omega (arith, lt, rises)))

  -- the first frame is one
  not_sooner : (c : Config) (files : ℕ → List ℕ) (frame later plp other packet next : ℕ) → frame < later
      → MeetsBad way c files frame plp packet → MeetsBad way c files later other next → ⊥
  not_sooner c files frame later plp other packet next lt a b =
      b.before plp a.place (still_wants c files frame (later - 1) plp (omega (arith, lt)) a.wants)

  same_frame : (c : Config) (files : ℕ → List ℕ) (frame later plp other packet next : ℕ)
      → MeetsBad way c files frame plp packet
      → MeetsBad way c files later other next → frame ≡ later
  same_frame c files frame later plp other packet next a b =
      elim (cases_lt frame later) [
        | inl sooner ↦ absurd (not_sooner c files frame later plp other packet next sooner a b)
        | inr le ↦ elim (cases_lt later frame) [
          | inl sooner ↦ absurd (not_sooner c files later frame other plp next packet sooner b a)
          | inr ge ↦ omega (arith, le, ge)
        ]
      ]

  same_plp : (c : Config) (files : ℕ → List ℕ) (frame plp other packet next : ℕ) → MeetsBad way c files frame plp packet
      → MeetsBad way c files frame other next → plp ≡ other
  same_plp c files frame plp other packet next a b =
      let size : ℕ → ℕ = λ input. length (packets_in (files input)) in
      elim (before_or way c plp (size plp) other (size other)) [
        | inl sooner ↦
            absurd (b.below plp a.place (subst (λ (n : ℕ). IsBefore way c plp (size plp) other n) (sym b.number) sooner)
            a.wants)
        | inr more ↦ elim more [
          | inl same ↦ same
          | inr later ↦
              absurd (a.below other b.place (subst (λ (n : ℕ). IsBefore way c other (size other) plp n)
              (sym a.number) later) b.wants)
        ]
      ]

  one_bad : (c : Config) (files : ℕ → List ℕ) (frame later plp other packet next : ℕ)
      → MeetsBad way c files frame plp packet
      → MeetsBad way c files later other next
      → (let r : Result GatewayRan GatewayStop = Err (Bad plp packet) in r) ≡ Err (Bad other next)
  one_bad c files frame later plp other packet next a b =
      let f = same_frame c files frame later plp other packet next a b in
      let p = same_plp c files frame plp other packet next a (subst (λ (n : ℕ). MeetsBad way c files n other next)
      (sym f) b) in
      same_bad plp other packet next p (a.number ∙ ap (λ (k : ℕ). length (packets_in (files k))) p ∙ sym b.number)

  never_bad : (c : Config) (files : ℕ → List ℕ) (frame plp packet : ℕ) → MeetsBad way c files frame plp packet
      → frame ≤ MOST_FRAMES
      → MeetsNone way c files MOST_FRAMES → ⊥
  never_bad c files frame plp packet a le none = none plp a.place (still_wants c files frame MOST_FRAMES plp le a.wants)

pub runs_once : OneRun
runs_once way c files (Ok ran) (Ok other) a b = same_ran ran other (a.1 ∙ sym b.1) (a.2 ∙ sym b.2)
runs_once way c files (Ok ran) (Err (Bad plp packet)) a b = absurd (a.0 plp b.1.place b.1.wants.0)
runs_once way c files (Ok ran) (Err TooManyFrames) a b = absurd (let f = a.3 in let t = b.1 in omega (arith, f, t))
runs_once way c files (Err (Bad plp packet)) (Ok ran) a b = absurd (b.0 plp a.1.place a.1.wants.0)
runs_once way c files (Err (Bad plp packet)) (Err (Bad other next)) a b = one_bad way c files a.0 b.0
    plp other packet next a.1 b.1
runs_once way c files (Err (Bad plp packet)) (Err TooManyFrames) a b = absurd
    (never_bad way c files a.0 plp packet a.1 a.2 b.0)
runs_once way c files (Err TooManyFrames) (Ok ran) a b = absurd (let f = b.3 in let t = a.1 in omega (arith, f, t))
runs_once way c files (Err TooManyFrames) (Err (Bad plp packet)) a b = absurd
    (never_bad way c files b.0 plp packet b.1 b.2 a.0)
runs_once way c files (Err TooManyFrames) (Err TooManyFrames) a b = refl
