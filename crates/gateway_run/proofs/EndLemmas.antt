-- A run over files has an ending: the first bad packet that a frame wants, or the number of its frames tells.
use Rattle.std.proofs.Common.{◌≡◌, ◌≢◌, ◌⊎◌, ℕ, zero, suc, ◌+◌, ◌-◌, ◌*◌, ◌/◌, ◌<◌, ◌≤◌, List, [], ◌∷◌, length, Result}
use Rattle.std.proofs.Common.{Ok, Err, refl, ap, subst, ◌∙◌, inl, inr, arith}
use Rattle.std.proofs.Math.Decide.{dec_lt}
use Rattle.std.proofs.Math.Nat.{zero-div}
use Rattle.std.proofs.lemmas.Bool.{cases_lt}
use Rattle.terms.proofs.DecisionLemmas.{as_sum, decide_both, first_other}
use Rattle.plp_config.specs.Capacity.{IsPlan}
use Rattle.plp_config.specs.SlotTime.{slots_by, num, den}
use Rattle.plp_config.specs.declared.config.Config.{Config}
use Rattle.plp_config.specs.declared.moment.TheConstants.{MOST_FRAMES}
use Rattle.ts_packet.specs.TsFile.{packets_in, left_in}
use Rattle.gateway_core.specs.Laws.{NotYetLast}
use Rattle.common_plp.specs.Inputs.{place_of, input_count, streams_by}
use Rattle.common_plp.specs.Laws.{SplitLength}
use Rattle.common_plp.specs.Sharing.{Sharing}
use Rattle.common_plp.proofs.InputLemmas.{place_inside}
use Rattle.gateway_run.specs.GatewayRun.{inputs_of, frames_of, units_of, Wants, WantsBad, MeetsBad, MeetsNone}
use Rattle.gateway_run.specs.Laws.{MustRun, RunEnds}
use Rattle.gateway_run.specs.declared.stop.GatewayRan.{GatewayRan}
use Rattle.gateway_run.specs.declared.stop.GatewayStop.{GatewayStop}
use Rattle.gateway_run.specs.declared.stop.GatewayStop.TheVariants.{Bad, TooManyFrames}
use Rattle.gateway_run.proofs.OrderLemmas.{IsFirstOf, none_or_first}
use Rattle.gateway_run.proofs.StreamLemmas.{OwnLength, own_length}

decide_some : (bytes : List ℕ) → Dec (bytes ≢ [])
decide_some [] = no (λ h. h refl)
decide_some (b ∷ bytes) = yes (λ e. cc)

module _ (way : Sharing) where
  decide_wants : (c : Config) (files : ℕ → List ℕ) (frame plp : ℕ) → Dec (WantsBad way c files frame plp)
  decide_wants c files frame plp =
      decide_both (decide_some (left_in (files plp))) (dec_lt (length (packets_in (files plp)))
      (slots_by c (place_of way c plp) (frame * c.ticks)))

  -- the first input of which a frame wants a bad packet
  abbrev WantsFirst : Config → (ℕ → List ℕ) → ℕ → Type 0
  WantsFirst c files frame = (plp : ℕ)
      × IsFirstOf way c (WantsBad way c files frame) (λ k. length (packets_in (files k))) (input_count way c) plp

  none_or_bad_of : (c : Config) (files : ℕ → List ℕ) (frame : ℕ) → MeetsNone way c files frame
      ⊎ WantsFirst c files frame
  none_or_bad_of c files frame =
      none_or_first way c (WantsBad way c files frame) (λ k. length (packets_in (files k)))
      (λ plp. as_sum (decide_wants c files frame plp)) (input_count way c)

  -- frame 0 wants nothing
  none_at_first : (c : Config) (files : ℕ → List ℕ) (plp : ℕ) → ¬ (WantsBad way c files 0 plp)
  none_at_first c files plp wants =
      let start : 0 * c.ticks * den c (place_of way c plp) ≡ 0 = omega arith in
      let none : slots_by c (place_of way c plp) (0 * c.ticks) ≡ 0 = ap (λ (n : ℕ). n / num c) start
      ∙ zero-div (num c) in
      let lt = wants.1 in omega (arith, lt, none)

  none_before : (c : Config) (files : ℕ → List ℕ) (frame plp : ℕ) → WantsBad way c files frame plp
      → ((earlier : ℕ) → earlier < frame → MeetsNone way c files earlier) → MeetsNone way c files (frame - 1)
  none_before c files zero plp wants all = absurd (none_at_first c files plp wants)
  none_before c files (suc frame) plp wants all = let same : frame ≡ suc frame - 1 = omega arith in
      subst (λ (n : ℕ). MeetsNone way c files n) same (all frame (omega arith))

  -- the first bad packet that a frame below a count wants, or none
  abbrev FirstBad : Config → (ℕ → List ℕ) → ℕ → Type 0
  FirstBad c files count = (frame : ℕ) × (frame < count)
      × ((plp : ℕ) × MeetsBad way c files frame plp (length (packets_in (files plp))))

  none_or_bad : (c : Config) (files : ℕ → List ℕ) (count : ℕ) → ((frame : ℕ) → frame < count
      → MeetsNone way c files frame)
      ⊎ FirstBad c files count
  none_or_bad c files count =
      elim (first_other (MeetsNone way c files) (WantsFirst c files) (none_or_bad_of c files) count) [
        | inl all ↦ inl all
        | inr found ↦
            let first = found.2 in
            inr (
              found.0,
              found.1,
              (
                first.0,
                record {
                  place = first.1.inside;
                  number = refl;
                  wants = first.1.holds;
                  before = none_before c files found.0 first.0 first.1.holds found.3;
                  below = first.1.first;
                },
              ),
            )
      ]

  -- a bad packet is wanted by the frame behind the last one, if so many come
  wanted_late : NotYetLast → OwnLength way → (c : Config) (files : ℕ → List ℕ) (plp most : ℕ) → IsPlan c
      → plp < input_count way c → frames_of way c files ≤ most → Wants way c most plp (length (packets_in (files plp)))
  wanted_late law own c files plp most plan lt few =
      elim (cases_lt (length (packets_in (files plp))) (slots_by c (place_of way c plp) (most * c.ticks))) [
        | inl less ↦ less
        | inr all ↦
            let size = own c (inputs_of files) plp plan.rules lt in
            absurd (let more = law c (λ k. length (streams_by way c (inputs_of files) k)) (place_of way c plp) most plan
            (place_inside way c plp lt) (omega (arith, all, size)) in omega (arith, more, few))
      ]

  ends_by : NotYetLast → OwnLength way → (c : Config) (files : ℕ → List ℕ) → IsPlan c
      → (result : Result GatewayRan GatewayStop) × MustRun way c files result
  ends_by law own c files plan =
      elim (none_or_bad c files (MOST_FRAMES + 1)) [
        | inr bad ↦ (
          Err (Bad bad.2.0 (length (packets_in (files bad.2.0)))),
          (bad.0, bad.2.1, (let lt = bad.1 in omega (arith, lt))),
        )
        | inl all ↦
            let none : MeetsNone way c files MOST_FRAMES = all MOST_FRAMES (omega arith) in
            elim (cases_lt MOST_FRAMES (frames_of way c files)) [
              | inl more ↦ (Err TooManyFrames, (none, more))
              | inr few ↦ (
                Ok (record { frames = frames_of way c files; units = length (units_of way c files) }),
                (
                  (λ plp lt bad. none plp lt (bad, wanted_late law own c files plp MOST_FRAMES plan lt few)),
                  refl,
                  refl,
                  few,
                ),
              )
            ]
      ]

pub run_ends : NotYetLast → SplitLength → RunEnds
run_ends law split way c files plan = ends_by way law (own_length split way) c files plan
