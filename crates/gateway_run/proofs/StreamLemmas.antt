-- What goes in the PLPs, by the inputs.
use Rattle.std.proofs.Common.{◌≡◌, ℕ, zero, suc, ◌+◌, ◌-◌, ◌<◌, true, false, List, [], ◌∷◌, ◌++◌, length, refl, ap, sym}
use Rattle.std.proofs.Common.{subst, ◌∙◌, inl, inr, ◌⊎◌, arith}
use Rattle.std.proofs.lemmas.Bool.{cases_Bool, cases_eq}
use Rattle.plp_config.specs.Rules.{AllRules}
use Rattle.plp_config.specs.declared.config.Config.{Config}
use Rattle.common_plp.specs.Inputs.{commons, place_of, input_count, streams_by}
use Rattle.common_plp.specs.Laws.{SplitLength}
use Rattle.common_plp.specs.Sharing.{Sharing, Apart, Joint}
use Rattle.common_plp.proofs.InputLemmas.{behind_own, place_own}
use Rattle.gateway_core.specs.Events.{Event, offered, has_ended}
use Rattle.gateway_core.specs.InputSoFar.{Told, told}
use Rattle.gateway_core.proofs.LawLemmas.{frame_count_same}
use Rattle.gateway_core.specs.Order.{turn_of}
use Rattle.gateway_core.proofs.MemberLemmas.{member_input, split_depends}
use Rattle.gateway_run.specs.Inputs.{frames_by, IsLastBy}

-- What goes in the PLP of an input is as long as the input.
abbrev pub OwnLength : Sharing → Type 0
OwnLength way = (c : Config) (inputs : ℕ → List (List ℕ)) (input : ℕ) → AllRules c → input < input_count way c
    → length (streams_by way c inputs (place_of way c input)) ≡ length (inputs input)

pub length_apart : OwnLength Apart
length_apart c inputs input rules lt = refl

pub length_joint : SplitLength → OwnLength Joint
length_joint law c inputs input rules lt =
    let own = place_own c input rules lt in
    let at : input + commons c.plps - commons c.plps ≡ input = omega arith in
    law c (λ plp. inputs (plp - commons c.plps)) (input + commons c.plps)
    ∙ rw own (ap (λ (k : ℕ). length (inputs k)) at)

pub own_length : SplitLength → (way : Sharing) → OwnLength way
own_length law Apart = length_apart
own_length law Joint = length_joint law

-- inputs that are the same give the same streams
joint_same : (c : Config) (f g : ℕ → List (List ℕ)) → AllRules c → ((input : ℕ) → input < input_count Joint c
    → f input ≡ g input)
    → (plp : ℕ) → plp < length c.plps → streams_by Joint c f plp ≡ streams_by Joint c g plp
joint_same c f g rules same plp lt =
    split_depends c (λ k. f (k - commons c.plps)) (λ k. g (k - commons c.plps)) plp lt (λ source inside member.
    let own = member_input c (turn_of c plp) source inside member in
    let behind = behind_own c source own.1 in
    same (source - commons c.plps) (omega (arith, inside, behind)))

pub streams_same : (way : Sharing) (c : Config) (f g : ℕ → List (List ℕ)) → AllRules c
    → ((input : ℕ) → input < input_count way c → f input ≡ g input) → (plp : ℕ) → plp < length c.plps
    → streams_by way c f plp ≡ streams_by way c g plp
streams_same Apart c f g rules same plp lt = same plp lt
streams_same Joint c f g rules same plp lt = joint_same c f g rules same plp lt

pub frames_same : (way : Sharing) (c : Config) (f g : ℕ → List (List ℕ)) → AllRules c
    → ((input : ℕ) → input < input_count way c → f input ≡ g input) → frames_by way c f ≡ frames_by way c g
frames_same way c f g rules same =
    frame_count_same c (λ plp. length (streams_by way c f plp)) (λ plp. length (streams_by way c g plp))
    (λ plp lt. ap (λ (l : List (List ℕ)). length l) (streams_same way c f g rules same plp lt))

-- all inputs ended, or one did not
pub ended_cases : (way : Sharing) (c : Config) (n : ℕ) (events : List Event)
    → ((input : ℕ) → input < n → has_ended (place_of way c input) events ≡ true)
    ⊎ ((input : ℕ) × (input < n) × (has_ended (place_of way c input) events ≡ false))
ended_cases way c zero events = inl (λ input lt. absurd (omega (arith, lt)))
ended_cases way c (suc n) events =
    elim (cases_Bool (has_ended (place_of way c n) events)) [
      | inr off ↦ inr (n, omega arith, off)
      | inl on ↦ elim (ended_cases way c n events) [
        | inr some ↦ inr (some.0, (let lt = some.1 in omega (arith, lt)), some.2)
        | inl all ↦ inl (λ input lt. elim (cases_eq input n) [
          | inl same ↦ subst (λ (k : ℕ). has_ended (place_of way c k) events ≡ true) (sym same) on
          | inr differ ↦ all input (omega (arith, lt, differ))
        ])
      ]
    ]

-- the last frame stays the last behind an event that is nothing to an input
pub still_last : (way : Sharing) (c : Config) (events : List Event) (e : Event) → AllRules c
    → ((j : ℕ) → told j (events ++ e ∷ []) ≡ told j events) → IsLastBy way c events → IsLastBy way c (events ++ e ∷ [])
still_last way c events e rules same last = record {
  ended = λ input lt. ap (λ (t : Told). t.ended) (same (place_of way c input)) ∙ last.ended input lt;
  frames = ap (λ (t : Told). t.frame) (same 0) ∙ last.frames
      ∙ sym (frames_same way c (λ input. offered (place_of way c input) (events ++ e ∷ []))
      (λ input. offered (place_of way c input) events)
      rules (λ input lt. ap (λ (t : Told). t.packets) (same (place_of way c input))));
}
