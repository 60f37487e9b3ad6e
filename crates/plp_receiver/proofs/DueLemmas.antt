-- What is due of a PLP and of the common one of its group.
use Rattle.std.proofs.Common.{◌≡◌, ℕ, ◌-◌, ◌<◌, max, List, length, Option, Some, None, refl, ap, sym, subst, ◌∙◌, arith}
use Rattle.plp_receiver.specs.StandsFor.{TellsDue}
use Rattle.plp_config.specs.Rules.{AllRules}
use Rattle.plp_config.specs.declared.config.Config.{Config}
use Rattle.site_frame.specs.declared.reading.RecordView.{RecordView}
use Rattle.plp_receiver.specs.Epochs.{Readback}
use Rattle.plp_receiver.specs.StandsFor as one
use Rattle.plp_receiver.specs.declared.receiver.Receiver.{Receiver}
use Rattle.common_plp.specs.Laws as common
use Rattle.common_plp.specs.Laws.{JoinedSlots}
use Rattle.common_plp.specs.Split.{joined}
use Rattle.plp_receiver.specs.Both.{KeepsStep, InStep, CommonTellsDue}
use Rattle.plp_receiver.specs.JoinedBack.{JoinsReadbacks, JoinedBackWith}
use Rattle.plp_receiver.specs.JointStandsFor.{CommonStandsFor, common_at, common_due}
use Rattle.plp_receiver.proofs.LengthLemmas.{same_length}

-- what the other receiver tells, in the words of this one's network
common_told : (own v : Receiver) → KeepsStep own v → TellsDue v → (first : ℕ) (views : List RecordView) (released : ℕ)
    → one.ReceiverStandsFor v first views released
    → (packets : List (List ℕ)) × Readback (one.network_of own) (one.plp_of v) first views packets
    × (one.due_of v ≡ length packets - released)
common_told own v step due first views released s =
    let d = due first views released s in
    (d.0, subst (λ (c : Config). Readback c (one.plp_of v) first views d.0) step.network d.1, d.2)

-- Two receivers in step, of a network that keeps the rules, and what is due of each.
pub record OfPlan (own : Receiver) (other : Option Receiver) : Type 0 where
  pub law : common.InStep
  pub slots : JoinedSlots
  pub rules : AllRules (one.network_of own)
  pub inside : one.plp_of own < length (one.network_of own).plps
  pub step : InStep own other
  pub due : TellsDue own
  pub tells : CommonTellsDue other

pub of_plan : common.InStep → JoinedSlots → (own : Receiver) (other : Option Receiver) (c : Config)
    → one.network_of own ≡ c → AllRules c → one.plp_of own < length c.plps → InStep own other → TellsDue own
    → CommonTellsDue other → OfPlan own other
of_plan law slots own other c same rules inside step due tells = grind arith

-- what both tell, of as many slots
pub record BothTold (own v : Receiver) (first : ℕ) (views : List RecordView) (released : ℕ) : Type 0 where
  pub shared : List (List ℕ)
  pub back_shared : Readback (one.network_of own) (one.plp_of v) first views shared
  pub due_shared : one.due_of v ≡ length shared - released
  pub mine : List (List ℕ)
  pub back_mine : Readback (one.network_of own) (one.plp_of own) first views mine
  pub due_mine : one.due_of own ≡ length mine - released
  pub same_slots : length shared ≡ length mine

both_told : (own v : Receiver) → OfPlan own (Some v) → (first : ℕ) (views : List RecordView) (released : ℕ)
    → one.ReceiverStandsFor own first views released → one.ReceiverStandsFor v first views released
    → BothTold own v first views released
both_told own v p first views released s t =
    let k = p.step.both v refl in
    let a = p.due first views released s in
    let b = common_told own v k p.tells first views released t in
    record {
      shared = b.0;
      back_shared = b.1;
      due_shared = b.2;
      mine = a.0;
      back_mine = a.1;
      due_mine = a.2;
      same_slots = same_length p.law (one.network_of own) (one.plp_of own) (one.plp_of v) p.rules p.inside k.place
          first views b.0 a.0 b.1 a.1;
    }

-- both have as many slots due
pub equal_due : (own v : Receiver) → OfPlan own (Some v) → (first : ℕ) (views : List RecordView) (released : ℕ)
    → one.ReceiverStandsFor own first views released → one.ReceiverStandsFor v first views released
    → one.due_of v ≡ one.due_of own
equal_due own v p first views released s t =
    let b = both_told own v p first views released s t in
    b.due_shared ∙ ap (λ (n : ℕ). n - released) b.same_slots ∙ sym b.due_mine

-- there is a list of packets that both are given back, and of it so many are due
pub told : (own : Receiver) (other : Option Receiver) → OfPlan own other → (first : ℕ) (views : List RecordView)
    (released : ℕ) → one.ReceiverStandsFor own first views released → CommonStandsFor other first views released
    → (packets : List (List ℕ)) × JoinedBackWith (common_at other) (one.network_of own) (one.plp_of own)
    first views packets
    × (max (one.due_of own) (common_due other) ≡ length packets - released)
told own None p first views released s t =
    let a = p.due first views released s in (a.0, a.1, (let d = a.2 in omega (arith, d)))
told own (Some v) p first views released s t =
    let b = both_told own v p first views released s t in
    let both : JoinsReadbacks (one.network_of own) (one.plp_of v) (one.plp_of own) first views
    (joined b.shared b.mine) = record {
      shared = b.shared;
      back_shared = b.back_shared;
      own = b.mine;
      back_own = b.back_mine;
      same_slots = b.same_slots;
      packets_are = refl;
    } in
    let n = p.slots.count b.shared b.mine in
    (joined b.shared b.mine, both, omega (arith, b.due_shared, b.due_mine, n, b.same_slots))
