-- A PLP and the common one of its group are given back as many packets.
use Rattle.std.proofs.Common.{◌≡◌, ℕ, ◌+◌, ◌-◌, ◌<◌, List, length, Some, ap, ap₂, sym, ◌∙◌}
use Rattle.plp_config.specs.Plps.{spread}
use Rattle.plp_config.specs.Rules.{AllRules}
use Rattle.plp_config.specs.declared.config.Config.{Config}
use Rattle.plp_config.specs.declared.slot_times.SlotTimes.{SlotTimes}
use Rattle.site_frame.specs.declared.reading.RecordView.{RecordView}
use Rattle.plp_receiver.specs.SlotEpochs.{first_slot}
use Rattle.plp_receiver.specs.Times.{due_after}
use Rattle.plp_receiver.specs.declared.slot_rule.SlotRule.{SlotRule}
use Rattle.plp_receiver.proofs.SlotsStandLemmas.{length_readback}
use Rattle.plp_receiver.specs.Epochs.{slot_rule, Readback}
use Rattle.common_plp.specs.Groups.{common_of}
use Rattle.common_plp.specs.Laws.{InStep}

-- how many packets a slot rule gives
abbrev slots_of : SlotRule → ℕ → ℕ → ℕ
slots_of r first count = due_after r (first + count) - first_slot r first

-- a rule with these times and this spread
abbrev rule_with : SlotRule → SlotTimes → ℕ → SlotRule
rule_with r times spread = record r { times = times; spread = spread }

count_is : (c : Config) (plp first : ℕ) (views : List RecordView) (packets : List (List ℕ))
    → Readback c plp first views packets
    → length packets ≡ slots_of (slot_rule c plp) first (length views)
count_is c plp first views packets b =
    ap length b.packets_are ∙ length_readback (slot_rule c plp) first (length views) b.told

pub same_length : InStep → (c : Config) (plp common : ℕ) → AllRules c → plp < length c.plps
    → common_of c plp ≡ Some common
    → (first : ℕ) (views : List RecordView) (shared own : List (List ℕ)) → Readback c common first views shared
    → Readback c plp first views own → length shared ≡ length own
same_length step c plp common rules inside is first views shared own a b =
    let s = step c plp common rules inside is in
    count_is c common first views shared a
    ∙ ap₂ (λ (t : SlotTimes) (p : ℕ). slots_of (rule_with (slot_rule c plp) t p) first (length views)) s.0 s.1
    ∙ sym (count_is c plp first views own b)
