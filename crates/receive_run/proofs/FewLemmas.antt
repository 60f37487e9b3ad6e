-- A run gives out fewer packets than a number holds.
use Rattle.std.proofs.Common.{◌≡◌, ℕ, ◌+◌, ◌-◌, ◌*◌, ◌^◌, ◌<◌, ◌≤◌, List, length, Option, Some, None, ap, ◌∙◌, arith}
use Rattle.std.specs.Int.{div_ceil}
use Rattle.std.proofs.Math.Nat.{div-le_of_le-mul, mul-le-mul, mul-le-mul_left}
use Rattle.plp_config.specs.Laws.{FrameTicks, SoundTimes}
use Rattle.plp_config.specs.Rules.{AllRules}
use Rattle.plp_config.specs.SlotTimes.{delay_of}
use Rattle.plp_config.specs.declared.config.Config.{Config}
use Rattle.plp_config.specs.declared.moment.TheConstants.{MOST_FRAMES}
use Rattle.site_frame.specs.declared.reading.RecordView.{RecordView}
use Rattle.plp_receiver.specs.SlotEpochs.{first_slot}
use Rattle.plp_receiver.specs.Times.{due_after}
use Rattle.plp_receiver.specs.declared.slot_rule.SlotRule.{SlotRule}
use Rattle.plp_receiver.proofs.SlotsStandLemmas.{length_readback}
use Rattle.plp_receiver.specs.Epochs.{slot_rule, Readback}
use Rattle.common_plp.specs.Laws.{JoinedSlots}
use Rattle.plp_receiver.specs.JoinedBack.{JoinedBackWith}

-- slots that last a tick or more are no more than ticks
count_few : (n d t : ℕ) → d ≤ n → div_ceil (t * d) n ≤ t + 1
count_few n d t l =
    let wide : t * d ≤ n * t = (let e : t * n ≡ n * t = omega arith in let m = mul-le-mul_left {m = d} {n = n} t l in
    omega (arith, e, m)) in
    let q = div-le_of_le-mul n {m = t * d} {n = t} wide in
    omega (arith, q)

few_packets : FrameTicks → SoundTimes → (c : Config) (plp first : ℕ) (views : List RecordView) (packets : List (List ℕ))
    → AllRules c → plp < length c.plps → first + length views ≤ MOST_FRAMES → Readback c plp first views packets
    → length packets < 2 ^ 64
few_packets frame times c plp first views packets rules inside small b =
    let r : SlotRule = slot_rule c plp in
    let sound = times c plp rules inside in
    let frames : ℕ = first + length views in
    let count : length packets ≡ due_after r frames - first_slot r first = ap length b.packets_are
    ∙ length_readback r first (length views) b.told in
    let ticks = (frame c rules).1 in
    let short : r.ticks ≤ 2 ^ 22 = omega (arith, ticks) in
    let below : frames ≤ 2 ^ 31 = omega (arith, small) in
    let span : frames * r.ticks ≤ 2 ^ 31 * 2 ^ 22 = mul-le-mul below short in
    let few = count_few r.times.num r.times.den (frames * r.ticks + 1 - delay_of r.times) sound.long in
    omega (arith, count, few, span)

-- so it is of a PLP with which another is joined
pub few_joined : JoinedSlots → FrameTicks → SoundTimes → (joins : Option ℕ) (c : Config) (plp first : ℕ)
    (views : List RecordView)
    (packets : List (List ℕ)) → AllRules c → plp < length c.plps → first + length views ≤ MOST_FRAMES
    → JoinedBackWith joins c plp first views packets → length packets < 2 ^ 64
few_joined slots frame times None c plp first views packets rules inside small b =
    few_packets frame times c plp first views packets rules inside small b
few_joined slots frame times (Some common) c plp first views packets rules inside small b =
    let few = few_packets frame times c plp first views b.own rules inside small b.back_own in
    let size = ap length b.packets_are in
    let count = slots.count b.shared b.own in
    omega (arith, few, size, count)
