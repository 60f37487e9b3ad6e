-- Epochs of one frame.
use Rattle.std.proofs.Common.{◌≡◌, ℕ, ◌+◌, ◌-◌, ◌*◌, ◌/◌, List, map, ap, ◌∙◌, arith}
use Rattle.std.specs.List.{range_with_len}
use Rattle.plp_config.specs.SlotTime.{slot_count, delay_ticks}
use Rattle.plp_receiver.specs.declared.slot_rule.SlotRule.{SlotRule}
use Rattle.plp_config.specs.SlotTimes.{delay_of, over_by}
use Rattle.plp_receiver.specs.Times.{epoch_of, last_frame, over_after, due_after}
use Rattle.plp_receiver.specs.Readback.{slot_packet}
use Rattle.plp_receiver.specs.SlotEpochs.{Epoch, string_of, readback}
use Rattle.plp_receiver.specs.SlotLaws.{IsByFrames}
use Rattle.plp_receiver.specs.Sound.{IsSound}

module _ (r : SlotRule) (sound : IsSound r) (one : r.spread ≡ 1) where
  epoch_is : (frame : ℕ) → epoch_of r frame ≡ frame
  epoch_is frame = ap (λ (k : ℕ). frame / k) one ∙ omega arith

  last_is : (epoch : ℕ) → last_frame r epoch ≡ epoch
  last_is epoch = ap (λ (k : ℕ). epoch * k + k - 1) one ∙ omega arith

  ticks_are : r.times.epoch ≡ r.ticks
  ticks_are = sound.epoch ∙ ap (λ (k : ℕ). k * r.ticks) one ∙ omega arith

  over_is : (epochs : ℕ) → over_by r.times epochs ≡ over_after r epochs
  over_is epochs = ap (λ (t : ℕ). slot_count r.times.num r.times.den (epochs * t)) ticks_are

  delay_is : delay_of r.times ≡ delay_ticks r.times.num r.times.den r.ticks
  delay_is = ap (delay_ticks r.times.num r.times.den) ticks_are

  packets_are : (first count : ℕ) (epochs : List Epoch) → readback r first count epochs
      ≡ map (slot_packet r (string_of r.up_len first epochs))
      (range_with_len (over_after r (first - 1)) (due_after r (first + count) - over_after r (first - 1)))
  unfolding readback
  packets_are first count epochs = grind (arith, epoch_is)

  pub one_frame : IsByFrames r
  one_frame = grind (arith, epoch_is, last_is, over_is, delay_is, packets_are)
