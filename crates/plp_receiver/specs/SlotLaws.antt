-- Laws of Readback.
use Rattle.std.specs.Prelude.{◌≡◌, ◌↔◌, ℕ, ◌+◌, ◌-◌, List, ◌++◌, length, map}
use Rattle.std.specs.List.{range_with_len}
use Rattle.plp_config.specs.SlotTime.{delay_ticks}
use Rattle.plp_receiver.specs.declared.slot_rule.SlotRule.{SlotRule}
use Rattle.plp_receiver.specs.Sound.{IsSound}
use Rattle.plp_config.specs.SlotTimes.{delay_of, over_by}
use Rattle.plp_receiver.specs.Times.{epoch_of, last_frame, over_after, due_after}
use Rattle.plp_receiver.specs.Readback.{slot_packet}
use Rattle.plp_receiver.specs.SlotEpochs.{Epoch, HaveEnded, string_of, readback}

-- What comes of later epochs changes no packet that is given out: Readback after the first frames is a prefix of
-- Readback after more.
abbrev pub ReadbackFront : Type 0
ReadbackFront = (r : SlotRule) (first count later : ℕ) (epochs more : List Epoch) → IsSound r
    → HaveEnded r first (first + count) epochs
    → (others : List (List ℕ))
    × (readback r first (count + later) (epochs ++ more) ≡ readback r first count epochs ++ others)

-- If an epoch is one frame, epochs are counted as frames, and each frame ends one.
pub record IsByFrames (r : SlotRule) : Type 0 where
  pub epoch : (frame : ℕ) → epoch_of r frame ≡ frame
  pub last : (epoch : ℕ) → last_frame r epoch ≡ epoch
  pub over : (epochs : ℕ) → over_by r.times epochs ≡ over_after r epochs
  pub delay : delay_of r.times ≡ delay_ticks r.times.num r.times.den r.ticks
  pub ended : (first count : ℕ) (epochs : List Epoch) → HaveEnded r first (first + count) epochs
      ↔ (length epochs ≡ count)
  pub packets : (first count : ℕ) (epochs : List Epoch) → readback r first count epochs
      ≡ map (slot_packet r (string_of r.up_len first epochs))
      (range_with_len (over_after r (first - 1)) (due_after r (first + count) - over_after r (first - 1)))

abbrev pub OneFrame : Type 0
OneFrame = (r : SlotRule) → IsSound r → r.spread ≡ 1 → IsByFrames r
