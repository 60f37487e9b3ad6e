-- What happens to a window.
use Rattle.std.specs.Prelude.{◌≤◌, ℕ, Bool, ◌+◌, ◌-◌, nat_lt, List, ◌++◌, replicate, drop, get_or, unwrap_or, None}
use Rattle.std.specs.Prelude.{if◌then◌else◌}
use Rattle.std.specs.declared.option.Option.{Option}
use Rattle.ts_packet.specs.Null.{null_packet}
use Rattle.plp_receiver.specs.declared.slot_rule.SlotRule.{SlotRule}
use Rattle.plp_receiver.specs.SlotEpochs.{first_slot}
use Rattle.plp_receiver.specs.Filling.{filled}
use Rattle.plp_receiver.specs.Times.{over_after, due_after}
use Rattle.plp_receiver.specs.declared.window.SlotWindow.{SlotWindow}

-- the slots from one on and before another, each with its packet once that came; those before a third one are due
pub record Status : Type 0 where
  pub rule : SlotRule
  pub slots : List (Option (List ℕ))
  pub first : ℕ
  pub end : ℕ
  pub due_end : ℕ

abbrev pub status_of : SlotWindow → Status
status_of w = record { rule = w.rule; slots = w.slots.items; first = w.first; end = w.end; due_end = w.due_end }

-- a window that begins with the first slot of the output
abbrev pub begun : Status → ℕ → Status
begun s frame =
    record s { first = first_slot s.rule frame; end = first_slot s.rule frame; due_end = due_after s.rule frame }

-- the slots of a frame came into it
abbrev pub entered : Status → ℕ → Status
entered s frame = record s {
  slots = s.slots ++ replicate (over_after s.rule frame - s.end) None;
  end =
      over_after s.rule frame;
}

-- the packet of a slot came, unless the slot was given out, or has one
abbrev pub put_in : Status → ℕ → List ℕ → Status
put_in s slot packet = record s {
  slots = if nat_lt slot s.first then s.slots else filled s.slots (slot - s.first)
      packet;
}

-- a frame has ended
abbrev pub left : Status → ℕ → Status
left s frame = record s { due_end = due_after s.rule (frame + 1) }

-- a window whose slots end here, in a frame or before it: the slots of the frame came, or at least those that are over
-- when no frame of an epoch before it came yet
pub record Reaches (r : SlotRule) (in_frame : Bool) (frame end : ℕ) : Type 0 where
  pub least : over_after r (if in_frame then frame else frame - r.spread) ≤ end
  pub most : end ≤ over_after r frame

-- the slot at the front was given out
abbrev pub given : Status → Status
given s = record s { slots = drop 1 s.slots; first = s.first + 1 }

-- its packet, or a null packet
abbrev pub front_packet : Status → List ℕ
front_packet s = unwrap_or (get_or s.slots 0 None) null_packet
