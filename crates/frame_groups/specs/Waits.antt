-- The record that waits.
use Rattle.std.specs.Prelude.{◌≡◌, ℕ, ◌+◌, ◌-◌, ◌*◌, ◌^◌, ◌≤◌, ◌==◌, ◌&&◌, ◌||◌, not, nat_lt, Bool, Option, Some, None}
use Rattle.std.specs.Prelude.{is_some, if◌then◌else◌}
use Rattle.frame_groups.specs.declared.cause.MuteCause.{MuteCause}
use Rattle.frame_groups.specs.declared.cause.MuteCause.TheVariants.{Gap}
use Rattle.frame_groups.specs.Numbers.{superframe_period}
use Rattle.frame_groups.specs.declared.waiting.Progress.{Progress}
use Rattle.frame_groups.specs.declared.waiting.Waiting.{Waiting}

-- a frame before the group's number; else the group's own, once it is closed
abbrev pub waiting_by : Option ℕ → ℕ → Bool → Option MuteCause → Option Waiting
waiting_by None next closing fault = None
waiting_by (Some n) next closing fault =
    if nat_lt next n then Some (record { frame = next; mute = Some Gap })
    else if closing && (next == n) then Some (record { frame = n; mute = fault })
    else None

abbrev pub waits_by : Option ℕ → ℕ → Bool → Option MuteCause → Bool
waits_by number next closing fault = is_some (waiting_by number next closing fault)

abbrev pub waiting_of : Progress → Option Waiting
waiting_of p = waiting_by p.number p.next p.closing p.fault

abbrev pub waits : Progress → Bool
waits p = is_some (waiting_of p)

-- The packets of the group are still wanted: it is under way, or its own record does not wait yet.
abbrev pub wants_by : Option ℕ → ℕ → Bool → Bool
wants_by None next closing = not closing
wants_by (Some n) next closing = not closing || nat_lt next n

abbrev pub wants_packets : Progress → Bool
wants_packets p = wants_by p.number p.next p.closing

-- A number is above the one before it by so much at most: a superframe has 255 frames at most.
abbrev pub greatest_step : ℕ
greatest_step = superframe_period * 255

-- the greatest number that a group can have
abbrev pub most_number : ℕ
most_number = 2 ^ 32 - 1

-- the most records that a group can still bring: those up to its number, or of a group under way whose number is not
-- known its own
abbrev pub records_by : Option ℕ → ℕ → Bool → ℕ
records_by None next closing = if closing then 0 else 1
records_by (Some n) next closing = n + 1 - next

abbrev pub records_left : Progress → ℕ
records_left p = records_by p.number p.next p.closing

-- They are no more than these.
abbrev pub most_records : ℕ
most_records = most_number + 1

-- The group under way has no number above a bound.
abbrev pub IsWithin : ℕ → Progress → Type 0
IsWithin bound p = (n : ℕ) → p.number ≡ Some n → n ≤ bound
