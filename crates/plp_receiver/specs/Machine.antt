-- The machine that finds user packets item by item. No public clause cites this module.
use Rattle.std.specs.Prelude.{◌≡◌, ◌≢◌, ℕ, ◌+◌, ◌-◌, ◌<◌, nat_lt, Bool, true, false, List, [], ◌∷◌, ◌++◌, length, drop}
use Rattle.std.specs.Prelude.{Option, None, if◌then◌else◌}
use Rattle.plp_receiver.specs.declared.mark.Mark.{Mark}
use Rattle.plp_receiver.specs.declared.slot_rule.SlotRule.{SlotRule}
use Rattle.plp_receiver.specs.Strings.{Item}
use Rattle.plp_receiver.specs.declared.mark.Mark.TheVariants.{Gap, Inside, Next, Timed}
use Rattle.plp_receiver.specs.Packets.{UserPacket, is_one, slot_of, slot_before, slots_at, with_slot}

-- the bytes of the user packet that may go on, and the slot of the complete one before them
pub record State : Type 0 where
  pub held : List Item
  pub before : Option ℕ

pub record Turn : Type 0 where
  pub state : State
  pub given : List UserPacket

abbrev pub state_of : List Item → Option ℕ → State
state_of held before = record { held = held; before = before }

abbrev pub turn_of : State → List UserPacket → Turn
turn_of state given = record { state = state; given = given }

-- the slot before a user packet that begins now
abbrev pub before_next : List Item → Option ℕ → Option ℕ
before_next [] before = before
before_next (x ∷ xs) before = None

-- the bytes are a whole user packet
abbrev pub ended : SlotRule → List Item → Option ℕ → Turn
ended r w before = turn_of (state_of [] (slot_of r w before)) (with_slot w (slot_of r w before))

abbrev pub grown : SlotRule → List Item → Option ℕ → Turn
grown r w before = if nat_lt (length w) r.up_len then turn_of (state_of w before) [] else ended r w before

abbrev pub inside : SlotRule → List Item → Option ℕ → Item → Turn
inside r [] before x = turn_of (state_of [] None) []
inside r (y ∷ ys) before x = grown r (y ∷ ys ++ x ∷ []) before

abbrev pub turn_by : SlotRule → List Item → Option ℕ → Item → Mark → Turn
turn_by r held before x Gap = turn_of (state_of [] None) []
turn_by r held before x Inside = inside r held before x
turn_by r held before x Next = turn_of (state_of (x ∷ []) (before_next held before)) []
turn_by r held before x (Timed iscr) = turn_of (state_of (x ∷ []) (before_next held before)) []

unfoldable pub turn : SlotRule → State → Item → Turn
turn r s x = turn_by r s.held s.before x x.mark

-- behind some items, with all that was given
abbrev pub after : SlotRule → State → List Item → State
after r s [] = s
after r s (x ∷ xs) = after r (turn r s x).state xs

abbrev pub given : SlotRule → State → List Item → List UserPacket
given r s [] = []
given r s (x ∷ xs) = (turn r s x).given ++ given r (turn r s x).state xs

abbrev pub idle_or_one : List Item → Bool
idle_or_one [] = true
idle_or_one (x ∷ xs) = is_one (x ∷ xs)

-- the state behind a string
pub record Follows (r : SlotRule) (z : List Item) (s : State) : Type 0 where
  pub before : s.before ≡ slot_before r (slots_at r z (length z - length s.held))
  pub tail : drop (length z - length s.held) z ≡ s.held
  pub short : length s.held < r.up_len
  pub begins : idle_or_one s.held ≡ true
  pub others : (x : ℕ) → x < length z → length z < x + r.up_len → x ≢ length z - length s.held
      → is_one (drop x z) ≡ false
