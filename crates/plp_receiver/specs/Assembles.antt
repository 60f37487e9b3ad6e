-- What an `Assembler` stands for.
use Rattle.std.specs.Prelude.{◌≡◌, ℕ, ◌-◌, ◌<◌, ◌++◌, ◌==◌, slice_index, min, option_map, true, false, List, [], ◌∷◌}
use Rattle.std.specs.Prelude.{take, Option, Some, None, if◌then◌else◌}
use Rattle.plp_config.specs.declared.moment.TheConstants.{MOST_FRAMES, ISCR_TICKS}
use Rattle.plp_receiver.specs.declared.slot_rule.SlotRule.{SlotRule}
use Rattle.plp_receiver.specs.declared.assembler.Assembler.{Assembler}
use Rattle.plp_receiver.specs.declared.assembler.Base.{Base}
use Rattle.plp_receiver.specs.declared.assembler.Found.{Found}
use Rattle.plp_receiver.specs.declared.mark.Mark.{Mark}
use Rattle.plp_receiver.specs.declared.mark.Mark.TheVariants.{Gap, Inside, Next, Timed}
use Rattle.plp_receiver.specs.Strings.{Item, item_values}
use Rattle.plp_config.specs.SlotTimes.{slot_of_iscr}
use Rattle.plp_receiver.specs.Packets.{UserPacket, user_packets, first_item, last_item}
use Rattle.plp_receiver.specs.Machine.{State, Follows}
use Rattle.plp_receiver.specs.Base.{Holds, slot_with, far}

abbrev pub IsEpoch : ℕ → Mark → Type 0
IsEpoch epoch Gap = ⊥
IsEpoch epoch Inside = epoch < MOST_FRAMES
IsEpoch epoch Next = epoch < MOST_FRAMES
IsEpoch epoch (Timed iscr) = (epoch < MOST_FRAMES) × (iscr < ISCR_TICKS)

abbrev pub next_base : SlotRule → ℕ → Base → Mark → ℕ → Base
next_base r len kept Gap epoch = record { timed = false; slot = None; epoch = epoch }
next_base r len kept Inside epoch = kept
next_base r len kept Next epoch = record { timed = false; slot = if len == 0 then kept.slot else None; epoch = epoch }
next_base r len kept (Timed iscr) epoch = record { timed = true; slot = slot_of_iscr r.times epoch iscr; epoch = epoch }

pub record AssemblerStands (r : SlotRule) (len : ℕ) (held : List ℕ) (kept : Base) (z : List Item) : Type 0 where
  pub state : State
  pub follows : Follows r z state
  pub holds : Holds r state len held kept

-- the string of the data fields so far, joined
unfoldable pub AssemblerStandsFor : Assembler → SlotRule → List Item → Type 0
AssemblerStandsFor a r z = (a.rule ≡ r) × AssemblerStands r a.len a.held a.base z

-- nothing is held, and no user packet ended
pub record IsCleared (old new : Assembler) : Type 0 where
  pub len : new.len ≡ 0
  pub slot : new.base.slot ≡ None
  pub rule : new.rule ≡ old.rule
  pub held : new.held ≡ old.held

abbrev pub found_of : Base → Option ℕ → Option Found
found_of base slot = option_map (λ k. record { slot = k; epoch = base.epoch }) slot

abbrev pub kept_dnp : SlotRule → List ℕ → ℕ
kept_dnp r held = if r.deletes then slice_index held (r.up_len - 1) else 0

pub record Ends (old new : Assembler) (base : Base) (result : Option Found) : Type 0 where
  pub len : new.len ≡ 0
  pub slot : new.base.slot ≡ slot_with base (kept_dnp old.rule old.held)
  pub rule : new.rule ≡ old.rule
  pub held : new.held ≡ old.held
  pub answer : result ≡ found_of base (slot_with base (kept_dnp old.rule old.held))

-- what was found is this user packet, which ended in this epoch, and these are its bytes
pub record IsFound (r : SlotRule) (epoch : ℕ) (held : List ℕ) (found : Found) (up : UserPacket) : Type 0 where
  pub slot : found.slot ≡ min up.slot far
  pub begun : found.epoch ≡ (first_item up.items).epoch
  pub ended : (last_item up.items).epoch ≡ epoch
  pub bytes : take r.up_len held ≡ item_values up.items

abbrev pub Gives : SlotRule → ℕ → List ℕ → Option Found → List UserPacket → Type 0
Gives r epoch held None given = given ≡ []
Gives r epoch held (Some found) given = (up : UserPacket) × IsFound r epoch held found up × (given ≡ up ∷ [])

-- the user packets that a string gains by some items are what was found
pub record Gains (r : SlotRule) (z : List Item) (epoch : ℕ) (more : List Item) (held : List ℕ)
    (result : Option Found) : Type 0 where
  pub given : List UserPacket
  pub packets : user_packets r (z ++ more) ≡ user_packets r z ++ given
  pub gives : Gives r epoch held result given
