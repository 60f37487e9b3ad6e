-- What a window shows of a string. No public clause cites this module.
use Rattle.std.specs.Prelude.{◌≡◌, ℕ, ◌-◌, ◌≤◌, ◌<◌, List, map, Option}
use Rattle.std.specs.List.{range_with_len, AllByRecursion}
use Rattle.plp_receiver.specs.declared.slot_rule.SlotRule.{SlotRule}
use Rattle.plp_receiver.specs.Strings.{Item}
use Rattle.plp_receiver.specs.Packets.{UserPacket, window}
use Rattle.plp_receiver.specs.Readback.{slot_option}

pub record Shows (r : SlotRule) (z : List Item) (first end : ℕ) (slots : List (Option (List ℕ))) : Type 0 where
  pub order : first ≤ end
  pub slots_are : slots ≡ map (slot_option r z) (range_with_len first (end - first))

-- a user packet that begins at a place from n on and ends within the string
pub record From (r : SlotRule) (z : List Item) (n end : ℕ) (up : UserPacket) : Type 0 where
  pub place : ℕ
  pub least : n ≤ place
  pub below : place < end
  pub items_are : up.items ≡ window r z place

abbrev pub UpTo : ℕ → List Item → Type 0
UpTo epoch z = AllByRecursion (λ x. x.epoch ≤ epoch) z

abbrev pub Since : ℕ → List Item → Type 0
Since epoch z = AllByRecursion (λ x. epoch ≤ x.epoch) z
