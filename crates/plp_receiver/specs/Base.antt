-- What an `Assembler` keeps of the machine's state. No public clause cites this module.
use Rattle.std.specs.Prelude.{◌≡◌, ℕ, ◌+◌, ◌^◌, ◌==◌, Bool, false, List, [], ◌∷◌, length, take, Option, if◌then◌else◌}
use Rattle.std.specs.Prelude.{option_map, min}
use Rattle.plp_receiver.specs.declared.mark.Mark.{Mark}
use Rattle.plp_receiver.specs.declared.mark.Mark.TheVariants.{Gap, Inside, Next, Timed}
use Rattle.plp_receiver.specs.declared.slot_rule.SlotRule.{SlotRule}
use Rattle.plp_receiver.specs.declared.assembler.Base.{Base}
use Rattle.plp_receiver.specs.Strings.{Item, item_values}
use Rattle.plp_receiver.specs.Packets.{slot_by}
use Rattle.plp_receiver.specs.Machine.{State}

-- a slot that no range reaches is kept as the least of them
abbrev pub far : ℕ
far = 2 ^ 53

abbrev pub capped : Option ℕ → Option ℕ
capped slot = option_map (λ k. min k far) slot

abbrev pub slot_with : Base → ℕ → Option ℕ
slot_with base dnp = if base.timed then base.slot else option_map (λ k. min (k + 1 + dnp) far) base.slot

-- the slot of what is held, or, if nothing is, of the user packet before
abbrev pub IsBase : SlotRule → List Item → Option ℕ → Base → Type 0
IsBase r [] before base = base.slot ≡ capped before
IsBase r (x ∷ xs) before base = (base.epoch ≡ x.epoch)
    × ((dnp : ℕ) → slot_with base dnp ≡ capped (slot_by r x.mark x.epoch dnp before))

pub record Holds (r : SlotRule) (s : State) (len : ℕ) (held : List ℕ) (kept : Base) : Type 0 where
  pub bytes : take len held ≡ item_values s.held
  pub count : len ≡ length s.held
  pub base : IsBase r s.held s.before kept

abbrev pub next_len : ℕ → Mark → ℕ
next_len len Gap = 0
next_len len Inside = len
next_len len Next = 0
next_len len (Timed iscr) = 0

abbrev pub is_idle : ℕ → Mark → Bool
is_idle len Gap = false
is_idle len Inside = len == 0
is_idle len Next = false
is_idle len (Timed iscr) = false
