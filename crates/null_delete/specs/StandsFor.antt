-- What a `Deleter` and an `Inserter` stand for.
use Rattle.std.specs.Prelude.{◌≡◌, ℕ, Bool, List, length}
use Rattle.null_delete.specs.declared.deleter.Deleter.{Deleter}
use Rattle.null_delete.specs.declared.inserter.Inserter.{Inserter}
use Rattle.null_delete.specs.Deletion.{is_kept, dnp, nulls_of, slot_after}

-- the dnp of the packet that comes behind others, if it is kept
unfoldable pub next_dnp : Bool → List (List ℕ) → ℕ
next_dnp deletes packets = dnp (is_kept deletes (nulls_of packets)) (length packets)

-- its mode, and the packets pushed so far
unfoldable pub DeleterStandsFor : Deleter → Bool → List (List ℕ) → Type 0
DeleterStandsFor d on packets = (d.deletes ≡ on) × (d.deleted ≡ next_dnp on packets)

-- its first slot, and the dnps pushed so far
unfoldable pub InserterStandsFor : Inserter → ℕ → List ℕ → Type 0
InserterStandsFor i first dnps = i.slot ≡ slot_after first dnps

-- the slot of the last packet
abbrev pub slot_of : Inserter → ℕ
slot_of i = i.slot
