-- What an input stands for.
use Rattle.std.specs.Prelude.{◌≡◌, ◌≤◌, ℕ, ◌-◌, ◌*◌, Bool, false, List, ◌++◌, length, replicate, Some, None, is_some}
use Rattle.std.specs.Prelude.{if◌then◌else◌}
use Rattle.std.specs.Int.{div_ceil}
use Rattle.std.specs.declared.option.Option.{Option}
use Rattle.plp_config.specs.Plps.{spread}
use Rattle.plp_config.specs.SlotTime.{slots_by, epoch_ticks}
use Rattle.plp_config.specs.declared.config.Config.{Config}
use Rattle.ts_packet.specs.Null.{null_packet}
use Rattle.linked_pool.specs.Pool.{State}
use Rattle.mode_adapt.specs.Events as queue
use Rattle.mode_adapt.specs.Place.{HasPlace}
use Rattle.mode_adapt.specs.StandsFor.{ChainStandsFor, most_blocks, early_blocks}
use Rattle.mode_adapt.specs.declared.chain.Chain.{Chain}
use Rattle.gateway_core.specs.Lists.{bits_in}
use Rattle.gateway_core.specs.InputSoFar.{Told}
use Rattle.gateway_core.specs.declared.input.Input.{Input}

-- the packets that the next frame still wants; none from an input that ended
abbrev pub wanted : Input → ℕ
wanted i = if is_some i.total then 0 else i.due - i.slot

-- how many interleaving frames of a PLP begin before a frame
abbrev pub begun_before : Config → ℕ → ℕ → ℕ
begun_before c plp frame = div_ceil frame (spread c.plps plp)

-- A chain was given what was offered, and null packets from the end on; it has put these blocks of the next
-- interleaving frame.
-- So many slots are over when the next frame begins, so many have their packets, and so many packets there were at the
-- end.
pub record Fed (chain : Chain) (due slot : ℕ) (total : Option ℕ) (c : Config) (plp : ℕ) (t : Told)
    (early : List (List Bool)) : Type 0 where
  pub events : List queue.Event
  pub stands : ChainStandsFor chain c plp events
  pub nulls : ℕ
  pub given : queue.offered events ≡ t.packets ++ replicate nulls null_packet
  pub cuts : queue.cuts events ≡ begun_before c plp t.frame
  pub due_is : due ≡ slots_by c plp (t.frame * c.ticks)
  -- They are over when the next interleaving frame begins.
  pub within : due ≤ slots_by c plp (queue.cuts events * epoch_ticks c plp)
  pub slot_is : slot ≡ length (queue.offered events)
  pub total_is : total ≡ (if t.ended then Some (length t.packets) else None)
  pub still : t.ended ≡ false → nulls ≡ 0
  pub early_is : early ≡ early_blocks c plp events

abbrev pub IsFed : Input → Config → ℕ → Told → List (List Bool) → Type 0
IsFed i c plp t early = Fed i.chain i.due i.slot i.total c plp t early

-- An input stands for what it was told, and its pool is ready for whatever block its chain puts next.
pub record IsSupplied (i : Input) (pool : State) (list : ℕ) : Type 0 where
  pub config : Config
  pub plp : ℕ
  pub told : Told
  pub place : HasPlace config plp pool list
  pub fed : IsFed i config plp told (bits_in pool list)

-- the greatest number of blocks that an input gives for an interleaving frame
abbrev pub most : Input → ℕ
most i = most_blocks i.chain

-- what null packets leave as it was: the slots that are over when the next frame begins, how many packets there were if
-- the input ended, and that number
pub record Bounds : Type 0 where
  pub due : ℕ
  pub total : Option ℕ
  pub most : ℕ

abbrev pub bounds_of : Input → Bounds
bounds_of i = record { due = i.due; total = i.total; most = most i }
