-- What `plan` says of a configuration.
use Rattle.std.specs.Prelude.{◌≡◌, ℕ, zero, suc, ◌*◌, List, ◌++◌, length, codes}
use Rattle.std.specs.Fmt.{decimal}
use Rattle.plp_config.specs.Capacity.{Throughput, field_bytes, frame_room, capacity, need_of}
use Rattle.plp_config.specs.Plps.{plp_at}
use Rattle.plp_config.specs.SlotTime.{IsSlotLength, slots_by, delay, window}
use Rattle.plp_config.specs.declared.config.Config.{Config}
use Rattle.config_text.specs.Rows.{band_word}

-- the first line: the bandwidth, ticks of a frame, frames of a superframe, cells of a frame
unfoldable pub network_line : Config → List ℕ
network_line c =
    codes "band=" ++ band_word c.band ++ codes " ticks=" ++ decimal c.ticks ++ codes " frames=" ++ decimal c.frames
    ++ codes " cells=" ++ decimal c.cells ++ codes "\n"

-- of a PLP whose slot lasts n/d ticks: its identifier, the slot, and the delay in ticks
unfoldable pub slot_part : Config → ℕ → ℕ → ℕ → List ℕ
slot_part c plp n d = codes "plp=" ++ decimal (plp_at c.plps plp).id ++ codes " slot=" ++ decimal n ++ codes "/"
    ++ decimal d
    ++ codes " delay=" ++ decimal (delay c plp)

-- bytes of a data field, bytes that the blocks of an interleaving frame carry at most, bytes that it brings, and the
-- cells that the blocks fill in a frame
unfoldable pub size_part : Config → ℕ → List ℕ
size_part c plp =
    codes " field=" ++ decimal (field_bytes c plp) ++ codes " capacity=" ++ decimal (capacity c plp) ++ codes " need="
    ++ decimal (need_of Throughput c plp)
    ++ codes " cells=" ++ decimal (frame_room (plp_at c.plps plp))

-- the slots that a receiver holds at most, and those that are over by the end of one frame, two, three and four
unfoldable pub count_part : Config → ℕ → List ℕ
count_part c plp =
    codes " window=" ++ decimal (window c plp) ++ codes " slots=" ++ decimal (slots_by c plp c.ticks) ++ codes ","
    ++ decimal (slots_by c plp (2 * c.ticks))
    ++ codes "," ++ decimal (slots_by c plp (3 * c.ticks)) ++ codes "," ++ decimal (slots_by c plp (4 * c.ticks))
    ++ codes "\n"

-- the line of a PLP
abbrev pub plp_line : Config → ℕ → ℕ → ℕ → List ℕ
plp_line c plp n d = slot_part c plp n d ++ size_part c plp ++ count_part c plp

-- The text is the first line, and then the lines of so many PLPs.
abbrev pub PlanLines : Config → ℕ → List ℕ → Type 0
PlanLines c zero text = text ≡ network_line c
PlanLines c (suc plp) text = (before : List ℕ) × (n : ℕ) × (d : ℕ) × PlanLines c plp before × IsSlotLength c plp n d
    × (text ≡ before ++ plp_line c plp n d)

-- The text is the lines of a plan.
abbrev pub IsPlanText : Config → List ℕ → Type 0
IsPlanText c text = PlanLines c (length c.plps) text
