-- The inputs of a trial.
use Rattle.std.specs.Prelude.{ℕ, zero, suc, ◌+◌, ◌*◌, ◌/◌, ◌%◌, ◌==◌, Bool, List, [], ◌∷◌, ◌++◌, map, flat_map}
use Rattle.std.specs.Prelude.{if◌then◌else◌}
use Rattle.std.specs.List.{range_with_len}
use Rattle.plp_config.specs.SlotTime.{slots_by}
use Rattle.plp_config.specs.declared.config.Config.{Config}
use Rattle.ts_packet.specs.Null.{null_packet}
use Rattle.ts_packet.specs.declared.sizes.TheConstants.{PAYLOAD, SYNC}
use Rattle.trial_run.specs.Draws.{after_one, drawn, after, draws_from}
use Rattle.trial_run.specs.declared.input.TheConstants.{NULL_ONE_OF, FIRST_PID, PAYLOAD_ALONE, COUNTER_VALUES}
use Rattle.trial_run.specs.declared.input.TheConstants.{BYTE_VALUES}

-- the bytes in front of the payload of a packet: its PID with all flags 0, and its continuity_counter
abbrev pub header : ℕ → ℕ → List ℕ
header plp number = SYNC ∷ ((FIRST_PID + plp) / BYTE_VALUES) ∷ ((FIRST_PID + plp) % BYTE_VALUES)
    ∷ (PAYLOAD_ALONE + number % COUNTER_VALUES) ∷ []

-- so many bytes, each a draw modulo 256
unfoldable pub bytes_from : ℕ → ℕ → List ℕ
bytes_from count x = map (λ draw. draw % BYTE_VALUES) (draws_from count x)

-- The packet that is drawn from a number is null.
abbrev pub is_null_from : ℕ → Bool
is_null_from x = drawn x % NULL_ONE_OF == 0

-- that packet, of the PLP at a place, by its number in the input
unfoldable pub packet_from : ℕ → ℕ → ℕ → List ℕ
packet_from plp number x = if is_null_from x then null_packet else header plp number ++ bytes_from PAYLOAD (after_one x)

-- how many draws it takes
unfoldable pub draws_for : ℕ → ℕ
draws_for x = if is_null_from x then 1 else PAYLOAD + 1

-- the number behind so many packets
unfoldable pub behind : ℕ → ℕ → ℕ
behind zero x = x
behind (suc n) x = after (draws_for (behind n x)) (behind n x)

-- the first packets that are drawn from a number for the PLP at a place, joined
unfoldable pub packets_from : ℕ → ℕ → ℕ → List ℕ
packets_from plp count x = flat_map (λ number. packet_from plp number (behind number x)) (range_with_len 0 count)

-- how many packets the input of a PLP has for so many frames: its slots that are over when they are
abbrev pub input_len : Config → ℕ → ℕ → ℕ
input_len c frames plp = slots_by c plp (frames * c.ticks)

-- the input of the PLP at a place, drawn from a number
abbrev pub input_from : Config → ℕ → ℕ → ℕ → List ℕ
input_from c frames plp x = packets_from plp (input_len c frames plp) x

-- the number from which it is drawn, one input behind another
unfoldable pub start_of : Config → ℕ → ℕ → ℕ → ℕ
start_of c frames zero seed = seed
start_of c frames (suc plp) seed = behind (input_len c frames plp) (start_of c frames plp seed)

-- the input of the PLP at a place in a trial
abbrev pub input_of : Config → ℕ → ℕ → ℕ → List ℕ
input_of c frames seed plp = input_from c frames plp (start_of c frames plp seed)
