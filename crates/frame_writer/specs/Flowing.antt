-- What an outlet stands for.
use Rattle.std.specs.Prelude.{◌≤◌, ℕ, ◌+◌, ◌*◌, ◌&&◌, ◌||◌, nat_le, nat_lt, Bool, List, drop, length}
use Rattle.terms.specs.Bits.{bytes_of}
use Rattle.ts_packet.specs.declared.sizes.TheConstants.{PAYLOAD}
use Rattle.plp_config.specs.declared.config.Config.{Config}
use Rattle.t2mi_packet.specs.declared.packet.Body.{Body}
use Rattle.t2mi_stream.specs.PiperStandsFor.{PiperStandsFor, waiting_of, is_finished}
use Rattle.frame_writer.specs.Carried.{Carries}
use Rattle.frame_writer.specs.declared.flow.Outlet.{Outlet}

-- the bytes of its packet that the piper did not take
abbrev pub rest_of : Outlet → List ℕ
rest_of o = drop o.at (bytes_of o.packet)

-- Of all bodies, those that are left are of one frame; the packets of the others have come so far, and so many units
-- were given.
abbrev pub Flows : Outlet → Config → ℕ → List Body → List (ℕ × Body) → ℕ → Type 0
Flows o c n left all given = Carries (PiperStandsFor o.piper) (is_finished o.piper) (rest_of o) o.packet_count
    c n left all given

-- how many bytes are at hand: those that wait, and those of its packet that the piper did not take
abbrev pub at_hand : Outlet → ℕ
at_hand o = waiting_of o.piper + length (rest_of o)

-- a bound for the bytes of a packet: one more than the longest has
abbrev pub packet_bound : ℕ
packet_bound = 8203

-- a bound for the bytes that are not yet given: those at hand, and those of the packet of each body that is left
abbrev pub bytes_bound : Outlet → List Body → ℕ
bytes_bound o left = at_hand o + packet_bound * length left

-- A unit is complete, or no more frames come and a byte is left.
abbrev pub gives_unit : Outlet → Bool
gives_unit o = nat_le PAYLOAD (at_hand o) || (is_finished o.piper && nat_lt 0 (waiting_of o.piper))

-- An outlet took packets of a frame, of which it had these left and has now those, and gave no unit.
pub record Feeds (c : Config) (old new : Outlet) (n : ℕ) (before now : List Body) : Type 0 where
  pub flows : (all : List (ℕ × Body)) (given : ℕ) → Flows old c n before all given → Flows new c n now all given
  pub bound : bytes_bound new now ≤ bytes_bound old before
