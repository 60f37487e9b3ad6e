-- The blocks that a frame still has to give. No public clause cites this module.
use Rattle.std.specs.Prelude.{ℕ, ◌+◌, ◌%◌, Bool, List, ◌++◌}
use Rattle.plp_config.specs.Plps.{plp_at}
use Rattle.plp_config.specs.declared.config.Config.{Config}
use Rattle.t2mi_packet.specs.declared.packet.Body.{Body}
use Rattle.gateway_core.specs.Packets.{block_bodies, plp_bodies}

-- the blocks from a PLP on; the next one is the first of its PLP, or is not
abbrev pub blocks_left : Config → ℕ → (ℕ → List (List Bool)) → ℕ → Bool → List Body
blocks_left c n blocks plp first = block_bodies (n % c.frames) (plp_at c.plps plp).id first (blocks plp)
    ++ plp_bodies c n blocks
    (plp + 1)
