-- How many bytes blocks have at most. No public clause cites this module.
use Rattle.std.specs.Prelude.{ℕ, ◌+◌, ◌*◌}
use Rattle.plp_config.specs.declared.plp.TheConstants.{MOST_BLOCK_BYTES}

-- a PLP has 1023 blocks at most
abbrev pub most_plp : ℕ
most_plp = 1023 * (4 + MOST_BLOCK_BYTES)
