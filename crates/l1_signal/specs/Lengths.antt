-- How many bits L1-post has with so many PLPs (EN 302 755, clause 7.2.3): the configurable part, the dynamic part, and
-- all with CRC_32.
use Rattle.std.specs.Prelude.{ℕ, ◌+◌, ◌*◌}
use Rattle.l1_signal.specs.declared.lengths.TheConstants.{CONF_BITS, CONF_PLP_BITS, DYN_BITS, DYN_PLP_BITS, POST_BITS}
use Rattle.l1_signal.specs.declared.lengths.TheConstants.{PLP_BITS}

abbrev pub conf_len : ℕ → ℕ
conf_len plps = CONF_BITS + CONF_PLP_BITS * plps

abbrev pub dyn_len : ℕ → ℕ
dyn_len plps = DYN_BITS + DYN_PLP_BITS * plps

abbrev pub post_len : ℕ → ℕ
post_len plps = POST_BITS + PLP_BITS * plps
