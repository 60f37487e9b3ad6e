-- The first bytes of a frame's record: its head, its L1 signalling, and the number of its blocks.
use Rattle.std.specs.Prelude.{ℕ, Bool, true, List, ◌++◌, length}
use Rattle.byteorder.specs.Endian.{big_bytes}
use Rattle.terms.specs.Bits.{bytes_of}
use Rattle.plp_config.specs.declared.config.Config.{Config}
use Rattle.plp_config.specs.declared.moment.Moment.{Moment}
use Rattle.l1_signal.specs.L1Configurable.{conf_bits}
use Rattle.l1_signal.specs.L1Of.{conf_of}
use Rattle.l1_signal.specs.Laws.{crc_behind}
use Rattle.record_laws.specs.Frames.{l1_pre}
use Rattle.site_frame.specs.Record.{frame_kind, head_bytes}

-- L1-post with a dynamic part: the configurable part, this one, and the CRC_32 of both (EN 302 755, clause 7.2.3)
abbrev pub post_with : Config → List Bool → List Bool
post_with c dynamic = crc_behind true (conf_bits (conf_of c) ++ dynamic)

abbrev pub front_bytes : Config → Moment → List Bool → ℕ → ℕ → List ℕ
front_bytes c moment dynamic blocks rest =
    head_bytes frame_kind moment rest
    ++ (bytes_of (l1_pre c) ++ ((big_bytes 4 (length (post_with c dynamic)) ++ bytes_of (post_with c dynamic))
    ++ big_bytes 2 blocks))
