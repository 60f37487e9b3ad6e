-- The L1 signalling that a frame carries, as bits (EN 302 755, clause 7.2).
use Rattle.std.specs.Prelude.{Bool, List}
use Rattle.plp_config.specs.declared.config.Config.{Config}
use Rattle.l1_signal.specs.L1Pre.{pre_bits}
use Rattle.l1_signal.specs.L1Configurable.{conf_bits}
use Rattle.l1_signal.specs.L1Of.{pre_of, conf_of}

-- L1-pre without CRC_32, and the configurable part of L1-post
unfoldable pub pre_part : Config → List Bool
pre_part c = pre_bits (pre_of c)

unfoldable pub conf_part : Config → List Bool
conf_part c = conf_bits (conf_of c)
