-- What holds of the definitions. The functions without a body ensure it.
use Rattle.std.specs.Prelude.{◌≡◌, ℕ, Bool, true, false, List, ◌++◌, length, Ok}
use Rattle.terms.specs.Bits.{field}
use Rattle.bit_slice.specs.Crc.{crc32_of}
use Rattle.l1_signal.specs.declared.pre.L1Pre.{L1Pre}
use Rattle.plp_config.specs.declared.config.Config.{Config}
use Rattle.plp_config.specs.declared.plp.Plp.{Plp}
use Rattle.scheduler.specs.Shape.{FrameShape}
use Rattle.l1_signal.specs.declared.pre.TheConstants.{PRE}
use Rattle.l1_signal.specs.declared.conf.TheConstants.{CONF_FIRST, CONF_MORE, CONF_BACK}
use Rattle.l1_signal.specs.declared.conf_plp.TheConstants.{CONF_PLP}
use Rattle.l1_signal.specs.declared.dyn_plp.TheConstants.{DYN_PLP}
use Rattle.l1_signal.specs.declared.dynamic.TheConstants.{DYN_FRONT, DYN_BACK}
use Rattle.l1_signal.specs.CrcField.{EndsInCrc}
use Rattle.l1_signal.specs.Fields.{fields}
use Rattle.l1_signal.specs.L1Of.{conf_of, conf_plp_of, post_bits}
use Rattle.l1_signal.specs.Lengths.{conf_len, dyn_len, post_len}
use Rattle.l1_signal.specs.declared.lengths.TheConstants.{PRE_BITS}
use Rattle.l1_signal.specs.declared.conf.L1Conf.{L1Conf}
use Rattle.l1_signal.specs.L1Configurable.{conf_first_rows, conf_more_rows, conf_plp_rows, conf_back_rows, info_size}
use Rattle.l1_signal.specs.L1Configurable.{conf_read}
use Rattle.l1_signal.specs.L1Configurable.{conf_bits, ConfSpells, ConfFits}
use Rattle.l1_signal.specs.declared.dynamic.L1Dyn.{L1Dyn}
use Rattle.l1_signal.specs.L1Dynamic.{dyn_front_rows, dyn_plp_rows, dyn_back_rows, dyn_read, dyn_bits, DynSpells}
use Rattle.l1_signal.specs.L1Dynamic.{DynFits}
use Rattle.l1_signal.specs.L1Pre.{pre_table, pre_reading, pre_bits, PreSpells, PreFits}

-- L1-pre with CRC_32 behind it, or without
abbrev pub crc_behind : Bool → List Bool → List Bool
crc_behind true front = front ++ field 32 (crc32_of front)
crc_behind false front = front

-- What spells an L1-pre is read as that one, whatever follows it.
abbrev pub PreReadBack : Type 0
PreReadBack = (with_crc : Bool) (pre : L1Pre) (front rest : List Bool) → PreSpells pre front
    → pre_reading with_crc (crc_behind with_crc front ++ rest) ≡ Ok (pre, rest)

-- What is read as an L1-pre spells it.
pub record PreIsSpelled (with_crc : Bool) (bits : List Bool) (pre : L1Pre) (rest : List Bool) : Type 0 where
  pub front : List Bool
  pub spells : PreSpells pre front
  pub whole : bits ≡ crc_behind with_crc front ++ rest

abbrev pub PreReadSpelled : Type 0
PreReadSpelled = (with_crc : Bool) (bits : List Bool) (pre : L1Pre) (rest : List Bool) → pre_reading with_crc bits
    ≡ Ok (pre, rest) → PreIsSpelled with_crc bits pre rest

-- What is written spells it.
abbrev pub PreWritten : Type 0
PreWritten = (pre : L1Pre) → PreFits pre → PreSpells pre (pre_bits pre)

abbrev pub PreLength : Type 0
PreLength = (pre : L1Pre) (bits : List Bool) → PreSpells pre bits → length bits ≡ PRE_BITS

-- What is written has as many bits, whether its numbers fit or not.
abbrev pub PreBitsLength : Type 0
PreBitsLength = (pre : L1Pre) → length (pre_bits pre) ≡ PRE_BITS

-- The same of the configurable part, if L1-pre tells the right L1_POST_INFO_SIZE.
abbrev pub ConfReadBack : Type 0
ConfReadBack = (conf : L1Conf) (front rest : List Bool) → ConfSpells conf front
    → conf_read (info_size (length conf.plps)) (front ++ rest) ≡ Ok (conf, rest)

pub record ConfIsSpelled (told : ℕ) (bits : List Bool) (conf : L1Conf) (rest : List Bool) : Type 0 where
  pub size : told ≡ info_size (length conf.plps)
  pub front : List Bool
  pub spells : ConfSpells conf front
  pub whole : bits ≡ front ++ rest

abbrev pub ConfReadSpelled : Type 0
ConfReadSpelled = (told : ℕ) (bits : List Bool) (conf : L1Conf) (rest : List Bool)
    → conf_read told bits ≡ Ok (conf, rest)
    → ConfIsSpelled told bits conf rest

abbrev pub ConfWritten : Type 0
ConfWritten = (conf : L1Conf) → ConfFits conf → ConfSpells conf (conf_bits conf)

abbrev pub ConfLength : Type 0
ConfLength = (conf : L1Conf) (bits : List Bool) → ConfSpells conf bits → length bits ≡ conf_len (length conf.plps)

-- The same of the dynamic part, with as many PLPs as it has.
abbrev pub DynReadBack : Type 0
DynReadBack = (dynamic : L1Dyn) (front rest : List Bool) → DynSpells dynamic front
    → dyn_read (length dynamic.plps) (front ++ rest) ≡ Ok (dynamic, rest)

pub record DynIsSpelled (plps : ℕ) (bits : List Bool) (dynamic : L1Dyn) (rest : List Bool) : Type 0 where
  pub count : length dynamic.plps ≡ plps
  pub front : List Bool
  pub spells : DynSpells dynamic front
  pub whole : bits ≡ front ++ rest

abbrev pub DynReadSpelled : Type 0
DynReadSpelled = (plps : ℕ) (bits : List Bool) (dynamic : L1Dyn) (rest : List Bool)
    → dyn_read plps bits ≡ Ok (dynamic, rest)
    → DynIsSpelled plps bits dynamic rest

abbrev pub DynWritten : Type 0
DynWritten = (dynamic : L1Dyn) → DynFits dynamic → DynSpells dynamic (dyn_bits dynamic)

abbrev pub DynLength : Type 0
DynLength = (dynamic : L1Dyn) (bits : List Bool) → DynSpells dynamic bits → length bits ≡ dyn_len (length dynamic.plps)

-- L1-post of a frame
abbrev pub PostLength : Type 0
PostLength = (c : Config) (frame : ℕ) (shape : FrameShape) → length (post_bits c frame shape) ≡ post_len (length c.plps)

-- and the configurable part in it
abbrev pub ConfPartLength : Type 0
ConfPartLength = (c : Config) → length (conf_bits (conf_of c)) ≡ conf_len (length c.plps)

-- Bits with their CRC_32 behind them pass the test of L1-post.
abbrev pub EndsInItsCrc : Type 0
EndsInItsCrc = (front : List Bool) → EndsInCrc (front ++ field 32 (crc32_of front))

-- The tables of the code are those of the rows.
pub record TablesAreRows : Type 0 where
  pub pre : PRE ≡ pre_table
  pub conf_first : CONF_FIRST ≡ fields conf_first_rows
  pub conf_more : CONF_MORE ≡ fields conf_more_rows
  pub conf_plp : CONF_PLP ≡ fields conf_plp_rows
  pub conf_back : CONF_BACK ≡ fields conf_back_rows
  pub dyn_front : DYN_FRONT ≡ fields dyn_front_rows
  pub dyn_plp : DYN_PLP ≡ fields dyn_plp_rows
  pub dyn_back : DYN_BACK ≡ fields dyn_back_rows

-- if the interleaving frames of a PLP are carried by one frame each, TIME_IL_TYPE is 0, and TIME_IL_LENGTH its number
-- of TI-blocks
abbrev pub ConfAlone : Type 0
ConfAlone = (plp : Plp) → plp.spread ≡ 1
    → ((conf_plp_of plp).time_il_type ≡ 0) × ((conf_plp_of plp).time_il_length ≡ plp.interleave)
