-- The configurable part of L1-post (EN 302 755, clause 7.2.3.1).
use Rattle.std.specs.Prelude.{◌≡◌, ℕ, ◌+◌, ◌*◌, ◌==◌, Bool, List, [], ◌∷◌, ◌++◌, length, replicate, slice_index}
use Rattle.std.specs.Prelude.{if◌then◌else◌}
use Rattle.std.specs.Prelude.{Ok, Err}
use Rattle.std.specs.List.{All, flat_map}
use Rattle.l1_signal.specs.declared.lengths.TheConstants.{INFO_BITS, PLP_BITS}
use Rattle.l1_signal.specs.declared.fault.L1Fault.TheVariants.{Size}
use Rattle.l1_signal.specs.declared.fields.Demand.TheVariants.{Any, Only, AtMost, Positive}
use Rattle.l1_signal.specs.declared.fields.Field.{Field}
use Rattle.l1_signal.specs.declared.conf.L1Conf.{L1Conf}
use Rattle.l1_signal.specs.declared.conf_plp.ConfPlp.{ConfPlp}
use Rattle.l1_signal.specs.Fields.{Row, Told, Ignored, fields, Reading, after, made, values_of, each_read, Spells}
use Rattle.l1_signal.specs.Fields.{row_bits}
use Rattle.l1_signal.specs.Fields.{RowsFit, EachSpells}

-- the rows before those of the PLPs: number, width in bits, which values are read, and what is told. They are cut where
-- L1_POST_INFO_SIZE is looked at
abbrev pub conf_first_rows : List (Row L1Conf)
conf_first_rows =
    Told 31 15 Any (λ x. x.sub_slices_per_frame)
    ∷ Told 32 8 Positive (λ x. x.num_plp)
    ∷ []

abbrev pub conf_more_rows : List (Row L1Conf)
conf_more_rows =
    Told 33 4 (Only 0) (λ x. x.num_aux)
    ∷ Ignored 34 8  -- AUX_CONFIG_RFU
    ∷ Told 35 3 Any (λ x. x.rf_idx)
    ∷ Told 36 32 Any (λ x. x.frequency)
    ∷ []

-- the rows of each PLP
abbrev pub conf_plp_rows : List (Row ConfPlp)
conf_plp_rows =
    Told 37 8 Any (λ x. x.plp_id)
    ∷ Told 38 3 (AtMost 2) (λ x. x.plp_type)
    ∷ Told 39 5 (Only 3) (λ x. x.plp_payload_type)
    ∷ Told 40 1 (Only 0) (λ x. x.ff_flag)
    ∷ Told 41 3 Any (λ x. x.first_rf_idx)
    ∷ Told 42 8 Any (λ x. x.first_frame_idx)
    ∷ Told 43 8 Any (λ x. x.plp_group_id)
    ∷ Told 44 3 (AtMost 5) (λ x. x.plp_cod)
    ∷ Told 45 3 (AtMost 3) (λ x. x.plp_mod)
    ∷ Told 46 1 Any (λ x. x.plp_rotation)
    ∷ Told 47 2 (AtMost 1) (λ x. x.plp_fec_type)
    ∷ Told 48 10 Any (λ x. x.plp_num_blocks_max)
    ∷ Told 49 8 (Only 1) (λ x. x.frame_interval)
    ∷ Told 50 8 Any (λ x. x.time_il_length)
    ∷ Told 51 1 (AtMost 1) (λ x. x.time_il_type)
    ∷ Told 52 1 (Only 0) (λ x. x.in_band_a_flag)
    ∷ Told 53 1 (Only 0) (λ x. x.in_band_b_flag)
    ∷ Ignored 54 11  -- RESERVED_1
    ∷ Told 55 2 (Only 2) (λ x. x.plp_mode)
    ∷ Told 56 1 Any (λ x. x.static_flag)
    ∷ Told 57 1 Any (λ x. x.static_padding_flag)
    ∷ []

-- the rows behind them
abbrev pub conf_back_rows : List (Row L1Conf)
conf_back_rows =
    Told 58 2 (Only 0) (λ x. x.fef_length_msb)
    ∷ Ignored 59 30  -- RESERVED_2
    ∷ []

abbrev pub conf_first : List Field
conf_first = fields conf_first_rows

abbrev pub conf_more : List Field
conf_more = fields conf_more_rows

abbrev pub conf_plp : List Field
conf_plp = fields conf_plp_rows

abbrev pub conf_back : List Field
conf_back = fields conf_back_rows

-- the value whose rows have these values, by place
abbrev pub conf_plp_at : List ℕ → ConfPlp
conf_plp_at vs = record {
  plp_id = slice_index vs 0;
  plp_type = slice_index vs 1;
  plp_payload_type = slice_index vs 2;
  ff_flag = slice_index vs 3;
  first_rf_idx = slice_index vs 4;
  first_frame_idx = slice_index vs 5;
  plp_group_id = slice_index vs 6;
  plp_cod = slice_index vs 7;
  plp_mod = slice_index vs 8;
  plp_rotation = slice_index vs 9;
  plp_fec_type = slice_index vs 10;
  plp_num_blocks_max = slice_index vs 11;
  frame_interval = slice_index vs 12;
  time_il_length = slice_index vs 13;
  time_il_type = slice_index vs 14;
  in_band_a_flag = slice_index vs 15;
  in_band_b_flag = slice_index vs 16;
  plp_mode = slice_index vs 18;
  static_flag = slice_index vs 19;
  static_padding_flag = slice_index vs 20;
}

abbrev pub conf_at : List ℕ → List ℕ → List ConfPlp → List ℕ → L1Conf
conf_at first more plps back = record {
  sub_slices_per_frame = slice_index first 0;
  num_plp = slice_index first 1;
  num_aux = slice_index more 0;
  rf_idx = slice_index more 2;
  frequency = slice_index more 3;
  plps = plps;
  fef_length_msb = slice_index back 0;
}

-- L1_POST_INFO_SIZE for so many PLPs: both parts of L1-post without CRC_32
abbrev pub info_size : ℕ → ℕ
info_size plps = INFO_BITS + PLP_BITS * plps

-- reading the rows of one PLP
unfoldable pub conf_plp_read : List Bool → Reading ConfPlp
conf_plp_read bits = made conf_plp_at (values_of conf_plp bits)

-- reading from behind the PLPs on, from the PLPs on, and from behind NUM_PLP on
abbrev pub conf_end : List ℕ → List ℕ → List ConfPlp → List Bool → Reading L1Conf
conf_end first more plps bits = after (values_of conf_back bits) (λ back rest. Ok (conf_at first more plps back, rest))

abbrev pub conf_plps : List ℕ → List ℕ → List Bool → Reading L1Conf
conf_plps first more bits = after (each_read (replicate (slice_index first 1) conf_plp_read) bits) (conf_end first more)

abbrev pub conf_sized : ℕ → List ℕ → List Bool → Reading L1Conf
conf_sized told first bits =
    if told == info_size (slice_index first 1) then after (values_of conf_more bits) (conf_plps first)
    else Err (Size told (info_size (slice_index first 1)))

-- what reading gives, if L1-pre tells this L1_POST_INFO_SIZE: it is looked at as soon as NUM_PLP is read
unfoldable pub conf_read : ℕ → List Bool → Reading L1Conf
conf_read told bits = after (values_of conf_first bits) (conf_sized told)

-- The bits spell a configurable part, with any values in the rows that are ignored.
pub record ConfSpells (conf : L1Conf) (bits : List Bool) : Type 0 where
  pub first : List Bool
  pub more : List Bool
  pub plps : List Bool
  pub back : List Bool
  pub first_spells : Spells conf_first_rows conf first
  pub more_spells : Spells conf_more_rows conf more
  pub plps_spell : EachSpells conf_plp_rows conf.plps plps
  pub back_spells : Spells conf_back_rows conf back
  pub whole : bits ≡ first ++ more ++ plps ++ back
  pub count : conf.num_plp ≡ length conf.plps

-- what is written
unfoldable pub conf_bits : L1Conf → List Bool
conf_bits conf = row_bits conf_first_rows conf ++ row_bits conf_more_rows conf ++ flat_map (row_bits conf_plp_rows)
    conf.plps
    ++ row_bits conf_back_rows conf

-- Each field fits its width, none is refused, and NUM_PLP is the number of the PLPs.
pub record ConfFits (conf : L1Conf) : Type 0 where
  pub first : RowsFit conf_first_rows conf
  pub more : RowsFit conf_more_rows conf
  pub plps : All (RowsFit conf_plp_rows) conf.plps
  pub back : RowsFit conf_back_rows conf
  pub count : conf.num_plp ≡ length conf.plps
