-- L1-pre (EN 302 755, clause 7.2.2).
use Rattle.std.specs.Prelude.{ℕ, Bool, List, [], ◌∷◌, take, slice_index, if◌then◌else◌, Ok}
use Rattle.bit_slice.specs.Crc.{crc32_of}
use Rattle.l1_signal.specs.declared.lengths.TheConstants.{PRE_BITS}
use Rattle.l1_signal.specs.declared.fields.Demand.TheVariants.{Any, Only, Even}
use Rattle.l1_signal.specs.declared.fields.Field.{Field}
use Rattle.l1_signal.specs.declared.pre.L1Pre.{L1Pre}
use Rattle.l1_signal.specs.Fields.{Row, Told, Ignored, fields, Reading, after, made, values_of, Spells, row_bits}
use Rattle.l1_signal.specs.Fields.{RowsFit}
use Rattle.l1_signal.specs.CrcField.{crc_read}

-- the rows: number, width in bits, which values are read, and what is told
abbrev pub pre_rows : List (Row L1Pre)
pre_rows =
    Told 1 8 (Only 0) (λ x. x.stream_type)  -- TYPE
    ∷ Told 2 1 Any (λ x. x.bwt_ext)
    ∷ Told 3 3 (Only 0) (λ x. x.s1)
    ∷ Told 4 4 Even (λ x. x.s2)
    ∷ Told 5 1 (Only 0) (λ x. x.l1_repetition_flag)
    ∷ Told 6 3 Any (λ x. x.guard_interval)
    ∷ Told 7 4 Any (λ x. x.papr)
    ∷ Told 8 4 Any (λ x. x.l1_mod)
    ∷ Told 9 2 Any (λ x. x.l1_cod)
    ∷ Told 10 2 Any (λ x. x.l1_fec_type)
    ∷ Told 11 18 Any (λ x. x.l1_post_size)
    ∷ Told 12 18 Any (λ x. x.l1_post_info_size)
    ∷ Told 13 4 Any (λ x. x.pilot_pattern)
    ∷ Told 14 8 Any (λ x. x.tx_id_availability)
    ∷ Told 15 16 Any (λ x. x.cell_id)
    ∷ Told 16 16 Any (λ x. x.network_id)
    ∷ Told 17 16 Any (λ x. x.t2_system_id)
    ∷ Told 18 8 Any (λ x. x.num_t2_frames)
    ∷ Told 19 12 Any (λ x. x.num_data_symbols)
    ∷ Told 20 3 Any (λ x. x.regen_flag)
    ∷ Told 21 1 (Only 0) (λ x. x.l1_post_extension)
    ∷ Told 22 3 (Only 1) (λ x. x.num_rf)
    ∷ Told 23 3 (Only 0) (λ x. x.current_rf_idx)
    ∷ Told 24 4 Any (λ x. x.t2_version)
    ∷ Told 25 1 (Only 0) (λ x. x.l1_post_scrambled)
    ∷ Told 26 1 (Only 0) (λ x. x.t2_base_lite)
    ∷ Ignored 27 4  -- RESERVED
    ∷ []

abbrev pub pre_table : List Field
pre_table = fields pre_rows

-- the value whose rows have these values, by place
abbrev pub pre_at : List ℕ → L1Pre
pre_at vs = record {
  stream_type = slice_index vs 0;
  bwt_ext = slice_index vs 1;
  s1 = slice_index vs 2;
  s2 = slice_index vs 3;
  l1_repetition_flag = slice_index vs 4;
  guard_interval = slice_index vs 5;
  papr = slice_index vs 6;
  l1_mod = slice_index vs 7;
  l1_cod = slice_index vs 8;
  l1_fec_type = slice_index vs 9;
  l1_post_size = slice_index vs 10;
  l1_post_info_size = slice_index vs 11;
  pilot_pattern = slice_index vs 12;
  tx_id_availability = slice_index vs 13;
  cell_id = slice_index vs 14;
  network_id = slice_index vs 15;
  t2_system_id = slice_index vs 16;
  num_t2_frames = slice_index vs 17;
  num_data_symbols = slice_index vs 18;
  regen_flag = slice_index vs 19;
  l1_post_extension = slice_index vs 20;
  num_rf = slice_index vs 21;
  current_rf_idx = slice_index vs 22;
  t2_version = slice_index vs 23;
  l1_post_scrambled = slice_index vs 24;
  t2_base_lite = slice_index vs 25;
}

-- what reading gives, without CRC_32
unfoldable pub pre_read : List Bool → Reading L1Pre
pre_read bits = made pre_at (values_of pre_table bits)

-- what reading gives: the rows, and if CRC_32 is there, then that of their bits
unfoldable pub pre_reading : Bool → List Bool → Reading L1Pre
pre_reading with_crc bits =
    after (pre_read bits) (λ pre rest. if with_crc then after (crc_read (crc32_of (take PRE_BITS bits)) rest)
    (λ crc more. Ok (pre, more)) else Ok (pre, rest))

-- how it is spelled, and written; each field fits its width, and none is refused
unfoldable pub PreSpells : L1Pre → List Bool → Type 0
PreSpells pre bits = Spells pre_rows pre bits

unfoldable pub pre_bits : L1Pre → List Bool
pre_bits pre = row_bits pre_rows pre

unfoldable pub PreFits : L1Pre → Type 0
PreFits pre = RowsFit pre_rows pre
