-- L1 signalling of a frame: the values that a configuration gives (EN 302 755, clause 7.2).
use Rattle.std.specs.Prelude.{ℕ, ◌%◌, nat_lt, Bool, List, ◌++◌, length, map, slice_index, if◌then◌else◌}
use Rattle.std.specs.List.{range_with_len}
use Rattle.terms.specs.Bits.{field}
use Rattle.bit_slice.specs.Crc.{crc32_of}
use Rattle.plp_config.specs.Plps.{plp_at, type_number}
use Rattle.plp_config.specs.Tables.{plp_cod, plp_mod, plp_fec_type}
use Rattle.plp_config.specs.declared.config.Config.{Config}
use Rattle.plp_config.specs.declared.plp.Plp.{Plp}
use Rattle.scheduler.specs.Shape.{FrameShape}
use Rattle.l1_signal.specs.declared.pre.L1Pre.{L1Pre}
use Rattle.l1_signal.specs.declared.conf.L1Conf.{L1Conf}
use Rattle.l1_signal.specs.declared.conf_plp.ConfPlp.{ConfPlp}
use Rattle.l1_signal.specs.declared.dynamic.L1Dyn.{L1Dyn}
use Rattle.l1_signal.specs.declared.dyn_plp.DynPlp.{DynPlp}
use Rattle.l1_signal.specs.L1Configurable.{info_size, conf_bits}
use Rattle.l1_signal.specs.L1Dynamic.{dyn_bits}

-- a flag
abbrev pub flag_of : Bool → ℕ
flag_of flag = if flag then 1 else 0

-- L1-pre
unfoldable pub pre_of : Config → L1Pre
pre_of c = record {
  stream_type = 0;
  bwt_ext = c.l1.bwt_ext;
  s1 = 0;
  s2 = c.l1.s2;
  l1_repetition_flag = 0;
  guard_interval = c.l1.guard;
  papr = c.l1.papr;
  l1_mod = c.l1.l1_mod;
  l1_cod = c.l1.l1_cod;
  l1_fec_type = c.l1.l1_fec;
  l1_post_size = c.l1.post_size;
  l1_post_info_size = info_size (length c.plps);
  pilot_pattern = c.l1.pilot;
  tx_id_availability = c.l1.tx_id;
  cell_id = c.cell_id;
  network_id = c.network_id;
  t2_system_id = c.system_id;
  num_t2_frames = c.frames;
  num_data_symbols = c.l1.symbols;
  regen_flag = c.l1.regen;
  l1_post_extension = 0;
  num_rf = 1;
  current_rf_idx = 0;
  t2_version = 2;
  l1_post_scrambled = 0;
  t2_base_lite = 0;
}

-- TIME_IL_TYPE: 1 if several frames carry an interleaving frame; and TIME_IL_LENGTH: their number, else that of the
-- TI-blocks
abbrev pub il_type_of : Plp → ℕ
il_type_of plp = flag_of (nat_lt 1 plp.spread)

abbrev pub il_length_of : Plp → ℕ
il_length_of plp = if nat_lt 1 plp.spread then plp.spread else plp.interleave

-- the rows of one PLP in the configurable part: it carries a transport stream, payload type 3, in high-efficiency mode,
-- mode 2
unfoldable pub conf_plp_of : Plp → ConfPlp
conf_plp_of plp = record {
  plp_id = plp.id;
  plp_type = type_number plp.plp_type;
  plp_payload_type = 3;
  ff_flag = 0;
  first_rf_idx = 0;
  first_frame_idx = 0;
  plp_group_id = plp.group;
  plp_cod = plp_cod plp.rate;
  plp_mod = plp_mod plp.modulation;
  plp_rotation = flag_of plp.rotation;
  plp_fec_type = plp_fec_type plp.fec;
  plp_num_blocks_max = plp.blocks;
  frame_interval = 1;
  time_il_length = il_length_of plp;
  time_il_type = il_type_of plp;
  in_band_a_flag = 0;
  in_band_b_flag = 0;
  plp_mode = 2;
  static_flag = 0;
  static_padding_flag = 0;
}

-- the configurable part
abbrev pub conf_with : ℕ → ℕ → List ConfPlp → L1Conf
conf_with sub_slices frequency plps = record {
  sub_slices_per_frame = sub_slices;
  num_plp = length plps;
  num_aux = 0;
  rf_idx = 0;
  frequency = frequency;
  plps = plps;
  fef_length_msb = 0;
}

unfoldable pub conf_of : Config → L1Conf
conf_of c = conf_with c.sub_slices c.frequency (map conf_plp_of c.plps)

-- the rows of the PLP at a place, in a frame of this shape
abbrev pub dyn_plp_of : Config → FrameShape → ℕ → DynPlp
dyn_plp_of c shape plp = record {
  plp_id = (plp_at c.plps plp).id;
  plp_start = slice_index shape.starts plp;
  plp_num_blocks = slice_index shape.counts plp;
}

-- the dynamic part of a frame of this shape
unfoldable pub dyn_of : Config → ℕ → FrameShape → L1Dyn
dyn_of c frame shape = record {
  frame_idx = frame % c.frames;
  sub_slice_interval = shape.interval;
  type_2_start = shape.type2_start;
  l1_change_counter = 0;
  start_rf_idx = 0;
  plps = map (dyn_plp_of c shape) (range_with_len 0 (length c.plps));
}

-- the shape that a dynamic part tells
unfoldable pub told_shape : L1Dyn → FrameShape
told_shape dynamic = record {
  counts = map (λ plp. plp.plp_num_blocks) dynamic.plps;
  starts = map (λ plp. plp.plp_start) dynamic.plps;
  interval = dynamic.sub_slice_interval;
  type2_start = dynamic.type_2_start;
}

-- L1-post of a frame: both parts, and the CRC_32 of them
abbrev pub post_front_bits : Config → ℕ → FrameShape → List Bool
post_front_bits c frame shape = conf_bits (conf_of c) ++ dyn_bits (dyn_of c frame shape)

unfoldable pub post_bits : Config → ℕ → FrameShape → List Bool
post_bits c frame shape = post_front_bits c frame shape ++ field 32 (crc32_of (post_front_bits c frame shape))
