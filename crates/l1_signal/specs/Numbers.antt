-- What the fields of a plan's values are, if their types do not say that they fit. No public clause cites this module.
use Rattle.std.specs.Prelude.{◌≡◌, ◌<◌, ◌≤◌, ◌^◌, ◌%◌}
use Rattle.l1_signal.specs.declared.pre.L1Pre.{L1Pre}
use Rattle.l1_signal.specs.declared.conf_plp.ConfPlp.{ConfPlp}

pub record HasPreNumbers (pre : L1Pre) : Type 0 where
  pub stream_type : pre.stream_type ≡ 0
  pub bwt_ext : pre.bwt_ext < 2 ^ 1
  pub s1 : pre.s1 ≡ 0
  pub s2 : pre.s2 < 2 ^ 4
  pub s2_even : pre.s2 % 2 ≡ 0
  pub l1_repetition_flag : pre.l1_repetition_flag ≡ 0
  pub guard_interval : pre.guard_interval < 2 ^ 3
  pub papr : pre.papr < 2 ^ 4
  pub l1_mod : pre.l1_mod < 2 ^ 4
  pub l1_cod : pre.l1_cod < 2 ^ 2
  pub l1_fec_type : pre.l1_fec_type < 2 ^ 2
  pub l1_post_size : pre.l1_post_size < 2 ^ 18
  pub l1_post_info_size : pre.l1_post_info_size < 2 ^ 18
  pub pilot_pattern : pre.pilot_pattern < 2 ^ 4
  pub num_data_symbols : pre.num_data_symbols < 2 ^ 12
  pub regen_flag : pre.regen_flag < 2 ^ 3
  pub l1_post_extension : pre.l1_post_extension ≡ 0
  pub num_rf : pre.num_rf ≡ 1
  pub current_rf_idx : pre.current_rf_idx ≡ 0
  pub t2_version : pre.t2_version ≡ 2
  pub l1_post_scrambled : pre.l1_post_scrambled ≡ 0
  pub t2_base_lite : pre.t2_base_lite ≡ 0

pub record HasPlpNumbers (plp : ConfPlp) : Type 0 where
  pub plp_type : plp.plp_type ≤ 2
  pub plp_payload_type : plp.plp_payload_type ≡ 3
  pub ff_flag : plp.ff_flag ≡ 0
  pub first_rf_idx : plp.first_rf_idx ≡ 0
  pub first_frame_idx : plp.first_frame_idx ≡ 0
  pub plp_cod : plp.plp_cod ≤ 5
  pub plp_mod : plp.plp_mod ≤ 3
  pub plp_rotation : plp.plp_rotation ≤ 1
  pub plp_fec_type : plp.plp_fec_type ≤ 1
  pub plp_num_blocks_max : plp.plp_num_blocks_max < 2 ^ 10
  pub frame_interval : plp.frame_interval ≡ 1
  pub time_il_type : plp.time_il_type ≤ 1
  pub in_band_a_flag : plp.in_band_a_flag ≡ 0
  pub in_band_b_flag : plp.in_band_b_flag ≡ 0
  pub plp_mode : plp.plp_mode ≡ 2
  pub static_flag : plp.static_flag ≡ 0
  pub static_padding_flag : plp.static_padding_flag ≡ 0
