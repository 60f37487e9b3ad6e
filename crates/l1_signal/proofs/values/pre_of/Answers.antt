use Rattle.std.proofs.Common.{◌≤◌, length, refl, arith}
use Rattle.plp_config.specs.Rules.{L1Fields}
use Rattle.l1_signal.proofs.values.pre_of.Goals as goal

pub fitting_pre-requires : goal.fitting_pre-requires
fitting_pre-requires c =
    let l1 = rw (← c.config-config.ensures.value) at (c.config-config.ensures.plan.rules L1Fields) in
    let few : length c.config-config.result.now.plps ≤ 255 = c.config-config.ensures.ranges.plps.1 in
    record {
      stream_type = refl;
      bwt_ext = l1.bwt_ext;
      s1 = refl;
      s2 = l1.s2;
      s2_even = l1.s2_even;
      l1_repetition_flag = refl;
      guard_interval = l1.guard;
      papr = l1.papr;
      l1_mod = l1.l1_mod;
      l1_cod = l1.l1_cod;
      l1_fec_type = l1.l1_fec;
      l1_post_size = l1.post_size;
      l1_post_info_size = omega (arith, c.len.ensures, few);
      pilot_pattern = l1.pilot;
      num_data_symbols = l1.symbols;
      regen_flag = l1.regen;
      l1_post_extension = refl;
      num_rf = refl;
      current_rf_idx = refl;
      t2_version = refl;
      l1_post_scrambled = refl;
      t2_base_lite = refl;
    }
