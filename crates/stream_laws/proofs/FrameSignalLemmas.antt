-- The L1 signalling of a plan fits its fields, and is read back.
use Rattle.std.proofs.Common.{◌≡◌, ℕ, ◌%◌, ◌^◌, ◌<◌, ◌≤◌, Bool, true, false, List, [], length, map, get_or, Some, refl}
use Rattle.std.proofs.Common.{ap, sym, subst, ◌∙◌, arith, append-nil}
use Rattle.std.specs.Prelude.{min, MatchBool, if◌then◌else◌}
use Rattle.std.specs.List.{range_with_len}
use Rattle.std.proofs.lemmas.List.{length-map, get_or-map}
use Rattle.std.proofs.lemmas.List.FromFn.{get_or-map-range_with_len, length-map-range_with_len}
use Rattle.std.proofs.Math.Nat.{mod-eq_of_lt}
use Rattle.std.proofs.lemmas.Bool.{cases_lt}
use Rattle.std.proofs.lemmas.Nat.{mod_below}
use Rattle.plp_config.specs.Capacity.{IsPlan}
use Rattle.plp_config.specs.Plps.{plp_at, no_plp, type_number, has_type2, spread}
use Rattle.plp_config.specs.Rules.{FitsL1}
use Rattle.plp_config.specs.Rules.Rule.{L1Fields, SuperframeLength, PlpCount, SubSlices, BlockLimit, InterleaverLength}
use Rattle.plp_config.specs.Rules.Rule.{SpreadDivides}
use Rattle.plp_config.specs.Tables.{plp_cod, plp_mod, plp_fec_type}
use Rattle.plp_config.specs.declared.config.Config.{Config}
use Rattle.plp_config.specs.declared.plp.FecSize.{FecSize}
use Rattle.plp_config.specs.declared.plp.FecSize.TheVariants.{Short, Normal}
use Rattle.plp_config.specs.declared.plp.Modulation.{Modulation}
use Rattle.plp_config.specs.declared.plp.Modulation.TheVariants.{Qpsk, Qam16, Qam64, Qam256}
use Rattle.plp_config.specs.declared.plp.Plp.{Plp}
use Rattle.plp_config.specs.declared.plp.PlpType.{PlpType}
use Rattle.plp_config.specs.declared.plp.PlpType.TheVariants.{Common, Type1, Type2}
use Rattle.plp_config.specs.declared.plp.Rate.{Rate}
use Rattle.plp_config.specs.declared.plp.Rate.TheVariants.{R1_2, R3_5, R2_3, R3_4, R4_5, R5_6}
use Rattle.scheduler.specs.Laws.{CountsFit, ShapeFitsL1}
use Rattle.scheduler.specs.Shape.{shape_of, start_of}
use Rattle.l1_signal.specs.Fields.{RowsFit}
use Rattle.l1_signal.specs.L1Configurable.{conf_plp_rows, ConfFits}
use Rattle.l1_signal.specs.L1Dynamic.{dyn_read, dyn_bits, no_dyn_plp, DynFits}
use Rattle.l1_signal.specs.L1Of.{flag_of, il_length_of, pre_of, conf_plp_of, conf_of, dyn_plp_of, dyn_of, told_shape}
use Rattle.l1_signal.specs.L1Pre.{PreFits}
use Rattle.l1_signal.specs.Laws.{PreWritten, ConfWritten, DynReadBack, DynWritten}
use Rattle.l1_signal.specs.declared.dyn_plp.DynPlp.{DynPlp}
use Rattle.l1_signal.proofs.FitLemmas.{pre_numbers_fit, plp_numbers_fit, conf_numbers_fit}
use Rattle.l1_signal.proofs.ValueLemmas.{mapped, dyn_numbers_fit, shape_is}
use Rattle.mode_adapt.specs.Blocks.{told_counts}
use Rattle.record_laws.specs.Frames.{frame_shape}
use Rattle.record_laws.specs.Laws.{ToldCountsFit}
use Rattle.frame_groups.specs.Carried.{L1Parts}
use Rattle.frame_groups.specs.TestLaws.{PartsTold}
use Rattle.frame_groups.specs.Tests.{read_whole, parts_agree, l1_shape}
use Rattle.frame_writer.specs.Signalling.{pre_part, conf_part}
use Rattle.gateway_core.specs.Signalling.{dyn_part}
use Rattle.stream_laws.specs.Types.{TypesFit}

-- ---- L1-pre and the configurable part

pre_fits : (c : Config) → IsPlan c → TypesFit c → PreFits (pre_of c)
unfolding pre_of
pre_fits c plan types =
    let l1 : FitsL1 c.l1 = plan.rules L1Fields in
    let f : (2 ≤ c.frames) × (c.frames ≤ 255) = plan.rules SuperframeLength in
    let p : (1 ≤ length c.plps) × (length c.plps ≤ 255) = plan.rules PlpCount in
    pre_numbers_fit (pre_of c)
    (record {
      tx_id_availability = types.tx_id;
      cell_id = types.cell_id;
      network_id = types.network_id;
      t2_system_id =
          types.system_id;
      num_t2_frames = omega (arith, f.1);
    })
    (record {
      stream_type = refl;
      bwt_ext = l1.bwt_ext;
      s1 = refl;
      s2 = l1.s2;
      s2_even = l1.s2_even;
      l1_repetition_flag = refl;
      guard_interval = l1.guard;
      papr = l1.papr;
      l1_mod = l1.l1_mod;
      l1_cod = l1.l1_cod;
      l1_fec_type = l1.l1_fec;
      l1_post_size = l1.post_size;
      l1_post_info_size = omega (arith, p.1);
      pilot_pattern = l1.pilot;
      num_data_symbols = l1.symbols;
      regen_flag = l1.regen;
      l1_post_extension = refl;
      num_rf = refl;
      current_rf_idx = refl;
      t2_version = refl;
      l1_post_scrambled = refl;
      t2_base_lite = refl;
    })

type_most : (plp_type : PlpType) → type_number plp_type ≤ 2
type_most Common = omega arith
type_most Type1 = omega arith
type_most Type2 = omega arith

cod_most : (rate : Rate) → plp_cod rate ≤ 5
cod_most R1_2 = omega arith
cod_most R3_5 = omega arith
cod_most R2_3 = omega arith
cod_most R3_4 = omega arith
cod_most R4_5 = omega arith
cod_most R5_6 = omega arith

mod_most : (modulation : Modulation) → plp_mod modulation ≤ 3
mod_most Qpsk = omega arith
mod_most Qam16 = omega arith
mod_most Qam64 = omega arith
mod_most Qam256 = omega arith

fec_most : (fec : FecSize) → plp_fec_type fec ≤ 1
fec_most Short = omega arith
fec_most Normal = omega arith

flag_most : (flag : Bool) → flag_of flag ≤ 1
flag_most true = omega arith
flag_most false = omega arith

-- one of two numbers
either_most : (t : Bool) (x y most : ℕ) → x ≤ most → y ≤ most → (if t then x else y) ≤ most
either_most true x y most a b = a
either_most false x y most a b = b

-- what divides a number is no greater
divisor_most : (n s : ℕ) → 0 < n → n % s ≡ 0 → s ≤ n
divisor_most n s some whole = grind (arith, mod-eq_of_lt, cases_lt)

-- TIME_IL_LENGTH has eight bits
length_most : (plp : Plp) → plp.interleave ≤ 255 → plp.spread ≤ 255 → il_length_of plp < 2 ^ 8
length_most plp interleave spread = grind (arith, either_most)

plp_fits : (plp : Plp) → plp.id < 2 ^ 8 → plp.group < 2 ^ 8 → plp.blocks ≤ 1023 → plp.interleave ≤ 255
    → plp.spread ≤ 255
    → RowsFit conf_plp_rows (conf_plp_of plp)
unfolding conf_plp_of
plp_fits plp id group blocks interleave spread =
    grind (arith, plp_numbers_fit, length_most, type_most, cod_most, mod_most, flag_most, fec_most)

slices_most : (n : ℕ) (t : Bool) → MatchBool t ((2 ≤ n) × (n ≤ 6480)) (n ≡ 1) → n ≤ 6480
slices_most n true h = h.1
slices_most n false h = omega (arith, h)

conf_fits : (c : Config) → IsPlan c → TypesFit c → ConfFits (conf_of c)
unfolding conf_of
conf_fits c plan types =
    let p : (1 ≤ length c.plps) × (length c.plps ≤ 255) = plan.rules PlpCount in
    let size = length-map c.plps conf_plp_of in
    conf_numbers_fit c.sub_slices c.frequency (map conf_plp_of c.plps)
    (slices_most c.sub_slices (has_type2 c.plps) (plan.rules SubSlices)) types.frequency (omega (arith, size, p.0))
    (omega (arith, size, p.1))
    (λ k d lt.
    let inside : k < length c.plps = omega (arith, lt, size) in
    let few : (1 ≤ (plp_at c.plps k).blocks) × ((plp_at c.plps k).blocks ≤ 1023) = plan.rules BlockLimit k inside in
    let short : (plp_at c.plps k).interleave ≤ min (plp_at c.plps k).blocks 255 = plan.rules InterleaverLength
    k inside in
    let frames : (2 ≤ c.frames) × (c.frames ≤ 255) = plan.rules SuperframeLength in
    let whole = plan.rules SpreadDivides k inside in
    let wide : spread c.plps k ≤ c.frames = divisor_most c.frames (spread c.plps k) (omega (arith, frames.0)) whole.1 in
    subst (RowsFit conf_plp_rows) (sym (get_or-map conf_plp_of c.plps k no_plp d inside))
    (plp_fits (plp_at c.plps k) (types.ids k inside) (types.groups k inside) few.1 (omega (arith, short))
    (omega (arith, wide, frames.1))))

-- ---- the dynamic part

-- the parts of the L1-current of a frame with so many blocks of each PLP
abbrev pub l1_parts : Config → ℕ → List ℕ → L1Parts
l1_parts c n counts = record { pre = pre_part c; conf = conf_part c; dynamic = dyn_part c n counts; extension = [] }

module _ (c : Config) (plan : IsPlan c) (types : TypesFit c) (n : ℕ) (counts : List ℕ) (fit : CountsFit c counts) where
  abbrev dynamic_plps : List DynPlp
  dynamic_plps = map (dyn_plp_of c (shape_of c counts)) (range_with_len 0 (length c.plps))

  plps_len : length dynamic_plps ≡ length c.plps
  plps_len = length-map-range_with_len (dyn_plp_of c (shape_of c counts)) 0 (length c.plps)

  plp_there : (k : ℕ) (d : DynPlp) → k < length c.plps → get_or dynamic_plps k d ≡ dyn_plp_of c (shape_of c counts) k
  plp_there k d inside = get_or-map-range_with_len (dyn_plp_of c (shape_of c counts)) 0 (length c.plps)
      k k d inside (omega arith)

  dyn_fits : ShapeFitsL1 → DynFits (dyn_of c n (shape_of c counts))
  dyn_fits law =
      let f : (2 ≤ c.frames) × (c.frames ≤ 255) = plan.rules SuperframeLength in
      dyn_numbers_fit c n (shape_of c counts) types.ids (omega (arith, mod_below n c.frames (omega (arith, f.0)), f.1))
      (law c counts plan fit)

  dyn_told : DynReadBack → DynWritten → ShapeFitsL1 → read_whole (dyn_read (length c.plps) (dyn_part c n counts))
      ≡ Some (dyn_of c n (shape_of c counts))
  unfolding dyn_part dyn_of
  dyn_told back written law =
      let front : List Bool = dyn_bits (dyn_of c n (shape_of c counts)) in
      let read = back (dyn_of c n (shape_of c counts)) front [] (written (dyn_of c n (shape_of c counts))
      (dyn_fits law)) in
      ap read_whole (ap (λ (k : ℕ). dyn_read k front) (sym plps_len)
      ∙ ap (dyn_read (length dynamic_plps)) (sym (append-nil _)) ∙ read)

  ids_same : map (λ (plp : DynPlp). plp.plp_id) dynamic_plps ≡ map (λ (plp : Plp). plp.id) c.plps
  ids_same =
      let size = length-map dynamic_plps (λ (plp : DynPlp). plp.plp_id) in
      mapped (λ (plp : Plp). plp.id) c.plps (map (λ (plp : DynPlp). plp.plp_id) dynamic_plps) no_plp 0
      (omega (arith, size, plps_len))
      (λ k inside.
      let there : k < length dynamic_plps = omega (arith, inside, plps_len) in
      get_or-map (λ (plp : DynPlp). plp.plp_id) dynamic_plps k no_dyn_plp 0 there
      ∙ ap (λ (plp : DynPlp). plp.plp_id) (plp_there k no_dyn_plp inside))

  -- it tells the shape of the frame
  shape_told : shape_of c counts ≡ told_shape (dyn_of c n (shape_of c counts))
  unfolding shape_of dyn_of
  shape_told =
      shape_is (dyn_of c n (shape_of c counts)) (shape_of c counts) (let w = fit.whole in omega (arith, w, plps_len))
      (let w = length-map-range_with_len (start_of c counts) 0 (length c.plps) in omega (arith, w, plps_len))
      (λ k lt. sym (ap (λ (plp : DynPlp). plp.plp_num_blocks) (plp_there k no_dyn_plp (omega (arith, lt, plps_len)))))
      (λ k lt. sym (ap (λ (plp : DynPlp). plp.plp_start) (plp_there k no_dyn_plp (omega (arith, lt, plps_len)))))
      refl refl

  pub parts_pass : PartsTold → PreWritten → ConfWritten → DynWritten → ShapeFitsL1
      → parts_agree c n (l1_parts c n counts) ≡ true
  unfolding pre_part conf_part dyn_part dyn_of
  parts_pass told pre conf dyn law = grind (arith, pre_fits, conf_fits, dyn_fits, ids_same)

  parts_shape : DynReadBack → DynWritten → ShapeFitsL1 → l1_shape c (l1_parts c n counts) ≡ Some (shape_of c counts)
  parts_shape back written law = grind (arith, dyn_told, shape_told)

-- ---- the L1-current of a frame of a run

abbrev pub frame_parts : Config → (ℕ → List (List ℕ)) → ℕ → L1Parts
frame_parts c inputs n = l1_parts c n (told_counts c inputs n)

-- it tells the frame's shape
pub frame_told : ToldCountsFit → DynReadBack → DynWritten → ShapeFitsL1
    → (c : Config) (inputs : ℕ → List (List ℕ)) (n : ℕ) → IsPlan c → TypesFit c
    → l1_shape c (frame_parts c inputs n) ≡ Some (frame_shape c inputs n)
frame_told counted back written law c inputs n plan types =
    parts_shape c plan types n (told_counts c inputs n) (counted c inputs n plan) back written law
