-- The values of a plan fit their fields.
use Rattle.std.proofs.Common.{ℕ, ◌^◌, ◌<◌, ◌≤◌, List, length, arith}
use Rattle.std.specs.List.{All}
use Rattle.std.proofs.lemmas.Bool.{eq-eqb, le-leb}
use Rattle.l1_signal.specs.declared.conf_plp.ConfPlp.{ConfPlp}
use Rattle.l1_signal.specs.declared.pre.L1Pre.{L1Pre}
use Rattle.l1_signal.specs.Fields.{Fits, RowsFit}
use Rattle.l1_signal.specs.L1Configurable.{conf_plp_rows, ConfFits}
use Rattle.l1_signal.specs.L1Of.{conf_with}
use Rattle.l1_signal.specs.L1Pre.{PreFits}
use Rattle.l1_signal.specs.Numbers.{HasPreNumbers, HasPlpNumbers}
use Rattle.l1_signal.proofs.ReadLemmas.{pow_pos}

-- what the types say
pub record PreTypes (pre : L1Pre) : Type 0 where
  pub tx_id_availability : pre.tx_id_availability < 2 ^ 8
  pub cell_id : pre.cell_id < 2 ^ 16
  pub network_id : pre.network_id < 2 ^ 16
  pub t2_system_id : pre.t2_system_id < 2 ^ 16
  pub num_t2_frames : pre.num_t2_frames < 2 ^ 8

pub record PlpTypes (plp : ConfPlp) : Type 0 where
  pub plp_id : plp.plp_id < 2 ^ 8
  pub plp_group_id : plp.plp_group_id < 2 ^ 8
  pub time_il_length : plp.time_il_length < 2 ^ 8

pub pre_numbers_fit : (pre : L1Pre) → PreTypes pre → HasPreNumbers pre → PreFits pre
unfolding PreFits RowsFit Fits
pre_numbers_fit pre r n = grind (arith, eq-eqb, pow_pos)

pub plp_numbers_fit : (plp : ConfPlp) → PlpTypes plp → HasPlpNumbers plp → RowsFit conf_plp_rows plp
unfolding RowsFit Fits
plp_numbers_fit plp r n = grind (arith, le-leb, eq-eqb, pow_pos)

pub conf_numbers_fit : (sub_slices frequency : ℕ) (plps : List ConfPlp) → sub_slices ≤ 6480 → frequency < 2 ^ 32
    → 1 ≤ length plps
    → length plps ≤ 255 → All (RowsFit conf_plp_rows) plps →
    ConfFits (conf_with sub_slices frequency plps)
unfolding RowsFit Fits
conf_numbers_fit sub_slices frequency plps few small some most fits = grind (arith, le-leb, pow_pos)
