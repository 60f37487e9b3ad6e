use Rattle.std.proofs.Common.{arith, None, refl}
use Rattle.plp_config.proofs.RuleLemmas.{Tried, Tried-more, Tried-all}
use Rattle.plp_config.specs.Rules.{DistinctIds, TypeOrder, BlockLimit, InterleaverLength, BitRate, SpreadDivides}
use Rattle.plp_config.specs.Rules.{SpreadLength}
use Rattle.plp_config.specs.Rules.{EpochDuration, OneCommon, CommonRate, CommonShared}
use Rattle.plp_config.proofs.rules.plp_fault.Goals as goal

pub returns : goal.returns
returns c =
    let n = c.args.config.now in
    let ids : Tried 11 n c.fault_at.result =
    Tried-more n DistinctIds None _ _ _ (omega arith) (λ h. h) (λ h. h) c.requires c.repeated_id.ensures
    c.fault_at.ensures refl in
    let kinds : Tried 12 n c.or.result =
    Tried-more n TypeOrder _ _ _ _ (omega arith) (λ h. h) (λ h. h) ids c.falling_type.ensures c.fault_at-2.ensures
    c.or.ensures in
    let blocks : Tried 13 n c.or-2.result =
    Tried-more n BlockLimit _ _ _ _ (omega arith) (λ h. h) (λ h. h) kinds c.wrong_block_limit.ensures
    c.fault_at-3.ensures
    c.or-2.ensures in
    let lengths : Tried 14 n c.or-3.result = Tried-more n InterleaverLength _ _ _ _ (omega arith) (λ h. h)
    (λ h. h) blocks c.wrong_interleaver_length.ensures c.fault_at-4.ensures c.or-3.ensures in
    let rates : Tried 15 n c.or-4.result =
    Tried-more n BitRate _ _ _ _ (omega arith) (λ h. h) (λ h. h) lengths c.wrong_bit_rate.ensures c.fault_at-5.ensures
    c.or-4.ensures in
    let spreads : Tried 16 n c.or-5.result =
    Tried-more n SpreadDivides _ _ _ _ (omega arith) (λ h. h) (λ h. h) rates c.wrong_spread.ensures c.fault_at-6.ensures
    c.or-5.ensures in
    let single : Tried 17 n c.or-6.result =
    Tried-more n SpreadLength _ _ _ _ (omega arith) (λ h. h) (λ h. h) spreads c.wrong_spread_length.ensures
    c.fault_at-7.ensures
    c.or-6.ensures in
    let epochs : Tried 18 n c.or-7.result =
    Tried-more n EpochDuration _ _ _ _ (omega arith) (λ h. h) (λ h. h) single c.wrong_epoch.ensures c.fault_at-8.ensures
    c.or-7.ensures in
    let commons : Tried 19 n c.or-8.result =
    Tried-more n OneCommon _ _ _ _ (omega arith) (λ h. h) (λ h. h) epochs c.second_common.ensures c.fault_at-9.ensures
    c.or-8.ensures in
    let steps : Tried 20 n c.or-9.result =
    Tried-more n CommonRate _ _ _ _ (omega arith) (λ h. h) (λ h. h) commons c.wrong_common_rate.ensures
    c.fault_at-10.ensures
    c.or-9.ensures in
    Tried-all n _
    (Tried-more n CommonShared _ _ _ _ (omega arith) (λ h. h) (λ h. h) steps c.lone_common.ensures c.fault_at-11.ensures
    c.or-10.ensures)
