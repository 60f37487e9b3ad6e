-- The slots that are given out when a frame has ended, and those that are held.
use Rattle.std.proofs.Common.{ℕ, ◌+◌, ◌*◌, ◌^◌, ◌<◌, length, arith}
use Rattle.plp_config.proofs.TableLemmas.{slot_length, epoch_ticks_range}
use Rattle.plp_config.proofs.TimeLemmas.{released_first, window_small}
use Rattle.plp_config.specs.Laws.{ReleasedByFrame}
use Rattle.plp_config.specs.Rules.{AllRules}
use Rattle.plp_config.specs.SlotTime.{num, den, epoch_ticks, delay, window}
use Rattle.plp_config.specs.declared.config.Config.{Config}

pub released_by_frame : ReleasedByFrame
released_by_frame c plp frame slot rules inside =
    let range = slot_length c plp rules inside in
    let some : 0 < den c plp = omega (arith, range.0) in
    let long : 0 < num c = omega (arith, range.0, range.2) in
    let first = released_first (num c) (den c plp) (delay c plp) ((frame + 1) * c.ticks) slot long some in
    (first.1, first.0)

-- a window is small
pub window_few : (c : Config) (plp : ℕ) → AllRules c → plp < length c.plps → window c plp < 2 ^ 20
window_few c plp rules inside =
    let slot = slot_length c plp rules inside in
    let epoch = epoch_ticks_range c plp rules inside in
    window_small (num c) (den c plp) (epoch_ticks c plp) c.ticks (omega (arith, slot.0)) slot.2 epoch.1 epoch.0
