-- The PLPs of a group with a common one keep step.
use Rattle.std.proofs.Common.{◌≡◌, ℕ, ◌*◌, true, false, refl, ap₂, sym, ◌∙◌}
use Rattle.plp_config.specs.Plps.{plp_at, spread}
use Rattle.plp_config.specs.Rules.Rule.{CommonRate}
use Rattle.plp_config.specs.SlotTime.{num, den}
use Rattle.plp_config.specs.SlotTimes.{slot_times}
use Rattle.plp_config.specs.Tables.{subseconds_per_tick}
use Rattle.plp_config.specs.declared.config.Config.{Config}
use Rattle.plp_config.specs.declared.plp.PlpType.{PlpType}
use Rattle.plp_config.specs.declared.plp.PlpType.TheVariants.{Common, Type1, Type2}
use Rattle.plp_config.specs.declared.slot_times.SlotTimes.{SlotTimes}
use Rattle.common_plp.specs.Groups.{is_common_type}
use Rattle.common_plp.specs.Laws.{InStep}
use Rattle.common_plp.proofs.LawLemmas.{has_common}

pub type_is : (t : PlpType) → is_common_type t ≡ true → t ≡ Common
type_is Common e = refl
type_is Type1 e = absurd (let f : false ≡ true = e in cc)
type_is Type2 e = absurd (let f : false ≡ true = e in cc)

-- the times of slots, by a bit rate and a spread
times_with : Config → ℕ → ℕ → SlotTimes
times_with c bits spread = record { num = num c; den = bits * subseconds_per_tick c.band; epoch = spread * c.ticks }

times_are : (c : Config) (plp : ℕ) → slot_times c plp ≡ times_with c (plp_at c.plps plp).bits_per_second
    (spread c.plps plp)
unfolding den times_with
times_are c plp = refl

pub in_step : InStep
in_step c plp common rules inside is =
    let h = has_common c plp common is in
    let s = rules CommonRate plp inside common h.inside (type_is (plp_at c.plps common).plp_type h.is, h.same) in
    (times_are c common ∙ ap₂ (times_with c) (sym s.0) (sym s.1) ∙ sym (times_are c plp), sym s.1)
