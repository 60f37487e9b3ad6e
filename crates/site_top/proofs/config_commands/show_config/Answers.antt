use Rattle.std.proofs.Common.{inl, inr, length, refl, ap, arith}
use Rattle.plp_config.specs.Rules.{PlpCount}
use Rattle.plp_config.specs.declared.config.Config.{Config}
use Rattle.file_run.specs.declared.config_stop.ConfigStop.TheVariants as stop
use Rattle.site_top.proofs.config_commands.show_config.Goals as goal

pub write-requires : goal.write-requires
write-requires g c = omega (
  arith,
  ap (λ (x : Config). length x.plps) c.config.ensures.value,
  c.config.ensures.rules
      PlpCount,
)

pub returns : goal.returns
returns g c = inl (stop.OutOfMemory, inr c.in-Ok.ensures.ok.reads, refl)
