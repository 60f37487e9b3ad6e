use Rattle.std.proofs.Common.{subst, sym, refl}
use Rattle.config_text.specs.ConfigText.{Spells}
use Rattle.plp_config.specs.Rules.{AllRules}
use Rattle.file_run.proofs.config_reading.valid_config.Goals as goal

pub returns-in-Err-clause-err : goal.returns-in-Err-clause-err
returns-in-Err-clause-err c = c.refused_text.ensures c.args.text.now c.in-Err.ensures.err

pub returns-in-Ok-validate-clause-ok : goal.returns-in-Ok-validate-clause-ok
returns-in-Ok-validate-clause-ok c =
    let same = c.in-Ok-validate.ensures.ok in (
      subst (Spells c.args.text.now) (sym same) c.in-Ok.ensures.ok,
      subst AllRules (sym same) (c.in-Ok-validate.ensures.valid.0 refl),
    )
