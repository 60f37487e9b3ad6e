use Rattle.std.proofs.Common.{arith}
use Rattle.config_text.proofs.FieldLemmas.{goes_ends}
use Rattle.config_text.proofs.values.values_of.Goals as goal

pub returns-clause-ok : goal.returns-clause-ok
returns-clause-ok c =
    goes_ends c.args.fields.now c.args.words c.loop-place.place c.loop-place.words c.loop-place.values
    c.loop-place.invariant
    (omega arith) c.requires.few
