use Rattle.config_text.proofs.FieldLemmas.{Goes}
use Rattle.config_text.proofs.values.values_of.Given as goal

abbrev pub invariant-loop-place : goal.invariant-loop-place
invariant-loop-place l = Goes l.fields l.fn.words l.place l.words l.values
