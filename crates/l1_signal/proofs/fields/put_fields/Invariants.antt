use Rattle.l1_signal.proofs.PutLemmas.{IsPut}
use Rattle.l1_signal.proofs.fields.put_fields.Given as goal

abbrev pub invariant-loop-i : goal.invariant-loop-i
invariant-loop-i g l = IsPut l.table l.values l.i (g.S.BitSink.state l.initial.sink) (g.S.BitSink.state l.sink)
