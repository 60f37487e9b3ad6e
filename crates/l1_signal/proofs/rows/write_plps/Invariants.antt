use Rattle.l1_signal.proofs.PartLemmas.{ArePut}
use Rattle.l1_signal.proofs.rows.write_plps.Given as goal

abbrev pub invariant-loop-i : goal.invariant-loop-i
invariant-loop-i g l = ArePut g.T.WritePlp.bits l.rows l.i (g.S.BitSink.state l.initial.sink) (g.S.BitSink.state l.sink)
