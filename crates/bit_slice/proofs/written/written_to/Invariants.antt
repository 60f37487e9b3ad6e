use Rattle.bit_slice.proofs.written.written_to.Given as goal

abbrev pub ghost-these : goal.ghost-these
ghost-these g a = λ sink. (g.S.BitSink.state sink).written
