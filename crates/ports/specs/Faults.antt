-- What one counted fault makes of a state.
use Rattle.ports.specs.Counts.{with_fault}
use Rattle.ports.specs.Desk.{State}
use Rattle.ports.specs.declared.fault.FaultKind.TheVariants.{Reading, Writing, LastLine}

abbrev pub with_read_fault : State → State
with_read_fault s = record s { counts = with_fault Reading s.counts }

abbrev pub with_write_fault : State → State
with_write_fault s = record s { counts = with_fault Writing s.counts }

abbrev pub with_line_fault : State → State
with_line_fault s = record s { counts = with_fault LastLine s.counts }
