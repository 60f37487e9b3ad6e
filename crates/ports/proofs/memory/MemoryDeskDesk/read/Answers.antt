use Rattle.std.proofs.Common.{◌<◌, length, Some, ap, arith}
use Rattle.std.proofs.lemmas.Grind.{common_steps}
use Rattle.std.proofs.lemmas.List.{length-map}
use Rattle.ports.specs.MemoryDesk.{Gives}
use Rattle.ports.specs.Stored.{files_of}
use Rattle.ports.proofs.GivenLemmas.{gives_on}
use Rattle.ports.proofs.HandleLemmas.{reads_on}
use Rattle.ports.proofs.memory.MemoryDeskDesk.read.Goals as goal

pub returns-clause-ok : goal.returns-clause-ok
returns-clause-ok c =
    let came : c.args.handle < length c.self.inside.handles.items = grind (arith, common_steps, length-map) in
    rw (← c.self.view_is)
    (reads_on (files_of c.self.inside.files) c.self.inside.handles.items _ _ _ _ c.args.handle
    c.read.result c.index_mut.result.now c.read.new.self c.read.new.buffer
    came c.index_mut.ensures.value c.read.ensures.name c.read.ensures.place c.read.ensures.ended c.read.ensures.next
    c.read.ensures.end)

pub returns-clause-given : goal.returns-clause-given
unfolding Gives
returns-clause-given c =
    let came : c.args.handle < length c.self.inside.handles.items = grind (arith, common_steps, length-map) in
    rw (← c.self.view_is)
    (λ name. ap Some (gives_on c.self.inside.handles.items c.args.handle c.read.result c.index_mut.result.now
    c.read.new.self name
    came c.index_mut.ensures.value c.read.ensures.name c.read.ensures.place))
