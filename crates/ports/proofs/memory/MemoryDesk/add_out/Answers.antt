use Rattle.std.proofs.Common.{sym, ◌∙◌, rules}
use Rattle.std.proofs.lemmas.List.{length-map}
use Rattle.ports.specs.Stored.{files_of}
use Rattle.ports.proofs.WriteLemmas.{creates_on}
use Rattle.ports.proofs.memory.MemoryDesk.add_out.Goals as goal

pub returns-clause-some : goal.returns-clause-some
returns-clause-some c =
    rw (← c.self.view_is)
    (creates_on (files_of c.self.inside.files) (files_of c.make_empty.new.files) _ _ _ _ _ _ _ _ _ c.len-at.result
    c.args.name.now
    (search rules) (length-map _ _ ∙ sym c.self.inside.outs.ok.0) (search rules) (search rules) (search rules))
