use Rattle.std.proofs.Common.{◌<◌, [], length, sym, ap, ◌∙◌, arith, string_bytes}
use Rattle.std.proofs.lemmas.List.{get_or-map}
use Rattle.ports.specs.Stored.{files_of}
use Rattle.ports.proofs.WriteLemmas.{writes_on}
use Rattle.ports.proofs.memory.MemoryDeskDesk.write.Goals as goal

pub returns-then-append-clause-ok : goal.returns-then-append-clause-ok
returns-then-append-clause-ok c =
    let inside : c.args.out < length c.self.inside.outs.items =
    omega (arith, c.requires.created, ap (λ m. m.state.created) c.self.view_is) in
    let named = c.as_str-name.ensures.value ∙ ap string_bytes c.index.ensures
    ∙ sym (get_or-map string_bytes c.self.inside.outs.items c.args.out c.index.result.now [] inside) in
    rw (← c.self.view_is)
    (writes_on (files_of c.self.inside.files) (files_of c.append.new.files) _ _ _ _ _ _ _ c.args.out _ _ named
    (c.append.ensures.done c.if-append.true))
