use Rattle.std.proofs.Common.{◌<◌, ◌==◌, ◌∙◌, false, length, map, set, get_or, ap, refl, arith}
use Rattle.std.proofs.lemmas.Grind.{common_steps}
use Rattle.std.proofs.lemmas.List.{length-map, map-set, get_or-set_same}
use Rattle.ports.proofs.HandleLemmas.{map-set_moved, map-set_stayed}
use Rattle.ports.proofs.host.HostDeskDesk.read.Goals as goal

pub returns-in-Ok-clause-ok : goal.returns-in-Ok-clause-ok
returns-in-Ok-clause-ok g c =
    let came : c.args.handle < length c.self.inside.handles.items = grind (arith, common_steps, length-map) in
    let moved = map-set_moved (λ x. x.place) c.self.inside.handles.items c.args.handle c.in-Ok.count
    c.index_mut.result.now
    c.read.new.self came c.index_mut.ensures.value c.in-Ok.ensures.ok.0 in
    let ended = map-set (λ x. x.ended) c.self.inside.handles.items c.args.handle c.read.new.self
    ∙ ap (set (map (λ x. x.ended) c.self.inside.handles.items) c.args.handle) c.in-Ok.ensures.ok.1 in
    rw (← c.self.view_is)
    (record {
      held = refl;
      said = refl;
      opened = moved;
      ended = ended;
      created = refl;
      next = refl;
      end = tt;
      runs_out = ap (λ l. get_or l c.args.handle false) ended
          ∙ get_or-set_same (map (λ x. x.ended) c.self.inside.handles.items) c.args.handle (c.in-Ok.count == 0) false
          (rw length-map came);
      others = λ other apart. refl;
    })

pub returns-in-Err-clause-fault : goal.returns-in-Err-clause-fault
returns-in-Err-clause-fault g c =
    let stayed = map-set_stayed (λ x. x.place) c.self.inside.handles.items c.args.handle c.index_mut.result.now
    c.read.new.self
    c.index_mut.ensures.value c.in-Err.ensures.err.0 in
    let same = map-set_stayed (λ x. x.ended) c.self.inside.handles.items c.args.handle c.index_mut.result.now
    c.read.new.self
    c.index_mut.ensures.value c.in-Err.ensures.err.1 in
    rw (← c.self.view_is) (rw (stayed, same, c.fail.ensures.one) refl)
