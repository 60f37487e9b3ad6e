use Rattle.std.proofs.Common.{◌≡◌, ◌+◌, ℕ, List, length, take, ap, sym, subst, ◌∙◌}
use Rattle.std.specs.Prelude.{slice_set}
use Rattle.t2mi_packet.specs.declared.packet.Body.{Body}
use Rattle.frame_writer.specs.Flowing.{Flows}
use Rattle.stream_laws.specs.Remade.{remade_bodies, remade_packets}
use Rattle.region_swap.specs.Left.{left_by, own_list}
use Rattle.region_swap.specs.StandsFor.{SwapperStandsFor, left_in}
use Rattle.region_swap.specs.Swapped.{swapped}
use Rattle.frame_writer.specs.Units.{GivesAll}
use Rattle.region_swap.specs.declared.place.SwapPlace.{SwapPlace}
use Rattle.region_swap.proofs.SwapLemmas.{swaps_flow}
use Rattle.region_swap.proofs.swapper.Swapper.give.Goals as goal

pub returns-clause-gives : goal.returns-clause-gives
unfolding SwapperStandsFor remade_packets
returns-clause-gives c =
    let s = c.args.self.now in
    let p = s.plan.now in
    let f = c.args.frame.now in
    let u = c.give-len in
    let place = c.new-source.ensures.place in
    let lists : List (List (List ℕ)) = slice_set f.blocks.now.lists s.list
    (own_list s.region.sends s.region.blocks s.list) in
    let rest : List Body = left_by p u.new.source.place f.pre f.conf s.dynamic.bits lists in
    let g : GivesAll p s.flow u.new.self s.place.number (left_in s f) rest u.result.1 (take u.result.0 u.new.out) =
    subst (λ (pl : SwapPlace). GivesAll p s.flow u.new.self pl.number (left_by p pl f.pre f.conf s.dynamic.bits lists)
    rest u.result.1
    (take u.result.0 u.new.out)) place u.ensures.gives in
    let number : u.new.source.place.number ≡ s.place.number = u.ensures.number
    ∙ ap (λ (pl : SwapPlace). pl.number) place in
    record {
      units = g.units;
      bytes_are = g.bytes_are;
      size = g.size;
      stands = λ config plp t frames given h. (
        h.0,
        h.1,
        swaps_flow p s.list s.region s.flow u.new.self s.place u.new.source.place s.number s.begun t
            (left_in s f) rest frames given
            (given + length g.units)
            (λ all x. subst (λ (n : ℕ). Flows u.new.self.outlet p n rest all (given + length g.units)) (sym number)
            (g.gives.flows all given x)) h.2,
      );
      next = λ config plp t frames given h input cont more over.
          rw (sym h.0, sym h.1)
          (g.gives.next (remade_bodies p (swapped p s.list input frames)) given (h.2.flows input cont) more over);
      complete = λ going some config plp t frames given h input cont.
          rw (sym h.0, sym h.1)
          (g.gives.complete going some (remade_bodies p (swapped p s.list input frames)) given (h.2.flows input cont));
      some = g.some;
      all = λ off going config plp t frames given h input cont.
          rw (sym h.0, sym h.1)
          ((g.caught off).all (g.gives.finished ∙ going) (remade_bodies p (swapped p s.list input frames))
          (given + length g.units)
          (g.gives.flows (remade_bodies p (swapped p s.list input frames)) given (h.2.flows input cont)));
      spent = λ off. (g.caught off).spent;
      less = g.gives.less;
    }
