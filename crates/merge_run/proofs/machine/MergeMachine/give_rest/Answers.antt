use Rattle.std.proofs.Common.{ℕ, List, [], ◌∷◌, ◌++◌, sym, subst, arith}
use Rattle.std.proofs.lemmas.List.{take_all}
use Rattle.ts_packet.specs.declared.sizes.TheConstants.{SIZE}
use Rattle.file_run.specs.Events.{Gave}
use Rattle.merge_run.specs.Shown.{Shown, HasShown}
use Rattle.merge_run.specs.declared.stop.MergeRan.{MergeRan}
use Rattle.feed_merge.proofs.BothCameLemmas.{less_of, test_of}
use Rattle.merge_run.proofs.GiveLemmas.{few_units, shown_rest, shown_done}
use Rattle.merge_run.proofs.ShownLemmas.{resting}
use Rattle.merge_run.proofs.machine.MergeMachine.give_rest.Goals as goal

pub returns-then-rest-clause-shown : goal.returns-then-rest-clause-shown
returns-then-rest-clause-shown c = λ k events s.
    let m = c.args.self.now in
    let g = c.rest.new.self in
    let unit = c.rest.new.out in
    let n = c.rest.ensures in
    let on = c.if-rest.true in
    subst (λ (l : List ℕ). Shown k (events ++ Gave l ∷ []) (record m { merger = g; ran = c.add_units.new.self }))
    (sym (take_all SIZE unit (omega (arith, c.rest.array_long))))
    (subst (λ (r : MergeRan). Shown k (events ++ Gave unit ∷ []) (record m { merger = g; ran = r }))
    (sym c.add_units.ensures)
    (shown_rest c.events_law.ensures k m g events s c.requires.rests n.config n.finished n.fed unit (n.unit on)
    (n.stands on) (n.less on)))

pub returns-clause-shown : goal.returns-clause-shown
returns-clause-shown c = λ k events s.
    let n = c.rest.ensures in
    shown_done c.events_law.ensures k c.args.self.now c.rest.new.self events s c.requires.rests
    n.config n.finished n.fed
    (n.none c.if-rest.false) (n.kept c.if-rest.false)

pub rest-requires : goal.rest-requires
rest-requires c = record {
  finished = test_of _ _ c.requires.came
      (λ (h : HasShown c.args.self.now). (resting h.network c.args.self.now h.events h.shown c.requires.rests).over);
  fed = test_of _ _ c.requires.came
      (λ (h : HasShown c.args.self.now). (resting h.network c.args.self.now h.events h.shown c.requires.rests).all_fed);
}

pub add_units-requires : goal.add_units-requires
add_units-requires c = record {
  few = less_of _ _ c.requires.came (λ (h : HasShown c.args.self.now).
      let f = few_units h.network c.args.self.now h.events h.shown in omega (arith, f));
}
