use Rattle.std.proofs.Common.{ℕ, List, [], ◌∷◌, ◌++◌, drop, sym, subst}
use Rattle.std.proofs.lemmas.List.{take-append-le}
use Rattle.ts_packet.specs.declared.sizes.TheConstants.{SIZE}
use Rattle.file_run.specs.Events.{Gave}
use Rattle.merge_run.specs.Shown.{Shown}
use Rattle.merge_run.proofs.ShownLemmas.{has_shown, shown_still}
use Rattle.merge_run.proofs.StepLemmas.{rests_at}
use Rattle.merge_run.proofs.machine.MergeMachineMachine.give.Goals as goal

pub go_on-requires-clause-came : goal.go_on-requires-clause-came
go_on-requires-clause-came c = has_shown _ c.requires.came

pub returns-in-Reads-clause-becomes : goal.returns-in-Reads-clause-becomes
returns-in-Reads-clause-becomes c = λ start events s.
    shown_still c.events_law.ensures _ _ events (c.go_on.ensures.shown _ events s)

pub give_units-requires-clause-came : goal.give_units-requires-clause-came
give_units-requires-clause-came c = has_shown _ c.requires.came

pub returns-in-Gives-clause-becomes : goal.returns-in-Gives-clause-becomes
returns-in-Gives-clause-becomes c = λ start events s. c.give_units.ensures.shown _ events s

pub give_rest-requires : goal.give_rest-requires
give_rest-requires c = record {
  came = has_shown _ c.requires.came;
  rests = rests_at c.args.self.now c.requires.gives c.in_default.not-Reads c.in_default.not-Gives;
}

pub returns-in_default-clause-becomes : goal.returns-in_default-clause-becomes
returns-in_default-clause-becomes c = λ start events s.
    let n = c.give_rest.ensures.count in
    subst (λ (l : List ℕ). Shown start.plan.now (events ++ Gave l ∷ []) c.give_rest.new.self)
    (sym (take-append-le c.give_rest.result c.give_rest.new.unit (drop SIZE c.args.out.now) n))
    (c.give_rest.ensures.shown _ events s)
