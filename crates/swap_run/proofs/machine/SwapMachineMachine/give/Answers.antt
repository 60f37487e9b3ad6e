use Rattle.std.proofs.Common.{ℕ, List, [], ◌∷◌, ◌++◌, drop, sym, subst}
use Rattle.std.proofs.lemmas.List.{take-append-le}
use Rattle.ts_packet.specs.declared.sizes.TheConstants.{SIZE}
use Rattle.file_run.specs.Events.{Gave}
use Rattle.region_swap.specs.StandsFor.{status_of}
use Rattle.swap_run.specs.Shown.{Shown}
use Rattle.swap_run.proofs.NextLemmas.{shown_still}
use Rattle.swap_run.proofs.ShownLemmas.{has_shown}
use Rattle.swap_run.proofs.StepLemmas.{rests_at}
use Rattle.swap_run.proofs.machine.SwapMachineMachine.give.Goals as goal

pub returns-in-Records-clause-becomes : goal.returns-in-Records-clause-becomes
returns-in-Records-clause-becomes c = λ start events s.
    let k = start.plan.now in
    let plp = (status_of start.swapper).plp in
    shown_still c.events_law.ensures k plp _ events (c.look.ensures.shown k plp events s)

pub returns-in-Packets-clause-becomes : goal.returns-in-Packets-clause-becomes
returns-in-Packets-clause-becomes c = λ start events s.
    let k = start.plan.now in
    let plp = (status_of start.swapper).plp in
    shown_still c.events_law.ensures k plp _ events (c.go_on.ensures.shown k plp events s)

pub returns-in-Drains-clause-becomes : goal.returns-in-Drains-clause-becomes
returns-in-Drains-clause-becomes c = λ start events s.
    let k = start.plan.now in
    let plp = (status_of start.swapper).plp in
    shown_still c.events_law.ensures k plp _ events (c.finish.ensures.shown k plp events s)

pub returns-in_default-clause-becomes : goal.returns-in_default-clause-becomes
returns-in_default-clause-becomes c = λ start events s.
    let k = start.plan.now in
    let plp = (status_of start.swapper).plp in
    let n = c.give_rest.ensures.count in
    subst (λ (l : List ℕ). Shown k plp (events ++ Gave l ∷ []) c.give_rest.new.self)
    (sym (take-append-le c.give_rest.result c.give_rest.new.unit (drop SIZE c.args.out.now) n))
    (c.give_rest.ensures.shown k plp events s)

pub look-requires-clause-came : goal.look-requires-clause-came
look-requires-clause-came c = has_shown _ c.requires.came

pub go_on-requires-clause-came : goal.go_on-requires-clause-came
go_on-requires-clause-came c = has_shown _ c.requires.came

pub finish-requires-clause-came : goal.finish-requires-clause-came
finish-requires-clause-came c = has_shown _ c.requires.came

pub returns-in-Units-clause-becomes : goal.returns-in-Units-clause-becomes
returns-in-Units-clause-becomes c = λ start events s. c.give_units.ensures.shown _ _ events s

pub give_units-requires-clause-came : goal.give_units-requires-clause-came
give_units-requires-clause-came c = has_shown _ c.requires.came

pub give_rest-requires-clause-came : goal.give_rest-requires-clause-came
give_rest-requires-clause-came c = has_shown _ c.requires.came

pub give_rest-requires-clause-rests : goal.give_rest-requires-clause-rests
give_rest-requires-clause-rests c =
    rests_at c.args.self.now c.requires.gives c.in_default.not-Records c.in_default.not-Packets c.in_default.not-Drains
    c.in_default.not-Units
