use Rattle.std.proofs.Common.{drop}
use Rattle.std.proofs.lemmas.List.{take-append-le}
use Rattle.ts_packet.specs.declared.sizes.TheConstants.{SIZE}
use Rattle.mend_run.specs.Shown.{place_of}
use Rattle.mend_run.proofs.ShownLemmas.{has_shown, shown_still}
use Rattle.mend_run.proofs.machine.MendMachineMachine.give.Goals as goal

pub returns-in-Looks-clause-becomes : goal.returns-in-Looks-clause-becomes
returns-in-Looks-clause-becomes c = λ start events s.
    shown_still c.events_law.ensures _ _ events c.go_on.new.self (place_of c.go_on.new.self.phase)
    (c.go_on.ensures.shown _ _ events s)

pub give_units-requires-clause-came : goal.give_units-requires-clause-came
give_units-requires-clause-came c = has_shown _ c.requires.came

pub returns-in-Rests-clause-becomes : goal.returns-in-Rests-clause-becomes
returns-in-Rests-clause-becomes c = λ start events s.
    let n = c.give_rest.ensures.count in
    rw (take-append-le c.give_rest.result c.give_rest.new.unit (drop SIZE c.args.out.now) n)
    (c.give_rest.ensures.shown _ _ events s)
