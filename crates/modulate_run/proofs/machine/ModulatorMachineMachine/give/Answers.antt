use Rattle.std.proofs.Common.{◌≡◌, true, false, Some, is_some, refl, ap, sym, ◌∙◌, arith, rules}
use Rattle.std.proofs.lemmas.List.{length-take-le}
use Rattle.modulate_run.proofs.MachineLemmas.{waits_early, shown_gave, gave_event}
use Rattle.modulate_run.proofs.machine.ModulatorMachineMachine.give.Goals as goal

pub returns-then-not-is_of-clause-becomes : goal.returns-then-not-is_of-clause-becomes
returns-then-not-is_of-clause-becomes c = λ start events came.
    let now = c.args.self.now in
    let is : now.waiting ≡ Some c.unwrap-record.result = search rules in
    let t = c.take-count.ensures in
    let size = length-take-le c.take-count.result c.take-count.new.out (let m = t.most in let n = t.stays.0 in
    omega (arith, m, n)) in (
      t.config ∙ came.0,
      gave_event c.events_law.ensures _ events _
          (shown_gave c.due_records_law.ensures.follow now _ _ _ _ c.take-count.result _ c.unwrap-record.result false is
          (waits_early now.waiting now.ended c.unwrap-record.result c.requires.gives is) t.config refl
          (search rules) c.add.ensures t.fed size t.stands (t.within (sym now.waits ∙ ap is_some is))
          (c.waiting-self.ensures.some, c.waiting-self.ensures.none) came.1),
    )

pub returns-else-not-is_of-clause-becomes : goal.returns-else-not-is_of-clause-becomes
returns-else-not-is_of-clause-becomes c = λ start events came.
    let now = c.args.self.now in
    let is : now.waiting ≡ Some c.unwrap-record.result = search rules in
    let t = c.take-count.ensures in
    let size = length-take-le c.take-count.result c.take-count.new.out (let m = t.most in let n = t.stays.0 in
    omega (arith, m, n)) in (
      t.config ∙ came.0,
      gave_event c.events_law.ensures _ events _
          (shown_gave c.due_records_law.ensures.follow now _ _ _ _ c.take-count.result _ c.unwrap-record.result true is
          (waits_early now.waiting now.ended c.unwrap-record.result c.requires.gives is) t.config refl
          (search rules) refl t.fed size t.stands (t.within (sym now.waits ∙ ap is_some is))
          (c.waiting-self.ensures.some, c.waiting-self.ensures.none) came.1),
    )
