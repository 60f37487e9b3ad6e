use Rattle.std.proofs.Common.{◌≡◌, ◌∙◌, true, false, refl, sym}
use Rattle.frame_writer.proofs.FlowLemmas.{dry_when, finished_when}
use Rattle.frame_writer.proofs.flow.Flow.next.Goals as goal

pub returns-then-not-next-clause-none : goal.returns-then-not-next-clause-none
returns-then-not-next-clause-none g c = λ off end all given h.
    let dry = dry_when c.args.self.now.dry _ _ c.args.self.now.full c.if-not-next.ensures.is in
    c.if-not-next.ensures.none refl (c.args.self.now.drained end dry) c.args.plan.now _ _ all given h
    (record { rest_is = c.args.self.now.fed dry; left_is = c.requires.over dry; more_is = refl })

pub returns-then-self-clause-unit : goal.returns-then-self-clause-unit
returns-then-self-clause-unit g c = λ on all given h more none.
    c.if-not-next.ensures.unit refl c.args.plan.now _ _ all given h more
    (λ fin. record {
      rest_is = c.args.self.now.fed c.if-self.true;
      left_is = c.requires.over c.if-self.true;
      more_is = none (finished_when c.args.self.now.finished _ c.args.self.now.«open» fin);
    })

pub returns-clause-unit : goal.returns-clause-unit
returns-clause-unit g c = λ on all given h more none.
    c.if-not-next.ensures.unit refl c.args.plan.now _ _ all given h more
    (λ fin. absurd (let z : true ≡ false = sym fin ∙ c.args.self.now.wet c.if-self.false in cc))

pub returns-then-not-next-clause-caught_up : goal.returns-then-not-next-clause-caught_up
returns-then-not-next-clause-caught_up g c = λ off begun all given h.
    let dry = dry_when c.args.self.now.dry _ _ c.args.self.now.full c.if-not-next.ensures.is in
    c.if-not-next.ensures.caught_up refl (c.args.self.now.«open» begun) c.args.plan.now _ _ all given h
    (record { rest_is = c.args.self.now.fed dry; left_is = c.requires.over dry; more_is = refl })

pub returns-then-self-clause-complete : goal.returns-then-self-clause-complete
returns-then-self-clause-complete g c = λ on begun all given h.
    c.if-not-next.ensures.complete refl (c.args.self.now.«open» begun) c.args.plan.now _ _ all given h

pub returns-clause-complete : goal.returns-clause-complete
returns-clause-complete g c = λ on begun all given h.
    c.if-not-next.ensures.complete refl (c.args.self.now.«open» begun) c.args.plan.now _ _ all given h
