use Rattle.std.proofs.Common.{◌++◌, ◌∷◌, [], ap, refl, arith}
use Rattle.frame_groups.specs.Records.{record_of}
use Rattle.frame_groups.specs.declared.waiting.Progress.{Progress}
use Rattle.modulator.proofs.LeftLemmas.{ahead_gave}
use Rattle.modulator.proofs.StandsLemmas.{record_gave}
use Rattle.modulator.proofs.modulating.Modulating.gave.Goals as goal

pub returns-else-self-clause-stands : goal.returns-else-self-clause-stands
returns-else-self-clause-stands c = λ bytes given w group is h gs.
    let old = c.args.self.now in
    c.settle.ensures.stands bytes (given ++ record_of group w ∷ [])
    (record_gave c.due_law.ensures old (record old { sequence = c.gave.new.self }) bytes given w group is refl refl
    c.gave.ensures.group (ap (λ (p : Progress). p.closing) c.gave.ensures.rest) c.gave.ensures.follows h gs)

pub returns-then-self-clause-stands : goal.returns-then-self-clause-stands
returns-then-self-clause-stands c = λ bytes given w group is h gs.
    let old = c.args.self.now in
    let more = given ++ record_of group w ∷ [] in
    c.end.ensures.stands bytes more (c.settle.ensures.stands bytes more
    (record_gave c.due_law.ensures old (record old { sequence = c.gave.new.self }) bytes given w group is refl refl
    c.gave.ensures.group (ap (λ (p : Progress). p.closing) c.gave.ensures.rest) c.gave.ensures.follows h gs))

pub returns-else-self-clause-left : goal.returns-else-self-clause-left
returns-else-self-clause-left c =
    let old = c.args.self.now in
    let fewer = ahead_gave old.unpiper old.sequence.progress c.gave.new.self.progress c.gave.ensures.left in
    let settled = c.settle.ensures.left in
    omega (arith, fewer, settled)

pub returns-then-self-clause-left : goal.returns-then-self-clause-left
returns-then-self-clause-left c =
    let old = c.args.self.now in
    let fewer = ahead_gave old.unpiper old.sequence.progress c.gave.new.self.progress c.gave.ensures.left in
    let settled = c.settle.ensures.left in
    let ended = c.end.ensures.left in
    omega (arith, fewer, settled, ended)
