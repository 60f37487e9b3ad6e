use Rattle.std.proofs.Common.{◌≡◌, ◌∙◌, None, ap, sym, subst}
use Rattle.std.proofs.lemmas.Option.{same_Some}
use Rattle.frame_groups.specs.Records.{record_of}
use Rattle.frame_groups.specs.declared.waiting.Waiting.{Waiting}
use Rattle.frame_groups.specs.Tests.{group_fault}
use Rattle.open_group.specs.FrameBytes.{Status}
use Rattle.open_group.specs.Written.{spelled}
use Rattle.modulator.specs.Modulating.{course_of}
use Rattle.modulator.proofs.BeginLemmas.{begun_gives}
use Rattle.modulator.proofs.modulating.Modulating.begin_next.Goals as goal

pub returns-in-Some-clause-course : goal.returns-in-Some-clause-course
returns-in-Some-clause-course c =
    ap (λ (s : Status). record (course_of c.args.self.now) { key = s.key; network = s.network })
    c.begin_record.ensures.status

pub returns-in-Some-clause-gives : goal.returns-in-Some-clause-gives
returns-in-Some-clause-gives c = λ bytes given taken st e.
    let old = c.args.self.now in
    begun_gives old _ bytes given taken
    (ap (λ (s : Status). record (course_of old) { key = s.key; network = s.network }) c.begin_record.ensures.status)
    c.begin_record.ensures.group
    (λ w past h i held pass.
    let same : w ≡ c.in-Some.waiting = same_Some w c.in-Some.waiting (sym i ∙ sym c.waiting.ensures
    ∙ c.in-Some.is) in
    c.begin_record.ensures.left past h held
    (subst (λ (v : Waiting). v.mute ≡ None → group_fault old.sequence.group.network past h v.frame ≡ None) same pass)
    ∙ ap (λ (v : Waiting). spelled old.sequence.group.network (record_of h v)) (sym same))
    st e

pub returns-in-Some-clause-most : goal.returns-in-Some-clause-most
returns-in-Some-clause-most c = λ _. c.begin_record.ensures.most
