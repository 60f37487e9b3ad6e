use Rattle.std.proofs.Common.{◌≡◌, ◌++◌, ◌∷◌, ℕ, List, [], length, take, refl, ap, sym, subst, ◌∙◌, append-nil}
use Rattle.std.proofs.Math.Seq.{take-length}
use Rattle.ts_packet.specs.declared.sizes.TheConstants.{SIZE}
use Rattle.t2mi_stream.specs.Pipe.{pipe}
use Rattle.spaced_frames.specs.StandsFor.{SenderStandsFor, HasGiven}
use Rattle.file_run.specs.Events.{Gave, gave}
use Rattle.mended_frames.specs.Mended.{frames_of}
use Rattle.plp_config.specs.declared.config.Config.{Config}
use Rattle.mend_run.specs.Shown.{Rests, Done, tally_of, with_units}
use Rattle.mend_run.specs.declared.phase.Phase.TheVariants as phase
use Rattle.mend_run.specs.declared.tally.Tally.{Tally}
use Rattle.mend_run.proofs.ShownLemmas.{at_place, from_place, stands_as, stands_by, shown_given, ended_given}
use Rattle.mend_run.proofs.TallyLemmas.{tally_units}
use Rattle.mend_run.proofs.machine.MendMachine.give_rest.Goals as goal

pub returns-then-rest-clause-shown : goal.returns-then-rest-clause-shown
returns-then-rest-clause-shown c = λ k count done came.
    let m = c.args.self.now in
    let s = at_place k count done m phase.Rests c.requires.rests came in
    let out : List ℕ = c.rest.new.out in
    let whole : take SIZE out ≡ out = ap (λ (n : ℕ). take n out) (sym c.rest.array_long) ∙ take-length out in
    let one : List ℕ = take SIZE out in
    let same = m.sends ∙ s.plan in
    let tell = c.events_law.ensures in
    let t = tell.given one done in
    let stands : SenderStandsFor k c.rest.new.self s.is_at.content (frames_of k s.made) (gave (done ++ Gave one ∷ [])) =
    rw (t.gave, whole)
    (stands_by k _ m.sender c.rest.new.self s.is_at.content (frames_of k s.made) (gave done) (gave done ++ out)
    same (c.rest.ensures.stands c.if-rest.true s.is_at.content (frames_of k s.made) (gave done)) s.is_at.stands) in
    from_place k count (done ++ Gave one ∷ []) _ phase.Rests c.requires.rests
    (shown_given tell k count done one m _ Rests Rests s refl refl refl
    (c.add_units.ensures ∙ ap (λ (x : Tally). with_units x 1) s.tally
    ∙ tally_units s.made (gave done) one SIZE (ap length whole ∙ c.rest.array_long) refl)
    (λ xs ys x. x)
    (record {
      ended = ended_given tell count done one s.is_at.ended;
      content = s.is_at.content;
      stands = stands;
    }))

pub returns-clause-shown : goal.returns-clause-shown
returns-clause-shown c = λ k count done came.
    let m = c.args.self.now in
    let s = at_place k count done m phase.Rests c.requires.rests came in
    let same = m.sends ∙ s.plan in
    let tell = c.events_law.ensures in
    let t = tell.given [] done in
    shown_given tell k count done [] m _ Rests Done s refl refl refl
    (s.tally ∙ ap (tally_of s.made) (sym (append-nil (gave done)))) (λ xs ys x. x) (
      ended_given tell count done [] s.is_at.ended,
      subst (HasGiven pipe k (frames_of k s.made)) (sym (t.gave ∙ append-nil (gave done)))
          (subst (λ (x : Config). HasGiven pipe x (frames_of k s.made) (gave done)) same
          (c.rest.ensures.all c.if-rest.false s.is_at.content (frames_of k s.made) (gave done)
          (stands_as _ k m.sender s.is_at.content (frames_of k s.made) (gave done) (sym same) s.is_at.stands))),
    )
