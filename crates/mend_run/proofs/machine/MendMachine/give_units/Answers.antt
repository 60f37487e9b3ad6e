use Rattle.std.proofs.Common.{◌≡◌, ◌<◌, ◌/◌, ◌++◌, ◌∷◌, true, ℕ, List, [], take, Some, refl, ap, sym, subst, ◌∙◌, arith}
use Rattle.std.proofs.Math.Bridge.{le_prop}
use Rattle.std.proofs.Math.Logic.{∥∥₁_elim}
use Rattle.std.proofs.lemmas.List.{length-take-le}
use Rattle.ts_packet.specs.declared.sizes.TheConstants.{SIZE}
use Rattle.plp_config.specs.declared.config.Config.{Config}
use Rattle.t2mi_stream.specs.Complete.{complete_units}
use Rattle.spaced_frames.specs.StandsFor.{SenderStandsFor, Content, HasGiven, content_of, config_of}
use Rattle.spaced_frames.specs.StandsFor.{left_of as sender_left}
use Rattle.mended_frames.specs.Mended.{frames_of}
use Rattle.mended_frames.specs.StandsFor.{lent_content}
use Rattle.file_run.specs.Events.{Gave, gave}
use Rattle.mend_run.specs.AsMachine.{left_of, left_at}
use Rattle.mend_run.specs.Shown.{HasShown, Sends, Passes, with_units}
use Rattle.mend_run.specs.declared.phase.Phase.{Phase}
use Rattle.mend_run.specs.declared.phase.Phase.TheVariants as phase
use Rattle.mend_run.specs.declared.tally.Tally.{Tally}
use Rattle.mend_run.proofs.ShownLemmas.{at_place, from_place, stands_as, stands_by, shown_given}
use Rattle.mend_run.proofs.TallyLemmas.{tally_units}
use Rattle.mend_run.proofs.machine.MendMachine.give_units.Goals as goal

pub returns-then-not-busy-clause-shown : goal.returns-then-not-busy-clause-shown
returns-then-not-busy-clause-shown c = λ k count done came.
    let m = c.args.self.now in
    let n = c.args.number in
    let from = c.args.from in
    let s = at_place k count done m (phase.Sends n from) c.requires.sends came in
    let len = c.give-len.result.0 in
    let out : List ℕ = take len c.give-len.new.out in
    let frame = c.frame-frame.result in
    let y : Content = lent_content from m.mender m.feeds.items in
    let is : content_of frame ≡ y =
    c.frame-frame.ensures.held ∙ ap (lent_content from m.mender) c.deref.ensures.value in
    let d : Config = config_of m.sender in
    let same : d ≡ k = m.sends ∙ s.plan in
    let tell = c.events_law.ensures in
    let t = tell.given out done in
    let size = c.give-len.ensures.size in
    let inside = c.give-len.ensures.count in
    let old : SenderStandsFor k m.sender (content_of frame) (frames_of k s.made) (gave done) = rw is s.is_at.stands in
    let new = stands_by k d m.sender c.give-len.new.self (content_of frame) (frames_of k s.made) (gave done)
    (gave done ++ out) same (c.give-len.ensures.stands (frames_of k s.made) (gave done)) old in
    let stands : SenderStandsFor k c.give-len.new.self (content_of frame) (frames_of k s.made)
    (gave (done ++ Gave out ∷ [])) =
    rw t.gave new in
    let caught : HasGiven complete_units k (frames_of k s.made) (gave (done ++ Gave out ∷ [])) =
    subst (λ (z : Config). HasGiven complete_units z (frames_of k s.made) (gave (done ++ Gave out ∷ []))) same
    (rw t.gave (c.give-len.ensures.caught c.if-not-busy.true (frames_of k s.made) (gave done)
    (stands_as d k m.sender (content_of frame) (frames_of k s.made) (gave done) (sym same) old))) in
    c.pass.ensures.shown k count (done ++ Gave out ∷ [])
    (shown_given tell k count done out m _ (Sends n from) (Passes (Some n) true) s refl refl refl
    (c.add_units.ensures ∙ ap (λ (x : Tally). with_units x (len / SIZE)) s.tally
    ∙ tally_units s.made (gave done) out len (length-take-le len c.give-len.new.out (omega (arith, size, inside)))
    c.give-len.ensures.whole)
    (λ xs ys x. x) (
      record { content = content_of frame; stands = stands; caught = caught },
      s.is_at.known,
    ))

pub returns-then-not-busy-clause-left : goal.returns-then-not-busy-clause-left
returns-then-not-busy-clause-left c = ∥∥₁_elim c.requires.came le_prop (λ (h : HasShown c.args.self.now).
    let m = c.args.self.now in
    let n = c.args.number in
    let from = c.args.from in
    let new = c.pass.new.self in
    let s = at_place h.network h.count h.events m (phase.Sends n from) c.requires.sends h.shown in
    let less = c.pass.ensures.left s.is_at.passes in
    let is : content_of c.frame-frame.result ≡ lent_content from m.mender m.feeds.items =
    c.frame-frame.ensures.held ∙ ap (lent_content from m.mender) c.deref.ensures.value in
    let fewer = c.give-len.ensures.less in
    let some : 0 < sender_left m.plan.now m.sender (lent_content from m.mender m.feeds.items) =
    subst (λ (z : Config). 0 < sender_left z m.sender (lent_content from m.mender m.feeds.items)) m.sends
    (subst (λ (x : Content). 0 < sender_left (config_of m.sender) m.sender x) is (omega (arith, fewer))) in
    let was : left_of m ≡ _ = ap (λ (p : Phase). left_at p m) c.requires.sends in
    let now : left_of new ≡ _ = ap (λ (p : Phase). left_at p new) c.pass.ensures.phase in
    omega (arith, less, some, was, now))

pub returns-else-not-busy-clause-shown : goal.returns-else-not-busy-clause-shown
returns-else-not-busy-clause-shown c = λ k count done came.
    let m = c.args.self.now in
    let n = c.args.number in
    let from = c.args.from in
    let s = at_place k count done m (phase.Sends n from) c.requires.sends came in
    let len = c.give-len.result.0 in
    let out : List ℕ = take len c.give-len.new.out in
    let frame = c.frame-frame.result in
    let y : Content = lent_content from m.mender m.feeds.items in
    let is : content_of frame ≡ y =
    c.frame-frame.ensures.held ∙ ap (lent_content from m.mender) c.deref.ensures.value in
    let d : Config = config_of m.sender in
    let same : d ≡ k = m.sends ∙ s.plan in
    let tell = c.events_law.ensures in
    let t = tell.given out done in
    let size = c.give-len.ensures.size in
    let inside = c.give-len.ensures.count in
    let old : SenderStandsFor k m.sender (content_of frame) (frames_of k s.made) (gave done) = rw is s.is_at.stands in
    let new = stands_by k d m.sender c.give-len.new.self (content_of frame) (frames_of k s.made) (gave done)
    (gave done ++ out) same (c.give-len.ensures.stands (frames_of k s.made) (gave done)) old in
    let stands : SenderStandsFor k c.give-len.new.self y (frames_of k s.made) (gave (done ++ Gave out ∷ [])) =
    rw t.gave (rw is at new) in
    from_place k count (done ++ Gave out ∷ []) _ (phase.Sends n from) c.requires.sends
    (shown_given tell k count done out m _ (Sends n from) (Sends n from) s refl refl refl
    (c.add_units.ensures ∙ ap (λ (x : Tally). with_units x (len / SIZE)) s.tally
    ∙ tally_units s.made (gave done) out len (length-take-le len c.give-len.new.out (omega (arith, size, inside)))
    c.give-len.ensures.whole)
    (λ xs ys x. x)
    (record {
      stands = stands;
      known = s.is_at.known;
      passes = s.is_at.passes;
    }))
