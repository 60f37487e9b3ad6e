use Rattle.std.proofs.Common.{◌∙◌, ap, ◌∷◌, [], ℕ}
use Rattle.t2mi_packet.specs.declared.packet.Body.TheVariants.{Timestamp}
use Rattle.frame_writer.specs.FramePackets.{stamp_of}
use Rattle.spaced_frames.proofs.SendLemmas.{sends_begun_as}
use Rattle.spaced_frames.proofs.sender.Sender.begin_spacer.Goals as goal

pub returns-clause-begun : goal.returns-clause-begun
returns-clause-begun c = λ x n all gave s.
    let self = c.args.self.now in
    let k = self.plan.now in
    let first = c.first_frame.ensures in
    sends_begun_as k self.flow c.begin.new.self n _ _ _ _ _ _ all gave c.requires.«open»
    c.begin.ensures.finished first (ap (λ (m : ℕ). Timestamp (stamp_of k m) ∷ []) first)
    (c.begin.ensures.number ∙ first) c.begin.ensures.feeds s
