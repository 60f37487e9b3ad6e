use Rattle.std.proofs.Common.{true, false, ap, refl, subst, ◌≡◌, arith}
use Rattle.t2mi_packet.specs.declared.packet.Packet.{Packet}
use Rattle.frame_groups.specs.Groups.{is_counted}
use Rattle.frame_groups.specs.Modulated.{Rules}
use Rattle.frame_groups.specs.Tests.{rules}
use Rattle.modulator.specs.Modulating.{packet_of, near_number}
use Rattle.modulator.proofs.StandsLemmas.{WorksOff, stepped, held}
use Rattle.modulator.proofs.LeftLemmas.{ahead_by_step, ahead_by_group}
use Rattle.modulator.proofs.StepLemmas.{fewer, risen}
use Rattle.modulator.proofs.modulating.Modulating.step.Goals as goal

pub returns-then-not-work-clause-stands : goal.returns-then-not-work-clause-stands
returns-then-not-work-clause-stands c = λ bytes given h.
    let old = c.args.self.now in
    let new = record old { sequence = c.work.new.self } in
    held old new bytes given c.bytes.result.now (ap (λ (r : Rules). r.network) c.work.ensures.rules) refl
    c.bytes.ensures.bytes (c.work.ensures.kept c.if-not-work.true)
    (rw (← c.read_known-packet.ensures.exact) (c.work.ensures.waits c.if-not-work.true).2) h

pub returns-then-not-work-clause-near : goal.returns-then-not-work-clause-near
returns-then-not-work-clause-near c =
    c.work.ensures.same c.if-not-work.true (near_number c.args.self.now.unpiper) (omega arith) c.requires.near

pub returns-clause-stands : goal.returns-clause-stands
returns-clause-stands c = λ bytes given h.
    let old = c.args.self.now in
    let new = record old { sequence = c.work.new.self; unpiper = c.release.new.self } in
    let e : c.read_known-packet.result ≡ packet_of c.bytes.result.now = c.read_known-packet.ensures.exact in
    stepped c.events_push_law.ensures old new bytes given c.bytes.result.now
    (ap (λ (r : Rules). r.network) c.work.ensures.rules) c.requires.ready c.bytes.ensures.bytes c.release.ensures.stands
    (subst (WorksOff old new) e (c.work.ensures.worked c.if-not-work.false))
    (subst (λ (q : Packet). new.sequence.progress.closing ≡ true → (old.sequence.progress.closing ≡ true)
    × (is_counted (rules old.sequence.group.network).frames q ≡ false)) e (c.work.ensures.open c.if-not-work.false)) h

pub returns-clause-near : goal.returns-clause-near
returns-clause-near c = λ n e.
    let u = c.args.self.now.unpiper in
    risen u c.release.new.self n (fewer u c.release.new.self c.requires.ready c.release.ensures.less
    c.release.ensures.inside)
    (c.work.ensures.near (near_number u) (omega arith) c.requires.near n e)

pub returns-then-not-work-clause-left : goal.returns-then-not-work-clause-left
returns-then-not-work-clause-left c =
    ahead_by_group c.args.self.now.unpiper c.args.self.now.sequence.progress c.work.new.self.progress
    (c.work.ensures.left c.if-not-work.true)

pub returns-clause-left : goal.returns-clause-left
returns-clause-left c =
    let u = c.args.self.now.unpiper in
    ahead_by_step u c.release.new.self c.args.self.now.sequence.progress c.work.new.self.progress
    (fewer u c.release.new.self c.requires.ready c.release.ensures.less c.release.ensures.inside) c.work.new.self.near
