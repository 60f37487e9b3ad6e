use Rattle.std.proofs.Common.{Bool, false, [], ◌∷◌, List, ap, refl, sym, subst, ◌∙◌}
use Rattle.std.specs.Prelude.{if◌then◌else◌}
use Rattle.std.proofs.lemmas.Bool.{eq-eqb, ne_eqb}
use Rattle.t2mi_packet.specs.declared.packet.Body.{Body}
use Rattle.t2mi_packet.specs.declared.packet.Body.TheVariants.{Timestamp}
use Rattle.frame_writer.specs.FramePackets.{stamp_of}
use Rattle.frame_weave.specs.Made.{HoldsBodies, HoldsMade}
use Rattle.frame_weave.proofs.made.MadeGroup.begin.Goals as goal

pub returns-then-frame_idx-eq0-clause-holds : goal.returns-then-frame_idx-eq0-clause-holds
returns-then-frame_idx-eq0-clause-holds c = λ alone.
    let made = c.args.self.now in
    let number = c.args.number in
    subst (HoldsMade made.plan.now number c.push_stamp.new.self)
    (sym (ap (λ (t : Bool). if t then Timestamp (stamp_of made.plan.now number) ∷ [] else [])
    (eq-eqb _ 0 (sym c.frame_idx.ensures ∙ c.if-frame_idx-eq0.true))))
    (c.push_stamp.ensures.holds [] (refl, alone))

pub returns-else-frame_idx-eq0-clause-holds : goal.returns-else-frame_idx-eq0-clause-holds
returns-else-frame_idx-eq0-clause-holds c = λ alone.
    let made = c.args.self.now in
    let number = c.args.number in
    subst (λ (l : List Body). HoldsBodies made.plan.now number false made.group l)
    (sym (ap (λ (t : Bool). if t then Timestamp (stamp_of made.plan.now number) ∷ [] else [])
    (ne_eqb _ 0 (λ e. c.if-frame_idx-eq0.false (c.frame_idx.ensures ∙ e)))))
    (refl, alone)
