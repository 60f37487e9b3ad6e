use Rattle.std.proofs.Common.{subst, sym}
use Rattle.site_frame.specs.declared.reading.RecordView.{RecordView}
use Rattle.plp_receiver.specs.Epochs.{part_of}
use Rattle.plp_receiver.specs.Holds.{Sees}
use Rattle.plp_receiver.proofs.receiver.Receiver.see.Goals as goal

pub returns-in-Frame-clause-sees : goal.returns-in-Frame-clause-sees
returns-in-Frame-clause-sees c =
    subst (λ (v : RecordView). Sees c.args.self.now.network c.args.self.now.plp c.args.self.now.slots.frame
    (part_of c.args.self.now.network c.args.self.now.slots.frame v) c.args.self.now.held c.see_frame.new.self.held)
    (sym c.in-Frame.is) (c.see_frame.ensures.sees c.in-Frame.moment)
