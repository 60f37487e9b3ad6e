use Rattle.plp_receiver.proofs.StepLemmas.{joins_inside}
use Rattle.plp_receiver.proofs.joined_receiver.JoinedReceiver.open.Goals as goal

pub open_common-requires : goal.open_common-requires
open_common-requires c = joins_inside c.groups_law.ensures.told c.args.plan.now c.args.plp c.args.joins c.requires.may
