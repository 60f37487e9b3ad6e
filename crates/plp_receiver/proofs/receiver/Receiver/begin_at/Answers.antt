use Rattle.plp_receiver.specs.StandsFor.{ReceiverStandsFor, IsFresh}
use Rattle.plp_receiver.proofs.StandsLemmas.{begun, is_empty}
use Rattle.plp_receiver.proofs.receiver.Receiver.begin_at.Goals as goal

pub begin_at-requires-clause-empty : goal.begin_at-requires-clause-empty
unfolding IsFresh
begin_at-requires-clause-empty c =
    is_empty c.args.self.now.network c.args.self.now.plp c.args.self.now.slots c.args.self.now.held c.requires.fresh

pub returns-clause-stands : goal.returns-clause-stands
unfolding ReceiverStandsFor IsFresh
returns-clause-stands c =
    begun c.args.self.now.network c.args.self.now.plp c.args.self.now.slots c.begin_at.new.self c.args.self.now.held
    c.args.first
    c.args.self.now.spread c.requires.fresh c.begin_at.ensures.stands
