use Rattle.receive_run.proofs.GiveLemmas.{gives_one}
use Rattle.receive_run.proofs.record.give_packet.Goals as goal

pub returns-clause-gives : goal.returns-clause-gives
returns-clause-gives c =
    let r = c.release.ensures in
    gives_one c.args.receiver.now c.release.new.self _ c.requires r.status r.joins r.stands r.answer
