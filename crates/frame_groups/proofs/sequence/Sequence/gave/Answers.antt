use Rattle.frame_groups.proofs.SequenceLemmas.{gave}
use Rattle.frame_groups.proofs.LeftLemmas.{fewer}
use Rattle.frame_groups.proofs.sequence.Sequence.gave.Goals as goal

pub returns-clause-follows : goal.returns-clause-follows
returns-clause-follows g c = λ ps given x k e. record {
  past = k.past;
  group = k.group;
  holds = k.holds;
  sequenced = gave _ k.past k.group c.args.self.now.progress.number c.args.self.now.progress.next
      c.args.self.now.progress.closing
      c.args.self.now.progress.fault ps given x c.requires e k.sequenced;
}

pub returns-clause-left : goal.returns-clause-left
returns-clause-left g c = fewer c.args.self.now.progress.number c.args.self.now.progress.next
    c.args.self.now.progress.closing
    c.args.self.now.progress.fault c.requires
