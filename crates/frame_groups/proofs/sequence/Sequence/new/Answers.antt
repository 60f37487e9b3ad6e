use Rattle.std.proofs.Common.{refl, [], None}
use Rattle.frame_groups.proofs.SequenceLemmas.{none_came}
use Rattle.frame_groups.proofs.sequence.Sequence.new.Goals as goal

pub returns-clause-stands : goal.returns-clause-stands
returns-clause-stands g c =
    record {
      past = [];
      group = None;
      holds = c.requires.none;
      sequenced = (none_came (g.G.OpenGroup.rules c.args.group), refl, refl, refl, refl);
    }
