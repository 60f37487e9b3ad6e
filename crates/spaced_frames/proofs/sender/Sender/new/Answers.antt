use Rattle.std.proofs.Common.{[], sym, refl, arith}
use Rattle.spaced_frames.specs.Spaced.{spaced}
use Rattle.spaced_frames.proofs.sender.Sender.new.Goals as goal

pub returns-clause-stands : goal.returns-clause-stands
unfolding spaced
returns-clause-stands c = λ x. record {
  plan = refl;
  all = [];
  total = refl;
  sends = record {
    units = [];
    gave_is = refl;
    flows = c.new.ensures.flows c.args.plan.now c.over.result.number (sym c.pid_of.ensures.value);
    front = λ more _. (_, refl);
    whole = λ _. omega arith;
  };
  last = λ _. refl;
  number = λ n. absurd (n refl);
}
