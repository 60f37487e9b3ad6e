use Rattle.std.proofs.Common.{◌≡◌, ◌∙◌, false, sym, arith, rules}
use Rattle.std.proofs.lemmas.Bool.{true≢false}
use Rattle.modulator.specs.Modulating.{has_record, near_number}
use Rattle.modulator.proofs.LeftLemmas.{ahead_by_group}
use Rattle.modulator.proofs.modulating.Modulating.end.Goals as goal

pub returns-clause-settled : goal.returns-clause-settled
returns-clause-settled c =
    let w : has_record c.args.self.now ≡ false = search rules in
    record {
      done = λ _. c.requires.done w;
      ended = λ _ _ still. absurd (true≢false (sym c.close.ensures.closing ∙ still));
      near = c.close.ensures.near (near_number c.args.self.now.unpiper) (omega arith) c.requires.near;
    }

pub returns-clause-left : goal.returns-clause-left
returns-clause-left c =
    let m = c.args.self.now in
    ahead_by_group m.unpiper m.sequence.progress c.close.new.self.progress c.close.ensures.left
