use Rattle.std.proofs.Common.{◌≡◌, length, ap, ◌∙◌, rules}
use Rattle.record_laws.specs.Frames.{l1_pre}
use Rattle.record_laws.proofs.FitLemmas.{length-l1_pre}
use Rattle.open_group.proofs.signalling.pre_with_crc.Goals as goal

pub returns-clause-len : goal.returns-clause-len
returns-clause-len c = let v : c.with_crc.result ≡ l1_pre c.args.plan.now = search rules in
    ap length v ∙ length-l1_pre c.pre_law.ensures.bits c.args.plan.now
