use Rattle.std.proofs.Common.{◌∙◌}
use Rattle.plp_receiver.specs.Assembles.{AssemblerStandsFor}
use Rattle.plp_receiver.proofs.OutLemmas.{gap_stands, gap_none}
use Rattle.plp_receiver.proofs.assembler.Assembler.gap.Goals as goal

pub returns-clause-stands : goal.returns-clause-stands
unfolding AssemblerStandsFor
returns-clause-stands c = λ r z epoch h. (
  c.clear.ensures.rule ∙ h.0,
  gap_stands epoch c.args.self.now.rule r _ _ _ z h.0 c.args.self.now.sound h.1 _ _ _
      c.clear.ensures.len c.clear.ensures.slot,
)

pub returns-clause-none : goal.returns-clause-none
unfolding AssemblerStandsFor
returns-clause-none c = λ r z epoch h. gap_none epoch c.args.self.now.rule r _ _ _ z h.0 c.args.self.now.sound h.1
