use Rattle.std.proofs.Common.{ℕ, [], length, ap, ◌∙◌}
use Rattle.std.proofs.lemmas.Bool.{cond-true}
use Rattle.plp_config.specs.InterleavingFrames.{interleaving_frame, is_first}
use Rattle.mode_adapt.specs.Blocks.{plp_blocks}
use Rattle.mode_adapt.proofs.laws.alone_law.Goals as goal

pub returns : goal.returns
returns c = λ config inputs n plp alone.
    let same = c.interleaving_law.ensures.alone config plp n alone in (
      cond-true (is_first config plp n) (plp_blocks config inputs (interleaving_frame config plp n) plp) [] same.0
          ∙ ap (λ (m : ℕ). plp_blocks config inputs m plp) same.1,
      ap (λ (m : ℕ). length (plp_blocks config inputs m plp)) same.1,
    )
