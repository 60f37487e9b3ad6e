use Rattle.std.proofs.Common.{◌∷◌, [], ◌++◌, sym, subst, ap, ◌∙◌}
use Rattle.plp_config.specs.declared.config.Config.{Config}
use Rattle.frame_groups.specs.Grouping.{one_more}
use Rattle.open_group.specs.Shown.{AreBlocks}
use Rattle.open_group.specs.Signals.{fits_pool}
use Rattle.frame_weave.specs.Holds.{HoldsMarks}
use Rattle.frame_weave.proofs.group.MarkedGroup.mark.Goals as goal

pub returns-clause-marks : goal.returns-clause-marks
returns-clause-marks c = λ past h held marks.
    let same = c.args.self.now.same in
    let p = c.args.packet.now in
    subst (λ (k : Config). HoldsMarks k c.add.new.self (h.packets ++ p ∷ [])) same
    (c.add.ensures.marks h.packets
    (λ fits.
    subst (λ (k : Config). AreBlocks k (h.packets ++ p ∷ []) c.blocks-2.result.now.lists) (sym same)
    (c.blocks-2.ensures.blocks past (one_more h p) c.requires held
    (sym c.fits-fits.ensures.held
    ∙ c.fits-fits.ensures.value past (one_more h p) held
    ∙ ap (λ (k : Config). fits_pool k (h.packets ++ p ∷ [])) (sym same)
    ∙ fits)))
    (subst (λ (k : Config). HoldsMarks k c.args.self.now.marks h.packets) (sym same) marks))
