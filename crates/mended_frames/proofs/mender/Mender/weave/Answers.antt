use Rattle.std.proofs.Common.{◌∙◌, ap}
use Rattle.plp_config.specs.declared.config.Config.{Config}
use Rattle.frame_weave.specs.Woven.{woven}
use Rattle.mended_frames.proofs.mender.Mender.weave.Goals as goal

pub returns-clause-group : goal.returns-clause-group
returns-clause-group c = λ gs g own have is.
    let plan = c.place_all.ensures.plan ∙ c.look_all.ensures.plan ∙ c.begin.ensures.plan ∙ c.args.self.now.same in
    let looked = c.look_all.ensures.weaves gs have (c.begin.ensures.weaves own) in
    c.finish.ensures.group c.args.number gs g (c.place_all.ensures.weaves gs have looked)
    (ap (λ (k : Config). woven k c.args.number gs) plan ∙ is)
