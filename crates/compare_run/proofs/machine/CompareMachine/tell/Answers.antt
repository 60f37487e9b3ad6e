use Rattle.std.proofs.Common.{◌∙◌, ap}
use Rattle.plp_config.specs.declared.config.Config.{Config}
use Rattle.feed_merge.proofs.BothCameLemmas.{number_of}
use Rattle.compare_run.specs.Lines.{plp_text}
use Rattle.compare_run.specs.Shown.{HasShown}
use Rattle.compare_run.specs.TallyStandsFor.{other_in}
use Rattle.compare_run.proofs.BeginLemmas.{plps_fit, shown_told}
use Rattle.compare_run.proofs.machine.CompareMachine.tell.Goals as goal

pub plp_line-requires : goal.plp_line-requires
plp_line-requires c = record {
  plps = number_of _ _ c.requires.came (λ (h : HasShown c.args.self.now). plps_fit h);
  inside = c.requires.some;
}

pub returns-clause-shown : goal.returns-clause-shown
returns-clause-shown c = λ k events s.
    let m = c.args.self.now in
    shown_told c.events_law.ensures k m events _ s c.requires.some
    (c.plp_line.ensures.text ∙ ap (λ (n : Config). plp_text n m.last m.plp (other_in m.carried m.plp)) s.config)
