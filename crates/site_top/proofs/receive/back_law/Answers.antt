use Rattle.site_top.proofs.RecoverLemmas.{FileLaws, comes_back}
use Rattle.site_top.proofs.receive.back_law.Goals as goal

pub returns : goal.returns
returns c =
    let laws : FileLaws = record {
      read = c.reading_law.ensures.read;
      one = c.reading_law.ensures.one;
      spells = c.writing_law.ensures.spells;
      never = c.refusal_law.ensures.never;
      frame = c.place_law.ensures;
      fits = c.fit_law.ensures.range;
      least = c.run_length_law.ensures;
      recovers = c.recover_law.ensures;
      back = c.whole_law.ensures.run;
    } in
    comes_back laws c.args.plan.now c.rules_law.ensures.plan c.type_law.ensures
