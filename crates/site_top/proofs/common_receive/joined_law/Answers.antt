use Rattle.site_top.proofs.JoinedLemmas.{is_joined}
use Rattle.site_top.proofs.RecoverLemmas.{FileLaws}
use Rattle.site_top.proofs.common_receive.joined_law.Goals as goal

pub returns : goal.returns
returns c =
    let laws : FileLaws = record {
      read = c.reading_law.ensures.read;
      one = c.reading_law.ensures.one;
      spells = c.writing_law.ensures.spells;
      never = c.refusal_law.ensures.never;
      frame = c.place_law.ensures;
      fits = c.fit_law.ensures.range;
      least = c.run_length_law.ensures;
      recovers = c.recover_law.ensures;
      back = c.whole_law.ensures.run;
    } in
    is_joined laws c.common_law.ensures c.args.plan.now c.rules_law.ensures.plan c.type_law.ensures c.back_law.ensures
