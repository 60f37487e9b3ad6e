use Rattle.t2mi_stream.proofs.SurviveLemmas.{survives}
use Rattle.t2mi_stream.proofs.laws.survives_law.Goals as goal

pub returns : goal.returns
returns c = survives c.grammar.ensures
    (record {
      written = c.written_spells_law.ensures;
      told = c.fields_told_law.ensures;
      last =
          c.payload_last_law.ensures;
    })
    c.accepted_front_law.ensures
