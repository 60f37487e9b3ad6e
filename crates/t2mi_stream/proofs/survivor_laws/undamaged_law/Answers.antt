use Rattle.t2mi_stream.proofs.UndamagedLemmas.{kept_undamaged}
use Rattle.t2mi_stream.proofs.survivor_laws.undamaged_law.Goals as goal

pub returns : goal.returns
returns c = kept_undamaged c.grammar.ensures
    (record {
      written = c.written_spells_law.ensures;
      told = c.fields_told_law.ensures;
      last =
          c.payload_last_law.ensures;
    })
    c.survives_law.ensures
    c.survivor_law.ensures.told
