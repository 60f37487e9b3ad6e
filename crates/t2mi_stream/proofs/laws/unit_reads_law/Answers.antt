use Rattle.t2mi_stream.proofs.ReadsLemmas.{units_read}
use Rattle.t2mi_stream.proofs.laws.unit_reads_law.Goals as goal

pub returns : goal.returns
returns c =
    units_read (record {
      written = c.written_spells_law.ensures;
      told = c.fields_told_law.ensures;
      last =
          c.payload_last_law.ensures;
    })
