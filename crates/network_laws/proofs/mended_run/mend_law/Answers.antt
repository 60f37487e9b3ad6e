use Rattle.network_laws.proofs.MendedRunLemmas.{mended_comes_back}
use Rattle.network_laws.proofs.mended_run.mend_law.Goals as goal

pub returns : goal.returns
returns c =
    mended_comes_back (record {
      numbers = c.bit_counts_law.ensures;
      scrambles = c.scramble_twice_law.ensures;
      bits = c.pre_law.ensures.bits;
      knows = record {
        told = c.parts_law.ensures.whole;
        conf_told = c.parts_law.ensures.conf;
        pre_values = c.parts_law.ensures.pre;
        pre_back = c.pre_law.ensures.back;
        pre_written = c.pre_law.ensures.written;
        conf_written = c.conf_law.ensures.written;
        conf_size = c.post_law.ensures.conf;
        dyn_back = c.dyn_law.ensures.back;
        dyn_size = c.dyn_law.ensures.len;
      };
      back = c.back_law.ensures;
      shown = c.shown_law.ensures;
      interleaving = record {
        superframe = c.interleaving_law.ensures.superframe;
        first = c.interleaving_law.ensures.first;
        last = c.interleaving_law.ensures.last;
        number = c.interleaving_law.ensures.number;
        frames = c.spread_law.ensures.frames;
      };
      found = c.next_law.ensures.found;
      named = c.named_law.ensures;
      bounded = λ w. (c.crc32_law.ensures w).0;
      spelled = c.spell_law.ensures.is;
      read = c.written_law.ensures.read;
      len = c.written_law.ensures.len;
      survive = c.survivor_law.ensures.survive;
      undamaged = c.undamaged_law.ensures;
      emits = c.emission_law.ensures.fits;
      range = c.block_law.ensures.field;
      passes = c.pass_law.ensures;
      rises = c.rise_law.ensures;
    })
