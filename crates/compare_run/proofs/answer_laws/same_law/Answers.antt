use Rattle.compare_run.proofs.SameLemmas.{Known, same_is_written, written_is_begun, same_is_exact}
use Rattle.compare_run.proofs.answer_laws.same_law.Goals as goal

pub returns : goal.returns
returns c =
    let known : Known = record {
      numbers = c.bit_counts_law.ensures;
      back = c.scramble_twice_law.ensures;
      pre_bits = c.pre_law.ensures.bits;
      signal = record {
        told = c.parts_law.ensures.whole;
        conf_told = c.parts_law.ensures.conf;
        pre_values = c.parts_law.ensures.pre;
        pre_back = c.pre_law.ensures.back;
        pre_written = c.pre_law.ensures.written;
        conf_written = c.conf_law.ensures.written;
        conf_size = c.post_law.ensures.conf;
        dyn_back = c.dyn_law.ensures.back;
        dyn_size = c.dyn_law.ensures.len;
      };
    } in
    record {
      written = same_is_written known;
      begun = written_is_begun known c.due_records_law.ensures.spelled c.reading_law.ensures.one;
      exact = same_is_exact known c.due_records_law.ensures.spelled c.reading_law.ensures.one
          c.interleaving_law.ensures.alone;
    }
