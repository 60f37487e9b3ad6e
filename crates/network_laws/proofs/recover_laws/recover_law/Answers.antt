use Rattle.stream_laws.proofs.PassLemmas.{given_by}
use Rattle.network_laws.proofs.GivenLemmas.{run_recovers}
use Rattle.network_laws.proofs.recover_laws.recover_law.Goals as goal

pub returns : goal.returns
returns c =
    run_recovers
    (record {
      given = given_by c.parts_law.ensures.whole c.pre_law.ensures.written c.conf_law.ensures.written
          c.dyn_law.ensures.back
          c.dyn_law.ensures.written c.bit_counts_law.ensures c.fit_law.ensures.told c.block_law.ensures.field
          c.block_law.ensures.chunks c.block_law.ensures.cells c.spread_law.ensures.blocks c.field_law.ensures
          c.order_law.ensures.counts c.shape_law.ensures c.map_test_law.ensures
          (record {
            superframe = c.interleaving_law.ensures.superframe;
            first = c.interleaving_law.ensures.first;
            last = c.interleaving_law.ensures.last;
            number = c.interleaving_law.ensures.number;
            frames = c.spread_law.ensures.frames;
          });
      signal = record {
        told = c.parts_law.ensures.whole;
        conf_told = c.parts_law.ensures.conf;
        pre_values = c.parts_law.ensures.pre;
        pre_back = c.pre_law.ensures.back;
        pre_written = c.pre_law.ensures.written;
        conf_written = c.conf_law.ensures.written;
        conf_size = c.post_law.ensures.conf;
        dyn_back = c.dyn_law.ensures.back;
        dyn_size = c.dyn_law.ensures.len;
      };
    })
    (record {
      block = c.stand_law.ensures.block;
      cell = c.stand_law.ensures.cell;
      back = c.scramble_twice_law.ensures;
      taken = c.taken_law.ensures;
    }) c.readback_law.ensures.once c.epochs_law.ensures.readback
