use Rattle.stream_laws.proofs.PassLemmas.{given_by}
use Rattle.network_laws.proofs.HonestGroupLemmas.{RunLaws}
use Rattle.network_laws.proofs.HonestFeedLemmas.{made_are_of_run, came_are_made, damaged_runs_mended, came_of_damaged}
use Rattle.network_laws.proofs.HonestFeedLemmas.{whole_among_damaged}
use Rattle.network_laws.proofs.HonestFeedLemmas.{survivors_mended, none_lost_mended, survivor_alone}
use Rattle.network_laws.proofs.WholeFeedLemmas.{whole_feed_made, whole_stream_mended}
use Rattle.network_laws.proofs.run_feeds.feeds_law.Goals as goal

laws_at : goal.After-order_law → RunLaws
laws_at c =
    record {
      given = given_by c.parts_law.ensures.whole c.pre_law.ensures.written c.conf_law.ensures.written
          c.dyn_law.ensures.back c.dyn_law.ensures.written c.bit_counts_law.ensures c.fit_law.ensures.told
          c.block_law.ensures.field c.block_law.ensures.chunks c.block_law.ensures.cells c.spread_law.ensures.blocks
          c.field_law.ensures c.order_law.ensures.counts c.shape_law.ensures c.map_test_law.ensures
          (record {
            superframe = c.interleaving_law.ensures.superframe;
            first = c.interleaving_law.ensures.first;
            last = c.interleaving_law.ensures.last;
            number = c.interleaving_law.ensures.number;
            frames = c.spread_law.ensures.frames;
          });
      knows = record {
        told = c.parts_law.ensures.whole;
        conf_told = c.parts_law.ensures.conf;
        pre_values = c.parts_law.ensures.pre;
        pre_back = c.pre_law.ensures.back;
        pre_written = c.pre_law.ensures.written;
        conf_written = c.conf_law.ensures.written;
        conf_size = c.post_law.ensures.conf;
        dyn_back = c.dyn_law.ensures.back;
        dyn_size = c.dyn_law.ensures.len;
      };
      carries = c.sent_law.ensures.carries;
      scrambles = c.scramble_twice_law.ensures;
      bits = c.pre_law.ensures.bits;
      post = c.post_law.ensures.len;
      size = c.post_law.ensures.conf;
      shown = c.shown_law.ensures;
      stood = c.placed_law.ensures.stood;
      framed = c.placed_law.ensures.frame;
      named = c.named_law.ensures;
      frames = c.sent_law.ensures.frames;
      groups = c.group_law.ensures;
    }

pub returns-clause-whole : goal.returns-clause-whole
returns-clause-whole c = whole_feed_made (laws_at c)

pub returns-clause-whole_stream : goal.returns-clause-whole_stream
returns-clause-whole_stream c =
    whole_stream_mended (laws_at c) c.accepted_front_law.ensures c.unit_reads_law.ensures
    c.survivor_law.ensures.survive c.undamaged_law.ensures c.near_law.ensures.later c.stream_law.ensures

pub returns-clause-whole_damaged : goal.returns-clause-whole_damaged
returns-clause-whole_damaged c = whole_among_damaged (laws_at c) (returns-clause-whole_stream c)

pub returns-clause-made : goal.returns-clause-made
returns-clause-made c = made_are_of_run (laws_at c)

pub returns-clause-damaged : goal.returns-clause-damaged
returns-clause-damaged c = damaged_runs_mended (laws_at c)

pub returns-clause-come : goal.returns-clause-come
returns-clause-come c = came_are_made (laws_at c)

pub returns-clause-come_damaged : goal.returns-clause-come_damaged
returns-clause-come_damaged c = came_of_damaged (laws_at c)

pub returns-clause-survive : goal.returns-clause-survive
returns-clause-survive c = survivors_mended (laws_at c)

pub returns-clause-alone : goal.returns-clause-alone
returns-clause-alone c = survivor_alone (laws_at c) c.interleaving_law.ensures.alone

pub returns-clause-none_lost : goal.returns-clause-none_lost
returns-clause-none_lost c = none_lost_mended (laws_at c) c.rise_law.ensures
