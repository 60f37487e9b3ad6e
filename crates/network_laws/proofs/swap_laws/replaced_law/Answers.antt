use Rattle.network_laws.proofs.FrameLemmas.{Laws, frame_is_replaced}
use Rattle.network_laws.proofs.swap_laws.replaced_law.Goals as goal

pub returns : goal.returns
returns c =
    let laws : Laws = record {
      back = c.dyn_law.ensures.back;
      written = c.dyn_law.ensures.written;
      post = c.post_law.ensures.len;
      conf = c.post_law.ensures.conf;
      told = c.fit_law.ensures.told;
      fits = c.field_law.ensures;
      counts = c.order_law.ensures.counts;
    } in
    frame_is_replaced laws
