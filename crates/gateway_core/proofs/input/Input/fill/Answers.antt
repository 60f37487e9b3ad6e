use Rattle.std.proofs.Common.{◌∙◌, arith}
use Rattle.gateway_core.proofs.FedLemmas.{place_stays, others_on}
use Rattle.gateway_core.proofs.input.Input.fill.Goals as goal

pub loop-preserved : goal.loop-preserved
loop-preserved c =
    let i = c.loop.invariant in
    let o = c.offer_null.ensures in
    record {
      fed = λ config plp t ended place h. o.fed config plp t ended
          (place_stays config plp c.args.pool.now c.loop.pool c.args.list i.others place)
          (i.fed config plp t ended place h);
      ready = o.ready;
      short = λ short. o.short (i.short short);
      others = others_on c.args.pool.now c.loop.pool c.offer_null.new.pool c.args.list i.others o.others;
      slot = omega (arith, o.slot, i.slot);
      bounds = o.bounds ∙ i.bounds;
    }
