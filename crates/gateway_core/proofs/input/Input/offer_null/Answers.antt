use Rattle.std.proofs.Common.{length}
use Rattle.std.proofs.Math.Logic.{∥∥₁_map}
use Rattle.gateway_core.specs.IsFed.{IsSupplied}
use Rattle.gateway_core.proofs.FedLemmas.{fed_null, served, ended_told, place_stays}
use Rattle.gateway_core.proofs.input.Input.offer_null.Goals as goal

pub returns-clause-fed : goal.returns-clause-fed
returns-clause-fed c = λ config plp t ended place h.
    fed_null c.args.pool.now c.offer_to.new.pool c.args.list place h
    (rw c.canonical.ensures at c.offer_to.ensures.takes) ended c.requires.before

pub offer_to-requires-clause-ready : goal.offer_to-requires-clause-ready
offer_to-requires-clause-ready c = served c.args.self.now c.args.pool.now c.args.list c.requires.ready

pub returns-clause-ready : goal.returns-clause-ready
returns-clause-ready c = ∥∥₁_map c.requires.ready (λ (h : IsSupplied c.args.self.now c.args.pool.now c.args.list).
    let ended = ended_told h.told.ended (length h.told.packets) _ c.requires.ended h.fed.total_is in
    record {
      config = h.config;
      plp = h.plp;
      told = h.told;
      place = place_stays h.config h.plp c.args.pool.now c.offer_to.new.pool c.args.list c.offer_to.ensures.others
          h.place;
      fed = returns-clause-fed c h.config h.plp h.told ended h.place h.fed;
    })
