use Rattle.std.proofs.Common.{None, refl}
use Rattle.plp_receiver.specs.Times.{epoch_of}
use Rattle.plp_receiver.specs.SlotsStandFor.{StandsWithin}
use Rattle.plp_receiver.proofs.SlotsStandLemmas.{takes}
use Rattle.plp_receiver.proofs.WindowLemmas.{nothing_found}
use Rattle.plp_receiver.proofs.slots.PacketSlots.skip.Goals as goal

pub returns-clause-stands : goal.returns-clause-stands
unfolding StandsWithin
returns-clause-stands c = λ r first count epochs blocks released h.
    let p = c.args.self.now in
    takes r first p.frame count epochs blocks None released p.assembler c.gap.new.self p.window p.window h
    (record { rule = refl; first = refl; end = refl; due = refl })
    (record {
      assembles = c.gap.ensures.stands r _ (epoch_of r p.frame) h.both.assembles;
      rule = h.both.rule;
      shows = nothing_found r _ _ _ _ _ (c.gap.ensures.none r _ (epoch_of r p.frame) h.both.assembles) h.both.shows;
    })
