use Rattle.std.proofs.Common.{arith}
use Rattle.plp_config.proofs.IscrLemmas.{iscr_outside, iscr_other, iscr_found, named_is}
use Rattle.plp_config.proofs.slot_times.SlotTimes.slot_of_iscr.Goals as goal

pub returns-then-slot-first-clause-value : goal.returns-then-slot-first-clause-value
returns-then-slot-first-clause-value c =
    iscr_outside c.iscr_law.ensures.found c.args.self.now c.requires.are c.args.epoch c.args.iscr
    c.slot_named-slot.result
    (named_is c.args.self.now c.args.epoch c.args.iscr c.range_of-first.result.0 c.slot_named-slot.result
    c.range_of-first.ensures.first c.slot_named-slot.ensures)
    (λ l m. let f = c.range_of-first.ensures.first in omega (arith, f, l))

pub returns-then-slot-end-clause-value : goal.returns-then-slot-end-clause-value
returns-then-slot-end-clause-value c =
    iscr_outside c.iscr_law.ensures.found c.args.self.now c.requires.are c.args.epoch c.args.iscr
    c.slot_named-slot.result
    (named_is c.args.self.now c.args.epoch c.args.iscr c.range_of-first.result.0 c.slot_named-slot.result
    c.range_of-first.ensures.first c.slot_named-slot.ensures)
    (λ l m. let f = c.range_of-first.ensures.end in omega (arith, f, m))

pub returns-then-iscr_of-iscr-clause-value : goal.returns-then-iscr_of-iscr-clause-value
returns-then-iscr_of-iscr-clause-value c =
    iscr_other c.iscr_law.ensures.found c.args.self.now c.requires.are c.args.epoch c.args.iscr c.slot_named-slot.result
    (named_is c.args.self.now c.args.epoch c.args.iscr c.range_of-first.result.0 c.slot_named-slot.result
    c.range_of-first.ensures.first c.slot_named-slot.ensures)
    (λ e. omega (arith, e, c.iscr_of.ensures.value))

pub returns-clause-value : goal.returns-clause-value
returns-clause-value c =
    iscr_found c.iscr_law.ensures.found c.args.self.now c.requires.are c.args.epoch c.args.iscr c.slot_named-slot.result
    (named_is c.args.self.now c.args.epoch c.args.iscr c.range_of-first.result.0 c.slot_named-slot.result
    c.range_of-first.ensures.first c.slot_named-slot.ensures)
    (let f = c.range_of-first.ensures.first in omega (arith, f)) (let f = c.range_of-first.ensures.end in
    omega (arith, f))
    (let f = c.iscr_of.ensures.value in omega (arith, f))

pub returns-clause-small : goal.returns-clause-small
returns-clause-small c = let f = c.range_of-first.ensures.small in omega (arith, f)
