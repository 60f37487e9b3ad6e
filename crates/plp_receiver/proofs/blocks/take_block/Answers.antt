use Rattle.std.proofs.Common.{Some, None, List, ℕ, take, drop, refl, subst}
use Rattle.terms.specs.Bits.{bits_of}
use Rattle.plp_receiver.specs.TakenBlocks.{block_of}
use Rattle.plp_receiver.specs.Taken.{IsTaken}
use Rattle.plp_receiver.specs.Strings.{Block}
use Rattle.plp_receiver.proofs.TakeLemmas.{stood, told_some, told_none}
use Rattle.plp_receiver.proofs.blocks.take_block.Goals as goal

pub returns-in-Some-clause-takes : goal.returns-in-Some-clause-takes
returns-in-Some-clause-takes c =
    let sent : List ℕ = take c.args.len (drop c.args.at c.args.bytes.now) in
    let block : List ℕ = take c.args.len (drop c.args.at c.unscramble.new.bytes) in
    stood c.args.deletes c.args.stands sent block c.args.slots.now c.take.new.self (Some (block_of c.in-Some.block))
    c.if-not-stands.false
    (told_some c.args.deletes sent block (block_of c.in-Some.block) c.unscramble.ensures.bits
    (subst (λ (l : List ℕ). IsTaken c.args.deletes (bits_of l) (block_of c.in-Some.block)) c.block_in.ensures.value
    c.in-Some.ensures.some))
    c.take.ensures.stands

pub returns-in-None-clause-takes : goal.returns-in-None-clause-takes
returns-in-None-clause-takes c =
    let sent : List ℕ = take c.args.len (drop c.args.at c.args.bytes.now) in
    let block : List ℕ = take c.args.len (drop c.args.at c.unscramble.new.bytes) in
    stood c.args.deletes c.args.stands sent block c.args.slots.now c.skip-in-None.new.self None c.if-not-stands.false
    (told_none c.args.deletes sent block c.unscramble.ensures.bits
    (subst (λ (l : List ℕ). (b : Block) → ¬ (IsTaken c.args.deletes (bits_of l) b)) c.block_in.ensures.value
    (c.in-None.ensures.none refl)))
    c.skip-in-None.ensures.stands
