use Rattle.std.proofs.Common.{◌∙◌, ℕ, length, take, get_or, false, refl, ap, arith}
use Rattle.plp_receiver.proofs.HeldLemmas.{place_in, left_behind}
use Rattle.plp_receiver.proofs.TakeLemmas.{took_more}
use Rattle.plp_receiver.proofs.blocks.take_blocks.Goals as goal

pub take_block-requires-clause-inside : goal.take_block-requires-clause-inside
take_block-requires-clause-inside c =
    let fits = place_in c.loop-k.k (length c.args.stands.now) c.args.len c.loop-k-test.true in
    let len = c.loop-k.invariant.len in
    omega (arith, fits, len, c.requires.there)

pub loop-k-preserved : goal.loop-k-preserved
loop-k-preserved c =
    let inv = c.loop-k.invariant in
    let n : ℕ = c.loop-k.k in
    record {
      took = took_more c.args.deletes c.args.stands.now c.args.len c.args.bytes.now n c.args.slots.now c.loop-k.slots
          c.take_block.new.slots _ (get_or c.args.stands.now n false) inv.took (ap (take c.args.len) inv.behind) refl
          c.take_block.ensures.takes;
      behind = left_behind n c.args.len c.take_block.new.bytes c.loop-k.bytes c.args.bytes.now
          c.take_block.ensures.behind
          inv.behind;
      status = c.take_block.ensures.status ∙ inv.status;
      len = c.take_block.ensures.len ∙ inv.len;
    }
