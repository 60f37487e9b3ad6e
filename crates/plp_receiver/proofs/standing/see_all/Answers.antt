use Rattle.std.proofs.Common.{◌∙◌, ◌+◌, false, get_or, arith}
use Rattle.plp_receiver.proofs.SeenLemmas.{pieces_seen}
use Rattle.plp_receiver.proofs.standing.see_all.Goals as goal

pub loop-address-preserved : goal.loop-address-preserved
loop-address-preserved c =
    let inv = c.loop-address.invariant in
    let same = inv.len in
    record {
      end = inv.end;
      inside = omega (arith, c.min-count.ensures, inv.inside);
      len = c.see_piece.ensures.len ∙ inv.len;
      each = λ k l.
          pieces_seen c.args.plan.now c.args.shape.now c.args.frame_idx c.args.cells.now (c.args.first + k)
          c.loop-address.address
          c.min-count.result (get_or c.args.stands.now k false) (get_or c.loop-address.stands k false)
          (get_or c.see_piece.new.stands k false) (inv.each k l) (c.see_piece.ensures.each k (omega (arith, l, same)));
    }
