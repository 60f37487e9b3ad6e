use Rattle.std.proofs.Common.{◌<◌, ℕ, [], length, get_or, refl, sym, arith}
use Rattle.terms.specs.Bits.{bytes_of}
use Rattle.linked_pool.specs.Chains.{occurs}
use Rattle.linked_pool.proofs.FillLemmas.{there_in, fills_step}
use Rattle.linked_pool.proofs.chunk.fill.Goals as goal

pub bounds-chunks-chunk : goal.bounds-chunks-chunk
bounds-chunks-chunk c =
    let at = c.loop-i.invariant.at c.loop-i-test.true in
    let lt = there_in c.args.chains.now c.loop-i.i (length c.args.chunks.now) c.requires.there c.requires.free
    (omega (arith, c.requires.enough)) in
    omega (arith, at, lt, c.loop-i.auto.chunks)

pub loop-i-preserved : goal.loop-i-preserved
loop-i-preserved c =
    let at = c.loop-i.invariant.at c.loop-i-test.true in
    let inside : c.loop-i.i < length (get_or c.args.chains.now 0 []) = omega (arith, c.requires.enough) in
    let there : (x : ℕ) → 0 < occurs x c.args.chains.now → x < length c.loop-i.chunks =
    λ x s. (let lt = c.requires.there x s in omega (arith, lt, c.loop-i.auto.chunks)) in
    record {
      at = λ more. c.after-chunk.ensures 0 c.loop-i.i c.requires.free (omega (arith, c.requires.enough)) (sym at);
      fills = fills_step c.args.chains.now (bytes_of c.args.block.now) c.loop-i.i c.loop-i.chunk c.args.chunks.now
          c.loop-i.chunks
          (bytes_of c.piece_at.result) _ c.put.new.chunk there c.requires.apart c.requires.free inside
          (omega (arith, c.requires.tight)) at c.piece_at.ensures.piece refl c.put.ensures c.loop-i.invariant.fills;
    }
