use Rattle.std.proofs.Common.{◌≡◌, ◌*◌, ◌+◌, ◌/◌, ◌-◌, length, arith}
use Rattle.bb_frame.proofs.ScrambleLemmas.{part_added, all_added}
use Rattle.bb_frame.proofs.scrambling.scramble.Goals as goal

pub loop-k-preserved : goal.loop-k-preserved
loop-k-preserved c =
    let at = 120 * c.loop-k.k in
    let next : 120 * (c.loop-k.k + 1) ≡ 120 * c.loop-k.k + 120 = omega arith in
    let a = c.loop-k.invariant.1 in
    let more = part_added c.args.bytes.now c.loop-k.bytes c.add.new.bytes c.bytes.result.now at 120 (at + 120 - at) a
    (omega (arith, a.size)) (omega arith) (omega arith)
    c.add.ensures.len (c.bytes.ensures at c.loop-k.invariant.0) c.add.ensures.sums in
    rw next (c.advance.ensures at c.loop-k.invariant.0, more)

pub returns-clause-bits : goal.returns-clause-bits
returns-clause-bits c =
    let count : c.loop-k.k ≡ length c.args.bytes.now / 120 = omega arith in
    let at = 120 * (length c.args.bytes.now / 120) in
    let a = rw count at c.loop-k.invariant.1 in
    let stands = rw count at c.loop-k.invariant.0 in
    let left = length c.loop-k.bytes - at in
    let more = part_added c.args.bytes.now c.loop-k.bytes c.add-2.new.bytes c.bytes-2.result.now at left left a
    (omega (arith, a.size)) (omega (arith, a.size)) (omega arith)
    c.add-2.ensures.len (c.bytes-2.ensures at stands) c.add-2.ensures.sums in
    all_added c.args.bytes.now _ (at + left) more (omega (arith, a.size))
