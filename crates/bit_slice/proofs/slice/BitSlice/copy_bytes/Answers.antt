use Rattle.std.proofs.Common.{◌≡◌, ◌+◌, ◌*◌, ◌/◌, ◌<◌, ℕ, length, get_or, sym, ap, ◌∙◌, arith}
use Rattle.terms.specs.Bits.{bytes_of, number_at}
use Rattle.terms.proofs.BitLemmas.{bytes_of-bits_of, bits_of-bytes_of, bytes_of_fields}
use Rattle.bit_slice.proofs.SliceLemmas.{bits_of_borrowed}
use Rattle.bit_slice.proofs.slice.BitSlice.copy_bytes.Goals as goal

pub returns-then-self-eq0-clause-bits : goal.returns-then-self-eq0-clause-bits
returns-then-self-eq0-clause-bits c =
    let size : length c.copy_from_slice.new.self ≡ length c.args.out.now = c.copy_from_slice.ensures.len in
    bits_of_borrowed c.self.inside.bytes.now c.copy_from_slice.new.self c.self.inside.first c.self.inside.len
    c.args.self.now
    c.self.view_is (omega arith) c.if-self-eq0.true (omega arith) (c.self.inside.first / 8 + length c.args.out.now)
    (omega arith) c.copy_from_slice.ensures.after

pub returns-then-self-eq0-clause-bytes : goal.returns-then-self-eq0-clause-bytes
returns-then-self-eq0-clause-bytes c =
    let small : (k : ℕ) → get_or c.copy_from_slice.new.self k 0 < 256 = λ k. omega (arith, c.type_inv.out k) in
    sym (bytes_of-bits_of c.copy_from_slice.new.self small) ∙ ap bytes_of (returns-then-self-eq0-clause-bits c)

pub returns-clause-bytes : goal.returns-clause-bytes
returns-clause-bytes c =
    let each : (k : ℕ) → k < length c.loop-k.out → get_or c.loop-k.out k 0 ≡ number_at c.args.self.now (8 * k) 8 =
    λ k h. c.loop-k.invariant k (omega arith) in
    bytes_of_fields c.args.self.now c.loop-k.out (omega arith) each

pub returns-clause-bits : goal.returns-clause-bits
returns-clause-bits c = rw (returns-clause-bytes c) (bits_of-bytes_of c.args.self.now (length c.args.out.now)
    c.requires)
