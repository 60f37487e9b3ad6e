use Rattle.std.proofs.Common.{◌≤◌, length, arith, sym, ◌∙◌}
use Rattle.std.proofs.lemmas.List.{take_all}
use Rattle.terms.specs.Bits.{bytes_for}
use Rattle.bit_slice.proofs.FillingLemmas.{seen_long, filled}
use Rattle.bit_slice.proofs.buf.BitBuf.into_bytes.Goals as goal

pub returns : goal.returns
returns c =
    let bytes = c.self.inside.bytes.items in
    let long = seen_long bytes c.args.self c.self.inside.used c.self.view_is (omega (arith, c.self.invariant.0)) in
    let size : length bytes ≤ bytes_for (length c.args.self) = omega (arith, long, c.self.invariant.0) in
    sym (take_all (bytes_for (length c.args.self)) bytes size)
    ∙ filled bytes c.args.self (rw c.self.view_is at c.self.invariant.2) (λ k h. omega arith)
