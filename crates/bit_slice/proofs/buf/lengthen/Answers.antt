use Rattle.std.proofs.Common.{◌≤◌, length, sym, ◌∙◌, arith}
use Rattle.bit_slice.proofs.FillingLemmas.{resized}
use Rattle.bit_slice.proofs.buf.lengthen.Goals as goal

pub returns-clause-holds : goal.returns-clause-holds
returns-clause-holds c = λ done bits long held.
    let old = c.args.bytes.now.items in
    let more : length old ≤ c.div_ceil.result = omega (arith, c.div_ceil.ensures, c.requires.len) in
    resized old c.resize.new.self.items bits _ _ _ (sym c.is_ok.ensures.value ∙ done) c.resize.ensures.items more held
