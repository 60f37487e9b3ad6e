use Rattle.std.proofs.Common.{◌≡◌, length, ap, ◌∙◌, arith}
use Rattle.terms.specs.Bits.{bits_of}
use Rattle.terms.proofs.BitLemmas.{bits_of-high-first}
use Rattle.bit_slice.proofs.WindowLemmas.{begun_in}
use Rattle.bit_slice.proofs.window.put_register.Goals as goal

pub returns : goal.returns
returns c =
    let word = c.to_be_bytes.result in
    let bits = ap bits_of c.to_be_bytes.ensures ∙ bits_of-high-first 4 c.args.register in
    let four : length word ≡ 4 = ap length c.to_be_bytes.ensures in
    begun_in c.args.register word c.copy_from_slice.new.self c.args.sums.now (omega arith) four bits
    c.copy_from_slice.ensures.after
    c.requires
