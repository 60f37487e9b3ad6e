use Rattle.std.proofs.Common.{◌≡◌, ◌+◌, ◌-◌, ◌*◌, ◌/◌, ◌%◌, ◌++◌, length, ◌∙◌, arith}
use Rattle.std.proofs.lemmas.List.{length-append}
use Rattle.terms.specs.Bits.{part}
use Rattle.terms.proofs.BitLemmas.{length-part}
use Rattle.bit_slice.proofs.FillingLemmas.{all_put, parts_put}
use Rattle.bit_slice.proofs.filling.put_bits.Goals as goal

pub returns-then-len-head-clause-holds : goal.returns-then-len-head-clause-holds
returns-then-len-head-clause-holds c =
    λ front long held. all_put c.put_part.new.bytes front c.args.bits.now c.len-len.result c.len-len.ensures.len
    (c.put_part.ensures.holds front long held)

pub returns-clause-holds : goal.returns-clause-holds
returns-clause-holds c = λ front long held.
    let bits = c.args.bits.now in
    let len = c.len-len.ensures.len in
    let head = (8 - c.args.used % 8) % 8 in
    let middle = 8 * ((c.len-len.result - head) / 8) in
    let last = head + middle in
    let first = length-part bits 0 head (omega (arith, len)) in
    let second = length-part bits head middle (omega (arith, len)) in
    let one = front ++ part bits 0 head in
    let two = one ++ part bits head middle in
    let long_one : length one ≡ c.args.used + head = length-append front (part bits 0 head)
    ∙ omega (arith, long, first) in
    let long_two : length two ≡ c.args.used + last = length-append one (part bits head middle)
    ∙ omega (arith, long_one, second) in
    parts_put _ front bits head middle last (c.len-len.result - last) (omega arith) (omega (arith, len))
    (omega (arith, len))
    (c.put_part-3.ensures.holds two long_two
    (c.put_bytes.ensures.holds one long_one (c.put_part-2.ensures.holds front long held)))
