use Rattle.std.proofs.Common.{◌≤◌, ◌-◌, ◌*◌, ◌/◌, ◌++◌, length, drop, refl, ap, ◌∙◌, arith}
use Rattle.std.proofs.lemmas.List.{length-append, length-drop}
use Rattle.terms.specs.Bits.{field, bits_of}
use Rattle.terms.proofs.BitLemmas.{length-field}
use Rattle.bit_slice.proofs.FillingLemmas.{placed, window_front, none_put}
use Rattle.bit_slice.proofs.filling.put_field.Goals as goal

pub returns-then-width-eq0-clause-holds : goal.returns-then-width-eq0-clause-holds
returns-then-width-eq0-clause-holds c = λ bits long held. none_put c.args.bytes.now bits c.args.width c.args.value
    (omega arith) held

pub returns-clause-holds : goal.returns-clause-holds
returns-clause-holds c = λ bits long held.
    let first = c.args.used / 8 in
    let count = c.div_ceil-end.result - first in
    let more = field c.args.width c.args.value in
    let end = c.div_ceil-end.ensures in
    let wide = length-field c.args.width c.args.value in
    let left = length-drop (8 * first) bits in
    let whole = c.window-window.ensures (drop (8 * first) bits) (omega (arith, left, long))
    (c.begun.ensures bits long held) in
    let few : length (drop (8 * first) bits ++ more) ≤ 8 * count =
    omega (arith, length-append (drop (8 * first) bits) more, left, wide, long, end) in
    let put = ap bits_of c.copy_from_slice.ensures.after
    ∙ window_front c.window-window.result (drop (8 * first) bits ++ more) count whole few (omega (arith, end)) in
    placed c.args.bytes.now _ c.copy_from_slice.new.self bits more first count held refl
    (omega (arith, end, c.copy_from_slice.ensures.len))
    (omega (arith, long)) (omega (arith, long, wide, end)) put
