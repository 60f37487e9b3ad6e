use Rattle.std.proofs.Common.{◌≤◌, ◌+◌, ◌*◌, ◌/◌, ◌++◌, take, refl, ap, ◌∙◌, arith, length}
use Rattle.std.proofs.lemmas.List.{take-append-drop, take_rest}
use Rattle.bit_slice.proofs.SliceLemmas.{seen_length, front_bytes}
use Rattle.bit_slice.proofs.slice.BitSlice.split_bytes.Goals as goal

pub returns : goal.returns
returns c =
    let count = c.len-len.result / 8 in
    let within : c.self.inside.first + c.self.inside.len ≤ 8 * length c.self.inside.bytes.now = omega arith in
    let size = seen_length c.self.inside.bytes.now c.self.inside.first c.self.inside.len c.args.self.now
    c.self.view_is within in
    let front = front_bytes c.self.inside.bytes.now c.self.inside.first c.self.inside.len count
    (c.self.inside.first / 8 + count) c.args.self.now
    c.self.view_is within c.if-self-ne0.false (omega arith) refl in
    rw (← front, c.sub-rest.ensures.bits, c.len-len.ensures.len)
    (ap (λ bits. take (8 * (length c.args.self.now / 8)) c.args.self.now ++ bits)
    (take_rest c.args.self.now (8 * (length c.args.self.now / 8)))
    ∙ take-append-drop (8 * (length c.args.self.now / 8)) c.args.self.now)
