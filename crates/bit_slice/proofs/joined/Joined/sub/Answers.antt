use Rattle.std.proofs.Common.{◌≡◌, ◌++◌, List, Bool, ap, ◌∙◌}
use Rattle.terms.specs.Bits.{part}
use Rattle.bit_slice.proofs.JoinLemmas.{joined_part}
use Rattle.bit_slice.proofs.joined.Joined.sub.Goals as goal

pub returns-clause-bits : goal.returns-clause-bits
returns-clause-bits c =
    let from = rw (c.len-seam.ensures.len) at c.min-from.ensures in
    let taken = rw (c.len-seam.ensures.len) at c.min-taken.ensures in
    let whole = joined_part c.self.inside.front c.self.inside.back c.args.first c.args.len c.min-from.result
    c.min-taken.result
    from taken in
    let parts : c.sub.result ++ c.sub-2.result ≡ part c.args.self.now c.args.first c.args.len =
    rw (c.sub.ensures.bits, c.sub-2.ensures.bits)
    (whole ∙ ap (λ (bits : List Bool). part bits c.args.first c.args.len) c.self.view_is) in
    parts
