use Rattle.std.proofs.Common.{◌≡◌, ◌<◌, ◌*◌, ◌↔◌, ℕ, true, drop}
use Rattle.byteorder.specs.Endian.{big_number}
use Rattle.site_frame.proofs.agreeing.are_same.Given as goal

abbrev pub invariant-loop-i : goal.invariant-loop-i
invariant-loop-i l = (l.same ≡ true)
    ↔ ((k : ℕ) → k < l.i → big_number 4 (drop (4 * k) l.one) ≡ big_number 4 (drop (4 * k) l.other))
