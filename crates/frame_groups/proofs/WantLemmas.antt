-- When the packets of a group are wanted.
use Rattle.std.proofs.Common.{◌≡◌, ℕ, Bool, true, false, Option, Some, None, refl, sym, subst}
use Rattle.frame_groups.specs.declared.waiting.Progress.{Progress}
use Rattle.frame_groups.specs.Waits.{wants_by, wants_packets}

open_wants : (number : Option ℕ) (next : ℕ) → wants_by number next false ≡ true
open_wants None next = refl
open_wants (Some n) next = refl

-- those of a group that is under way are
pub wants_open : (p : Progress) → p.closing ≡ false → wants_packets p ≡ true
wants_open p shut = subst (λ (t : Bool). wants_by p.number p.next t ≡ true) (sym shut) (open_wants p.number p.next)
