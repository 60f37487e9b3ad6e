-- A group with a number is one of those before the next.
use Rattle.std.proofs.Common.{◌≡◌, ℕ, true, List, ◌∷◌, Option, Some, None, is_some, ap, sym, subst, ◌∙◌}
use Rattle.std.proofs.lemmas.Bool.{true≢false}
use Rattle.frame_groups.specs.Groups.{Group}
use Rattle.frame_groups.specs.Modulated.{Numbered, past_with}
use Rattle.frame_groups.specs.Sequenced.{IsAbove, past_of}
use Rattle.frame_groups.specs.Tally.{tally}
use Rattle.open_group.specs.Holds.{Holds}
use Rattle.open_group.specs.HoldsBlocks.{HoldsCounts}
use Rattle.open_group.specs.HoldsPast.{HoldsPast}
use Rattle.open_group.specs.declared.group.PooledGroup.{PooledGroup}
use Rattle.open_group.specs.declared.past.HeldPast.{HeldPast}

pub noted_past : (held : PooledGroup) (new : HeldPast) (number : Option ℕ) (n : ℕ) → number ≡ Some n
    → (is_some number ≡ true → is_some held.key ≡ true)
    → ((past : List Numbered) (g : Group) → HoldsPast held.network held.past past → IsAbove past n
    → HoldsCounts held.network held.blocks (tally held.network g.packets)
    → HoldsPast held.network new (record { number = n; group = g } ∷ past))
    → (past : List Numbered) (g : Option Group) → Holds held past g → ((n : ℕ) → number ≡ Some n → IsAbove past n)
    → HoldsPast held.network new (past_of past g number)
noted_past held new number n is some note past None h above =
    absurd (true≢false (sym (some (ap is_some is)) ∙ ap is_some h.0))
noted_past held new number n is some note past (Some g) h above =
    subst (λ (o : Option ℕ). HoldsPast held.network new (past_with past g o)) (sym is)
    (note past g h.past-is (above n is) h.counts)
