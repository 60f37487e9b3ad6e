-- Numbers that are drawn one after another, from a number that each draw changes.
use Rattle.std.specs.Prelude.{ℕ, zero, suc, ◌+◌, ◌*◌, ◌/◌, ◌%◌, ◌^◌, List, map}
use Rattle.std.specs.List.{range_with_len}
use Rattle.trial_run.specs.declared.draws.TheConstants.{MULTIPLIER, INCREMENT, HIDDEN_BITS}

-- the number after a draw
unfoldable pub after_one : ℕ → ℕ
after_one x = (x * MULTIPLIER + INCREMENT) % 2 ^ 64

-- what that draw gives
unfoldable pub drawn : ℕ → ℕ
drawn x = after_one x / 2 ^ HIDDEN_BITS

-- the number after so many draws
unfoldable pub after : ℕ → ℕ → ℕ
after zero x = x
after (suc n) x = after_one (after n x)

-- what so many draws give, one after another
unfoldable pub draws_from : ℕ → ℕ → List ℕ
draws_from n x = map (λ k. drawn (after k x)) (range_with_len 0 n)
