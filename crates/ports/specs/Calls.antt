-- The calls of one kind of a desk in memory, and which of them fail.
use Rattle.std.specs.Prelude.{ℕ, ◌==◌, List, [], ◌∷◌, ◌++◌, IsTrue}
use Rattle.std.specs.List.{list_any}
use Rattle.ports.specs.Counts.{one_more}

-- how many calls there were, at most 2^64 - 1, and the numbers of those that fail
pub record KindCalls : Type 0 where
  pub count : ℕ
  pub listed : List ℕ

abbrev pub no_calls : KindCalls
no_calls = record { count = 0; listed = [] }

-- after one more call
abbrev pub one_call : KindCalls → KindCalls
one_call c = record c { count = one_more c.count }

-- The next call is one of those that fail.
abbrev pub IsListed : KindCalls → Type 0
IsListed c = IsTrue (list_any (λ nth. nth == one_more c.count) c.listed)

-- with one more call that fails
abbrev pub with_listed : ℕ → KindCalls → KindCalls
with_listed nth c = record c { listed = c.listed ++ nth ∷ [] }
