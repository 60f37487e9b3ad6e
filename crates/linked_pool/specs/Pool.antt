-- What a contract sees of a pool.
use Rattle.std.specs.Prelude.{◌≡◌, ◌≢◌, ℕ, ◌+◌, ◌-◌, max, List, [], ◌∷◌, ◌++◌, length, take, drop, replicate, sum_by}
use Rattle.std.specs.Prelude.{slice_set}
use Rattle.std.specs.Prelude.{slice_index_or, refl}
use Rattle.std.specs.Int.{div_ceil}
use Rattle.std.specs.Coded.{Coded, code_by, coded×, coded_ℕ, coded_list}

-- the blocks of each list, the chunks that are free, and how many chunks the pool was opened with
pub record State : Type 0 where
  pub lists : List (List (List ℕ))
  pub spare : ℕ
  pub opened : ℕ

abbrev pub state_code : Coded State
state_code =
    code_by (List (List (List ℕ)) × (ℕ × ℕ)) (coded× (coded_list (coded_list (coded_list coded_ℕ)))
    (coded× coded_ℕ coded_ℕ))
    (λ s. (s.lists, (s.spare, s.opened))) (λ p. record { lists = p.0; spare = p.1.0; opened = p.1.1 }) (λ _. refl)

-- the bytes of a chunk
abbrev pub chunk_len : ℕ
chunk_len = 256

-- the chunks that a block of so many bytes fills: one at least
abbrev pub chunks_for : ℕ → ℕ
chunks_for len = max 1 (div_ceil len chunk_len)

-- the chunks of the blocks of a list, and of all lists
abbrev pub chunks_of : List (List ℕ) → ℕ
chunks_of blocks = sum_by (λ block. chunks_for (length block)) blocks

abbrev pub used_chunks : List (List (List ℕ)) → ℕ
used_chunks lists = sum_by chunks_of lists

-- Every chunk is free or has a part of a block.
abbrev pub IsWhole : State → Type 0
IsWhole pool = pool.spare + used_chunks pool.lists ≡ pool.opened

-- the blocks of the list at a place
abbrev pub list_at : State → ℕ → List (List ℕ)
list_at pool list = slice_index_or pool.lists list []

-- a pool of so many chunks and so many lists without blocks
abbrev pub empty : ℕ → ℕ → State
empty chunks lists = record { lists = replicate lists []; spare = chunks; opened = chunks }

-- the pool with one block more, at the end of a list
abbrev pub appended : State → ℕ → List ℕ → State
appended pool list block = record {
  lists = slice_set pool.lists list (list_at pool list ++ block ∷ []);
  spare = pool.spare - chunks_for (length block);
  opened = pool.opened;
}

-- the pool without the first block of a list; if the list has none, it stays as it is
abbrev pub popped : State → ℕ → State
popped pool list = record {
  lists = slice_set pool.lists list (drop 1 (list_at pool list));
  spare = pool.spare + chunks_of (take 1 (list_at pool list));
  opened = pool.opened;
}

-- the pool without the blocks of a list
abbrev pub cleared : State → ℕ → State
cleared pool list = record {
  lists = slice_set pool.lists list [];
  spare = pool.spare + chunks_of (list_at pool list);
  opened = pool.opened;
}

-- Only this list, and with it what is free, may differ.
pub record Others (old new : State) (list : ℕ) : Type 0 where
  pub lists : (other : ℕ) → other ≢ list → list_at new other ≡ list_at old other
  pub count : length new.lists ≡ length old.lists
  pub opened : new.opened ≡ old.opened
