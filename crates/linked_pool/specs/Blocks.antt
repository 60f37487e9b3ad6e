-- How the blocks of a pool lie in its chunks. No public clause cites this module.
use Rattle.std.specs.Prelude.{◌≡◌, ℕ, zero, suc, ◌+◌, ◌-◌, ◌*◌, ◌^◌, ◌<◌, ◌≤◌, List, [], ◌∷◌, length, take, drop}
use Rattle.std.specs.Prelude.{get_or}
use Rattle.std.specs.Prelude.{set, flat_map}
use Rattle.linked_pool.specs.Chains.{occurs, count}
use Rattle.linked_pool.specs.Pool.{State, chunk_len, chunks_for, chunks_of, list_at}

-- the bytes of chunks
abbrev pub joined : List (List ℕ) → List ℕ → List ℕ
joined chunks cs = flat_map (λ c. get_or chunks c []) cs

-- the chunks of the block at the front of a chain; the bytes of a block stand in lens at its first chunk
abbrev pub front_chunks : List ℕ → List ℕ → ℕ
front_chunks lens chain = chunks_for (get_or lens (get_or chain 0 0) 0)

-- so many blocks, one behind the other along a chain
abbrev pub blocks_of : List (List ℕ) → List ℕ → ℕ → List ℕ → List (List ℕ)
blocks_of chunks lens zero chain = []
blocks_of chunks lens (suc n) chain =
    take (get_or lens (get_or chain 0 0) 0) (joined chunks (take (front_chunks lens chain) chain))
    ∷ blocks_of chunks lens n (drop (front_chunks lens chain) chain)

-- the chunks of so many blocks along a chain
abbrev pub uses : List ℕ → ℕ → List ℕ → ℕ
uses lens zero chain = 0
uses lens (suc n) chain = front_chunks lens chain + uses lens n (drop (front_chunks lens chain) chain)

-- the blocks of each list, by their counts
abbrev pub lists_of : List (List ℕ) → List ℕ → List ℕ → List (List ℕ) → List (List (List ℕ))
lists_of chunks lens [] chains = []
lists_of chunks lens (n ∷ counts) [] = blocks_of chunks lens n [] ∷ lists_of chunks lens counts []
lists_of chunks lens (n ∷ counts) (c ∷ chains) = blocks_of chunks lens n c ∷ lists_of chunks lens counts chains

-- all chunks in chains
abbrev pub all_of : List (List ℕ) → ℕ
all_of [] = 0
all_of (c ∷ cs) = length c + all_of cs

-- Chain 0 has the free chunks, and the chain of list i stands at i + 1: the blocks of the list fill it.
pub record IsPool (chains : List (List ℕ)) (chunks : List (List ℕ)) (lens counts : List ℕ) : Type 0 where
  pub lists : length chains ≡ length counts + 1
  pub lens_too : length lens ≡ length chunks
  pub few_chunks : length chunks < 2 ^ 32
  pub apart : (x : ℕ) → occurs x chains ≤ 1
  pub within : (x : ℕ) → length chunks ≤ x → occurs x chains ≡ 0
  pub all : all_of chains ≡ length chunks
  pub used : (i : ℕ) → i < length counts → uses lens (get_or counts i 0) (get_or chains (i + 1) [])
      ≡ length (get_or chains (i + 1) [])
  pub size : (c : ℕ) → c < length chunks → length (get_or chunks c []) ≡ chunk_len

-- what callers see
abbrev pub view_of : List (List ℕ) → List (List ℕ) → List ℕ → List ℕ → State
view_of chains chunks lens counts = record {
  lists = lists_of chunks lens counts (drop 1 chains);
  spare = length (get_or chains 0 []);
  opened = length chunks;
}

-- the pool without the first blocks of a list
abbrev pub without : State → ℕ → ℕ → State
without pool list n = record {
  lists = set pool.lists list (drop n (list_at pool list));
  spare = pool.spare + chunks_of (take n (list_at pool list));
  opened = pool.opened;
}

-- the piece of a block that stands in its i-th chunk
abbrev pub piece_of : List ℕ → ℕ → List ℕ
piece_of block i = take chunk_len (drop (chunk_len * i) block)

-- So many chunks of a chain have the first bytes of a block, and no other chunk changed.
pub record Fills (chain : List ℕ) (block : List ℕ) (n : ℕ) (old new : List (List ℕ)) : Type 0 where
  pub bytes : take (length (take (chunk_len * n) block)) (joined new (take n chain)) ≡ take (chunk_len * n) block
  pub kept : (c : ℕ) → count c (take n chain) ≡ 0 → get_or new c [] ≡ get_or old c []
  pub whole : (c : ℕ) → c < length new → length (get_or new c []) ≡ chunk_len

-- the bytes of a block that stands at an offset of a chain
abbrev pub ref_bytes : List (List ℕ) → List (List ℕ) → ℕ → ℕ → ℕ → List ℕ
ref_bytes chains chunks i offset len = take len
    (joined chunks (take (chunks_for len) (drop offset (get_or chains i []))))

pub record IsRef (chains chunks : List (List ℕ)) (i offset first len : ℕ) : Type 0 where
  pub inside : i < length chains
  pub enough : chunks_for len ≤ length (drop offset (get_or chains i []))
  pub at : first ≡ get_or (get_or chains i []) offset 0
  pub there : (c : ℕ) → 0 < occurs c chains → c < length chunks
  pub whole : (c : ℕ) → c < length chunks → length (get_or chunks c []) ≡ chunk_len
  pub few : length (get_or chains i []) < 2 ^ 32

-- so many bytes of a chain, from an offset on
abbrev pub rest_bytes : List (List ℕ) → List (List ℕ) → ℕ → ℕ → ℕ → List ℕ
rest_bytes chains chunks i offset left = take left (joined chunks (drop offset (get_or chains i [])))

pub record IsRest (chains chunks : List (List ℕ)) (i offset chunk left : ℕ) : Type 0 where
  pub inside : i < length chains
  pub enough : left ≤ chunk_len * length (drop offset (get_or chains i []))
  pub at : 0 < left → chunk ≡ get_or (get_or chains i []) offset 0
  pub there : (c : ℕ) → 0 < occurs c chains → c < length chunks
  pub whole : (c : ℕ) → c < length chunks → length (get_or chunks c []) ≡ chunk_len
  pub few : length (get_or chains i []) < 2 ^ 32

-- The last chunk of each block stands in lasts at its first one.
abbrev pub Ends : List ℕ → List ℕ → ℕ → List ℕ → Type 0
Ends lens lasts zero chain = Unit {0}
Ends lens lasts (suc n) chain =
    (get_or lasts (get_or chain 0 0) 0 ≡ get_or chain (front_chunks lens chain - 1) 0)
    × Ends lens lasts n (drop (front_chunks lens chain) chain)

-- So it is in all lists.
pub record AreEnds (chains : List (List ℕ)) (lens lasts counts : List ℕ) : Type 0 where
  pub lasts_too : length lasts ≡ length lens
  pub each : (i : ℕ) → i < length counts → Ends lens lasts (get_or counts i 0) (get_or chains (i + 1) [])

-- so many blocks, from an offset of a chain on
abbrev pub walk_blocks : List (List ℕ) → List (List ℕ) → List ℕ → ℕ → ℕ → ℕ → List (List ℕ)
walk_blocks chains chunks lens i offset left = blocks_of chunks lens left (drop offset (get_or chains i []))

-- They fill the rest of the chain.
pub record IsWalk (chains chunks : List (List ℕ)) (lens lasts : List ℕ) (i offset chunk left : ℕ) : Type 0 where
  pub inside : i < length chains
  pub lens_too : length lens ≡ length chunks
  pub lasts_too : length lasts ≡ length lens
  pub used : uses lens left (drop offset (get_or chains i [])) ≡ length (drop offset (get_or chains i []))
  pub ends : Ends lens lasts left (drop offset (get_or chains i []))
  pub at : 0 < left → chunk ≡ get_or (get_or chains i []) offset 0
  pub there : (c : ℕ) → 0 < occurs c chains → c < length chunks
  pub whole : (c : ℕ) → c < length chunks → length (get_or chunks c []) ≡ chunk_len
  pub few : length (get_or chains i []) < 2 ^ 32
