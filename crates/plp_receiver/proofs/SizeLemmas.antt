-- The blocks of a frame of a shape, each with its length.
use Rattle.std.proofs.Common.{◌≡◌, ℕ, zero, suc, ◌+◌, ◌-◌, ◌<◌, ◌≤◌, ◌&&◌, ◌==◌, Bool, true, false, List, [], ◌∷◌, ◌++◌}
use Rattle.std.proofs.Common.{length, take, drop, get_or, replicate, Option, refl, ap, sym, subst, ◌∙◌, arith, cond}
use Rattle.std.proofs.Common.{◌%◌}
use Rattle.std.specs.Prelude.{slice_index, sum}
use Rattle.std.specs.Option.{option_map_or}
use Rattle.std.specs.Cmp.Lexicographic.{pointwise}
use Rattle.std.proofs.lemmas.Bool.{true≢false, and_left, and_parts, eqb-true}
use Rattle.std.proofs.lemmas.List.{length-drop}
use Rattle.std.proofs.lemmas.List.Sums.{sum_by-cons}
use Rattle.plp_config.specs.Capacity.{block_bytes}
use Rattle.plp_config.specs.InterleavingFrames.{is_first}
use Rattle.plp_config.specs.Plps.{plp_at, spread}
use Rattle.plp_config.specs.declared.config.Config.{Config}
use Rattle.scheduler.specs.Shape.{FrameShape}
use Rattle.std.proofs.lemmas.List.FromFn.{get_or-map-range_with_len}
use Rattle.site_frame.specs.Record.{Block}
use Rattle.frame_groups.specs.Readable.{BlockSize, coming, has_size, block_sizes}
use Rattle.plp_receiver.specs.Sizes.{size_of, plp_sizes, sizes_from}
use Rattle.plp_receiver.specs.Taken.{bytes_at}
use Rattle.plp_receiver.specs.Taking.{HaveLength}
use Rattle.circular_buffer.proofs.Places.{slice_get-drop}

-- ---- one by one
left_is : (n k : ℕ) → k < n → n - k ≡ suc (n - (k + 1))
left_is n k l = omega (arith, l)

-- a block came that has the size
pub came : (b : Block) (rest : List Block) (size : BlockSize) (n k : ℕ) (more : List BlockSize) → k < n
    → has_size b size ≡ true
    → pointwise has_size (b ∷ rest) (replicate (n - k) size ++ more)
    ≡ pointwise has_size rest (replicate (n - (k + 1)) size ++ more)
came b rest size n k more l e = grind (arith, replicate, left_is)

-- a block came that has another
pub came_other : (b : Block) (rest : List Block) (size : BlockSize) (n k : ℕ) (more : List BlockSize) → k < n
    → has_size b size ≡ false
    → pointwise has_size (b ∷ rest) (replicate (n - k) size ++ more) ≡ false
came_other b rest size n k more l e = grind (arith, replicate, left_is, and_left)

-- the sizes from a PLP on begin with its own
sizes_first : (c : Config) (counts : List ℕ) (n plp : ℕ) → plp < n → sizes_from c counts plp (n - plp) ≡ plp_sizes
    c counts plp
    ++ sizes_from c counts (plp + 1) (n - (plp + 1))
sizes_first c counts n plp l = ap (sizes_from c counts plp) (left_is n plp l)

-- the blocks of a PLP came, or not
pub comes : (c : Config) (counts : List ℕ) (old new : List Block) (n plp count id len : ℕ) (result : Bool) → plp < n
    → count ≡ slice_index counts plp → id ≡ (plp_at c.plps plp).id → len ≡ block_bytes c plp
    → ((more : List BlockSize) → pointwise has_size old (replicate count (size_of id len) ++ more)
    ≡ (result && pointwise has_size new more))
    → pointwise has_size old (sizes_from c counts plp (n - plp))
    ≡ (result && pointwise has_size new (sizes_from c counts (plp + 1) (n - (plp + 1))))
comes c counts old new n plp count id len result l e i s f = grind (arith, sizes_first, replicate)

-- ---- all of them
-- there is a block at a place, and it has so many bytes
pub record IsLong (blocks : List Block) (place len : ℕ) : Type 0 where
  pub inside : place < length blocks
  pub bytes : length (bytes_at blocks place) ≡ len

-- blocks that have one size so many times, and others behind
record Splits (blocks : List Block) (n len : ℕ) (more : List BlockSize) : Type 0 where
  whole : n ≤ length blocks
  each : (k : ℕ) → k < n → IsLong blocks k len
  behind : pointwise has_size (drop n blocks) more ≡ true

splits : (blocks : List Block) (n id len : ℕ) (more : List BlockSize)
    → pointwise has_size blocks (replicate n (size_of id len) ++ more) ≡ true → Splits blocks n len more
splits blocks zero id len more e = record { whole = omega arith; each = λ k l. absurd (omega (arith, l)); behind = e }
splits [] (suc n) id len more e = absurd (true≢false (sym e))
splits (b ∷ blocks) (suc n) id len more e =
    let parts = and_parts (has_size b (size_of id len)) (pointwise has_size blocks (replicate n (size_of id len)
    ++ more)) e in
    let here : length b.bytes ≡ len =
    eqb-true (length b.bytes) len (and_parts (b.plp_id == id) (length b.bytes == len) parts.0).1 in
    let rest = splits blocks n id len more parts.1 in
    let w = rest.whole in
    record {
      whole = omega (arith, w);
      each = go here rest.each;
      behind = rest.behind;
    }
  where
    go : length b.bytes ≡ len → ((k : ℕ) → k < n → IsLong blocks k len) → (k : ℕ) → k < suc n
        → IsLong (b ∷ blocks) k len
    go here each zero l = record { inside = omega arith; bytes = here }
    go here each (suc k) l = let e = each k (omega (arith, l)) in let i = e.inside in
        record { inside = omega (arith, i); bytes = e.bytes }

is_later : (blocks : List Block) (n place len : ℕ) → IsLong (drop n blocks) place len → IsLong blocks (n + place) len
is_later blocks n place len h =
    let i = h.inside in
    record {
      inside = omega (arith, i, length-drop n blocks);
      bytes = ap (λ (o : Option Block). length (option_map_or (λ b. b.bytes) o []))
          (sym (slice_get-drop n blocks place (n + place) refl)) ∙ h.bytes;
    }

sum_none : (n : ℕ) → sum (take n []) ≡ 0
sum_none zero = refl
sum_none (suc n) = refl

sum_from : (xs : List ℕ) (first plp : ℕ) → sum (take (suc plp) (drop first xs)) ≡ get_or xs first 0
    + sum (take plp (drop (suc first) xs))
sum_from [] zero plp = omega (arith, sum_none plp, sum_none (suc plp))
sum_from [] (suc first) plp = omega (arith, sum_none plp, sum_none (suc plp))
sum_from (x ∷ xs) zero plp = sum_by-cons (λ x. x) x (take plp xs)
sum_from (x ∷ xs) (suc first) plp = sum_from xs first plp

sum_next : (xs : List ℕ) (first plp : ℕ) → sum (take (suc plp) (drop first xs)) ≡ get_or xs first 0
    + sum (take plp (drop (first + 1) xs))
sum_next xs first plp = let next : suc first ≡ first + 1 = omega arith in sum_from xs first plp
    ∙ ap (λ (n : ℕ). get_or xs first 0 + sum (take plp (drop n xs))) next

-- those of the PLP at a place among so many, from the first block of the first one on
placed : (c : Config) (counts : List ℕ) (blocks : List Block) (first n : ℕ)
    → pointwise has_size blocks (sizes_from c counts first n) ≡ true
    → (plp at k place : ℕ) → plp < n → at ≡ first + plp → k < slice_index counts at
    → place ≡ sum (take plp (drop first counts)) + k → IsLong blocks place (block_bytes c at)
placed c counts blocks first zero e plp at k place l a inside p = absurd (omega (arith, l))
placed c counts blocks first (suc n) e zero at k place l a inside p =
    let same : at ≡ first = omega (arith, a) in
    let here : place ≡ k = omega (arith, p) in
    let s = splits blocks (slice_index counts first) (plp_at c.plps first).id (block_bytes c first)
    (sizes_from c counts (first + 1) n) e in
    subst (λ (i : ℕ). IsLong blocks i (block_bytes c at)) (sym here)
    (subst (λ (j : ℕ). IsLong blocks k (block_bytes c j)) (sym same)
    (s.each k (subst (λ (j : ℕ). k < slice_index counts j) same inside)))
placed c counts blocks first (suc n) e (suc plp) at k place l a inside p =
    let m : ℕ = slice_index counts first in
    let s = splits blocks m (plp_at c.plps first).id (block_bytes c first) (sizes_from c counts (first + 1) n) e in
    let behind : ℕ = sum (take plp (drop (first + 1) counts)) + k in
    let more = placed c counts (drop m blocks) (first + 1) n s.behind plp at k behind (omega (arith, l))
    (omega (arith, a)) inside refl in
    let here : m + behind ≡ place = omega (arith, p, sum_next counts first plp) in
    subst (λ (i : ℕ). IsLong blocks i (block_bytes c at)) here (is_later blocks m behind (block_bytes c at) more)

pub long_blocks : (c : Config) (counts : List ℕ) (blocks : List Block) (plp k : ℕ)
    → pointwise has_size blocks (block_sizes c counts) ≡ true → plp < length c.plps
    → k < slice_index counts plp → IsLong blocks (sum (take plp counts) + k) (block_bytes c plp)
long_blocks c counts blocks plp k e l inside =
    placed c counts blocks 0 (length c.plps) e plp plp k (sum (take plp counts) + k) l (omega arith) inside refl

-- behind those before it
pub have_length : (c : Config) (counts : List ℕ) (blocks : List Block) (plp : ℕ)
    → pointwise has_size blocks (block_sizes c counts) ≡ true → plp < length c.plps
    → HaveLength (block_bytes c plp) (slice_index counts plp) (drop (sum (take plp counts)) blocks)
have_length c counts blocks plp e l = (enough (slice_index counts plp) (λ k i. (long k i).inside), each)
  where
    front : ℕ
    front = sum (take plp counts)

    long : (k : ℕ) → k < slice_index counts plp → IsLong blocks (front + k) (block_bytes c plp)
    long k i = long_blocks c counts blocks plp k e l i

    enough : (n : ℕ) → ((k : ℕ) → k < n → front + k < length blocks) → n ≤ length (drop front blocks)
    enough zero f = omega arith
    enough (suc n) f = let last = f n (omega arith) in omega (arith, last, length-drop front blocks)

    each : (k : ℕ) → k < slice_index counts plp → length (bytes_at (drop front blocks) k) ≡ block_bytes c plp
    each k i =
        ap (λ (o : Option Block). length (option_map_or (λ b. b.bytes) o []))
        (slice_get-drop front blocks k (front + k) refl)
        ∙ (long k i).bytes

-- those that come of a PLP
pub coming_is : (c : Config) (n : ℕ) (shape : FrameShape) (plp : ℕ) → plp < length c.plps
    → slice_index (coming c n shape) plp ≡ cond {A = ℕ} (is_first c plp n) (slice_index shape.counts plp) 0
coming_is c n shape plp l = grind (arith, get_or-map-range_with_len)

-- by the test of whether an epoch begins
pub begun_is : (c : Config) (n : ℕ) (shape : FrameShape) (plp count : ℕ) → plp < length c.plps
    → (n % spread c.plps plp == 0) ≡ true → count ≡ slice_index shape.counts plp
    → count ≡ slice_index (coming c n shape) plp
begun_is c n shape plp count l e same = grind (arith, coming_is)

pub none_begun : (c : Config) (n : ℕ) (shape : FrameShape) (plp : ℕ) → plp < length c.plps
    → (n % spread c.plps plp == 0) ≡ false → 0 ≡ slice_index (coming c n shape) plp
none_begun c n shape plp l e =
    sym (ap (λ (b : Bool). cond {A = ℕ} b (slice_index shape.counts plp) 0) e) ∙ sym (coming_is c n shape plp l)
