-- The blocks that came of a run's frame are placed where they stood in it.
use Rattle.std.proofs.Common.{◌≡◌, ℕ, zero, suc, ◌+◌, ◌*◌, ◌%◌, ◌<◌, ◌≤◌, ◌==◌, Bool, true, false, cond, List, [], ◌∷◌}
use Rattle.std.proofs.Common.{◌++◌, length, map, Option, Some, None, refl, ap, ap₂, sym, subst, ◌∙◌, ⊎_elim, arith}
use Rattle.std.proofs.Common.{append-nil, append_assoc, length-append}
use Rattle.std.specs.Prelude.{slice_index_or}
use Rattle.std.specs.List.{flat_map, filter, filter_map, items_where_true, range_with_len, AllByRecursion}
use Rattle.std.proofs.lemmas.Bool.{cases_eq, eq-eqb, ne_eqb, true≢false}
use Rattle.plp_config.specs.Capacity.{IsPlan, block_bytes}
use Rattle.plp_config.specs.Plps.{plp_at}
use Rattle.plp_config.specs.declared.config.Config.{Config}
use Rattle.t2mi_packet.specs.declared.packet.Body.TheVariants.{Block}
use Rattle.t2mi_packet.specs.declared.packet.Packet.{Packet}
use Rattle.frame_groups.specs.Carried.{has_length, right_blocks}
use Rattle.open_group.specs.Sent.{held_bytes}
use Rattle.gateway_core.specs.Packets.{block_bodies}
use Rattle.frame_writer.specs.FramePackets.{packet_with}
use Rattle.stream_laws.proofs.MadeLemmas.{ids_differ}
use Rattle.stream_laws.proofs.SizeLemmas.{AreLong}
use Rattle.frame_weave.specs.Marked.{marked_block, packet_blocks, marked_blocks}
use Rattle.frame_weave.specs.Laws.{Stood, AllStood, StoodIsPlaced}
use Rattle.frame_weave.specs.Placed.{Placed, placed_from}
use Rattle.frame_weave.specs.Places.{start_of}
use Rattle.network_laws.specs.FeedsOfRun.{FewLack}
use Rattle.network_laws.proofs.RowGroupLemmas.{row_packets}

-- ---- what came of a list

-- A place of its own: of its PLP, as packet_count tells it, with the bytes that stand there.
pub record IsAt (counts : List ℕ) (origin : ℕ) (bytes_at : ℕ → List ℕ) (place : ℕ) (s : Stood) : Type 0 where
  pub place_is : s.place ≡ place
  pub low : start_of counts s.block.plp ≤ place
  pub high : place < start_of counts (s.block.plp + 1)
  pub count : s.block.count ≡ (origin + place) % 256
  pub bytes : s.block.bytes ≡ bytes_at place

-- So it is of blocks one behind another.
abbrev pub AreAt : List ℕ → ℕ → (ℕ → List ℕ) → ℕ → List Stood → Type 0
AreAt counts origin bytes_at place [] = Unit {0}
AreAt counts origin bytes_at place (s ∷ more) =
    IsAt counts origin bytes_at place s × AreAt counts origin bytes_at (place + 1) more

pub are_appended : (counts : List ℕ) (origin : ℕ) (bytes_at : ℕ → List ℕ) (place : ℕ) (xs ys : List Stood)
    → AreAt counts origin bytes_at place xs → AreAt counts origin bytes_at (place + length xs) ys
    → AreAt counts origin bytes_at place (xs ++ ys)
are_appended counts origin bytes_at place [] ys h k =
    rw (← (let e : place + 0 ≡ place = omega arith in e)) k
are_appended counts origin bytes_at place (x ∷ xs) ys h k = (
  h.0,
  are_appended counts origin bytes_at (place + 1) xs ys h.1
      (rw (← (let e : place + suc (length xs) ≡ place + 1 + length xs = omega arith in e)) k),
)

-- If fewer than 256 lack before each that came, they stood so that they are placed there.
pub came_stood : (counts : List ℕ) (origin : ℕ) (bytes_at : ℕ → List ℕ) (lacking first place : ℕ) (flags : List Bool)
    (all : List Stood)
    → AreAt counts origin bytes_at place all → first ≤ place → place ≤ first + lacking → FewLack lacking flags
    → AllStood counts origin first (items_where_true flags all)
came_stood counts origin bytes_at lacking first place [] all at low near few = tt
came_stood counts origin bytes_at lacking first place (t ∷ flags) [] at low near few = tt
came_stood counts origin bytes_at lacking first place (true ∷ flags) (s ∷ all) at low near few =
    let a = at.0 in
    let is = a.place_is in (
      record {
        low = omega (arith, low);
        near = omega (arith, low);
        high = omega arith;
        count = a.count ∙ ap (λ (p : ℕ). (origin + p) % 256) (sym is);
      },
      came_stood counts origin bytes_at 0 (s.place + 1) (place + 1) flags all at.1 (omega arith)
          (omega arith) few.1,
    )
came_stood counts origin bytes_at lacking first place (false ∷ flags) (s ∷ all) at low near few =
    came_stood counts origin bytes_at (lacking + 1) first (place + 1) flags all at.1 (omega (arith, low))
    (omega arith) few

-- and have the bytes of their places
came_bytes : (counts : List ℕ) (origin : ℕ) (bytes_at : ℕ → List ℕ) (place : ℕ) (flags : List Bool) (all : List Stood)
    → AreAt counts origin bytes_at place all
    → AllByRecursion (λ (p : Placed). p.bytes ≡ bytes_at p.place)
    (map (λ (s : Stood). record { place = s.place; bytes = s.block.bytes }) (items_where_true flags all))
came_bytes counts origin bytes_at place [] all at = tt
came_bytes counts origin bytes_at place (t ∷ flags) [] at = tt
came_bytes counts origin bytes_at place (true ∷ flags) (s ∷ all) at =
    (at.0.bytes ∙ ap bytes_at (sym at.0.place_is), came_bytes counts origin bytes_at (place + 1) flags all at.1)
came_bytes counts origin bytes_at place (false ∷ flags) (s ∷ all) at = came_bytes counts origin bytes_at (place + 1)
    flags all at.1

-- So all that is placed of them has the bytes of its place.
pub came_placed : StoodIsPlaced
    → (counts : List ℕ) (origin : ℕ) (bytes_at : ℕ → List ℕ) (lacking first place : ℕ) (flags : List Bool)
    (all : List Stood) → AreAt counts origin bytes_at place all → first ≤ place → place ≤ first + lacking
    → FewLack lacking flags
    → AllByRecursion (λ (p : Placed). p.bytes ≡ bytes_at p.place)
    (placed_from counts origin first (map (λ (s : Stood). s.block) (items_where_true flags all)))
came_placed law counts origin bytes_at lacking first place flags all at low near few =
    rw (law counts origin first (items_where_true flags all) (came_stood counts origin bytes_at lacking first place
    flags all at low near few)) (came_bytes counts origin bytes_at place flags all at)

-- ---- the marked blocks of packets

-- Each packet brings one block.
abbrev pub Bring : Config → List Packet → List Stood → Type 0
Bring c [] [] = Unit {0}
Bring c [] (s ∷ ss) = ⊥
Bring c (p ∷ ps) [] = ⊥
Bring c (p ∷ ps) (s ∷ ss) = (packet_blocks c p ≡ s.block ∷ []) × Bring c ps ss

pub bring_appended : (c : Config) (ps qs : List Packet) (ss ts : List Stood) → Bring c ps ss → Bring c qs ts
    → Bring c (ps ++ qs) (ss ++ ts)
bring_appended c [] qs [] ts h k = k
bring_appended c [] qs (s ∷ ss) ts h k = absurd h
bring_appended c (p ∷ ps) qs [] ts h k = absurd h
bring_appended c (p ∷ ps) qs (s ∷ ss) ts h k = (h.0, bring_appended c ps qs ss ts h.1 k)

pub came_marked : (c : Config) (flags : List Bool) (ps : List Packet) (ss : List Stood) → Bring c ps ss
    → marked_blocks c (items_where_true flags ps) ≡ map (λ (s : Stood). s.block) (items_where_true flags ss)
came_marked c [] ps ss h = refl
came_marked c (t ∷ flags) [] [] h = refl
came_marked c (t ∷ flags) [] (s ∷ ss) h = absurd h
came_marked c (t ∷ flags) (p ∷ ps) [] h = absurd h
came_marked c (true ∷ flags) (p ∷ ps) (s ∷ ss) h =
    rw (h.0, came_marked c flags ps ss h.1)
came_marked c (false ∷ flags) (p ∷ ps) (s ∷ ss) h = came_marked c flags ps ss h.1

-- ---- the blocks of a frame

-- one of the places of PLPs gives something, and the others nothing
only_one : {Y : Type 0} (f : ℕ → List Y) (count plp : ℕ) (own : List Y) → f plp ≡ own
    → ((j : ℕ) → j < count → (j ≡ plp → ⊥) → f j ≡ []) → (a k : ℕ) → a + k ≤ count
    → (a ≤ plp → plp < a + k → flat_map f (range_with_len a k) ≡ own) × (plp < a → flat_map f (range_with_len a k) ≡ [])
only_one f count plp own is others a zero l = (λ x y. absurd (omega arith), λ x. refl)
only_one {Y = Y} f count plp own is others a (suc k) l =
    let rest = only_one f count plp own is others (a + 1) k (omega arith) in
    let tail : List Y = flat_map f (range_with_len (a + 1) k) in (
      (λ x y. ⊎_elim
          (λ (e : a ≡ plp). ap₂ (λ (u v : List Y). u ++ v) (ap f e ∙ is) (rest.1 (omega arith)) ∙ append-nil own)
          (λ (e : a ≡ plp → ⊥). ap (λ (u : List Y). u ++ tail) (others a (omega arith) e)
          ∙ rest.0 (omega arith) (omega arith)) (cases_eq a plp)),
      (λ x. ap (λ (u : List Y). u ++ tail) (others a (omega arith) (λ e. omega arith))
          ∙ rest.1 (omega arith)),
    )

-- a block stands in the frame
abbrev stood_as : ℕ → ℕ → ℕ → List Bool → Stood
stood_as count plp place bits = record { block = marked_block count plp bits; place = place }

-- those of a PLP, by the number of the first packet and the place of the first block
abbrev pub plp_stood : ℕ → ℕ → ℕ → List (List Bool) → List Stood
plp_stood number plp place [] = []
plp_stood number plp place (b ∷ blocks) = stood_as (number % 256) plp place b ∷ plp_stood (number + 1) plp (place + 1)
    blocks

module _ (c : Config) (plan : IsPlan c) (n : ℕ) where
  -- a packet of a PLP brings its block
  one_brings : (number plp : ℕ) (first : Bool) (b : List Bool) → plp < length c.plps → length b ≡ 8 * block_bytes c plp
      → packet_blocks c (packet_with c number n (Block (n % c.frames) (plp_at c.plps plp).id first b))
      ≡ marked_block (number % 256) plp b ∷ []
  one_brings number plp first b inside long =
      let p : Packet = packet_with c number n (Block (n % c.frames) (plp_at c.plps plp).id first b) in
      let own : right_blocks c plp (p ∷ []) ≡ b ∷ [] =
      rw (
        one_or_none ((plp_at c.plps plp).id == (plp_at c.plps plp).id) true (eq-eqb (plp_at c.plps plp).id
            (plp_at c.plps plp).id refl),
        eq-eqb (length b) (8 * block_bytes c plp) long,
      ) in
      let none : (j : ℕ) → j < length c.plps → (j ≡ plp → ⊥)
      → map (marked_block (number % 256) j) (right_blocks c j (p ∷ [])) ≡ [] =
      λ j l apart. ap (λ (l : List (List Bool)). map (marked_block (number % 256) j) (filter (has_length c j) l))
      (one_or_none ((plp_at c.plps plp).id == (plp_at c.plps j).id) false
      (ne_eqb (plp_at c.plps plp).id (plp_at c.plps j).id
      (λ e. ids_differ c plan plp j inside l (λ same. apart (sym same)) e))) in
      (only_one (λ j. map (marked_block (number % 256) j) (right_blocks c j (p ∷ []))) (length c.plps) plp
      (marked_block (number % 256) plp b ∷ []) (ap (map (marked_block (number % 256) plp)) own) none 0 (length c.plps)
      (omega arith)).0 (omega arith) (omega arith)
    where
      one_or_none : (t u : Bool) → t ≡ u → filter_map (λ (o : Option (List Bool)). o) (cond t (Some b) None ∷ [])
          ≡ cond u (b ∷ []) []
      one_or_none true true e = refl
      one_or_none false false e = refl
      one_or_none true false e = absurd (true≢false e)
      one_or_none false true e = absurd (true≢false (sym e))

  pub plp_brings : (number plp place : ℕ) (first : Bool) (blocks : List (List Bool)) → plp < length c.plps
      → AreLong c plp blocks
      → Bring c (row_packets c number n (block_bodies (n % c.frames) (plp_at c.plps plp).id first blocks))
      (plp_stood number plp place blocks)
  plp_brings number plp place first [] inside long = tt
  plp_brings number plp place first (b ∷ blocks) inside long =
      (one_brings number plp first b inside long.0, plp_brings (number + 1) plp (place + 1) false blocks inside long.1)

-- what stands at a place behind others
at_behind : (pre rest : List (List ℕ)) (x : List ℕ) → slice_index_or (pre ++ (x ∷ rest)) (length pre) [] ≡ x
at_behind [] rest x = refl
at_behind (y ∷ pre) rest x = at_behind pre rest x

-- the bytes at each place of a list
abbrev pub at_place : List (List ℕ) → ℕ → List ℕ
at_place all place = slice_index_or all place []

-- the blocks of a PLP stand at their places
pub plp_at_places : (counts : List ℕ) (origin number plp place : ℕ) (pre post : List (List ℕ))
    (blocks : List (List Bool))
    → number % 256 ≡ (origin + place) % 256 → length pre ≡ place → start_of counts plp ≤ place
    → place + length blocks ≤ start_of counts (plp + 1)
    → AreAt counts origin (at_place (pre ++ (map held_bytes blocks ++ post))) place (plp_stood number plp place blocks)
plp_at_places counts origin number plp place pre post [] told size low high = tt
plp_at_places counts origin number plp place pre post (b ∷ blocks) told size low high =
    let x : List ℕ = held_bytes b in
    let rest : List (List ℕ) = map held_bytes blocks ++ post in
    let more : List (List ℕ) = pre ++ (x ∷ []) in
    let same : more ++ rest ≡ pre ++ (x ∷ rest) = append_assoc pre (x ∷ []) rest in
    let l = length-append pre (x ∷ []) in (
      record {
        place_is = refl;
        low = low;
        high = omega (arith, high);
        count = told;
        bytes = sym (ap (at_place (pre ++ (x ∷ rest))) (sym size) ∙ at_behind pre rest x);
      },
      subst (λ (all : List (List ℕ)). AreAt counts origin (at_place all) (place + 1)
          (plp_stood (number + 1) plp (place + 1) blocks)) same
          (plp_at_places counts origin (number + 1) plp (place + 1) more post blocks (omega arith) (omega arith)
          (omega (arith, low)) (omega (arith, high))),
    )

-- and are found there
pub found_at_places : (pre post seg : List (List ℕ))
    → map (at_place (pre ++ (seg ++ post))) (range_with_len (length pre) (length seg)) ≡ seg
found_at_places pre post [] = refl
found_at_places pre post (x ∷ seg) =
    let rest : List (List ℕ) = seg ++ post in
    let more : List (List ℕ) = pre ++ (x ∷ []) in
    let l : length more ≡ length pre + 1 = length-append pre (x ∷ []) in
    ap₂ (λ (y : List ℕ) (ys : List (List ℕ)). y ∷ ys) (at_behind pre rest x)
    (ap (λ (k : ℕ). map (at_place (pre ++ (x ∷ rest))) (range_with_len k (length seg))) (sym l)
    ∙ ap (λ (all : List (List ℕ)). map (at_place all) (range_with_len (length more) (length seg)))
    (sym (append_assoc pre (x ∷ []) rest))
    ∙ found_at_places more post seg)
