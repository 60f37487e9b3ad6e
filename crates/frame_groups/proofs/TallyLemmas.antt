-- The tests, packet by packet.
use Rattle.std.proofs.Common.{◌≡◌, ℕ, zero, suc, ◌+◌, ◌*◌, ◌<◌, ◌≤◌, ◌&&◌, ◌||◌, not, Bool, true, false, List, []}
use Rattle.std.proofs.Common.{◌∷◌, ◌++◌, map, length, Option, Some, None, refl, ap, ap₂, sym, ◌∙◌, arith, length-append}
use Rattle.std.specs.Prelude.{slice_index, slice_get, if◌then◌else◌, nat_le, nat_lt, is_some, cond, option_map}
use Rattle.std.specs.List.{range_with_len, list_all, find}
use Rattle.std.specs.Option.{option_or, option_and_then, option_map_or}
use Rattle.std.proofs.lemmas.Bool.{and_parts, eqb-true, lt-ltb}
use Rattle.std.proofs.lemmas.List.Elements.{filter_map-append, filter-append}
use Rattle.std.proofs.lemmas.List.Folds.{list_all-append, find-append}
use Rattle.std.proofs.lemmas.List.FromFn.{get_or-map-range_with_len}
use Rattle.terms.proofs.RangeLemmas.{sums_same, alls_same}
use Rattle.plp_config.specs.Capacity.{block_bytes}
use Rattle.plp_config.specs.Places.{places}
use Rattle.plp_config.specs.Plps.{plp_at}
use Rattle.plp_config.specs.declared.config.Config.{Config}
use Rattle.linked_pool.specs.Pool.{chunks_for}
use Rattle.scheduler.specs.Shape.{FrameShape}
use Rattle.t2mi_packet.specs.declared.packet.Packet.{Packet}
use Rattle.t2mi_packet.specs.declared.packet.Stamp.{Stamp}
use Rattle.frame_groups.specs.Modulated.{Numbered}
use Rattle.frame_groups.specs.declared.cause.MuteCause.TheVariants.{PacketMissing, L1Refused, PoolFull}
use Rattle.frame_groups.specs.Carried.{body_block, blocks_of, right_blocks, L1Parts, body_l1, l1s_of}
use Rattle.frame_groups.specs.Carried.{body_stamp, stamps_of}
use Rattle.frame_groups.specs.TestLaws.{TestsAreTallied, TallyGrows}
use Rattle.frame_groups.specs.Tally.{Tally, all_alike, is_unlike, first_unlike, tally, alike_behind, unlike_behind}
use Rattle.frame_groups.specs.Tally.{tally_need, tally_room, tally_pool, tally_missing, tally_l1, first_late}
use Rattle.frame_groups.specs.Tally.{tally_time, tally_counts, tally_blocks, tally_map, tally_fault}
use Rattle.frame_groups.specs.Tests.{unless, begins_superframe, pool_chunks, capped, pool_need, room_test, begun_test}
use Rattle.frame_groups.specs.Tests.{first_failure, has_count, pool_test, missing_test, same_parts, parts_agree}
use Rattle.frame_groups.specs.Tests.{l1s_agree, l1_test, stamp_agrees, disagrees, time_test, first_shape, has_counts}
use Rattle.frame_groups.specs.Tests.{is_known, blocks_test, map_test, packets_fault}

-- one packet more
blocks_more : (c : Config) (packets : List Packet) (p : Packet) (plp : ℕ) → blocks_of c plp (packets ++ p ∷ [])
    ≡ blocks_of c plp packets ++ blocks_of c plp (p ∷ [])
blocks_more c packets p plp = filter_map-append (λ (p : Packet). body_block (plp_at c.plps plp).id p.body)
    packets (p ∷ [])

block_count_more : (c : Config) (packets : List Packet) (p : Packet) (plp : ℕ)
    → length (blocks_of c plp (packets ++ p ∷ []))
    ≡ length (blocks_of c plp packets) + length (blocks_of c plp (p ∷ []))
block_count_more c packets p plp = ap length (blocks_more c packets p plp) ∙ length-append (blocks_of c plp packets)
    (blocks_of c plp (p ∷ []))

right_count_more : (c : Config) (packets : List Packet) (p : Packet) (plp : ℕ)
    → length (right_blocks c plp (packets ++ p ∷ [])) ≡ length (right_blocks c plp packets) + length
    (right_blocks c plp (p ∷ []))
right_count_more c packets p plp = grind (arith, blocks_more, filter-append, length-append)

first_more : {X : Type 0} (xs ys : List X) → slice_get (xs ++ ys) 0 ≡ option_or (slice_get xs 0) (slice_get ys 0)
first_more [] ys = refl
first_more (x ∷ xs) ys = refl

alike_more : (xs ys : List L1Parts) → all_alike (xs ++ ys) ≡ (all_alike xs && alike_behind (slice_get xs 0) ys)
alike_more [] ys = refl
alike_more (x ∷ xs) ys = list_all-append (same_parts x) xs ys

unlike_more : (xs ys : List Stamp) → first_unlike (xs ++ ys) ≡ option_or (first_unlike xs)
    (unlike_behind (slice_get xs 0) ys)
unlike_more [] ys = refl
unlike_more (x ∷ xs) ys = find-append (is_unlike x) xs ys

and_one : (t u : Bool) → (t && (u && true)) ≡ (t && u)
and_one true true = refl
and_one true false = refl
and_one false u = refl

known_more : (c : Config) (packets : List Packet) (p : Packet) → list_all (is_known c) (packets ++ p ∷ [])
    ≡ (list_all (is_known c) packets && is_known c p)
known_more c packets p = list_all-append (is_known c) packets (p ∷ [])
    ∙ and_one (list_all (is_known c) packets) (is_known c p)

pub at_place : (c : Config) (f : ℕ → ℕ) (plp : ℕ) → plp < length c.plps → slice_index (map f (places c)) plp ≡ f plp
at_place c f plp inside = get_or-map-range_with_len f 0 (length c.plps) plp plp 0 inside (omega arith)

maps_same : (f g : ℕ → ℕ) (count : ℕ) → ((plp : ℕ) → plp < count → f plp ≡ g plp) → (a k : ℕ) → a + k ≤ count
    → map f (range_with_len a k) ≡ map g (range_with_len a k)
maps_same f g count h a zero l = refl
maps_same f g count h a (suc k) l = ap₂ (λ (x : ℕ) (xs : List ℕ). x ∷ xs) (h a (omega (arith, l)))
    (maps_same f g count h (a + 1) k (omega (arith, l)))

counts_more : (c : Config) (old more new : ℕ → ℕ) → ((plp : ℕ) → new plp ≡ old plp + more plp) → map new (places c)
    ≡ map (λ plp. slice_index (map old (places c)) plp + more plp) (places c)
counts_more c old more new h = grind (arith, maps_same, at_place)

made : (right other blocks others : List ℕ) (l m : Option L1Parts) (a b : Bool) (s t u v : Option Stamp) (x y : Bool)
    → right ≡ other → blocks ≡ others → l ≡ m → a ≡ b → s ≡ t → u ≡ v → x ≡ y
    → ◌≡◌ {A = Tally} (record { right = right; blocks = blocks; l1 = l; alike = a; stamp = s; unlike = u; known = x })
    (record { right = other; blocks = others; l1 = m; alike = b; stamp = t; unlike = v; known = y })
made right other blocks others l m a b s t u v x y e1 e2 e3 e4 e5 e6 e7 = rw (e1, e2, e3, e4, e5, e6, e7) refl

pub tally_grows : TallyGrows
tally_grows c packets p =
    let l1s : l1s_of (packets ++ p ∷ []) ≡ l1s_of packets ++ l1s_of (p ∷ []) =
    filter_map-append (λ (p : Packet). body_l1 p.body) packets (p ∷ []) in
    let stamps : stamps_of (packets ++ p ∷ []) ≡ stamps_of packets ++ stamps_of (p ∷ []) =
    filter_map-append (λ (p : Packet). body_stamp p.body) packets (p ∷ []) in
    made _ _ _ _ _ _ _ _ _ _ _ _ _ _
    (counts_more c (λ plp. length (right_blocks c plp packets)) (λ plp. length (right_blocks c plp (p ∷ [])))
    (λ plp. length (right_blocks c plp (packets ++ p ∷ []))) (right_count_more c packets p))
    (counts_more c (λ plp. length (blocks_of c plp packets)) (λ plp. length (blocks_of c plp (p ∷ [])))
    (λ plp. length (blocks_of c plp (packets ++ p ∷ []))) (block_count_more c packets p))
    (ap (λ (l : List L1Parts). slice_get l 0) l1s ∙ first_more (l1s_of packets) (l1s_of (p ∷ [])))
    (ap all_alike l1s ∙ alike_more (l1s_of packets) (l1s_of (p ∷ [])))
    (ap (λ (l : List Stamp). slice_get l 0) stamps ∙ first_more (stamps_of packets) (stamps_of (p ∷ [])))
    (ap first_unlike stamps ∙ unlike_more (stamps_of packets) (stamps_of (p ∷ [])))
    (known_more c packets p)

-- The tests by the tally.
pub need_is : (c : Config) (packets : List Packet) → pool_need c packets ≡ tally_need c (tally c packets)
need_is c packets =
    let right : ℕ → ℕ = λ plp. length (right_blocks c plp packets) in
    sums_same (λ plp. right plp * chunks_for (block_bytes c plp))
    (λ plp. slice_index (map right (places c)) plp * chunks_for (block_bytes c plp)) 0 (length c.plps)
    (λ plp low high. ap (λ (k : ℕ). k * chunks_for (block_bytes c plp))
    (sym (at_place c right plp (omega (arith, high)))))

room_is : (c : Config) (packets : List Packet) → room_test c packets ≡ tally_room c (tally c packets)
unfolding room_test
room_is c packets = ap (λ (k : ℕ). unless (nat_le k (pool_chunks c)) (PoolFull (capped k) (pool_chunks c)))
    (need_is c packets)

pool_is : (c : Config) (past : List Numbered) (n : ℕ) (packets : List Packet) → pool_test c past n packets
    ≡ tally_pool c past n (tally c packets)
unfolding pool_test
pool_is c past n packets = ap (option_or (first_failure (begun_test c past n) (range_with_len 0 n))) (room_is c packets)

some_is : {X : Type 0} (xs : List X) → nat_lt 0 (length xs) ≡ is_some (slice_get xs 0)
some_is [] = refl
some_is (x ∷ xs) = lt-ltb 0 (length (x ∷ xs)) (omega arith)

missing_is : (c : Config) (n : ℕ) (packets : List Packet) → missing_test c n packets ≡ tally_missing
    c n (tally c packets)
unfolding missing_test
missing_is c n packets = ap₂ (λ (a b : Bool). unless (a && (not (begins_superframe c n) || b)) PacketMissing)
    (some_is (l1s_of packets)) (some_is (stamps_of packets))

parts_is : (c : Config) (n : ℕ) (l1s : List L1Parts)
    → l1s_agree c n l1s ≡ (all_alike l1s && option_map_or (parts_agree c n) (slice_get l1s 0) true)
parts_is c n [] = refl
parts_is c n (l1 ∷ more) = refl

l1_is : (c : Config) (n : ℕ) (packets : List Packet) → l1_test c n packets ≡ tally_l1 c n (tally c packets)
unfolding l1_test
l1_is c n packets = ap (λ (t : Bool). unless t L1Refused) (parts_is c n (l1s_of packets))

-- if the first timestamp agrees, the others agree if they are like it
agrees_like : (c : Config) (n : ℕ) (s t : Stamp) → stamp_agrees c n s ≡ true → not (stamp_agrees c n t) ≡ is_unlike s t
agrees_like c n s t e = grind (arith, and_parts, eqb-true)

found_same : (f g : Stamp → Bool) → ((t : Stamp) → f t ≡ g t) → (stamps : List Stamp) → find f stamps ≡ find g stamps
found_same f g h [] = refl
found_same f g h (t ∷ stamps) = ap₂ (λ (b : Bool) (o : Option Stamp). cond b (Some t) o) (h t) (found_same f g h stamps)

late_is : (c : Config) (n : ℕ) (t : Tally) (stamps : List Stamp) → t.unlike ≡ first_unlike stamps
    → find (λ s. not (stamp_agrees c n s)) stamps ≡ option_and_then (first_late c n t) (slice_get stamps 0)
late_is c n t [] e = refl
late_is c n t (s ∷ stamps) e =
    go (stamp_agrees c n s) (λ h. found_same (λ s. not (stamp_agrees c n s)) (is_unlike s) (λ u. agrees_like c n s u h)
    stamps
    ∙ sym e)
  where
    go : (b : Bool) → (b ≡ true → find (λ s. not (stamp_agrees c n s)) stamps ≡ t.unlike)
        → ◌≡◌ {A = Option Stamp} (cond (not b) (Some s) (find (λ s. not (stamp_agrees c n s)) stamps))
        (if b then t.unlike else Some s)
    go true h = h refl
    go false h = refl

time_is : (c : Config) (n : ℕ) (packets : List Packet) → time_test c n packets ≡ tally_time c n (tally c packets)
unfolding time_test
time_is c n packets = ap (λ (o : Option Stamp). if begins_superframe c n then option_map (disagrees c n) o else None)
    (late_is c n (tally c packets) (stamps_of packets) refl)

counts_is : (c : Config) (past : List Numbered) (n : ℕ) (packets : List Packet) (shape : Option FrameShape)
    → has_counts c past n packets shape ≡ tally_counts c past n (tally c packets) shape
counts_is c past n packets None = refl
counts_is c past n packets (Some shape) =
    let blocks : ℕ → ℕ = λ plp. length (blocks_of c plp packets) in
    alls_same (λ plp. has_count c past n plp (blocks plp) (slice_index shape.counts plp))
    (λ plp. has_count c past n plp (slice_index (map blocks (places c)) plp) (slice_index shape.counts plp))
    0 (length c.plps)
    (λ plp low high. ap (λ (k : ℕ). has_count c past n plp k (slice_index shape.counts plp))
    (sym (at_place c blocks plp (omega (arith, high)))))

blocks_is : (c : Config) (past : List Numbered) (n : ℕ) (packets : List Packet) → blocks_test c past n packets
    ≡ tally_blocks c past n (tally c packets)
unfolding blocks_test
blocks_is c past n packets = ap (λ (t : Bool). unless (t && list_all (is_known c) packets) PacketMissing)
    (counts_is c past n packets (first_shape c packets))

map_is : (c : Config) (packets : List Packet) → map_test c packets ≡ tally_map c (tally c packets)
unfolding map_test
map_is c packets = refl

pub tests_tallied : TestsAreTallied
unfolding packets_fault tally_fault
tests_tallied c past n packets = grind (arith, ap₂, pool_is, missing_is, l1_is, time_is, blocks_is, map_is)
