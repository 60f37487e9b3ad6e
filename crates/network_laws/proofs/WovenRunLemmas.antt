-- Groups of a run's frame, woven: what is made of them is that frame, and is made if each of its packets came.
use Rattle.std.proofs.Common.{◌≡◌, ◌⊎◌, inl, inr, ℕ, zero, suc, ◌+◌, ◌-◌, ◌%◌, ◌<◌, ◌≤◌, ◌==◌, ◌&&◌, Bool, true, false}
use Rattle.std.proofs.Common.{cond, List, [], ◌∷◌, ◌++◌, length, map, Option, Some, None, refl, ap, ap₂, sym}
use Rattle.std.proofs.Common.{◌∙◌, ⊎_elim, arith, append_assoc, length-append, get_or, ◌*◌, sum_by, append-nil}
use Rattle.std.specs.Prelude.{slice_index, slice_get, unwrap_or, nat_lt, if◌then◌else◌, slice_index_or, nat_le}
use Rattle.std.specs.List.{flat_map, filter, filter_map, cons_option, items_where_true, range_with_len, list_all}
use Rattle.std.specs.List.{AllByRecursion}
use Rattle.std.specs.Option.{option_map_or}
use Rattle.std.proofs.lemmas.Bool.{cases_Bool, cond-true, cond-false, cond_both, and_parts, ltb-true, true≢false}
use Rattle.std.proofs.lemmas.Bool.{eq-eqb, and_from, lt-ltb, cases_eq, ne_eqb, both_ways}
use Rattle.std.proofs.lemmas.List.{length-map, map-append}
use Rattle.std.proofs.lemmas.List.Elements.{All-from_recursion}
use Rattle.std.proofs.lemmas.List.Folds.{list_all-map}
use Rattle.std.proofs.lemmas.List.FromFn.{get_or-map-range_with_len, length-range_with_len, get_or-range_with_len}
use Rattle.std.proofs.lemmas.List.Sums.{AllPass-from_list_all, sum_by-cons}
use Rattle.std.proofs.lemmas.Simd.{map-map}
use Rattle.std.proofs.lemmas.Option.{same_Some}
use Rattle.terms.specs.Bits.{bits_of}
use Rattle.terms.proofs.AllLemmas.{all_append}
use Rattle.terms.proofs.BitLemmas.{bits_of-bytes_of}
use Rattle.terms.proofs.OptionLemmas.{none_some, none_if}
use Rattle.terms.proofs.RangeLemmas.{map_same}
use Rattle.plp_config.specs.Capacity.{IsPlan, block_bytes}
use Rattle.plp_config.specs.Places.{places}
use Rattle.plp_config.specs.Plps.{plp_at}
use Rattle.plp_config.specs.declared.config.Config.{Config}
use Rattle.scheduler.specs.Shape.{FrameShape}
use Rattle.t2mi_packet.specs.declared.packet.Body.{Body}
use Rattle.t2mi_packet.specs.declared.packet.Body.TheVariants.{Block, L1Current, Timestamp, Other}
use Rattle.t2mi_packet.specs.declared.packet.Packet.{Packet}
use Rattle.mode_adapt.specs.Blocks.{own_blocks, told_counts}
use Rattle.frame_groups.specs.Groups.{Group}
use Rattle.frame_groups.specs.Carried.{body_block, body_l1, body_stamp, has_length, blocks_of, right_blocks, L1Parts}
use Rattle.frame_groups.specs.Carried.{l1s_of}
use Rattle.frame_groups.specs.Readable.{coming}
use Rattle.frame_groups.specs.Tests.{body_known, parts_agree, pool_chunks, pool_need, capped, begun_test}
use Rattle.frame_groups.specs.Tests.{first_failure, room_test, pool_test}
use Rattle.record_laws.specs.Frames.{frame_shape}
use Rattle.open_group.specs.RecordBytes.{own_count}
use Rattle.open_group.specs.Sent.{held_bytes}
use Rattle.open_group.specs.Signals.{first_parts, signals, fits_pool}
use Rattle.frame_writer.specs.FramePackets.{stamp_of, packet_with}
use Rattle.gateway_core.specs.Packets.{block_bodies, frame_bodies, plp_bodies as run_plp_bodies}
use Rattle.gateway_core.proofs.BoundLemmas.{bodies_count}
use Rattle.stream_laws.proofs.MadeLemmas.{all_bodies, carried_by}
use Rattle.stream_laws.proofs.SizeLemmas.{AreLong}
use Rattle.stream_laws.specs.Types.{TypesFit}
use Rattle.stream_laws.proofs.BlockLemmas.{own_long}
use Rattle.stream_laws.proofs.CarriedLemmas.{HasFrame}
use Rattle.stream_laws.proofs.LossLemmas.{is_left}
use Rattle.stream_laws.proofs.PassLemmas.{parts_tell, AreFew, own_few, pool_passes}
use Rattle.stream_laws.proofs.SentLemmas.{l1_of}
use Rattle.stream_laws.proofs.FrameSignalLemmas.{frame_parts, parts_pass}
use Rattle.frame_weave.specs.Marked.{MarkedBlock, marked_block, packet_blocks, marked_blocks, l1_count, first_count}
use Rattle.frame_weave.specs.Laws.{Stood}
use Rattle.frame_weave.specs.Placed.{Placed, placed_from, blocks_at, block_at, is_one, are_alike}
use Rattle.frame_weave.specs.Places.{start_of, place_count, has_room, plp_need}
use Rattle.frame_weave.specs.Woven.{signalling, same_dynamic, counts_by, placed_in, placed_by, block_body, plp_bodies}
use Rattle.frame_weave.specs.Woven.{l1_bodies, stamp_bodies, woven_bodies, group_with, is_whole, woven_by, woven}
use Rattle.frame_weave.proofs.SumLemmas.{start_more, start_least}
use Rattle.network_laws.specs.FeedsOfRun.{FewLack, CameNear, HasCome, run_packets}
use Rattle.network_laws.proofs.RowGroupLemmas.{row_packets, row_carries}
use Rattle.network_laws.proofs.RunPlaceLemmas.{AreAt, are_appended, came_placed, Bring, bring_appended, came_marked}
use Rattle.network_laws.proofs.RunPlaceLemmas.{plp_stood, plp_brings, at_place, plp_at_places, found_at_places}
use Rattle.network_laws.proofs.RunPlaceLemmas.{came_stood}
use Rattle.frame_groups.specs.declared.cause.MuteCause.TheVariants.{PoolFull}
use Rattle.open_group.proofs.RoomLemmas.{none_behind}
use Rattle.feed_events.specs.FeedEvents.{is_timestamp, is_stamp}
use Rattle.std.specs.Cmp.{booleans_Decides}
use Rattle.std.specs.Cmp.Lexicographic.{pointwise_decides}
use Rattle.open_group.specs.Written.{dynamic_in}
use Rattle.stream_laws.proofs.CarryLemmas.{each_place}
use Rattle.frame_writer.specs.Carried.{of_frame}
use Rattle.stream_laws.specs.SentPackets.{Sent, frame_packets}
use Rattle.stream_laws.specs.SentFrames.{sent_from, run_length}
use Rattle.stream_laws.proofs.FullLemmas.{packets_step, sent_append, packets_append}
use Rattle.network_laws.proofs.HonestGroupLemmas.{RunLaws, own_told, run_has}
use Rattle.network_laws.proofs.FeedEventLemmas.{OneOf, one_before, one_behind}

-- ---- bodies but for intl_frame_start

abbrev plainly : Body → Body
plainly (Block frame_idx plp_id first bits) = Block frame_idx plp_id false bits
plainly (L1Current frame_idx pre conf dynamic extension) = L1Current frame_idx pre conf dynamic extension
plainly (Timestamp stamp) = Timestamp stamp
plainly (Other packet_type bits) = Other packet_type bits

-- what is so told of a body does not hang on it
alike_by : {Y : Type 0} (f : Body → Option Y) → ((b : Body) → f (plainly b) ≡ f b) → (xs ys : List Body)
    → map plainly xs ≡ map plainly ys → filter_map f xs ≡ filter_map f ys
alike_by {Y = Y} f same xs ys e = sym (plain xs) ∙ ap (filter_map f) e ∙ plain ys
  where
    plain : (l : List Body) → filter_map f (map plainly l) ≡ filter_map f l
    plain [] = refl
    plain (b ∷ l) = ap₂ (λ (o : Option Y) (r : List Y). cons_option o r) (same b) (plain l)

all_alike : (test : Body → Bool) → ((b : Body) → test (plainly b) ≡ test b) → (xs ys : List Body) → map plainly xs
    ≡ map plainly ys
    → list_all test xs ≡ list_all test ys
all_alike test same xs ys e = sym (plain xs) ∙ ap (list_all test) e ∙ plain ys
  where
    plain : (l : List Body) → list_all test (map plainly l) ≡ list_all test l
    plain [] = refl
    plain (b ∷ l) = ap₂ (λ (t u : Bool). t && u) (same b) (plain l)

-- nor what packets tell of it
plain_same : (c : Config) (b : Body) → (body_l1 (plainly b) ≡ body_l1 b) × (body_stamp (plainly b) ≡ body_stamp b)
    × ((id : ℕ) → body_block id (plainly b) ≡ body_block id b) × (body_known c (plainly b) ≡ body_known c b)
plain_same c (Block frame_idx plp_id first bits) = (refl, refl, λ id. refl, refl)
plain_same c (L1Current frame_idx pre conf dynamic extension) = (refl, refl, λ id. refl, refl)
plain_same c (Timestamp stamp) = (refl, refl, λ id. refl, refl)
plain_same c (Other packet_type bits) = (refl, refl, λ id. refl, refl)

-- Packets have the frame of others that carry the same but for it.
has_alike : (c : Config) (inputs : ℕ → List (List ℕ)) (n : ℕ) (all packets : List Packet) → HasFrame c inputs n all
    → map plainly (all_bodies packets) ≡ map plainly (all_bodies all) → HasFrame c inputs n packets
has_alike c inputs n all packets has e =
    let blocks : (plp : ℕ) → blocks_of c plp packets ≡ blocks_of c plp all =
    λ plp. carried_by (body_block (plp_at c.plps plp).id) packets
    ∙ alike_by (body_block (plp_at c.plps plp).id) (λ b. (plain_same c b).2 (plp_at c.plps plp).id) (all_bodies packets)
    (all_bodies all) e
    ∙ sym (carried_by (body_block (plp_at c.plps plp).id) all) in
    record {
      l1s = carried_by body_l1 packets ∙ alike_by body_l1 (λ b. (plain_same c b).0) (all_bodies packets)
          (all_bodies all) e
          ∙ sym (carried_by body_l1 all) ∙ has.l1s;
      stamps = carried_by body_stamp packets ∙ alike_by body_stamp (λ b. (plain_same c b).1) (all_bodies packets)
          (all_bodies all) e
          ∙ sym (carried_by body_stamp all) ∙ has.stamps;
      blocks = λ plp inside. blocks plp ∙ has.blocks plp inside;
      right = λ plp inside. ap (filter (has_length c plp)) (blocks plp) ∙ has.right plp inside;
      known = sym (list_all-map (body_known c) (λ (p : Packet). p.body) packets)
          ∙ all_alike (body_known c) (λ b. (plain_same c b).3) (all_bodies packets) (all_bodies all) e
          ∙ list_all-map (body_known c) (λ (p : Packet). p.body) all ∙ has.known;
    }

-- ---- the frame as it is sent

row_append : (c : Config) (k n : ℕ) (xs ys : List Body) → row_packets c k n (xs ++ ys)
    ≡ row_packets c k n xs ++ row_packets c (k + length xs) n ys
row_append c k n [] ys = ap (λ (j : ℕ). row_packets c j n ys) (let e : k ≡ k + 0 = omega arith in e)
row_append c k n (x ∷ xs) ys =
    let e : k + 1 + length xs ≡ k + length (x ∷ xs) = omega arith in
    ap (λ (l : List Packet). packet_with c k n x ∷ l)
    (row_append c (k + 1) n xs ys ∙ ap (λ (j : ℕ). row_packets c (k + 1) n xs ++ row_packets c j n ys) e)

-- Bodies of which none is an L1-current.
abbrev NoneSignals : List Body → Type 0
NoneSignals bodies = AllByRecursion (λ (b : Body). ((count : ℕ) → l1_count count b ≡ None) × (body_l1 b ≡ None)) bodies

blocks_signal : (frame_idx id : ℕ) (first : Bool) (blocks : List (List Bool))
    → NoneSignals (block_bodies frame_idx id first blocks)
blocks_signal frame_idx id first [] = tt
blocks_signal frame_idx id first (b ∷ blocks) = ((λ count. refl, refl), blocks_signal frame_idx id false blocks)

-- so of what came of them
pub none_counts : (c : Config) (k n : ℕ) (bodies : List Body) (flags : List Bool) → NoneSignals bodies
    → (first_count (items_where_true flags (row_packets c k n bodies)) ≡ None)
    × (l1s_of (items_where_true flags (row_packets c k n bodies)) ≡ [])
none_counts c k n bodies flags h =
    (ap (λ (l : List ℕ). slice_get l 0) (counted k bodies flags h), told k bodies flags h)
  where
    counted : (k : ℕ) (bodies : List Body) (flags : List Bool) → NoneSignals bodies
        → filter_map (λ (p : Packet). l1_count p.packet_count p.body)
        (items_where_true flags (row_packets c k n bodies)) ≡ []
    counted k [] [] h = refl
    counted k (b ∷ bodies) [] h = refl
    counted k [] (t ∷ flags) h = refl
    counted k (b ∷ bodies) (true ∷ flags) h =
        ap₂ (λ (o : Option ℕ) (l : List ℕ). cons_option o l) (h.0.0 (k % 256)) (counted (k + 1) bodies flags h.1)
    counted k (b ∷ bodies) (false ∷ flags) h = counted (k + 1) bodies flags h.1

    told : (k : ℕ) (bodies : List Body) (flags : List Bool) → NoneSignals bodies
        → l1s_of (items_where_true flags (row_packets c k n bodies)) ≡ []
    told k [] [] h = refl
    told k (b ∷ bodies) [] h = refl
    told k [] (t ∷ flags) h = refl
    told k (b ∷ bodies) (true ∷ flags) h =
        ap₂ (λ (o : Option L1Parts) (l : List L1Parts). cons_option o l) h.0.1 (told (k + 1) bodies flags h.1)
    told k (b ∷ bodies) (false ∷ flags) h = told (k + 1) bodies flags h.1

-- what brings no block of any PLP
pub no_blocks : (c : Config) (p : Packet) → ((plp : ℕ) → right_blocks c plp (p ∷ []) ≡ []) → packet_blocks c p ≡ []
no_blocks c p h = go 0 (length c.plps)
  where
    go : (a k : ℕ) → flat_map (λ plp. map (marked_block p.packet_count plp) (right_blocks c plp (p ∷ [])))
        (range_with_len a k) ≡ []
    go a zero = refl
    go a (suc k) =
        ap₂ (λ (x y : List MarkedBlock). x ++ y) (ap (map (marked_block p.packet_count a)) (h a)) (go (a + 1) k)

bits_back : (c : Config) (plp : ℕ) (frame_idx id : ℕ) (blocks : List (List Bool)) (first : Bool) → AreLong c plp blocks
    → map (λ (x : List ℕ). Block frame_idx id false (bits_of x)) (map held_bytes blocks)
    ≡ map plainly (block_bodies frame_idx id first blocks)
bits_back c plp frame_idx id [] first long = refl
bits_back c plp frame_idx id (b ∷ blocks) first long =
    rw (bits_of-bytes_of b (block_bytes c plp) long.0, bits_back c plp frame_idx id blocks false long.1)

-- ---- a block stands at a place

abbrev StandsIn : ℕ → List Placed → Type 0
StandsIn place placed = OneOf (λ (p : Placed). p.place ≡ place) placed

pub stands_some : (place : ℕ) (placed : List Placed) → StandsIn place placed → 0 < length (blocks_at placed place)
stands_some place [] h = absurd h
stands_some place (p ∷ placed) h = elim (cases_eq p.place place) [
  | inl e ↦ rw (eq-eqb p.place place e) (omega arith)
  | inr ne ↦ rw (ne_eqb p.place place ne)
      (stands_some place placed (elim h [ inl e ↦ absurd (ne e) | inr more ↦ more ]))
]

-- what came of blocks at their places has one at each whose own came
flagged_stands : (counts : List ℕ) (origin : ℕ) (bytes_at : ℕ → List ℕ) (first : ℕ) (flags : List Bool)
    (all : List Stood) (j place : ℕ)
    → AreAt counts origin bytes_at first all → place ≡ first + j → j < length all
    → slice_index_or flags j false ≡ true
    → StandsIn place
    (map (λ (s : Stood). record { place = s.place; bytes = s.block.bytes }) (items_where_true flags all))
flagged_stands counts origin bytes_at first [] all j place at e l t = absurd (true≢false (sym t))
flagged_stands counts origin bytes_at first (b ∷ flags) [] j place at e l t = absurd (omega arith)
flagged_stands counts origin bytes_at first (true ∷ flags) (s ∷ all) zero place at e l t =
    inl (omega arith)
flagged_stands counts origin bytes_at first (true ∷ flags) (s ∷ all) (suc j) place at e l t =
    inr (flagged_stands counts origin bytes_at (first + 1) flags all j place at.1 (omega arith) (omega arith) t)
flagged_stands counts origin bytes_at first (false ∷ flags) (s ∷ all) zero place at e l t = absurd (true≢false (sym t))
flagged_stands counts origin bytes_at first (false ∷ flags) (s ∷ all) (suc j) place at e l t =
    flagged_stands counts origin bytes_at (first + 1) flags all j place at.1 (omega arith) (omega arith) t

-- In one of some groups the packet at a place came.
abbrev pub Brings : List Packet → ℕ → List Group → Type 0
Brings all place gs = OneOf (λ (g : Group). HasCome all g.packets place) gs

-- ---- a packet that brings a block is there, and is no timestamp

-- The packet at a place is no timestamp.
pub record IsPlain (packets : List Packet) (place : ℕ) : Type 0 where
  pub packet : Packet
  pub is : slice_get packets place ≡ Some packet
  pub plain : is_stamp packet ≡ false

brings_plain : (c : Config) (p : Packet) (b : MarkedBlock) → packet_blocks c p ≡ b ∷ [] → is_stamp p ≡ false
brings_plain c p b e = go p.body refl
  where
    go : (body : Body) → p.body ≡ body → is_timestamp body ≡ false
    go (Block frame_idx plp_id first bits) is = refl
    go (L1Current frame_idx pre conf dynamic extension) is = refl
    go (Timestamp stamp) is =
        let none : packet_blocks c p ≡ [] =
        no_blocks c p
        (λ plp. ap (λ (body : Body). filter (has_length c plp)
        (filter_map (λ (o : Option (List Bool)). o) (body_block (plp_at c.plps plp).id body ∷ []))) is) in
        let l = ap length (sym none ∙ e) in
        absurd (omega arith)
    go (Other packet_type bits) is = refl

bring_plain : (c : Config) (ps : List Packet) (ss : List Stood) (j : ℕ) → Bring c ps ss → j < length ss → IsPlain ps j
bring_plain c [] [] j h l = absurd (omega arith)
bring_plain c [] (s ∷ ss) j h l = absurd h
bring_plain c (p ∷ ps) [] j h l = absurd h
bring_plain c (p ∷ ps) (s ∷ ss) zero h l =
    record { packet = p; is = refl; plain = brings_plain c p s.block h.0 }
bring_plain c (p ∷ ps) (s ∷ ss) (suc j) h l =
    let r = bring_plain c ps ss j h.1 (omega arith) in
    record { packet = r.packet; is = r.is; plain = r.plain }

-- ---- sums over PLPs

sum_same : (f g w : ℕ → ℕ) (count : ℕ) → ((plp : ℕ) → plp < count → f plp ≡ g plp) → (a k : ℕ) → a + k ≤ count
    → sum_by (λ plp. f plp * w plp) (range_with_len a k) ≡ sum_by (λ plp. g plp * w plp) (range_with_len a k)
sum_same f g w count h a zero l = refl
sum_same f g w count h a (suc k) l =
    let x = sum_by-cons (λ (plp : ℕ). f plp * w plp) a (range_with_len (a + 1) k) in
    let y = sum_by-cons (λ (plp : ℕ). g plp * w plp) a (range_with_len (a + 1) k) in
    let one : f a * w a ≡ g a * w a = ap (λ (n : ℕ). n * w a) (h a (omega arith)) in
    let rest = sum_same f g w count h (a + 1) k (omega arith) in
    omega (arith, rest)

-- ---- the packets of a frame among those of a run

own_row : (c : Config) (k n : ℕ) (bodies : List Body) → frame_packets n (sent_from c k (of_frame n bodies))
    ≡ row_packets c k n bodies
own_row c k n [] = refl
own_row c k n (b ∷ bodies) =
    packets_step n _ (sent_from c (k + 1) (of_frame n bodies)) true (eq-eqb n n refl)
    ∙ ap (λ (l : List Packet). packet_with c k n b ∷ l) (own_row c (k + 1) n bodies)

other_row : (c : Config) (k m n : ℕ) (bodies : List Body) → (m ≡ n → ⊥)
    → frame_packets n (sent_from c k (of_frame m bodies)) ≡ []
other_row c k m n [] ne = refl
other_row c k m n (b ∷ bodies) ne =
    packets_step n _ (sent_from c (k + 1) (of_frame m bodies)) false (ne_eqb m n ne) ∙ other_row c (k + 1) m n bodies ne

module _ (c : Config) (inputs : ℕ → List (List ℕ)) where
  abbrev bodies_at : ℕ → List Body
  bodies_at m = frame_bodies c m (told_counts c inputs m) (own_blocks c inputs m)

  abbrev bodies_from : ℕ → ℕ → List (ℕ × Body)
  bodies_from a j = flat_map (λ m. map (λ (body : Body). (m, body)) (bodies_at m)) (range_with_len a j)

  none_before : (n a j k : ℕ) → n < a → frame_packets n (sent_from c k (bodies_from a j)) ≡ []
  none_before n a zero k l = refl
  none_before n a (suc j) k l =
      let own : List (ℕ × Body) = of_frame a (bodies_at a) in
      let i : ℕ = k + length own in
      ap (frame_packets n) (sent_append c k own (bodies_from (a + 1) j))
      ∙ packets_append n (sent_from c k own) (sent_from c i (bodies_from (a + 1) j))
      ∙ ap₂ (λ (x y : List Packet). x ++ y) (other_row c k a n (bodies_at a) (λ e. omega arith))
      (none_before n (a + 1) j i (omega arith))

  row_from : (n a j k : ℕ) → a ≤ n → n < a + j
      → (q : ℕ) × (frame_packets n (sent_from c k (bodies_from a j)) ≡ row_packets c q n (bodies_at n))
  row_from n a zero k low high = absurd (omega arith)
  row_from n a (suc j) k low high =
      let own : List (ℕ × Body) = of_frame a (bodies_at a) in
      let i : ℕ = k + length own in
      let rest : List Sent = sent_from c i (bodies_from (a + 1) j) in
      let split = ap (frame_packets n) (sent_append c k own (bodies_from (a + 1) j))
      ∙ packets_append n (sent_from c k own) rest in
      ⊎_elim
      (λ (e : a ≡ n). (
        k,
        split
            ∙ ap₂ (λ (x y : List Packet). x ++ y)
            (ap (λ (m : ℕ). frame_packets n (sent_from c k (of_frame m (bodies_at m)))) e ∙ own_row c k n (bodies_at n))
            (none_before n (a + 1) j i (omega arith))
            ∙ append-nil (row_packets c k n (bodies_at n)),
      ))
      (λ (e : a ≡ n → ⊥).
      let r = row_from n (a + 1) j i (omega arith) (omega arith) in
      (r.0, split ∙ ap₂ (λ (x y : List Packet). x ++ y) (other_row c k a n (bodies_at a) e) r.1)) (cases_eq a n)

  pub run_row : (n : ℕ) → n < run_length c inputs → (q : ℕ) × (run_packets c inputs n ≡ row_packets c q n (bodies_at n))
  run_row n l = row_from n 0 (run_length c inputs) 0 (omega arith) (omega arith)

-- ---- what came of it

module _ (laws : RunLaws) (c : Config) (inputs : ℕ → List (List ℕ)) (plan : IsPlan c) (types : TypesFit c) (n : ℕ)
    (in_run : n < run_length c inputs) where
  abbrev own : ℕ → List (List Bool)
  own plp = own_blocks c inputs n plp

  long : (plp : ℕ) → AreLong c plp (own plp)
  long plp = own_long laws.given.numbers laws.given.field c inputs n plp

  abbrev idx : ℕ
  idx = n % c.frames

  abbrev shape : FrameShape
  shape = frame_shape c inputs n

  abbrev counts : List ℕ
  counts = coming c n shape

  pub count_is : (plp : ℕ) → plp < length c.plps → slice_index counts plp ≡ length (own plp)
  count_is plp inside =
      get_or-map-range_with_len (own_count c n shape) 0 (length c.plps) plp plp 0 inside (omega arith)
      ∙ own_told laws c inputs plan types n plp inside

  -- the blocks of so many PLPs from one on: as bodies, as bytes, and as they stand
  abbrev some_bodies : ℕ → ℕ → List Body
  some_bodies a k = flat_map (λ plp. block_bodies idx (plp_at c.plps plp).id true (own plp)) (range_with_len a k)

  abbrev some_bytes : ℕ → ℕ → List (List ℕ)
  some_bytes a k = flat_map (λ plp. map held_bytes (own plp)) (range_with_len a k)

  abbrev pub some_stood : ℕ → ℕ → ℕ → ℕ → List Stood
  some_stood number place a zero = []
  some_stood number place a (suc k) =
      plp_stood number a place (own a) ++ some_stood (number + length (own a)) (place + length (own a)) (a + 1) k

  pub length-stood : (number plp place : ℕ) (blocks : List (List Bool)) → length (plp_stood number plp place blocks)
      ≡ length blocks
  length-stood number plp place [] = refl
  length-stood number plp place (b ∷ blocks) = ap (λ (k : ℕ). suc k) (length-stood (number + 1) plp (place + 1) blocks)

  abbrev plps : ℕ
  plps = length c.plps - 0

  abbrev all_bytes : List (List ℕ)
  all_bytes = some_bytes 0 plps

  pub some_bring : (k a number place : ℕ) → a + k ≤ length c.plps
      → Bring c (row_packets c number n (some_bodies a k)) (some_stood number place a k)
  some_bring zero a number place l = tt
  some_bring (suc k) a number place l =
      let bodies : List Body = block_bodies idx (plp_at c.plps a).id true (own a) in
      let size = bodies_count idx (plp_at c.plps a).id true (own a) in
      rw (row_append c number n bodies (some_bodies (a + 1) k)) (bring_appended c (row_packets c number n bodies)
      (row_packets c (number + length bodies) n (some_bodies (a + 1) k))
      (plp_stood number a place (own a)) (some_stood (number + length (own a)) (place + length (own a)) (a + 1) k)
      (plp_brings c plan n number a place true (own a) (omega arith) (long a))
      (rw size (some_bring k (a + 1) (number + length (own a)) (place + length (own a)) (omega arith))))

  pub some_at : (origin k a number place : ℕ) (pre : List (List ℕ)) → a + k ≤ length c.plps → number % 256
      ≡ (origin + place) % 256
      → length pre ≡ place → start_of counts a ≡ place
      → AreAt counts origin (at_place (pre ++ some_bytes a k)) place (some_stood number place a k)
  some_at origin zero a number place pre l told size start = tt
  some_at origin (suc k) a number place pre l told size start =
      let seg : List (List ℕ) = map held_bytes (own a) in
      let post : List (List ℕ) = some_bytes (a + 1) k in
      let more : List (List ℕ) = pre ++ seg in
      let next : start_of counts (a + 1) ≡ place + length (own a) =
      let e = count_is a (omega arith) in omega (arith, start_more counts a) in
      let held = length-map (own a) held_bytes in
      let stands = length-stood number a place (own a) in
      are_appended counts origin (at_place (pre ++ (seg ++ post))) place (plp_stood number a place (own a))
      (some_stood (number + length (own a)) (place + length (own a)) (a + 1) k)
      (plp_at_places counts origin number a place pre post (own a) told size (omega arith) (omega arith))
      (rw (← (ap (λ (j : ℕ). place + j) (sym stands))) (rw (← (append_assoc pre seg post))
      (some_at origin k (a + 1) (number + length (own a)) (place + length (own a)) more (omega arith)
      (omega (arith, mod_on number (origin + place) (length (own a)) told))
      (omega (arith, length-append pre seg)) next)))
    where
      mod_on : (x y d : ℕ) → x % 256 ≡ y % 256 → (x + d) % 256 ≡ (y + d) % 256
      mod_on x y d e = omega arith

  -- the packets from the L1-current on, if it has a number
  abbrev l1_packet : ℕ → Packet
  l1_packet l = packet_with c l n (l1_of c n (told_counts c inputs n))

  abbrev block_packets : ℕ → List Packet
  block_packets l = row_packets c (l + 1) n (run_plp_bodies c n own 0)

  -- what is placed of packets, if it is told what packet_count the L1-current had
  abbrev placed_with : ℕ → List Packet → List Placed
  placed_with other packets =
      placed_from counts (unwrap_or (first_count packets) other + 1) 0 (marked_blocks c packets)

  -- What came of a frame, flagged, tells where its L1-current stood, and what is placed of it is what is placed of its
  -- blocks that came. (A block's flag stands behind those of the packets before the blocks.)
  record Sees (l : ℕ) (behind : ℕ → ℕ) (flags : List Bool) (packets : List Packet) : Type 0 where
    lacking : ℕ
    rest : List Bool
    few : FewLack lacking rest
    placed : (other : ℕ) → other ≡ l % 256 → placed_with other packets
        ≡ placed_from counts (l % 256 + 1) 0 (marked_blocks c (items_where_true rest (block_packets l)))
    told : (place : ℕ) → slice_index_or flags (behind place) false ≡ true → slice_index_or rest place false ≡ true
    l1 : (first_count packets ≡ Some (l % 256)) ⊎ (l1s_of packets ≡ [])

  pub none_signal : (k a : ℕ) → NoneSignals (some_bodies a k)
  none_signal zero a = tt
  none_signal (suc k) a =
      all_append (λ (b : Body). ((count : ℕ) → l1_count count b ≡ None) × (body_l1 b ≡ None))
      (block_bodies idx (plp_at c.plps a).id true (own a)) (some_bodies (a + 1) k)
      (blocks_signal idx (plp_at c.plps a).id true (own a)) (none_signal k (a + 1))

  abbrev Right : List Placed → Type 0
  Right placed = AllByRecursion (λ (p : Placed). p.bytes ≡ at_place all_bytes p.place) placed

  -- all that is placed of its blocks
  blocks_placed : (l lacking : ℕ) (flags : List Bool) (origin : ℕ) → origin ≡ l % 256 + 1 → FewLack lacking flags
      → Right (placed_from counts origin 0 (marked_blocks c (items_where_true flags (block_packets l))))
  blocks_placed l lacking flags origin is few =
      let stood : List Stood = some_stood (l + 1) 0 0 plps in
      rw (came_marked c flags (block_packets l) stood (some_bring plps 0 (l + 1) 0 (omega arith)))
      (came_placed laws.stood counts origin (at_place all_bytes) lacking 0 0 flags stood
      (some_at origin plps 0 (l + 1) 0 [] (omega arith) (omega (arith, is)) refl refl) (omega arith) (omega arith) few)

  tail_sees : (l lacking : ℕ) (flags : List Bool) → FewLack lacking flags
      → Sees l (λ place. suc place) flags (items_where_true flags (l1_packet l ∷ block_packets l))
  tail_sees l lacking [] few =
      record { lacking = lacking; rest = []; few = tt; placed = λ other e. refl; told = λ place t. t; l1 = inr refl }
  tail_sees l lacking (true ∷ flags) few =
      let came : List Packet = items_where_true flags (block_packets l) in
      record {
        lacking = 0;
        rest = flags;
        few = few.1;
        placed = λ other e.
            ap (λ (blocks : List MarkedBlock). placed_from counts (l % 256 + 1) 0 (blocks ++ marked_blocks c came))
            (no_blocks c (l1_packet l) (λ plp. refl));
        told = λ place t. t;
        l1 = inl refl;
      }
  tail_sees l lacking (false ∷ flags) few =
      let none = none_counts c (l + 1) n (some_bodies 0 plps) flags (none_signal plps 0) in
      let came : List Packet = items_where_true flags (block_packets l) in
      record {
        lacking = lacking + 1;
        rest = flags;
        few = few;
        placed = λ other e. ap (λ (k : ℕ). placed_from counts (k + 1) 0 (marked_blocks c came))
            (ap (λ (o : Option ℕ). unwrap_or o other) none.0 ∙ e);
        told = λ place t. t;
        l1 = inr none.1;
      }

  stamp_sees : (l lacking k : ℕ) (flags : List Bool) → FewLack lacking flags
      → Sees l (λ place. suc (suc place)) flags
      (items_where_true flags (packet_with c k n (Timestamp (stamp_of c n)) ∷ l1_packet l ∷ block_packets l))
  stamp_sees l lacking k [] few =
      record { lacking = lacking; rest = []; few = tt; placed = λ other e. refl; told = λ place t. t; l1 = inr refl }
  stamp_sees l lacking k (true ∷ flags) few =
      let s = tail_sees l 0 flags few.1 in
      let came : List Packet = items_where_true flags (l1_packet l ∷ block_packets l) in
      record {
        lacking = s.lacking;
        rest = s.rest;
        few = s.few;
        placed = λ other e.
            ap (λ (blocks : List MarkedBlock). placed_from counts (unwrap_or (first_count came) other + 1) 0
            (blocks ++ marked_blocks c came))
            (no_blocks c (packet_with c k n (Timestamp (stamp_of c n))) (λ plp. refl)) ∙ s.placed other e;
        told = s.told;
        l1 = s.l1;
      }
  stamp_sees l lacking k (false ∷ flags) few =
      let s = tail_sees l (lacking + 1) flags few in
      record { lacking = s.lacking; rest = s.rest; few = s.few; placed = s.placed; told = s.told; l1 = s.l1 }

  -- ---- all packets of the frame, by the number of the first

  abbrev all : List Packet
  all = run_packets c inputs n

  abbrev q : ℕ
  q = (run_row c inputs n in_run).0

  all_is : all ≡ row_packets c q n (frame_bodies c n (told_counts c inputs n) own)
  all_is = (run_row c inputs n in_run).1

  has : HasFrame c inputs n all
  has = run_has laws c inputs plan types n in_run

  -- the number of its L1-current
  abbrev l1_number : ℕ
  l1_number = if n % c.frames == 0 then q + 1 else q

  -- where its blocks are among its packets
  abbrev pub block_place : ℕ → ℕ
  block_place place = if n % c.frames == 0 then suc (suc place) else suc place

  abbrev packets_if : Bool → List Packet
  packets_if t = row_packets c q n (cond t (Timestamp (stamp_of c n) ∷ l1_of c n (told_counts c inputs n) ∷
      run_plp_bodies
      c n own 0) (l1_of c n (told_counts c inputs n) ∷ run_plp_bodies c n own 0))

  sees : (came : List Packet) (flags : List Bool) → came ≡ items_where_true flags all → FewLack 0 flags
      → Sees l1_number (λ place. block_place place) flags came
  sees came flags is few = rw (is ∙ ap (items_where_true flags) all_is) (go (n % c.frames == 0))
    where
      go : (t : Bool) → Sees (cond t (q + 1) q) (λ place. cond t (suc (suc place)) (suc place)) flags
          (items_where_true flags (packets_if t))
      go true = stamp_sees (q + 1) 0 q flags few
      go false = tail_sees q 0 flags few

  -- what is so of each group
  abbrev Near : Group → Type 0
  Near g = CameNear all g.packets

  -- the L1 signalling of a group that has some is the frame's
  pub signal_is : (g : Group) → Near g → signals c n g.packets ≡ true → first_parts g.packets
      ≡ Some (frame_parts c inputs n)
  signal_is g near s =
      go (l1s_of g.packets) s (is_left c inputs n all g.packets has
      (record { flags = near.flags; are = near.are })).l1s
    where
      go : (l1s : List L1Parts) → option_map_or (parts_agree c n) (slice_get l1s 0) false ≡ true
          → AllByRecursion (λ l1. l1 ≡ frame_parts c inputs n) l1s → slice_get l1s 0 ≡ Some (frame_parts c inputs n)
      go [] s h = absurd (true≢false (sym s))
      go (l1 ∷ l1s) s h = ap (λ (x : L1Parts). Some x) h.0

  pub counts_is : (g : Group) → first_parts g.packets ≡ Some (frame_parts c inputs n) → counts_by c n g ≡ counts
  counts_is g e =
      rw (e, parts_tell laws.given c inputs n plan types)

  pub count_there : (g : Group) → Near g → first_parts g.packets ≡ Some (frame_parts c inputs n)
      → unwrap_or (first_count g.packets) 0 ≡ l1_number % 256
  count_there g near e = ⊎_elim
      (λ (h : first_count g.packets ≡ Some (l1_number % 256)). ap (λ (o : Option ℕ). unwrap_or o 0) h)
      (λ (h : l1s_of g.packets ≡ []). none_some (frame_parts c inputs n)
      (sym (ap (λ (l : List L1Parts). slice_get l 0) h) ∙ e)) (sees g.packets near.flags near.are near.few).l1

  -- all that is placed of groups stands where it stood
  group_placed : (other : ℕ) (g : Group) → other ≡ l1_number % 256 → Near g → Right (placed_in c counts other g)
  group_placed other g e near =
      cond_both {A = List Placed} (fits_pool c g.packets) _ _ Right
      (λ t. let s = sees g.packets near.flags near.are near.few in
      rw (s.placed other e) (blocks_placed l1_number s.lacking s.rest (l1_number % 256 + 1) refl s.few)) (λ t. tt)

  pub groups_placed : (other : ℕ) (gs : List Group) → other ≡ l1_number % 256 → AllByRecursion Near gs
      → Right (flat_map (placed_in c counts other) gs)
  groups_placed other [] e h = tt
  groups_placed other (g ∷ gs) e h =
      all_append (λ (p : Placed). p.bytes ≡ at_place all_bytes p.place) (placed_in c counts other g)
      (flat_map (placed_in c counts other) gs) (group_placed other g e h.0) (groups_placed other gs e h.1)

  -- ---- the frame that is woven

  plp_woven : (placed : List Placed) → Right placed
      → ((place : ℕ) → place < place_count c counts → is_one (blocks_at placed place) ≡ true)
      → (k a : ℕ) (pre : List (List ℕ)) → a + k ≤ length c.plps → start_of counts a ≡ length pre → pre
      ++ some_bytes a k ≡ all_bytes
      → map plainly (flat_map (plp_bodies c n counts placed) (range_with_len a k)) ≡ map plainly (some_bodies a k)
  plp_woven placed right one zero a pre l start is = refl
  plp_woven placed right one (suc k) a pre l start is =
      let seg : List (List ℕ) = map held_bytes (own a) in
      let rest : List (List ℕ) = some_bytes (a + 1) k in
      let size : slice_index counts a ≡ length seg = count_is a (omega arith)
      ∙ sym (length-map (own a) held_bytes) in
      let least = start_least counts (a + 1) (length c.plps) (omega arith) in
      let f : List ℕ → Body = λ bytes. Block idx (plp_at c.plps a).id false (bits_of bytes) in
      let own_is : plp_bodies c n counts placed a ≡ map plainly (block_bodies idx (plp_at c.plps a).id true (own a)) =
      ap₂ (λ (x y : ℕ). map (λ place. block_body c n a (block_at placed place)) (range_with_len x y)) start size
      ∙ map_same (λ place. f (block_at placed place)) (λ place. f (at_place all_bytes place)) (length pre)
      (length seg)
      (λ place low high. ap f (at_frame placed right one place (omega (arith, start_more counts a))))
      ∙ sym (map-map f (at_place all_bytes) (range_with_len (length pre) (length seg)))
      ∙ ap (λ (all : List (List ℕ)). map f (map (at_place all) (range_with_len (length pre) (length seg)))) (sym is)
      ∙ ap (map f) (found_at_places pre rest seg)
      ∙ bits_back c a idx (plp_at c.plps a).id (own a) true (long a) in
      map-append plainly (plp_bodies c n counts placed a)
      (flat_map (plp_bodies c n counts placed) (range_with_len (a + 1) k))
      ∙ ap₂ (λ (x y : List Body). x ++ y)
      (ap (map plainly) own_is ∙ twice_plain idx (plp_at c.plps a).id true (own a))
      (plp_woven placed right one k (a + 1) (pre ++ seg) (omega arith) (omega (
        arith,
        start_more counts a,
        length-append pre seg,
      )) (append_assoc pre seg rest ∙ is))
      ∙ sym (map-append plainly (block_bodies idx (plp_at c.plps a).id true (own a)) (some_bodies (a + 1) k))
    where
      at_frame : (placed : List Placed) → Right placed
          → ((place : ℕ) → place < place_count c counts → is_one (blocks_at placed place) ≡ true) → (place : ℕ)
          → place < place_count c counts → block_at placed place ≡ at_place all_bytes place
      at_frame placed right one place inside =
          (laws.framed (at_place all_bytes) placed place
          (All-from_recursion (λ (p : Placed). p.bytes ≡ at_place all_bytes p.place) placed right)).first
          (ltb-true 0 (length (blocks_at placed place))
          (and_parts (nat_lt 0 (length (blocks_at placed place))) (are_alike (blocks_at placed place))
          (one place inside)).0)

      twice_plain : (frame_idx id : ℕ) (first : Bool) (blocks : List (List Bool))
          → map plainly (map plainly (block_bodies frame_idx id first blocks))
          ≡ map plainly (block_bodies frame_idx id first blocks)
      twice_plain frame_idx id first [] = refl
      twice_plain frame_idx id first (b ∷ blocks) = rw (twice_plain frame_idx id false blocks)

  bodies_woven : (t : Group) (placed : List Placed) → first_parts t.packets ≡ Some (frame_parts c inputs n)
      → Right placed → is_whole c n t placed ≡ true
      → map plainly (woven_bodies c n t placed) ≡ map plainly (frame_bodies c n (told_counts c inputs n) own)
  bodies_woven t placed first right whole =
      let same : counts_by c n t ≡ counts = counts_is t first in
      let each : list_all (λ place. is_one (blocks_at placed place)) (range_with_len 0 (place_count c counts))
      ≡ true =
      (and_parts (has_room c counts) (list_all (λ place. is_one (blocks_at placed place))
      (range_with_len 0 (place_count c counts))) (rw (← same) whole)).1 in
      let one : (place : ℕ) → place < place_count c counts → is_one (blocks_at placed place) ≡ true =
      λ place inside. at_range (λ place. is_one (blocks_at placed place)) (place_count c counts) place each inside in
      let none : length c.plps ≡ plps = omega arith in
      let blocks : map plainly (flat_map (plp_bodies c n counts placed) (places c))
      ≡ map plainly (some_bodies 0 plps) =
      ap (λ (k : ℕ). map plainly (flat_map (plp_bodies c n counts placed) (range_with_len 0 k))) none
      ∙ plp_woven placed right one plps 0 [] (omega arith) refl refl in
      ap₂ (λ (o : Option L1Parts) (l : List ℕ). map plainly ((stamp_bodies c n ++ l1_bodies c n o)
      ++ flat_map (plp_bodies c n l placed) (places c))) first same
      ∙ go (n % c.frames == 0) (flat_map (plp_bodies c n counts placed) (places c)) blocks
    where
      at_range : (test : ℕ → Bool) (count k : ℕ) → list_all test (range_with_len 0 count) ≡ true → k < count
          → test k ≡ true
      at_range test count k e inside =
          let at : get_or (range_with_len 0 count) k 0 ≡ k = get_or-range_with_len 0 count k 0 inside ∙ omega arith in
          rw (← at)
          (AllPass-from_list_all test (range_with_len 0 count) e k 0 (omega (arith, length-range_with_len 0 count)))

      go : (s : Bool) (rest : List Body) → map plainly rest ≡ map plainly (some_bodies 0 plps)
          → map plainly ((cond s (Timestamp (stamp_of c n) ∷ []) [] ++ (l1_of c n (told_counts c inputs n) ∷ []))
          ++ rest)
          ≡ map plainly (cond s (Timestamp (stamp_of c n) ∷ l1_of c n (told_counts c inputs n) ∷ some_bodies 0 plps)
          (l1_of c n (told_counts c inputs n) ∷ some_bodies 0 plps))
      go true rest e = ap (λ (l : List Body). Timestamp (stamp_of c n) ∷ l1_of c n (told_counts c inputs n) ∷ l) e
      go false rest e = ap (λ (l : List Body). l1_of c n (told_counts c inputs n) ∷ l) e

  carried_with : (bodies : List Body) → all_bodies (map (packet_with c 0 n) bodies) ≡ bodies
  carried_with [] = refl
  carried_with (b ∷ bodies) = ap (λ (l : List Body). b ∷ l) (carried_with bodies)

  carried_rows : all_bodies all ≡ frame_bodies c n (told_counts c inputs n) own
  carried_rows = ap all_bodies all_is ∙ row_carries c q n (frame_bodies c n (told_counts c inputs n) own)

  pub woven_has : (gs : List Group) (g : Group) → AllByRecursion Near gs → woven c n gs ≡ Some g
      → HasFrame c inputs n g.packets
  woven_has gs g near e = go (signalling c n gs) (of_signalling gs near) e
    where
      of_signalling : (gs : List Group) → AllByRecursion Near gs
          → AllByRecursion (λ (t : Group). Near t × (signals c n t.packets ≡ true)) (signalling c n gs)
      of_signalling [] h = tt
      of_signalling (t ∷ gs) h =
          cond_both {A = List Group} (signals c n t.packets) _ _
          (AllByRecursion (λ (t : Group). Near t × (signals c n t.packets ≡ true)))
          (λ s. ((h.0, s), of_signalling gs h.1)) (λ s. of_signalling gs h.1)

      of_first : (t : Group) (placed : List Placed) (both : Bool) → both ≡ true
          → first_parts t.packets ≡ Some (frame_parts c inputs n) → Right placed → is_whole c n t placed ≡ true
          → Some (group_with c n (woven_bodies c n t placed)) ≡ Some g → HasFrame c inputs n g.packets
      of_first t placed both is first right whole made =
          rw (← (same_Some (group_with c n (woven_bodies c n t placed)) g made))
          (has_alike c inputs n all (map (packet_with c 0 n) (woven_bodies c n t placed)) has
          (rw (carried_with (woven_bodies c n t placed), bodies_woven t placed first right whole, ← carried_rows)))

      go : (ts : List Group) → AllByRecursion (λ (t : Group). Near t × (signals c n t.packets ≡ true)) ts
          → woven_by c n ts gs ≡ Some g → HasFrame c inputs n g.packets
      go [] h e = none_some g e
      go (t ∷ more) h e =
          let first = signal_is t h.0.0 h.0.1 in
          let other : ℕ = unwrap_or (first_count t.packets) 0 in
          let placed : List Placed = placed_by c n t gs in
          let right : Right placed =
          rw (counts_is t first) (cond_both {A = List Placed} (has_room c counts) _ _ Right
          (λ s. groups_placed other gs (count_there t h.0.0 first) near) (λ s. tt)) in
          ⊎_elim
          (λ (s : (list_all (same_dynamic t) more && is_whole c n t placed) ≡ true).
          of_first t placed true refl first right
          (and_parts (list_all (same_dynamic t) more) (is_whole c n t placed) s).1
          (sym (cond-true {A = Option Group} (list_all (same_dynamic t) more && is_whole c n t placed)
          (Some (group_with c n (woven_bodies c n t placed))) None s) ∙ e))
          (λ (s : (list_all (same_dynamic t) more && is_whole c n t placed) ≡ false).
          none_some g (sym (cond-false {A = Option Group} (list_all (same_dynamic t) more && is_whole c n t placed)
          (Some (group_with c n (woven_bodies c n t placed))) None s) ∙ e))
          (cases_Bool (list_all (same_dynamic t) more && is_whole c n t placed))

  -- ---- a block stands where one came

  -- the blocks as they stand, by the number of the L1-current
  abbrev stood : ℕ → List Stood
  stood l = some_stood (l + 1) 0 0 plps

  some_places : (k a number place : ℕ) → a + k ≤ length c.plps
      → start_of counts (a + k) ≡ start_of counts a
      + length (some_stood number place a k)
  some_places zero a number place l =
      let e : a + 0 ≡ a = omega arith in let same = ap (start_of counts) e in omega arith
  some_places (suc k) a number place l =
      let e : a + suc k ≡ a + 1 + k = omega arith in
      let same = ap (start_of counts) e in
      let rest : List Stood =
      some_stood (number + length (own a)) (place + length (own a)) (a + 1) k in
      let more = some_places k (a + 1) (number + length (own a)) (place + length (own a)) (omega arith) in
      let size = count_is a (omega arith) in
      omega (
        arith,
        more,
        start_more counts a,
        length-append (plp_stood number a place (own a)) rest,
        length-stood number a place (own a),
      )

  -- there are as many as places
  all_places : (l : ℕ) → place_count c counts ≡ length (stood l)
  all_places l =
      let e : length c.plps ≡ 0 + plps = omega arith in
      let same = ap (start_of counts) e in
      let some = some_places plps 0 (l + 1) 0 (omega arith) in
      let none : start_of counts 0 ≡ 0 = refl in
      omega arith

  blocks_plain : (l j : ℕ) → j < place_count c counts → IsPlain (block_packets l) j
  blocks_plain l j inside =
      bring_plain c (block_packets l) (stood l) j (some_bring plps 0 (l + 1) 0 (omega arith))
      (omega (arith, all_places l))

  blocks_there : (l lacking : ℕ) (flags : List Bool) (origin place : ℕ) → origin ≡ l % 256 + 1 → FewLack lacking flags
      → slice_index_or flags place false ≡ true → place < place_count c counts
      → StandsIn place (placed_from counts origin 0 (marked_blocks c (items_where_true flags (block_packets l))))
  blocks_there l lacking flags origin place is few there inside =
      let all : List Stood = stood l in
      let came : List Stood = items_where_true flags all in
      let at : AreAt counts origin (at_place all_bytes) 0 all =
      some_at origin plps 0 (l + 1) 0 [] (omega arith) (omega (arith, is)) refl refl in
      rw (came_marked c flags (block_packets l) all (some_bring plps 0 (l + 1) 0 (omega arith)))
      (rw (laws.stood counts origin 0 came (came_stood counts origin (at_place all_bytes) lacking 0 0 flags all at
      (omega arith) (omega arith) few))
      (flagged_stands counts origin (at_place all_bytes) 0 flags all place place at (omega arith)
      (omega (arith, all_places l)) there))

  -- an L1-current that came is there
  tail_signals : (l : ℕ) (flags : List Bool) → slice_index_or flags zero false ≡ true
      → 0 < length (l1s_of (items_where_true flags (l1_packet l ∷ block_packets l)))
  tail_signals l [] there = absurd (true≢false (sym there))
  tail_signals l (true ∷ flags) there = omega arith
  tail_signals l (false ∷ flags) there = absurd (true≢false (sym there))

  stamp_signals : (l k : ℕ) (flags : List Bool) → slice_index_or flags (suc zero) false ≡ true
      → 0 < length (l1s_of
      (items_where_true flags (packet_with c k n (Timestamp (stamp_of c n)) ∷ l1_packet l ∷ block_packets l)))
  stamp_signals l k [] there = absurd (true≢false (sym there))
  stamp_signals l k (true ∷ flags) there = tail_signals l flags there
  stamp_signals l k (false ∷ flags) there = tail_signals l flags there

  -- where its L1-current is among its packets
  abbrev pub l1_place : ℕ
  l1_place = if n % c.frames == 0 then suc zero else zero

  pub l1_is_plain : IsPlain all l1_place
  l1_is_plain = rw all_is (go (n % c.frames == 0))
    where
      go : (t : Bool) → IsPlain (packets_if t) (cond t (suc zero) zero)
      go true = record { packet = l1_packet (q + 1); is = refl; plain = refl }
      go false = record { packet = l1_packet q; is = refl; plain = refl }

  pub block_is_plain : (place : ℕ) → place < place_count c counts → IsPlain all (block_place place)
  block_is_plain place inside =
      rw all_is (go (n % c.frames == 0))
    where
      go : (t : Bool) → IsPlain (packets_if t) (cond t (suc (suc place)) (suc place))
      go true = let r = blocks_plain (q + 1) place inside in
          record { packet = r.packet; is = r.is; plain = r.plain }
      go false = let r = blocks_plain q place inside in record { packet = r.packet; is = r.is; plain = r.plain }

  pub signals_there : (came : List Packet) → HasCome all came l1_place → 0 < length (l1s_of came)
  signals_there came h =
      rw (h.0.are ∙ ap (items_where_true h.0.flags) all_is) (go (n % c.frames == 0) h.0.flags h.1)
    where
      go : (t : Bool) (flags : List Bool) → slice_index_or flags (cond t (suc zero) zero) false ≡ true
          → 0 < length (l1s_of (items_where_true flags (packets_if t)))
      go true flags there = stamp_signals (q + 1) q flags there
      go false flags there = tail_signals q flags there

  there : (came : List Packet) (other place : ℕ) → HasCome all came (block_place place) → other ≡ l1_number % 256
      → place < place_count c counts → StandsIn place (placed_with other came)
  there came other place h e inside =
      let s = sees came h.0.flags h.0.are h.0.few in
      rw (s.placed other e)
      (blocks_there l1_number s.lacking s.rest (l1_number % 256 + 1) place refl s.few (s.told place h.1) inside)

  -- ---- the pool has room

  few_fit : (packets : List Packet) → AreFew c packets → fits_pool c packets ≡ true
  unfolding pool_test room_test
  few_fit packets few =
      none_if (nat_le (pool_need c packets) (pool_chunks c)) (PoolFull (capped (pool_need c packets)) (pool_chunks c))
      (none_behind (first_failure (begun_test c [] 0) (range_with_len 0 0)) (room_test c packets)
      (pool_passes laws.given c inputs n plan types [] 0 packets (λ b below is. absurd (omega arith)) few))

  came_fits : (came : List Packet) → CameNear all came → fits_pool c came ≡ true
  came_fits came near =
      let left = is_left c inputs n all came has (record { flags = near.flags; are = near.are }) in
      few_fit came
      (λ plp inside. omega (arith, left.few plp inside, own_few laws.given c inputs n plan types plp inside))

  pub all_room : has_room c counts ≡ true
  all_room =
      let size : sum_by (plp_need c counts) (places c) ≡ pool_need c all =
      sum_same (λ plp. slice_index counts plp) (λ plp. length (right_blocks c plp all)) _ (length c.plps)
      (λ plp inside. count_is plp inside
      ∙ sym (ap length (has.right plp inside))) 0 (length c.plps) (omega arith) in
      ap (λ (k : ℕ). nat_le k (pool_chunks c)) size
      ∙ few_fit all
      (λ plp inside.
      let e = ap length (has.right plp inside) in
      omega (arith, own_few laws.given c inputs n plan types plp inside))

  -- ---- groups

  group_there : (other place : ℕ) (g : Group) → other ≡ l1_number % 256 → HasCome all g.packets (block_place place)
      → place < place_count c counts → StandsIn place (placed_in c counts other g)
  group_there other place g e h inside =
      rw (cond-true {A = List Placed} (fits_pool c g.packets) (placed_with other g.packets) [] (came_fits g.packets
      h.0)) (there g.packets other place h e inside)

  pub groups_there : (other place : ℕ) (gs : List Group) → other ≡ l1_number % 256 → Brings all (block_place place) gs
      → place < place_count c counts → StandsIn place (flat_map (placed_in c counts other) gs)
  groups_there other place [] e h inside = absurd h
  groups_there other place (g ∷ gs) e h inside = ⊎_elim
      (λ (own : HasCome all g.packets (block_place place)).
      one_before (λ (p : Placed). p.place ≡ place) (placed_in c counts other g) (flat_map (placed_in c counts other) gs)
      (group_there other place g e own inside))
      (λ (more : Brings all (block_place place) gs).
      one_behind (λ (p : Placed). p.place ≡ place) (placed_in c counts other g) (flat_map (placed_in c counts other) gs)
      (groups_there other place gs e more inside)) h

  -- ---- one tells the L1 signalling

  agrees : parts_agree c n (frame_parts c inputs n) ≡ true
  agrees =
      parts_pass c plan types n (told_counts c inputs n) (laws.given.counted c inputs n plan) laws.given.told
      laws.given.pre_written
      laws.given.conf_written laws.given.dyn_written laws.given.fits

  signals_own : (g : Group) → HasCome all g.packets l1_place → signals c n g.packets ≡ true
  signals_own g come =
      go (l1s_of g.packets) (signals_there g.packets come)
      (is_left c inputs n all g.packets has (record { flags = come.0.flags; are = come.0.are })).l1s
    where
      go : (l1s : List L1Parts) → 0 < length l1s → AllByRecursion (λ l1. l1 ≡ frame_parts c inputs n) l1s
          → option_map_or (parts_agree c n) (slice_get l1s 0) false ≡ true
      go [] l h = absurd (omega arith)
      go (l1 ∷ l1s) l h = ap (parts_agree c n) h.0 ∙ agrees

  some_signals : (gs : List Group) → Brings all l1_place gs → 0 < length (signalling c n gs)
  some_signals [] h = absurd h
  some_signals (g ∷ gs) h =
      cond_both {A = List Group} (signals c n g.packets) _ _ (λ l. 0 < length l) (λ t. omega arith)
      (λ t. some_signals gs (elim h [ inl come ↦ absurd (both_ways _ t (signals_own g come)) | inr more ↦ more ]))

  abbrev Tells : Group → Type 0
  Tells t = Near t × (signals c n t.packets ≡ true)

  all_tell : (gs : List Group) → AllByRecursion Near gs → AllByRecursion Tells (signalling c n gs)
  all_tell [] h = tt
  all_tell (t ∷ gs) h =
      cond_both {A = List Group} (signals c n t.packets) _ _ (AllByRecursion Tells)
      (λ s. ((h.0, s), all_tell gs h.1)) (λ s. all_tell gs h.1)

  -- and all tell the same
  dynamic_is : (t : Group) → Tells t → dynamic_in t.packets ≡ (frame_parts c inputs n).dynamic
  dynamic_is t h =
      rw (signal_is t h.0 h.1)

  all_same : (t : Group) (more : List Group) → Tells t → AllByRecursion Tells more
      → list_all (same_dynamic t) more ≡ true
  all_same t [] h hs = refl
  all_same t (g ∷ more) h hs =
      and_from (same_dynamic t g) (list_all (same_dynamic t) more)
      ((pointwise_decides booleans_Decides (dynamic_in t.packets) (dynamic_in g.packets)).1
      (dynamic_is t h ∙ sym (dynamic_is g hs.0))) (all_same t more h hs.1)

  -- ---- each place has one block

  -- In one of the groups each packet came that is no timestamp.
  abbrev EachComes : List Group → Type 0
  EachComes gs = (place : ℕ) (p : Packet) → slice_get all place ≡ Some p → is_stamp p ≡ false → Brings all place gs

  module _ (gs : List Group) (near : AllByRecursion Near gs) (come : EachComes gs) (t : Group) (tells : Tells t) where
    abbrev other : ℕ
    other = unwrap_or (first_count t.packets) 0

    abbrev placed : List Placed
    placed = flat_map (placed_in c counts other) gs

    first : first_parts t.packets ≡ Some (frame_parts c inputs n)
    first = signal_is t tells.0 tells.1

    told : other ≡ l1_number % 256
    told = count_there t tells.0 first

    right : AllByRecursion (λ (p : Placed). p.bytes ≡ at_place all_bytes p.place) placed
    right = groups_placed other gs told near

    one_at : (place : ℕ) → place < place_count c counts → is_one (blocks_at placed place) ≡ true
    one_at place inside =
        let there = block_is_plain place inside in
        let brings : Brings all (block_place place) gs = come (block_place place) there.packet there.is there.plain in
        let stands : StandsIn place placed = groups_there other place gs told brings inside in
        and_from (nat_lt 0 (length (blocks_at placed place))) (are_alike (blocks_at placed place))
        (lt-ltb 0 (length (blocks_at placed place)) (stands_some place placed stands))
        (laws.framed (at_place all_bytes) placed place
        (All-from_recursion (λ (p : Placed). p.bytes ≡ at_place all_bytes p.place) placed right)).alike

    abbrev whole_by : List ℕ → Bool
    whole_by l = has_room c l && list_all
        (λ place. is_one (blocks_at (cond (has_room c l) (flat_map (placed_in c l other) gs) []) place))
        (range_with_len 0 (place_count c l))

    whole : is_whole c n t (placed_by c n t gs) ≡ true
    whole =
        let room : has_room c counts ≡ true = all_room in
        ap whole_by (counts_is t first)
        ∙ and_from (has_room c counts)
        (list_all (λ place. is_one (blocks_at (cond (has_room c counts) placed []) place))
        (range_with_len 0 (place_count c counts))) room
        (rw room
        (each_place (λ place. is_one (blocks_at placed place)) (place_count c counts) one_at 0 (place_count c counts)
        (omega arith)))

  -- ---- they make a frame

  pub woven_some : (gs : List Group) → AllByRecursion Near gs → EachComes gs → (g : Group) × (woven c n gs ≡ Some g)
  woven_some gs near come =
      let l1 = l1_is_plain in
      go (signalling c n gs) (some_signals gs (come l1_place l1.packet l1.is l1.plain)) (all_tell gs near)
    where
      go : (ts : List Group) → 0 < length ts → AllByRecursion Tells ts → (g : Group) × (woven_by c n ts gs ≡ Some g)
      go [] l h = absurd (omega arith)
      go (t ∷ more) l h =
          let placed : List Placed = placed_by c n t gs in
          let made : Group = group_with c n (woven_bodies c n t placed) in (
            made,
            cond-true {A = Option Group} (list_all (same_dynamic t) more && is_whole c n t placed) (Some made) None
                (and_from (list_all (same_dynamic t) more) (is_whole c n t placed) (all_same t more h.0 h.1)
                (whole gs near come t h.0)),
          )
