-- The numbers that were counted apart.
use Rattle.std.proofs.Common.{append_assoc, replicate, Option, Some, None, take, ◌++◌, ◌≡◌, ℕ, zero, suc, ◌+◌, ◌-◌, ◌*◌}
use Rattle.std.proofs.Common.{◌<◌, ◌≤◌}
use Rattle.std.proofs.Common.{Bool, true, false, List, [], ◌∷◌, length, refl, ap, ap₂, ◌∙◌, arith}
use Rattle.std.specs.Prelude.{filter, map, min}
use Rattle.std.specs.List.{range_with_len}
use Rattle.std.specs.Int.{div_ceil}
use Rattle.std.proofs.lemmas.List.{get_or-replicate, length-map, length-append}
use Rattle.std.proofs.lemmas.List.FromFn.{length-range_with_len, length-map-range_with_len, take-map-range_with_len}
use Rattle.terms.specs.Bits.{field, bits_of, byte_at, bytes_of, bytes_for}
use Rattle.terms.proofs.BitLemmas.{byte_at-whole}
use Rattle.bb_frame.specs.BasebandFrame.{header_bits, frame_bits}
use Rattle.bb_frame.specs.Scrambled.{scrambled}
use Rattle.bb_frame.specs.declared.header.Header.{Header}
use Rattle.bit_slice.specs.Prbs.{fifteen_before}
use Rattle.mode_adapt.specs.Matype.{matype1, matype2}
use Rattle.site_frame.specs.Record.{Block}
use Rattle.mode_adapt.proofs.SameLemmas.{least_same}
use Rattle.record_laws.specs.Frames.{sent_block}
use Rattle.bit_slice.specs.Crc.{crc32_of}
use Rattle.l1_signal.specs.Fields.{row_bits, spelling}
use Rattle.l1_signal.specs.L1Of.{pre_of, conf_of, conf_plp_of, dyn_of, post_bits}
use Rattle.l1_signal.specs.L1Configurable.{conf_bits}
use Rattle.l1_signal.specs.L1Dynamic.{dyn_bits}
use Rattle.scheduler.specs.Shape.{shape_of, start_of, interval_of, type2_start_of}
use Rattle.l1_signal.specs.L1Pre.{pre_bits}
use Rattle.plp_config.specs.RunLength.{frame_count, last_tick}
use Rattle.plp_config.specs.Capacity.{block_bytes, block_cells, field_bytes, up_bytes, capacity}
use Rattle.plp_config.specs.SlotTime.{num, den, slot_count, slots_by}
use Rattle.plp_config.specs.declared.config.Config.{Config}
use Rattle.ts_packet.specs.Null.{is_null, null_packet}
use Rattle.null_delete.specs.Deletion.{packet_at, kept_slots}
use Rattle.mode_adapt.specs.Queue.{Rates, arrived, least_to, sent, sent_before}
use Rattle.mode_adapt.specs.UserPackets.{keeps_of}
use Rattle.mode_adapt.specs.Blocks.{rates_of, plp_keeps, blocks_between, block_places, block_bits, data_field}
use Rattle.mode_adapt.specs.Blocks.{header_at}
use Rattle.mode_adapt.specs.Blocks.{with_place, first_up, plp_blocks}
use Rattle.record_laws.specs.Networks.{small_network, small_post, data_packet, data_packets}
use Rattle.record_laws.proofs.FitLemmas.{all_map_twice}
use Rattle.record_laws.specs.Counted.{CountedLengths, CountedBlocks, CountedStart, CountedPre, CountedPost}
use Rattle.record_laws.specs.Counted.{CountedFrames}
use Rattle.record_laws.specs.Counted.{CountedRecords, CountedSlots}
use Rattle.terms.proofs.AllLemmas.{all_append}
use Rattle.bb_frame.specs.Laws.{BitCounts}

pub counted_lengths : CountedLengths
unfolding block_bytes
counted_lengths = record { small = refl; large = refl; full = refl; one = refl }

pub counted_records : CountedRecords
counted_records = record { late = refl; gap = refl; none = refl }

pub counted_slots : CountedSlots
unfolding num den
counted_slots = record { four = refl; more = refl; large = refl; late = refl }

pub counted_frames : CountedFrames
unfolding frame_count last_tick num den
counted_frames = record { empty = refl; narrow = refl }

pub counted_pre : CountedPre
unfolding pre_of pre_bits row_bits spelling crc32_of field
counted_pre inputs n = refl

-- a packet that is not null is kept
data_is_no_null : is_null data_packet ≡ false
unfolding is_null field
data_is_no_null = refl

pub data_at : (n k : ℕ) → k < n → packet_at (data_packets n) k ≡ data_packet
data_at n k lt = get_or-replicate n k data_packet null_packet lt

pub data_kept : (deletes : Bool) (n k : ℕ) → k < n → keeps_of deletes (packet_at (data_packets n)) k ≡ true
data_kept true n k lt = rw (data_at n k lt, data_is_no_null) refl
data_kept false n k lt = refl

-- so the slots below are all kept
kept_from : (keeps : ℕ → Bool) (n from count : ℕ) → ((k : ℕ) → k < n → keeps k ≡ true) → from + count ≤ n
    → filter keeps (range_with_len from count) ≡ range_with_len from count
kept_from keeps n from zero all le = refl
kept_from keeps n from (suc count) all le =
    rw (all from (omega (arith, le)))
    (ap (λ (ks : List ℕ). from ∷ ks) (kept_from keeps n (from + 1) count all (omega (arith, le))))

pub kept_count : (deletes : Bool) (n m : ℕ) → m ≤ n
    → length (kept_slots (keeps_of deletes (packet_at (data_packets n))) m) ≡ m
kept_count deletes n m le =
    ap (λ (ks : List ℕ). length ks) (kept_from (keeps_of deletes (packet_at (data_packets n))) n 0 m
    (data_kept deletes n)
    (omega (arith, le))) ∙ length-range_with_len 0 m

-- what has arrived and what is sent
arrived_is : (r : Rates) (deletes : Bool) (n m : ℕ) → slot_count r.num r.den (m * r.epoch) ≤ n
    → arrived r (keeps_of deletes (packet_at (data_packets n))) m ≡ r.up_len * slot_count r.num r.den (m * r.epoch)
arrived_is r deletes n m le = ap (λ (k : ℕ). r.up_len * k) (kept_count deletes n (slot_count r.num r.den (m * r.epoch))
    le)

-- the bytes sent by the end of a frame, if the packets are there
abbrev pub sent_data : Rates → ℕ → ℕ
sent_data r m = least_to (λ i. r.up_len * slot_count r.num r.den (i * r.epoch) + (m - i) * r.capacity) m

pub sent_is : (r : Rates) (deletes : Bool) (n m : ℕ) → ((i : ℕ) → i ≤ m → slot_count r.num r.den (i * r.epoch) ≤ n)
    → sent r (keeps_of deletes (packet_at (data_packets n))) m ≡ sent_data r m
sent_is r deletes n m few =
    least_same _ _ m (λ i le. ap (λ (a : ℕ). a + (m - i) * r.capacity) (arrived_is r deletes n i (few i le)))

-- ---- frame 1 of the small network

abbrev small_rates : Rates
small_rates = rates_of small_network 0 100000

small_slots : (i : ℕ) → i ≤ 1 → slot_count small_rates.num small_rates.den (i * 100000) ≤ 20
unfolding num den
small_slots i le = omega (arith, le)

small_sent : sent small_rates (keeps_of true (packet_at (data_packets 20))) 1 ≡ 2632
unfolding num den up_bytes capacity field_bytes block_bytes
small_sent = sent_is small_rates true 20 1 small_slots

small_before : sent_before small_rates (keeps_of true (packet_at (data_packets 20))) 1 ≡ 0
unfolding num den up_bytes capacity field_bytes block_bytes
small_before = sent_is small_rates true 20 0 (λ i le. small_slots i (omega (arith, le)))

blocks_count : (c : Config) (plp : ℕ) (at : ℕ → List ℕ) (n x y : ℕ) → length (blocks_between c plp at n x y)
    ≡ div_ceil (y - x) (field_bytes c plp)
blocks_count c plp at n x y =
    length-map (block_places (field_bytes c plp) x y) (λ from. block_bits c plp at n from
    (min (from + field_bytes c plp) y))
    ∙ length-map-range_with_len (λ i. x + i * field_bytes c plp) 0 (div_ceil (y - x) (field_bytes c plp))

pub counted_blocks : CountedBlocks
unfolding field_bytes block_bytes
counted_blocks =
    blocks_count small_network 0 (packet_at (data_packets 20)) _ _ _
    ∙ ap₂ (λ (a b : ℕ). div_ceil (b - a) (field_bytes small_network 0)) small_before small_sent

-- L1-post of a frame with so many blocks
small_post_of : ℕ → List ℕ
small_post_of count = bytes_of (post_bits small_network 1 (shape_of small_network (count ∷ [])))

post_is : small_post_of 4 ≡ small_post
unfolding small_post_of post_bits conf_of conf_plp_of conf_bits dyn_of dyn_bits row_bits spelling shape_of
    start_of interval_of
    type2_start_of block_cells crc32_of field
post_is = refl

pub counted_post : CountedPost
unfolding small_post_of
counted_post = ap small_post_of counted_blocks ∙ post_is

-- ---- how the blocks of the small network begin

-- the first byte and the second, whatever follows
two_bytes : BitCounts → (h : Header) (rest : List Bool) → h.matype1 ≡ 0xFC → h.matype2 ≡ 0
    → take 2 (bytes_of (scrambled (header_bits h ++ rest))) ≡ 0xFF ∷ 0xF6 ∷ []
unfolding fifteen_before field
two_bytes numbers h rest first second =
    let sent : List Bool = scrambled (header_bits h ++ rest) in
    let long : length sent ≡ 80 + length rest = numbers.scrambled (header_bits h ++ rest)
    ∙ length-append (header_bits h) rest
    ∙ ap (λ (n : ℕ). n + length rest) (numbers.header h) in
    take-map-range_with_len (byte_at sent) 0 (bytes_for (length sent)) 2 (omega (arith, long))
    ∙ ap₂ (λ (a b : ℕ). a ∷ b ∷ []) (byte_at-whole sent 0 (omega (arith, long)))
    (byte_at-whole sent 1 (omega (arith, long)))
    ∙ rw (first, second) refl

-- MATYPE of the small network: FC 00
header_starts : (x len : ℕ) (up : Option (ℕ × ℕ)) → ((header_at small_network 0 x len up).matype1 ≡ 0xFC)
    × ((header_at small_network 0 x len up).matype2 ≡ 0)
unfolding matype1 matype2
header_starts x len None = (refl, refl)
header_starts x len (Some up) = (refl, refl)

frame_starts : BitCounts → (h : Header) (body : List Bool) (size : ℕ) → (h.matype1 ≡ 0xFC) × (h.matype2 ≡ 0)
    → take 2 (bytes_of (scrambled (frame_bits h body size))) ≡ 0xFF ∷ 0xF6 ∷ []
frame_starts numbers h body size starts =
    ap (λ (bits : List Bool). take 2 (bytes_of (scrambled bits)))
    (append_assoc (header_bits h) body (replicate (size - 80 - length body) false))
    ∙ two_bytes numbers h (body ++ replicate (size - 80 - length body) false) starts.0 starts.1

block_starts : BitCounts → (at : ℕ → List ℕ) (n x y : ℕ)
    → take 2 (bytes_of (scrambled (block_bits small_network 0 at n x y)))
    ≡ 0xFF ∷ 0xF6 ∷ []
block_starts numbers at n x y =
    let up : Option (ℕ × ℕ) = with_place (up_bytes small_network 0) (plp_keeps small_network 0 at)
    (first_up (up_bytes small_network 0) (plp_keeps small_network 0 at) n x y) in
    frame_starts numbers (header_at small_network 0 x (y - x) up) (bits_of (data_field small_network 0 at n x y))
    (8 * block_bytes small_network 0) (header_starts x (y - x) up)

abbrev Starts : Block → Type 0
Starts b = (b.plp_id ≡ 0) × (take 2 b.bytes ≡ 0xFF ∷ 0xF6 ∷ [])

pub counted_start : BitCounts → CountedStart
counted_start numbers inputs n =
    let at : ℕ → List ℕ = packet_at (inputs 0) in
    let slots : ℕ = slots_by small_network 0 (n * 100000) in
    let begin : ℕ = sent_before (rates_of small_network 0 100000) (plp_keeps small_network 0 at) n in
    let end : ℕ = sent (rates_of small_network 0 100000) (plp_keeps small_network 0 at) n in
    let len : ℕ = field_bytes small_network 0 in
    all_append Starts (map (sent_block small_network 0) (plp_blocks small_network inputs n 0)) []
    (all_map_twice Starts (sent_block small_network 0) (λ from. block_bits small_network 0 at slots from
    (min (from + len) end))
    (block_places len begin end)
    (λ from. (refl, block_starts numbers at slots from (min (from + len) end)))) tt
