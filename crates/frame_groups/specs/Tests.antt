-- Why the packets of a group are not those of a frame: the first of our six tests that fails. The fields are those of
-- ETSI TS 102 773, clause 5.
use Rattle.std.specs.Prelude.{ℕ, ◌*◌, ◌/◌, ◌%◌, ◌-◌, ◌^◌, ◌==◌, ◌&&◌, ◌||◌, not, min, nat_eq, nat_lt, nat_le, Bool}
use Rattle.std.specs.Prelude.{true, false, List, [], ◌∷◌, length, map, sum_by, slice_get, slice_index, Option, Some}
use Rattle.std.specs.Prelude.{None, option_map, Ok, Err, if◌then◌else◌}
use Rattle.std.specs.Bool.{beq}
use Rattle.std.specs.Cmp.Lexicographic.{pointwise}
use Rattle.std.specs.List.{find, list_any, list_all, range_with_len}
use Rattle.std.specs.Option.{option_or, option_and_then}
use Rattle.plp_config.specs.Capacity.{block_bytes}
use Rattle.plp_config.specs.Emission.{emission, subseconds_by, origin, frame_subseconds}
use Rattle.plp_config.specs.InterleavingFrames.{is_first, begin_of}
use Rattle.plp_config.specs.Places.{places}
use Rattle.plp_config.specs.Plps.{plp_at}
use Rattle.plp_config.specs.Tables.{bw, subseconds_per_second}
use Rattle.plp_config.specs.declared.config.Config.{Config}
use Rattle.plp_config.specs.declared.moment.Moment.{Moment}
use Rattle.plp_config.specs.declared.moment.TheConstants.{MOST_FRAMES}
use Rattle.linked_pool.specs.Pool.{chunks_for}
use Rattle.linked_pool.specs.Fits.{group_chunks}
use Rattle.scheduler.specs.Shape.{FrameShape}
use Rattle.l1_signal.specs.Fields.{Row, Reading, values}
use Rattle.l1_signal.specs.L1Configurable.{conf_first_rows, conf_more_rows, conf_plp_rows, conf_back_rows, conf_read}
use Rattle.l1_signal.specs.L1Configurable.{info_size}
use Rattle.l1_signal.specs.L1Dynamic.{dyn_read}
use Rattle.l1_signal.specs.L1Of.{pre_of, conf_of, told_shape}
use Rattle.l1_signal.specs.L1Pre.{pre_rows, pre_reading}
use Rattle.l1_signal.specs.declared.conf.L1Conf.{L1Conf}
use Rattle.l1_signal.specs.declared.dynamic.L1Dyn.{L1Dyn}
use Rattle.l1_signal.specs.declared.pre.L1Pre.{L1Pre}
use Rattle.t2mi_packet.specs.declared.packet.Body.{Body}
use Rattle.t2mi_packet.specs.declared.packet.Body.TheVariants.{Block, L1Current, Timestamp, Other}
use Rattle.t2mi_packet.specs.declared.packet.Packet.{Packet}
use Rattle.t2mi_packet.specs.declared.packet.Stamp.{Stamp}
use Rattle.frame_groups.specs.Groups.{Group, is_same}
use Rattle.frame_groups.specs.Modulated.{Numbered, Rules}
use Rattle.frame_groups.specs.Numbers.{frame_key}
use Rattle.frame_groups.specs.declared.cause.MuteCause.{MuteCause}
use Rattle.frame_groups.specs.declared.cause.MuteCause.TheVariants.{PacketMissing, L1Refused, MapRefused, PoolFull}
use Rattle.frame_groups.specs.declared.cause.MuteCause.TheVariants.{TimeDisagrees}
use Rattle.frame_groups.specs.declared.key.Key.{Key}
use Rattle.frame_groups.specs.Carried.{has_length, blocks_of, right_blocks, L1Parts, l1s_of, stamps_of}
use Rattle.frame_groups.specs.Begun.{is_begin, packets_at}
use Rattle.frame_groups.specs.MapTest.{map_passes}

-- a test: nothing if it holds
abbrev pub unless : Bool → MuteCause → Option MuteCause
unless holds cause = if holds then None else Some cause

-- the frame begins a superframe
abbrev pub begins_superframe : Config → ℕ → Bool
begins_superframe c n = n % c.frames == 0

-- the chunks of the pool, and those that the blocks fill that have the length of their PLP
abbrev pub pool_chunks : Config → ℕ
pool_chunks c = group_chunks c

abbrev pub pool_need : Config → List Packet → ℕ
pool_need c packets = sum_by (λ plp. length (right_blocks c plp packets) * chunks_for (block_bytes c plp)) (places c)

-- a number as a cause tells it: it has 64 bits, and stands still at the greatest
abbrev pub greatest : ℕ
greatest = 2 ^ 64 - 1

abbrev pub capped : ℕ → ℕ
capped n = min n greatest

-- the blocks of packets that have their length have room
unfoldable pub room_test : Config → List Packet → Option MuteCause
room_test c packets =
    unless (nat_le (pool_need c packets) (pool_chunks c)) (PoolFull (capped (pool_need c packets)) (pool_chunks c))

-- so have those of the group of frame b, if an interleaving frame begins there that frame n carries
abbrev pub begun_test : Config → List Numbered → ℕ → ℕ → Option MuteCause
begun_test c past n b = if is_begin c n b then room_test c (packets_at past b) else None

-- the first test that fails
abbrev pub first_failure : {X : Type 0} → (X → Option MuteCause) → List X → Option MuteCause
first_failure test [] = None
first_failure test (x ∷ xs) = option_or (test x) (first_failure test xs)

-- a: in order of number, the blocks of each group have room in which an interleaving frame begins that frame n carries,
-- and last those of the group itself
unfoldable pub pool_test : Config → List Numbered → ℕ → List Packet → Option MuteCause
pool_test c past n packets = option_or (first_failure (begun_test c past n) (range_with_len 0 n)) (room_test c packets)

-- b: there is an L1-current, and a timestamp if a superframe begins (clauses 5.2.4 and 5.2.7)
unfoldable pub missing_test : Config → ℕ → List Packet → Option MuteCause
missing_test c n packets =
    unless (nat_lt 0 (length (l1s_of packets)) && (not (begins_superframe c n) || nat_lt 0
    (length (stamps_of packets))))
    PacketMissing

-- two L1-current packets are the same
abbrev pub same_parts : L1Parts → L1Parts → Bool
same_parts a b = pointwise beq a.pre b.pre && pointwise beq a.conf b.conf && pointwise beq a.dynamic b.dynamic
    && pointwise beq
    a.extension b.extension

-- what is read of bits, if nothing is left of them
abbrev pub read_whole : {A : Type 0} → Reading A → Option A
read_whole (Ok r) = if length r.1 == 0 then Some r.0 else None
read_whole (Err e) = None

-- what rows tell of two values is the same
abbrev pub same_told : {A : Type 0} → List (Row A) → A → A → Bool
same_told rows x y = pointwise nat_eq (values rows x []) (values rows y [])

-- an L1-pre is the configuration's (EN 302 755, clause 7.2.2)
abbrev pub pre_agrees : Config → Option L1Pre → Bool
pre_agrees c None = false
pre_agrees c (Some pre) = same_told pre_rows pre (pre_of c)

-- a configurable part is the configuration's (clause 7.2.3.1)
abbrev pub same_conf : L1Conf → L1Conf → Bool
same_conf x y = same_told conf_first_rows x y && same_told conf_more_rows x y && pointwise
    (same_told conf_plp_rows) x.plps y.plps && same_told conf_back_rows x y

abbrev pub conf_agrees : Config → Option L1Conf → Bool
conf_agrees c None = false
conf_agrees c (Some conf) = same_conf conf (conf_of c)

-- a dynamic part is one of frame n, and has the PLPs in order (clause 7.2.3.2)
abbrev pub dyn_agrees : Config → ℕ → Option L1Dyn → Bool
dyn_agrees c n None = false
dyn_agrees c n (Some dynamic) = (dynamic.frame_idx == n % c.frames) && pointwise nat_eq
    (map (λ plp. plp.plp_id) dynamic.plps)
    (map (λ plp. plp.id) c.plps)

abbrev pub read_dynamic : Config → L1Parts → Option L1Dyn
read_dynamic c l1 = read_whole (dyn_read (length c.plps) l1.dynamic)

-- each part of an L1-current reads, and is that of the configuration and the frame
unfoldable pub parts_agree : Config → ℕ → L1Parts → Bool
parts_agree c n l1 =
    pre_agrees c (read_whole (pre_reading false l1.pre)) && conf_agrees c
    (read_whole (conf_read (info_size (length c.plps)) l1.conf)) && dyn_agrees c n (read_dynamic c l1)

abbrev pub l1s_agree : Config → ℕ → List L1Parts → Bool
l1s_agree c n [] = true
l1s_agree c n (l1 ∷ more) = list_all (same_parts l1) more && parts_agree c n l1

-- c: all L1-current packets are the same, and those of the configuration and the frame
unfoldable pub l1_test : Config → ℕ → List Packet → Option MuteCause
l1_test c n packets = unless (l1s_agree c n (l1s_of packets)) L1Refused

-- a timestamp tells the bandwidth and the emission of frame n; utco decides nothing
abbrev pub stamp_agrees : Config → ℕ → Stamp → Bool
stamp_agrees c n stamp =
    (stamp.bw == bw c.band) && (stamp.seconds == (emission c n).seconds)
    && (stamp.subseconds == (emission c n).subseconds)

abbrev pub disagrees : Config → ℕ → Stamp → MuteCause
disagrees c n stamp = TimeDisagrees stamp (emission c n)

-- d: if a superframe begins, each timestamp does; the first that does not is told
unfoldable pub time_test : Config → ℕ → List Packet → Option MuteCause
time_test c n packets = if begins_superframe c n
    then option_map (disagrees c n) (find (λ s. not (stamp_agrees c n s)) (stamps_of packets)) else None

-- the shape that the dynamic part of an L1-current tells, if it reads
abbrev pub l1_shape : Config → L1Parts → Option FrameShape
l1_shape c l1 = option_map told_shape (read_dynamic c l1)

-- that of the first L1-current
abbrev pub first_shape : Config → List Packet → Option FrameShape
first_shape c packets = option_and_then (l1_shape c) (slice_get (l1s_of packets) 0)

-- packets have so many blocks of a PLP, each of its length
abbrev pub has_begun : Config → ℕ → List Packet → ℕ → Bool
has_begun c plp packets told = (length (blocks_of c plp packets) == told)
    && (length (right_blocks c plp packets) == told)

-- with so many blocks in the group, a PLP has as many as told: in the group, if an interleaving frame begins in frame
-- n; else it has none there, and those of its interleaving frame in the group of the frame in which that one begins
abbrev pub has_count : Config → List Numbered → ℕ → ℕ → ℕ → ℕ → Bool
has_count c past n plp own told = if is_first c plp n then own == told
    else (own == 0) && has_begun c plp (packets_at past (begin_of c plp n)) told

-- each PLP has as many blocks as a shape tells
abbrev pub has_counts : Config → List Numbered → ℕ → List Packet → Option FrameShape → Bool
has_counts c past n packets None = false
has_counts c past n packets (Some shape) = list_all
    (λ plp. has_count c past n plp (length (blocks_of c plp packets)) (slice_index shape.counts plp)) (places c)

-- if a packet carries a block, it is one of a PLP, with its length
abbrev pub body_known : Config → Body → Bool
body_known c (Block frame_idx id first bits) = list_any (λ plp. (id == (plp_at c.plps plp).id) && has_length c plp bits)
    (places c)
body_known c (L1Current frame_idx pre conf dynamic extension) = true
body_known c (Timestamp stamp) = true
body_known c (Other packet_type bits) = true

abbrev pub is_known : Config → Packet → Bool
is_known c p = body_known c p.body

-- e: there are as many blocks as the first L1-current tells, and no others
unfoldable pub blocks_test : Config → List Numbered → ℕ → List Packet → Option MuteCause
blocks_test c past n packets = unless (has_counts c past n packets (first_shape c packets)
    && list_all (is_known c) packets)
    PacketMissing

-- f: the cells of the blocks that it tells stand apart, in the frame
abbrev pub has_map : Config → Option FrameShape → Bool
has_map c None = false
has_map c (Some shape) = map_passes c shape

unfoldable pub map_test : Config → List Packet → Option MuteCause
map_test c packets = unless (has_map c (first_shape c packets)) MapRefused

-- why packets are not those of frame n, behind groups that have numbers: the first test that fails, in their order
unfoldable pub packets_fault : Config → List Numbered → ℕ → List Packet → Option MuteCause
packets_fault c past n packets =
    option_or (pool_test c past n packets)
    (option_or (missing_test c n packets)
    (option_or (l1_test c n packets)
    (option_or (time_test c n packets) (option_or (blocks_test c past n packets) (map_test c packets)))))

abbrev pub group_fault : Config → List Numbered → Group → ℕ → Option MuteCause
group_fault c past g n = packets_fault c past n g.packets

-- the moment that a timestamp tells
abbrev pub moment_of : Stamp → Moment
moment_of stamp = record { seconds = stamp.seconds; subseconds = stamp.subseconds }

-- whole frames have passed at a moment since frame 0 left, and how many
abbrev pub passed : Config → Moment → ℕ
passed c moment = subseconds_by c moment - origin c

abbrev pub is_on_grid : Config → Moment → Bool
is_on_grid c moment = nat_lt moment.subseconds (subseconds_per_second c.band) && nat_le (origin c)
    (subseconds_by c moment) && (passed c moment % frame_subseconds c == 0)

abbrev pub frames_passed : Config → Moment → ℕ
frames_passed c moment = passed c moment / frame_subseconds c

-- the frame of a run that leaves at a moment and has a key
unfoldable pub frame_with : Config → Key → Moment → Option ℕ
frame_with c key moment =
    if is_on_grid c moment && nat_lt (frames_passed c moment) MOST_FRAMES && is_same
    (frame_key c.frames (frames_passed c moment))
    key then Some (frames_passed c moment) else None

-- the frame that the first timestamp of a group names: it has the emission that this tells, and the group's key
abbrev pub named_frame : Config → Group → Option ℕ
named_frame c g = option_and_then (λ s. frame_with c g.key (moment_of s)) (slice_get (stamps_of g.packets) 0)

-- what decides of groups in a network
abbrev pub rules : Config → Rules
rules c = record { network = c; frames = c.frames; named = named_frame c; fault = group_fault c }
