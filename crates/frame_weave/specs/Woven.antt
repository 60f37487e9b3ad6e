-- The frame that several groups make (ETSI TS 102 773, clause 5).
use Rattle.std.specs.Prelude.{ℕ, ◌+◌, ◌%◌, ◌&&◌, Bool, false, List, [], ◌∷◌, ◌++◌, map, filter, slice_index, Option}
use Rattle.std.specs.Prelude.{Some, None, if◌then◌else◌}
use Rattle.std.specs.Bool.{beq}
use Rattle.std.specs.Cmp.Lexicographic.{pointwise}
use Rattle.std.specs.List.{flat_map, list_all, range_with_len}
use Rattle.std.specs.Option.{unwrap_or}
use Rattle.terms.specs.Bits.{bits_of}
use Rattle.plp_config.specs.Places.{places}
use Rattle.plp_config.specs.Plps.{plp_at}
use Rattle.plp_config.specs.declared.config.Config.{Config}
use Rattle.t2mi_packet.specs.declared.packet.Body.{Body}
use Rattle.t2mi_packet.specs.declared.packet.Body.TheVariants.{Block, Timestamp}
use Rattle.frame_groups.specs.Groups.{Group}
use Rattle.frame_groups.specs.Numbers.{frame_key}
use Rattle.frame_groups.specs.Carried.{L1Parts}
use Rattle.frame_groups.specs.Readable.{coming}
use Rattle.frame_groups.specs.Tests.{begins_superframe}
use Rattle.frame_writer.specs.FramePackets.{stamp_of, l1_body, packet_with}
use Rattle.open_group.specs.Signals.{first_parts, signals, fits_pool}
use Rattle.open_group.specs.Written.{dynamic_in, shape_in}
use Rattle.frame_weave.specs.Marked.{marked_blocks, first_count}
use Rattle.frame_weave.specs.Places.{start_of, place_count, has_room}
use Rattle.frame_weave.specs.Placed.{Placed, placed_from, blocks_at, block_at, is_one}

-- the groups whose first L1-current is one of frame n
abbrev pub signalling : Config → ℕ → List Group → List Group
signalling c n gs = filter (λ g. signals c n g.packets) gs

-- two groups have the same dynamic part of L1-post
abbrev pub same_dynamic : Group → Group → Bool
same_dynamic g h = pointwise beq (dynamic_in g.packets) (dynamic_in h.packets)

-- how many blocks of each PLP come with frame n, if a group tells its L1 signalling
abbrev pub counts_by : Config → ℕ → Group → List ℕ
counts_by c n t = coming c n (shape_in c t.packets)

-- packet_count of place 0 in a group: the one behind its first L1-current, or behind another one's if it has none
abbrev pub origin_of : ℕ → Group → ℕ
origin_of other g = unwrap_or (first_count g.packets) other + 1

-- the blocks of a group that has room for them, where they stand
abbrev pub placed_in : Config → List ℕ → ℕ → Group → List Placed
placed_in c counts other g = if fits_pool c g.packets
    then placed_from counts (origin_of other g) 0 (marked_blocks c g.packets) else []

abbrev pub placed_by : Config → ℕ → Group → List Group → List Placed
placed_by c n t gs =
    if has_room c (counts_by c n t)
    then flat_map (placed_in c (counts_by c n t) (unwrap_or (first_count t.packets) 0)) gs else []

-- those of groups in frame n, by the first of the signalling groups
abbrev pub placed_of : Config → ℕ → List Group → List Group → List Placed
placed_of c n [] gs = []
placed_of c n (t ∷ more) gs = placed_by c n t gs

-- the packets: a timestamp if a superframe begins, an L1-current, and a block for each place
abbrev pub block_body : Config → ℕ → ℕ → List ℕ → Body
block_body c n plp bytes = Block (n % c.frames) (plp_at c.plps plp).id false (bits_of bytes)

abbrev pub plp_bodies : Config → ℕ → List ℕ → List Placed → ℕ → List Body
plp_bodies c n counts placed plp =
    map (λ place. block_body c n plp (block_at placed place)) (range_with_len (start_of counts plp)
    (slice_index counts plp))

abbrev pub l1_bodies : Config → ℕ → Option L1Parts → List Body
l1_bodies c n None = []
l1_bodies c n (Some l1) = l1_body c n l1.pre l1.conf l1.dynamic ∷ []

abbrev pub stamp_bodies : Config → ℕ → List Body
stamp_bodies c n = if begins_superframe c n then Timestamp (stamp_of c n) ∷ [] else []

abbrev pub front_bodies : Config → ℕ → Group → List Body
front_bodies c n t = stamp_bodies c n ++ l1_bodies c n (first_parts t.packets)

abbrev pub woven_bodies : Config → ℕ → Group → List Placed → List Body
woven_bodies c n t placed = front_bodies c n t ++ flat_map (plp_bodies c n (counts_by c n t) placed) (places c)

abbrev pub group_with : Config → ℕ → List Body → Group
group_with c n bodies = record { key = frame_key c.frames n; packets = map (packet_with c 0 n) bodies }

-- there is room, and at each place a block stands, and no other one
abbrev pub is_whole : Config → ℕ → Group → List Placed → Bool
is_whole c n t placed = has_room c (counts_by c n t) && list_all
    (λ place. is_one (blocks_at placed place)) (range_with_len 0 (place_count c (counts_by c n t)))

abbrev pub woven_by : Config → ℕ → List Group → List Group → Option Group
woven_by c n [] gs = None
woven_by c n (t ∷ more) gs =
    if list_all (same_dynamic t) more && is_whole c n t (placed_by c n t gs)
    then Some (group_with c n (woven_bodies c n t (placed_by c n t gs))) else None

-- the group that groups make as frame n: by the first L1-current that is one of it, if all of them tell the same
abbrev pub woven : Config → ℕ → List Group → Option Group
woven c n gs = woven_by c n (signalling c n gs) gs
