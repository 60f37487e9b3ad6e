-- Streams of packets, of which those that all streams of a group share go once, in its common PLP; and each stream
-- again.
use Rattle.std.specs.Prelude.{ℕ, max, List, [], ◌∷◌, length, map, slice_get, is_some, if◌then◌else◌}
use Rattle.std.specs.List.{range_with_len}
use Rattle.std.specs.declared.option.Option.{Option}
use Rattle.plp_config.specs.declared.config.Config.{Config}
use Rattle.null_delete.specs.Deletion.{packet_at}
use Rattle.common_plp.specs.Groups.{is_common, common_of, group_of, own_places}
use Rattle.common_plp.specs.Shared.{common_packet, own_packet, joined_packet}

-- what each stream has in a slot
abbrev pub slot_of : List (List (List ℕ)) → ℕ → List (Option (List ℕ))
slot_of streams k = map (λ stream. slice_get stream k) streams

-- the slots of the longest stream
abbrev pub longest : List (List (List ℕ)) → ℕ
longest [] = 0
longest (stream ∷ streams) = max (length stream) (longest streams)

-- the stream of the common PLP of some streams: what they share, and null packets where they share none
abbrev pub common_stream : List (List (List ℕ)) → List (List ℕ)
common_stream streams = map (λ k. common_packet (slot_of streams k)) (range_with_len 0 (longest streams))

-- what stays of one of them: null packets where they share one
abbrev pub own_stream : List (List (List ℕ)) → List (List ℕ) → List (List ℕ)
own_stream streams input = map (λ k. own_packet (slot_of streams k) (packet_at input k))
    (range_with_len 0 (length input))

-- the streams of a group, by the inputs of the PLPs that are not common, each at the place of its PLP
abbrev pub group_streams : Config → (ℕ → List (List ℕ)) → ℕ → List (List (List ℕ))
group_streams c inputs group = map inputs (own_places c group)

-- the stream that goes in the PLP at a place. One without a common PLP keeps its input.
unfoldable pub split : Config → (ℕ → List (List ℕ)) → ℕ → List (List ℕ)
split c inputs plp =
    if is_common c plp then common_stream (group_streams c inputs (group_of c plp))
    else if is_some (common_of c plp) then own_stream (group_streams c inputs (group_of c plp)) (inputs plp)
    else inputs plp

-- a stream again, from that of the common PLP and its own, slot by slot
unfoldable pub joined : List (List ℕ) → List (List ℕ) → List (List ℕ)
joined common own = map (λ k. joined_packet (packet_at common k) (packet_at own k)) (range_with_len 0 (length own))
