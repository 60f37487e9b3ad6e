-- How groups grow, packet by packet.
use Rattle.std.specs.Prelude.{List, [], ◌∷◌, ◌++◌, Option, Some, None, if◌then◌else◌, option_map, option_to_list}
use Rattle.frame_groups.specs.declared.key.Key.{Key}
use Rattle.frame_groups.specs.Groups.{is_same, key_behind, Group}
use Rattle.t2mi_packet.specs.declared.packet.Packet.{Packet}

abbrev pub one_packet : Key → Packet → Group
one_packet k p = record { key = k; packets = p ∷ [] }

abbrev pub one_more : Group → Packet → Group
one_more g p = record { key = g.key; packets = g.packets ++ p ∷ [] }

-- the groups of packets: those that are closed, and the last one
pub record Grouped : Type 0 where
  pub closed : List Group
  pub under_way : Option Group

-- a packet with a key
abbrev pub joins : List Group → Option Group → Key → Packet → Grouped
joins closed None k p = record { closed = closed; under_way = Some (one_packet k p) }
joins closed (Some g) k p =
    if is_same g.key k then record { closed = closed; under_way = Some (one_more g p) }
    else record { closed = closed ++ g ∷ []; under_way = Some (one_packet k p) }

abbrev pub key_of : Option Group → Option Key
key_of group = option_map (λ g. g.key) group

-- one packet more: it goes on with the last group if it has the same key, else it begins one
abbrev pub with_packet : Grouped → Packet → Grouped
with_packet g p = joins g.closed g.under_way (key_behind (key_of g.under_way) p) p

abbrev pub grouped_from : Grouped → List Packet → Grouped
grouped_from g [] = g
grouped_from g (p ∷ ps) = grouped_from (with_packet g p) ps

abbrev pub no_groups : Grouped
no_groups = record { closed = []; under_way = None }

unfoldable pub grouped : List Packet → Grouped
grouped ps = grouped_from no_groups ps

abbrev pub all_groups : Grouped → List Group
all_groups g = g.closed ++ option_to_list g.under_way
