-- Groups that grow.
use Rattle.std.proofs.Common.{◌≡◌, Bool, true, false, cond, List, [], ◌∷◌, ◌++◌, Option, Some, None, refl, ap, sym}
use Rattle.std.proofs.Common.{subst, ◌∙◌, append_assoc, append-nil}
use Rattle.std.specs.Prelude.{flat_map, option_to_list}
use Rattle.std.proofs.lemmas.List.Concat.{flat_map-append}
use Rattle.t2mi_packet.specs.declared.packet.Packet.{Packet}
use Rattle.frame_groups.specs.Groups.{is_same, Group, key_behind}
use Rattle.frame_groups.specs.Grouping.{Grouped, one_packet, one_more, joins, key_of, with_packet, grouped_from}
use Rattle.frame_groups.specs.Grouping.{no_groups, grouped, all_groups}
use Rattle.frame_groups.specs.declared.key.Key.{Key}
use Rattle.frame_groups.specs.Laws.{AreApart}

pub grouped_append : (g : Grouped) (ps qs : List Packet) → grouped_from g (ps ++ qs) ≡ grouped_from (grouped_from g ps)
    qs
grouped_append g [] qs = refl
grouped_append g (p ∷ ps) qs = grouped_append (with_packet g p) ps qs

-- one packet more
pub grouped_more : (ps : List Packet) (p : Packet) → grouped (ps ++ p ∷ []) ≡ with_packet (grouped ps) p
unfolding grouped
grouped_more ps p = grouped_append no_groups ps (p ∷ [])

-- the packets of groups
abbrev pub packets_of : List Group → List Packet
packets_of gs = flat_map (λ g. g.packets) gs

packets_push : (gs : List Group) (g : Group) → packets_of (gs ++ g ∷ []) ≡ packets_of gs ++ g.packets
packets_push gs g = flat_map-append (λ (g : Group). g.packets) gs (g ∷ [])
    ∙ ap (λ (l : List Packet). packets_of gs ++ l)
    (append-nil g.packets)

all_joined : (closed : List Group) (last : Option Group) (k : Key) (p : Packet)
    → packets_of (all_groups (joins closed last k p))
    ≡ packets_of (closed ++ option_to_list last) ++ p ∷ []
all_joined closed None k p = packets_push closed (one_packet k p) ∙ ap (λ (l : List Group). packets_of l ++ p ∷ [])
    (sym (append-nil closed))
all_joined closed (Some g) k p = go (is_same g.key k)
  where
    go : (t : Bool)
        → packets_of
        (all_groups
        (cond t (record { closed = closed; under_way = Some (one_more g p) })
        (record { closed = closed ++ g ∷ []; under_way = Some (one_packet k p) }))) ≡ packets_of (closed ++ g ∷ [])
        ++ p ∷ []
    go true =
        packets_push closed (one_more g p) ∙ sym (append_assoc (packets_of closed) g.packets (p ∷ []))
        ∙ ap (λ (l : List Packet). l ++ p ∷ []) (sym (packets_push closed g))
    go false = packets_push (closed ++ g ∷ []) (one_packet k p)

all_from : (ps : List Packet) (g : Grouped) → packets_of (all_groups (grouped_from g ps)) ≡ packets_of (all_groups g)
    ++ ps
all_from [] g = sym (append-nil _)
all_from (p ∷ ps) g =
    all_from ps (with_packet g p)
    ∙ ap (λ (l : List Packet). l ++ ps) (all_joined g.closed g.under_way (key_behind (key_of g.under_way) p) p)
    ∙ append_assoc (packets_of (all_groups g)) (p ∷ []) ps

-- a group more, or another with its key
apart_push : (gs : List Group) (g h : Group) → AreApart (gs ++ g ∷ []) → is_same g.key h.key ≡ false
    → AreApart ((gs ++ g ∷ []) ++ h ∷ [])
apart_push [] g h a e = (e, tt)
apart_push (x ∷ []) g h a e = (a.0, (e, tt))
apart_push (x ∷ y ∷ gs) g h a e = (a.0, apart_push (y ∷ gs) g h a.1 e)

apart_change : (gs : List Group) (g h : Group) → AreApart (gs ++ g ∷ []) → h.key ≡ g.key → AreApart (gs ++ h ∷ [])
apart_change [] g h a e = tt
apart_change (x ∷ []) g h a e = (subst (λ (k : Key). is_same x.key k ≡ false) (sym e) a.0, tt)
apart_change (x ∷ y ∷ gs) g h a e = (a.0, apart_change (y ∷ gs) g h a.1 e)

apart_from : (ps : List Packet) (closed : List Group) (h : Group) → AreApart (closed ++ h ∷ [])
    → AreApart (all_groups (grouped_from (record { closed = closed; under_way = Some h }) ps))
apart_from [] closed h a = a
apart_from (p ∷ ps) closed h a = go (λ closed h a. apart_from ps closed h a) (is_same h.key (key_behind (Some h.key) p))
    refl
  where
    go : ((closed : List Group) (h : Group) → AreApart (closed ++ h ∷ [])
        → AreApart (all_groups (grouped_from (record { closed = closed; under_way = Some h }) ps)))
        → (t : Bool) → is_same h.key (key_behind (Some h.key) p) ≡ t →
        AreApart
        (all_groups
        (grouped_from
        (cond t (record { closed = closed; under_way = Some (one_more h p) })
        (record { closed = closed ++ h ∷ []; under_way = Some (one_packet (key_behind (Some h.key) p) p) })) ps))
    go rest true e = rest closed (one_more h p) (apart_change closed h (one_more h p) a refl)
    go rest false e = rest (closed ++ h ∷ []) (one_packet (key_behind (Some h.key) p) p)
        (apart_push closed h (one_packet (key_behind (Some h.key) p) p) a e)

pub apart_all : (ps : List Packet) → AreApart (all_groups (grouped ps))
unfolding grouped
apart_all [] = tt
apart_all (p ∷ ps) = apart_from ps [] (one_packet (key_behind None p) p) tt

pub all_packets : (ps : List Packet) → packets_of (all_groups (grouped ps)) ≡ ps
unfolding grouped
all_packets ps = all_from ps no_groups
