-- Events from a group under way on, by what arrives next.
use Rattle.std.proofs.Common.{◌≡◌, ◌==◌, ℕ, Bool, true, false, cond, List, [], ◌∷◌, ◌++◌, Option, Some, None, refl, ap}
use Rattle.std.proofs.Common.{sym, ◌∙◌, append_assoc}
use Rattle.std.specs.List.{filter}
use Rattle.std.proofs.lemmas.Bool.{cond-true, cond-false, true≢false}
use Rattle.t2mi_packet.specs.declared.packet.Body.{Body}
use Rattle.t2mi_packet.specs.declared.packet.Body.TheVariants.{Block, L1Current, Timestamp, Other}
use Rattle.t2mi_packet.specs.declared.packet.Packet.{Packet}
use Rattle.frame_groups.specs.Groups.{Group, groups, is_counted, is_same, key_behind, body_key, stamp_key}
use Rattle.frame_groups.specs.Grouping.{Grouped, one_packet, one_more, joins, key_of, with_packet, grouped_from}
use Rattle.frame_groups.specs.Grouping.{grouped, all_groups}
use Rattle.frame_groups.specs.Laws.{without_last}
use Rattle.frame_groups.specs.Modulated.{Rules}
use Rattle.frame_groups.specs.declared.key.Key.{Key}
use Rattle.frame_groups.proofs.FrontLemmas.{goes_on}
use Rattle.frame_groups.proofs.NumberLemmas.{is_same_self}
use Rattle.frame_groups.proofs.RunLemmas.{grown}
use Rattle.feed_events.specs.Arrivals.{Arrival}
use Rattle.feed_events.specs.Arrivals.Arrival.{Came, Idle}
use Rattle.feed_events.specs.FeedEvents.{FeedEvent, number_of, event_of, numbered_from, in_first, between_idle}
use Rattle.feed_events.specs.FeedEvents.{closed_of, events_between}
use Rattle.feed_events.specs.FeedEvents.FeedEvent.{Silent}
use Rattle.feed_events.specs.Under.{groups_behind, events_under, events_behind}

-- ---- groups

-- with other groups in front
abbrev behind_groups : List Group → Grouped → Grouped
behind_groups gs g = record { closed = gs ++ g.closed; under_way = g.under_way }

joins_front : (gs closed : List Group) (u : Option Group) (k : Key) (p : Packet)
    → joins (gs ++ closed) u k p ≡ behind_groups gs (joins closed u k p)
joins_front gs closed None k p = refl
joins_front gs closed (Some g) k p = go (is_same g.key k)
  where
    go : (t : Bool)
        → cond t (record { closed = gs ++ closed; under_way = Some (one_more g p) })
        (record { closed = (gs ++ closed) ++ g ∷ []; under_way = Some (one_packet k p) })
        ≡ behind_groups gs (cond t (record { closed = closed; under_way = Some (one_more g p) })
        (record { closed = closed ++ g ∷ []; under_way = Some (one_packet k p) }))
    go true = refl
    go false = ap (λ (l : List Group). record { closed = l; under_way = Some (one_packet k p) })
        (append_assoc gs closed (g ∷ []))

grouped_front : (ps : List Packet) (gs : List Group) (g : Grouped) → grouped_from (behind_groups gs g)
    ps ≡ behind_groups gs (grouped_from g ps)
grouped_front [] gs g = refl
grouped_front (p ∷ ps) gs g =
    ap (λ (x : Grouped). grouped_from x ps) (joins_front gs g.closed g.under_way (key_behind (key_of g.under_way) p) p)
    ∙ grouped_front ps gs (with_packet g p)

-- a group in front of others
all_front : (ps : List Packet) (h g : Group)
    → all_groups (grouped_from (record { closed = h ∷ []; under_way = Some g }) ps)
    ≡ h ∷ all_groups (grouped_from (record { closed = []; under_way = Some g }) ps)
all_front ps h g = ap all_groups (grouped_front ps (h ∷ []) (record { closed = []; under_way = Some g }))

-- the key of a packet that ends a group is that behind none
stamp_ends : (k : Key) (superframe : ℕ) → is_same k (stamp_key (Some k) superframe) ≡ false
    → stamp_key (Some k) superframe
    ≡ stamp_key None superframe
stamp_ends k superframe = go (k.superframe == superframe)
  where
    go : (t : Bool) → is_same k (cond t k (record { superframe = superframe; frame = 0 })) ≡ false
        → cond t k (record { superframe = superframe; frame = 0 }) ≡ record { superframe = superframe; frame = 0 }
    go true e = absurd (true≢false (sym (is_same_self k k refl) ∙ e))
    go false e = refl

body_ends : (k : Key) (superframe : ℕ) (body : Body) → is_same k (body_key (Some k) superframe body) ≡ false
    → body_key (Some k) superframe body ≡ body_key None superframe body
body_ends k superframe (Block frame_idx plp_id first bits) e = refl
body_ends k superframe (L1Current frame_idx pre conf dynamic extension) e = refl
body_ends k superframe (Timestamp stamp) e = stamp_ends k superframe e
body_ends k superframe (Other packet_type bits) e = refl

key_ends : (k : Key) (p : Packet) → is_same k (key_behind (Some k) p) ≡ false
    → key_behind (Some k) p ≡ key_behind None p
key_ends k p e = body_ends k p.superframe p.body e

abbrev open_with : Group → Grouped
open_with g = record { closed = []; under_way = Some g }

kept : (frames : ℕ) (p : Packet) (ps : List Packet) → is_counted frames p ≡ true
    → filter (is_counted frames) (p ∷ ps) ≡ p ∷ filter (is_counted frames) ps
kept frames p ps e = cond-true (is_counted frames p) (p ∷ filter (is_counted frames) ps) (filter (is_counted frames) ps)
    e

passed_over : (frames : ℕ) (under : Option Group) (p : Packet) (ps : List Packet) → is_counted frames p ≡ false
    → groups_behind frames under (p ∷ ps) ≡ groups_behind frames under ps
passed_over frames under p ps e =
    ap (λ (l : List Packet). all_groups (grouped_from (record { closed = []; under_way = under }) l))
    (cond-false (is_counted frames p) (p ∷ filter (is_counted frames) ps) (filter (is_counted frames) ps) e)

begun : (frames : ℕ) (p : Packet) (ps : List Packet) → is_counted frames p ≡ true
    → groups_behind frames None (p ∷ ps) ≡ groups_behind frames (Some (one_packet (key_behind None p) p)) ps
begun frames p ps e = ap (λ (l : List Packet). all_groups (grouped_from (record { closed = []; under_way = None }) l))
    (kept frames p ps e)

added : (frames : ℕ) (g : Group) (p : Packet) (ps : List Packet) → is_counted frames p ≡ true
    → is_same g.key (key_behind (Some g.key) p) ≡ true
    → groups_behind frames (Some g) (p ∷ ps) ≡ groups_behind frames (Some (one_more g p)) ps
added frames g p ps e same =
    ap (λ (l : List Packet). all_groups (grouped_from (open_with g) l)) (kept frames p ps e)
    ∙ ap (λ (x : Grouped). all_groups (grouped_from x (filter (is_counted frames) ps)))
    (cond-true (is_same g.key (key_behind (Some g.key) p)) (open_with (one_more g p))
    (record { closed = g ∷ []; under_way = Some (one_packet (key_behind (Some g.key) p) p) }) same)

closed_by : (frames : ℕ) (g : Group) (p : Packet) (ps : List Packet) → is_counted frames p ≡ true
    → is_same g.key (key_behind (Some g.key) p) ≡ false
    → groups_behind frames (Some g) (p ∷ ps) ≡ g ∷ groups_behind frames None (p ∷ ps)
closed_by frames g p ps e other =
    ap (λ (l : List Packet). all_groups (grouped_from (open_with g) l)) (kept frames p ps e)
    ∙ ap (λ (x : Grouped). all_groups (grouped_from x (filter (is_counted frames) ps)))
    (cond-false (is_same g.key (key_behind (Some g.key) p)) (open_with (one_more g p))
    (record { closed = g ∷ []; under_way = Some (one_packet (key_behind (Some g.key) p) p) }) other)
    ∙ all_front (filter (is_counted frames) ps) g (one_packet (key_behind (Some g.key) p) p)
    ∙ ap (λ (k : Key). g ∷ groups_behind frames (Some (one_packet k p)) ps) (key_ends g.key p other)
    ∙ ap (λ (l : List Group). g ∷ l) (sym (begun frames p ps e))

-- a group in front of others that are not none
closed_front : (ended : Bool) (frames : ℕ) (g : Group) (p : Packet) (ps : List Packet) → is_counted frames p ≡ true
    → closed_of ended (g ∷ groups_behind frames None (p ∷ ps)) ≡ g ∷ closed_of ended
    (groups_behind frames None (p ∷ ps))
closed_front true frames g p ps e = refl
closed_front false frames g p ps e =
    let h = goes_on (filter (is_counted frames) ps) [] (one_packet (key_behind None p) p) in
    let all : groups_behind frames None (p ∷ ps) ≡ h.group ∷ h.more = begun frames p ps e ∙ h.all_are in
    ap (λ (l : List Group). without_last (g ∷ l)) all ∙ ap (λ (l : List Group). g ∷ without_last l) (sym all)

-- ---- events

pub record Pieces (xs : List Arrival) : Type 0 where
  pub first : List Packet
  pub more : List (List Packet)
  pub are : between_idle xs ≡ first ∷ more

pieces : (xs : List Arrival) → Pieces xs
pieces [] = record { first = []; more = []; are = refl }
pieces (Came p ∷ xs) = let r = pieces xs in record { first = p ∷ r.first; more = r.more; are = ap (in_first p) r.are }
pieces (Idle ∷ xs) = record { first = []; more = between_idle xs; are = refl }

-- a packet goes into the group under way
moved_in : (r : Rules) (ended : Bool) (under new : Option Group) (last : Option ℕ) (p : Packet) (ps : List Packet)
    (more : List (List Packet)) → groups_behind r.frames under (p ∷ ps) ≡ groups_behind r.frames new ps
    → events_under r ended under last ((p ∷ ps) ∷ more) ≡ events_under r ended new last (ps ∷ more)
moved_in r ended under new last p ps [] e = ap (λ (l : List Group). numbered_from r last (closed_of ended l)) e
moved_in r ended under new last p ps (qs ∷ more) e =
    ap (λ (l : List Group). numbered_from r last l ++ Silent ∷ events_between r ended (qs ∷ more)) e

pub moved : (r : Rules) (ended : Bool) (under new : Option Group) (last : Option ℕ) (p : Packet) (xs : List Arrival)
    → ((ps : List Packet) → groups_behind r.frames under (p ∷ ps) ≡ groups_behind r.frames new ps)
    → events_behind r ended under last (Came p ∷ xs) ≡ events_behind r ended new last xs
moved r ended under new last p xs e =
    let s = pieces xs in
    ap (λ (l : List (List Packet)). events_under r ended under last (in_first p l)) s.are
    ∙ moved_in r ended under new last p s.first s.more (e s.first)
    ∙ ap (events_under r ended new last) (sym s.are)

-- a packet that belongs to no frame
pub skip_event : (r : Rules) (ended : Bool) (under : Option Group) (last : Option ℕ) (p : Packet) (xs : List Arrival)
    → is_counted r.frames p ≡ false → events_behind r ended under last (Came p ∷ xs) ≡ events_behind
    r ended under last xs
skip_event r ended under last p xs e = moved r ended under under last p xs (λ ps. passed_over r.frames under p ps e)

-- a packet that begins a group
pub begin_event : (r : Rules) (ended : Bool) (last : Option ℕ) (p : Packet) (xs : List Arrival)
    → is_counted r.frames p ≡ true
    → events_behind r ended None last (Came p ∷ xs)
    ≡ events_behind r ended (Some (one_packet (key_behind None p) p)) last xs
begin_event r ended last p xs e = moved r ended None (Some (one_packet (key_behind None p) p)) last p
    xs (λ ps. begun r.frames p ps e)

-- a packet of the group under way
pub add_event : (r : Rules) (ended : Bool) (g : Group) (last : Option ℕ) (p : Packet) (xs : List Arrival)
    → is_counted r.frames p ≡ true → is_same g.key (key_behind (Some g.key) p) ≡ true
    → events_behind r ended (Some g) last (Came p ∷ xs) ≡ events_behind r ended (Some (one_more g p)) last xs
add_event r ended g last p xs e same = moved r ended (Some g) (Some (one_more g p)) last p xs
    (λ ps. added r.frames g p ps e same)

-- a packet that closes it
close_in : (r : Rules) (ended : Bool) (g : Group) (last : Option ℕ) (p : Packet) (ps : List Packet)
    (more : List (List Packet))
    → is_counted r.frames p ≡ true → is_same g.key (key_behind (Some g.key) p) ≡ false
    → events_under r ended (Some g) last ((p ∷ ps) ∷ more)
    ≡ event_of (number_of r last g) g ++ events_under r ended None (number_of r last g) ((p ∷ ps) ∷ more)
close_in r ended g last p ps [] e other =
    ap (λ (l : List Group). numbered_from r last (closed_of ended l)) (closed_by r.frames g p ps e other)
    ∙ ap (numbered_from r last) (closed_front ended r.frames g p ps e)
close_in r ended g last p ps (qs ∷ more) e other =
    ap (λ (l : List Group). numbered_from r last l ++ Silent ∷ events_between r ended (qs ∷ more))
    (closed_by r.frames g p ps e other)
    ∙ append_assoc (event_of (number_of r last g) g) (numbered_from r (number_of r last g)
    (groups_behind r.frames None (p ∷ ps)))
    (Silent ∷ events_between r ended (qs ∷ more))

pub close_event : (r : Rules) (ended : Bool) (g : Group) (last : Option ℕ) (p : Packet) (xs : List Arrival)
    → is_counted r.frames p ≡ true → is_same g.key (key_behind (Some g.key) p) ≡ false
    → events_behind r ended (Some g) last (Came p ∷ xs)
    ≡ event_of (number_of r last g) g ++ events_behind r ended None (number_of r last g) (Came p ∷ xs)
close_event r ended g last p xs e other =
    let s = pieces xs in
    let n = number_of r last g in
    ap (λ (l : List (List Packet)). events_under r ended (Some g) last (in_first p l)) s.are
    ∙ close_in r ended g last p s.first s.more e other
    ∙ ap (λ (l : List (List Packet)). event_of n g ++ events_under r ended None n (in_first p l)) (sym s.are)

-- an idle unit closes it too
pub idle_event : (r : Rules) (ended : Bool) (g : Group) (last : Option ℕ) (xs : List Arrival)
    → events_behind r ended (Some g) last (Idle ∷ xs)
    ≡ event_of (number_of r last g) g ++ events_behind r ended None (number_of r last g) (Idle ∷ xs)
idle_event r ended g last xs =
    let s = pieces xs in
    let n = number_of r last g in
    ap (λ (l : List (List Packet)). events_under r ended (Some g) last ([] ∷ l)) s.are
    ∙ append_assoc (event_of n g) [] (Silent ∷ events_between r ended (s.first ∷ s.more))
    ∙ ap (λ (l : List (List Packet)). event_of n g ++ events_under r ended None n ([] ∷ l)) (sym s.are)

-- behind none there are all groups
all_behind : (frames : ℕ) (ps : List Packet) → groups_behind frames None ps ≡ groups frames ps
unfolding grouped
all_behind frames ps = grown frames ps

none_under : (r : Rules) (ended : Bool) (ps : List Packet) (more : List (List Packet))
    → events_between r ended (ps ∷ more) ≡ events_under r ended None None (ps ∷ more)
none_under r ended ps [] = ap (λ (l : List Group). numbered_from r None (closed_of ended l))
    (sym (all_behind r.frames ps))
none_under r ended ps (qs ∷ more) =
    ap (λ (l : List Group). numbered_from r None l ++ Silent ∷ events_between r ended (qs ∷ more))
    (sym (all_behind r.frames ps))

pub first_events : (r : Rules) (ended : Bool) (xs : List Arrival)
    → events_between r ended (between_idle xs) ≡ events_behind r ended None None xs
first_events r ended xs =
    let s = pieces xs in
    ap (events_between r ended) s.are ∙ none_under r ended s.first s.more
    ∙ ap (events_under r ended None None) (sym s.are)

-- a silence
pub silent_event : (r : Rules) (ended : Bool) (last : Option ℕ) (xs : List Arrival)
    → events_behind r ended None last (Idle ∷ xs) ≡ Silent ∷ events_behind r ended None None xs
silent_event r ended last xs =
    let s = pieces xs in
    ap (λ (l : List (List Packet)). events_under r ended None last ([] ∷ l)) s.are
    ∙ ap (λ (l : List FeedEvent). Silent ∷ l)
    (none_under r ended s.first s.more ∙ ap (events_under r ended None None) (sym s.are))

-- the end closes it
pub end_event : (r : Rules) (g : Group) (last : Option ℕ)
    → events_behind r true (Some g) last [] ≡ event_of (number_of r last g) g ++ events_behind r true
    None (number_of r last g) []
end_event r g last = refl

-- before the end nothing is known of it
pub no_event : (r : Rules) (under : Option Group) (last : Option ℕ) → events_behind r false under last [] ≡ []
no_event r None last = refl
no_event r (Some g) last = refl
