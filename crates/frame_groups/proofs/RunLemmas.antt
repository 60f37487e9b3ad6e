-- Groups that grew packet by packet are the longest runs with one key.
use Rattle.std.proofs.Common.{◌≡◌, ℕ, Bool, true, false, cond, List, [], ◌∷◌, ◌++◌, Some, None, refl, ap, sym, subst}
use Rattle.std.proofs.Common.{◌∙◌, append_assoc}
use Rattle.std.specs.Prelude.{flat_map}
use Rattle.std.specs.List.{filter}
use Rattle.std.proofs.lemmas.Bool.{cond-true, cond-false}
use Rattle.t2mi_packet.specs.declared.packet.Packet.{Packet}
use Rattle.frame_groups.specs.declared.key.Key.{Key}
use Rattle.frame_groups.specs.Groups.{is_same, is_counted, key_behind, Keyed, keyed, Group, in_front, key_runs, groups}
use Rattle.frame_groups.specs.Grouping.{Grouped, one_packet, one_more, grouped_from, grouped, all_groups}
use Rattle.frame_groups.specs.Laws.{AreApart, AreRuns}
use Rattle.frame_groups.proofs.GroupLemmas.{all_packets, apart_all}
use Rattle.frame_groups.proofs.NumberLemmas.{same_key, is_same_self}

-- a group before others, one with the first if that has its key
abbrev glued : Group → List Group → List Group
glued h [] = h ∷ []
glued h (g ∷ gs) = cond (is_same h.key g.key) (record { key = h.key; packets = h.packets ++ g.packets } ∷ gs)
    (h ∷ g ∷ gs)

abbrev group_of : Key → List Packet → Group
group_of k ps = record { key = k; packets = ps }

abbrev keyed_as : Key → Packet → Keyed
keyed_as k p = record { key = k; packet = p }

-- a packet with a group's key, before others
goes_on : (k : Key) (ps : List Packet) (p : Packet) (gs : List Group) → is_same k k ≡ true
    → glued (group_of k (ps ++ p ∷ [])) gs
    ≡ glued (group_of k ps) (in_front (keyed_as k p) gs)
goes_on k ps p [] e = sym (cond-true (is_same k k) (group_of k (ps ++ p ∷ []) ∷ [])
    (group_of k ps ∷ group_of k (p ∷ []) ∷ []) e)
goes_on k ps p (g ∷ gs) e = go (is_same k g.key)
  where
    go : (t : Bool) → cond t (group_of k ((ps ++ p ∷ []) ++ g.packets) ∷ gs) (group_of k (ps ++ p ∷ []) ∷ g ∷ gs)
        ≡ glued (group_of k ps) (cond t (group_of k (p ∷ g.packets) ∷ gs) (group_of k (p ∷ []) ∷ g ∷ gs))
    go true =
        ap (λ (l : List Packet). group_of k l ∷ gs) (append_assoc ps (p ∷ []) g.packets)
        ∙ sym (cond-true (is_same k k) (group_of k (ps ++ p ∷ g.packets) ∷ gs)
        (group_of k ps ∷ group_of k (p ∷ g.packets) ∷ gs)
        e)
    go false = sym (cond-true (is_same k k) (group_of k (ps ++ p ∷ []) ∷ g ∷ gs)
        (group_of k ps ∷ group_of k (p ∷ []) ∷ g ∷ gs) e)

-- a packet with another key, before others
begins : (h : Group) (k : Key) (p : Packet) (gs : List Group) → is_same h.key k ≡ false → h ∷ glued (one_packet k p) gs
    ≡ glued h (in_front (keyed_as k p) gs)
begins h k p [] e = sym (cond-false (is_same h.key k) (group_of h.key (h.packets ++ p ∷ []) ∷ [])
    (h ∷ one_packet k p ∷ []) e)
begins h k p (g ∷ gs) e = go (is_same k g.key)
  where
    go : (t : Bool) → h ∷ cond t (group_of k (p ∷ g.packets) ∷ gs) (one_packet k p ∷ g ∷ gs)
        ≡ glued h (cond t (group_of k (p ∷ g.packets) ∷ gs) (group_of k (p ∷ []) ∷ g ∷ gs))
    go true =
        sym (cond-false (is_same h.key k) (group_of h.key (h.packets ++ p ∷ g.packets) ∷ gs)
        (h ∷ group_of k (p ∷ g.packets) ∷ gs) e)
    go false = sym (cond-false (is_same h.key k) (group_of h.key (h.packets ++ p ∷ []) ∷ g ∷ gs)
        (h ∷ one_packet k p ∷ g ∷ gs) e)

abbrev under_way : List Group → Group → Grouped
under_way closed h = record { closed = closed; under_way = Some h }

grown_from : (ps : List Packet) (closed : List Group) (h : Group) → all_groups (grouped_from (under_way closed h) ps)
    ≡ closed ++ glued h (key_runs (keyed (Some h.key) ps))
grown_from [] closed h = refl
grown_from (p ∷ ps) closed h = go (λ closed h. grown_from ps closed h) (is_same h.key (key_behind (Some h.key) p)) refl
  where
    k : Key
    k = key_behind (Some h.key) p

    go : ((closed : List Group) (h : Group) → all_groups (grouped_from (under_way closed h) ps)
        ≡ closed ++ glued h (key_runs (keyed (Some h.key) ps)))
        → (t : Bool) → is_same h.key k ≡ t →
        all_groups (grouped_from (cond t (under_way closed (one_more h p))
        (under_way (closed ++ h ∷ []) (one_packet k p))) ps)
        ≡ closed ++ glued h (in_front (keyed_as k p) (key_runs (keyed (Some k) ps)))
    go rest true e =
        rest closed (one_more h p)
        ∙ ap (λ (l : List Group). closed ++ l)
        (goes_on h.key h.packets p (key_runs (keyed (Some h.key) ps)) (is_same_self h.key h.key refl))
        ∙ ap (λ (l : Key). closed ++ glued h (in_front (keyed_as l p) (key_runs (keyed (Some l) ps))))
        (same_key h.key k e)
    go rest false e =
        rest (closed ++ h ∷ []) (one_packet k p)
        ∙ append_assoc closed (h ∷ []) (glued (one_packet k p) (key_runs (keyed (Some k) ps)))
        ∙ ap (λ (l : List Group). closed ++ l) (begins h k p (key_runs (keyed (Some k) ps)) e)

first_glued : (k : Key) (p : Packet) (gs : List Group) → glued (one_packet k p) gs ≡ in_front (keyed_as k p) gs
first_glued k p [] = refl
first_glued k p (g ∷ gs) = refl

grown_all : (ps : List Packet) → all_groups (grouped ps) ≡ key_runs (keyed None ps)
unfolding grouped
grown_all [] = refl
grown_all (p ∷ ps) =
    grown_from ps [] (one_packet (key_behind None p) p)
    ∙ first_glued (key_behind None p) p (key_runs (keyed (Some (key_behind None p)) ps))

pub grown : (frames : ℕ) (ps : List Packet) → all_groups (grouped (filter (is_counted frames) ps)) ≡ groups frames ps
unfolding groups
grown frames ps = grown_all (filter (is_counted frames) ps)

pub are_runs : (frames : ℕ) (ps : List Packet) → AreRuns frames ps
are_runs frames ps = record {
  all = ap (flat_map (λ (g : Group). g.packets)) (sym (grown frames ps)) ∙ all_packets (filter (is_counted frames) ps);
  apart = subst AreApart (grown frames ps) (apart_all (filter (is_counted frames) ps));
}
