-- Where the groups of a feed are, by what arrives.
use Rattle.std.proofs.Common.{◌≡◌, Bool, true, false, List, [], ◌∷◌, ◌++◌, ◌||◌, Option, Some, None, refl, ap, ap₂, sym}
use Rattle.std.proofs.Common.{◌∙◌}
use Rattle.std.specs.Prelude.{is_some}
use Rattle.std.proofs.lemmas.Bool.{true≢false}
use Rattle.std.proofs.Math.Bool.{or_assoc}
use Rattle.std.proofs.lemmas.Option.{same_Some}
use Rattle.terms.proofs.OptionLemmas.{none_some}
use Rattle.t2mi_packet.specs.declared.packet.Packet.{Packet}
use Rattle.frame_groups.specs.Groups.{Group, is_counted, is_same, key_behind}
use Rattle.frame_groups.specs.Grouping.{one_packet, one_more, key_of}
use Rattle.frame_groups.specs.Modulated.{Numbered, Rules}
use Rattle.frame_groups.specs.declared.key.Key.{Key}
use Rattle.feed_events.specs.Arrivals.{Arrival}
use Rattle.feed_events.specs.Arrivals.Arrival.{Came, Idle}
use Rattle.feed_events.specs.FeedEvents.{FeedEvent, is_stamp, has_stamp}
use Rattle.feed_events.specs.FeedEvents.FeedEvent.{Silent}
use Rattle.feed_events.specs.Under.{IsHeld, IsClosed, SameIfClosed, Went, Ended, events_behind, head_events, under_of}
use Rattle.feed_events.specs.Under.{course_events}
use Rattle.feed_events.specs.declared.course.Course.{Course}
use Rattle.feed_events.specs.declared.course.Head.{Head}
use Rattle.feed_events.specs.declared.course.Head.TheVariants as head
use Rattle.feed_events.proofs.UnderLemmas.{skip_event, begin_event, add_event, close_event, idle_event, silent_event}
use Rattle.feed_events.proofs.UnderLemmas.{end_event}

-- all events behind what is next
course_at : (r : Rules) (c : Course) (g : Option Group) (u : Bool) (ended : Bool) (xs : List Arrival)
    → c.head ≡ head.Unknown
    → c.under_way ≡ u → course_events r c g ended xs ≡ events_behind r ended (under_of u g) c.last xs
course_at r c g u ended xs h e =
    ap₂ (λ (k : Head) (t : Bool). head_events k g ++ events_behind r ended (under_of t g) c.last xs) h e

-- a group is held, if it has a key
pub record HasGroup (g : Option Group) : Type 0 where
  pub group : Group
  pub is : g ≡ Some group

pub has_group : (g : Option Group) (key : Option Key) → key_of g ≡ key → is_some key ≡ true → HasGroup g
has_group None key e some = absurd (true≢false (sym some ∙ ap is_some (sym e)))
has_group (Some h) key e some = record { group = h; is = refl }

or_false : (t : Bool) → t ≡ (t || false)
or_false true = refl
or_false false = refl

stamp_more : (ps : List Packet) (p : Packet) → has_stamp (ps ++ p ∷ []) ≡ (has_stamp ps || is_stamp p)
stamp_more [] p = sym (or_false (is_stamp p))
stamp_more (q ∷ ps) p = ap (λ (t : Bool). is_stamp q || t) (stamp_more ps p)
    ∙ sym (or_assoc (is_stamp q) (has_stamp ps) (is_stamp p))

-- a packet that belongs to no frame
pub skipped : (Holds : List Numbered → Option Group → Type 0) (r : Rules) (c : Course) (p : Packet) (g : Option Group)
    → is_counted r.frames p ≡ false → IsHeld Holds c g → Went Holds r c (course_events r c g) (Came p ∷ []) []
skipped Holds r c p g e h = record {
  group = g;
  held = h;
  same = λ ended xs. ap (λ (l : List FeedEvent). head_events c.head g ++ l)
      (sym (skip_event r ended (under_of c.under_way g) c.last p xs e));
}

-- a packet that begins a group
pub begun : (Holds : List Numbered → Option Group → Type 0) (r : Rules) (c : Course) (own : List Numbered)
    (p : Packet) (k : Key)
    (stamped : Bool) (g : Option Group) → c.under_way ≡ false → c.head ≡ head.Unknown → is_counted r.frames p ≡ true
    → k ≡ key_behind None p → stamped ≡ is_stamp p → Holds own (Some (one_packet k p))
    → Went Holds r (record { head = head.Unknown; under_way = true; stamped = stamped; last = c.last })
    (course_events r c g)
    (Came p ∷ []) []
begun Holds r c own p k stamped g none unknown counted key stamp holds = record {
  group = Some (one_packet k p);
  held = record {
    own = own;
    holds = holds;
    stamped = λ _ h e. stamp ∙ or_false (is_stamp p) ∙ ap (λ (x : Group). has_stamp x.packets)
        (same_Some (one_packet k p) h e);
  };
  same = λ ended xs.
      ap (λ (x : Key). events_behind r ended (Some (one_packet x p)) c.last xs) key
      ∙ sym (course_at r c g false ended (Came p ∷ xs) unknown none ∙ begin_event r ended c.last p xs counted);
}

-- a packet of the group under way
pub added : (Holds HoldsNew : List Numbered → Option Group → Type 0) (r : Rules) (c : Course) (p : Packet)
    (stamped : Bool)
    (g : Option Group) (h : Group) → g ≡ Some h → c.under_way ≡ true → c.head ≡ head.Unknown
    → is_counted r.frames p ≡ true
    → is_same h.key (key_behind (Some h.key) p) ≡ true → stamped ≡ (c.stamped || is_stamp p)
    → (held : IsHeld Holds c g) → HoldsNew held.own (Some (one_more h p))
    → Went HoldsNew r (record c { stamped = stamped }) (course_events r c g) (Came p ∷ []) []
added Holds HoldsNew r c p stamped g h is under unknown counted same stamp held holds = record {
  group = Some (one_more h p);
  held = record {
    own = held.own;
    holds = holds;
    stamped = λ _ x e.
        stamp
        ∙ ap (λ (t : Bool). t || is_stamp p) (held.stamped under h is)
        ∙ sym (stamp_more h.packets p)
        ∙ ap (λ (y : Group). has_stamp y.packets) (same_Some (one_more h p) x e);
  };
  same = λ ended xs.
      course_at r (record c { stamped = stamped }) (Some (one_more h p)) true ended xs unknown under
      ∙ sym (add_event r ended h c.last p xs counted same)
      ∙ ap (λ (o : Option Group). events_behind r ended o c.last (Came p ∷ xs)) (sym is)
      ∙ sym (course_at r c g true ended (Came p ∷ xs) unknown under);
}

-- what arrives closes it
pub packet_closes : (r : Rules) (c : Course) (g : Option Group) (p : Packet) (ended : Bool) (xs : List Arrival)
    → is_counted r.frames p ≡ true
    → ((h : Group) → g ≡ Some h → c.under_way ≡ true → is_same h.key (key_behind (Some h.key) p) ≡ false)
    → IsClosed r c g ended (Came p ∷ xs)
packet_closes r c g p ended xs counted other = λ h e. close_event r ended h c.last p xs counted
    (under c.under_way refl h e)
  where
    under : (t : Bool) → c.under_way ≡ t → (h : Group) → under_of t g ≡ Some h
        → is_same h.key (key_behind (Some h.key) p) ≡ false
    under true e h is = other h is e
    under false e h is = none_some h is

-- a packet closes it, and comes again
pub waits : (Holds HoldsNew : List Numbered → Option Group → Type 0) (r : Rules) (c d : Course) (p : Packet)
    (g : Option Group)
    → SameIfClosed r c d g → is_counted r.frames p ≡ true
    → ((h : Group) → g ≡ Some h → c.under_way ≡ true → is_same h.key (key_behind (Some h.key) p) ≡ false)
    → IsHeld HoldsNew d g → Went HoldsNew r d (course_events r c g) (Came p ∷ []) (Came p ∷ [])
waits Holds HoldsNew r c d p g same counted other held = record {
  group = g;
  held = held;
  same = λ ended xs. same ended (Came p ∷ xs) (packet_closes r c g p ended xs counted other);
}

-- or begins the next at once
pub then_begun : (HoldsNew : List Numbered → Option Group → Type 0) (r : Rules) (c d e : Course) (p : Packet)
    (g : Option Group)
    → SameIfClosed r c d g → is_counted r.frames p ≡ true
    → ((h : Group) → g ≡ Some h → c.under_way ≡ true → is_same h.key (key_behind (Some h.key) p) ≡ false)
    → Went HoldsNew r e (course_events r d g) (Came p ∷ []) [] → Went HoldsNew r e (course_events r c g)
    (Came p ∷ []) []
then_begun HoldsNew r c d e p g same counted other w = record {
  group = w.group;
  held = w.held;
  same = λ ended xs. w.same ended xs ∙ same ended (Came p ∷ xs) (packet_closes r c g p ended xs counted other);
}

-- an idle unit
pub idle_closes : (r : Rules) (c : Course) (g : Option Group) (ended : Bool) (xs : List Arrival)
    → IsClosed r c g ended (Idle ∷ xs)
idle_closes r c g ended xs = λ h e. idle_event r ended h c.last xs

pub waits_idle : (HoldsNew : List Numbered → Option Group → Type 0) (r : Rules) (c d : Course) (g : Option Group)
    → SameIfClosed r c d g → IsHeld HoldsNew d g → Went HoldsNew r d (course_events r c g) (Idle ∷ []) (Idle ∷ [])
waits_idle HoldsNew r c d g same held = record {
  group = g;
  held = held;
  same = λ ended xs. same ended (Idle ∷ xs) (idle_closes r c g ended xs);
}

abbrev pub silent_course : Course → Course
silent_course d = record { head = head.Silent; under_way = d.under_way; stamped = d.stamped; last = None }

pub silenced : (HoldsNew : List Numbered → Option Group → Type 0) (r : Rules) (c d : Course) (g : Option Group)
    → SameIfClosed r c d g → d.under_way ≡ false → d.head ≡ head.Unknown → IsHeld HoldsNew d g
    → Went HoldsNew r (silent_course d) (course_events r c g) (Idle ∷ []) []
silenced HoldsNew r c d g same none unknown held = record {
  group = g;
  held = record { own = held.own; holds = held.holds; stamped = held.stamped };
  same = λ ended xs.
      ap (λ (t : Bool). Silent ∷ events_behind r ended (under_of t g) None xs) none
      ∙ sym (silent_event r ended d.last xs)
      ∙ sym (course_at r d g false ended (Idle ∷ xs) unknown none)
      ∙ same ended (Idle ∷ xs) (idle_closes r c g ended xs);
}

-- the end
end_closes : (r : Rules) (c : Course) (g : Option Group) → IsClosed r c g true []
end_closes r c g = λ h e. end_event r h c.last

pub ended_with : (HoldsNew : List Numbered → Option Group → Type 0) (r : Rules) (c d : Course) (g : Option Group)
    → SameIfClosed r c d g → IsHeld HoldsNew d g → Ended HoldsNew r d (course_events r c g)
ended_with HoldsNew r c d g same held = record { group = g; held = held; same = same true [] (end_closes r c g) }

pub ended_over : (HoldsNew : List Numbered → Option Group → Type 0) (r : Rules) (c d : Course) (g : Option Group)
    → SameIfClosed r c d g → d.under_way ≡ false → d.head ≡ head.Unknown → IsHeld HoldsNew d g
    → Ended HoldsNew r (record d { head = head.Over }) (course_events r c g)
ended_over HoldsNew r c d g same none unknown held = record {
  group = g;
  held = record { own = held.own; holds = held.holds; stamped = held.stamped };
  same =
      ap (λ (k : Head). head_events k g ++ events_behind r true (under_of d.under_way g) d.last []) (sym unknown)
      ∙ same true [] (end_closes r c g);
}
