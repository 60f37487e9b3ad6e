-- One feed: what it shows, and how it can go on.
use Rattle.std.proofs.Common.{◌≡◌, ℕ, ◌%◌, ◌<◌, ◌≤◌, Bool, true, false, List, [], ◌∷◌, ◌++◌, length, drop}
use Rattle.std.proofs.Common.{Option, Some, refl, ap, sym, subst, ◌∙◌, arith, append-nil, append_assoc, length-append}
use Rattle.std.proofs.Math.Seq.{drop-append_seam}
use Rattle.std.proofs.lemmas.Option.{same_Some}
use Rattle.plp_config.specs.declared.config.Config.{Config}
use Rattle.ts_packet.specs.declared.sizes.TheConstants.{SIZE}
use Rattle.t2mi_stream.specs.Events.{UnpiperEvent, fed}
use Rattle.t2mi_stream.specs.UnpiperStandsFor.{UnpiperStandsFor, fed_len}
use Rattle.t2mi_stream.specs.declared.unpiper.Unpiper.{Unpiper}
use Rattle.frame_groups.specs.Groups.{Group}
use Rattle.frame_groups.specs.Modulated.{Rules}
use Rattle.frame_groups.specs.Tests.{rules}
use Rattle.feed_events.specs.Arrivals.{Arrival}
use Rattle.feed_events.specs.FeedEvents.{FeedEvent, feed_events}
use Rattle.feed_events.specs.FeedEvents.FeedEvent.{Has}
use Rattle.feed_events.specs.StandsFor.{EventFeedStandsFor, CanBecome, IsNext, arrivals_behind, has_ended, head_of}
use Rattle.feed_events.specs.StandsFor.{arrivals_left, fed_of}
use Rattle.feed_events.specs.Under.{course_events}
use Rattle.feed_events.specs.declared.course.Head.{Head}
use Rattle.feed_events.specs.declared.course.Head.TheVariants as head
use Rattle.feed_events.proofs.ArrivalLemmas.{behind_none}
use Rattle.mended_frames.specs.Heads.{Begins}
use Rattle.mended_frames.specs.Picks.{Coming}
use Rattle.frame_weave.specs.contracts.group.MarkedGroupOpenGroup.TheImpl as marked
use Rattle.mended_frames.specs.StandsFor.{Feed}
use Rattle.mend_run.specs.Row.{Goes, Shows, FeedHas, rules_of}

-- ---- how many bytes were fed

taken_is : (u : Unpiper) (pid : ℕ) (events : List UnpiperEvent) → UnpiperStandsFor u pid events
    → fed_len u ≡ length (fed events)
unfolding UnpiperStandsFor
taken_is u pid events s = s.1.taken

pub fed_most : (f : Feed) (bytes : List ℕ) (gone : List FeedEvent) → EventFeedStandsFor marked.ghosts f bytes gone
    → fed_of f ≤ length bytes
fed_most f bytes gone h =
    let e = taken_is f.unpiper _ h.events h.stands in
    omega (arith, e, length-append (fed h.events) h.tail, ap length h.bytes_are)

pub fed_all : (f : Feed) (bytes : List ℕ) (gone : List FeedEvent) → EventFeedStandsFor marked.ghosts f bytes gone
    → has_ended f ≡ false → fed_of f ≡ length bytes
fed_all f bytes gone h going =
    let e = taken_is f.unpiper _ h.events h.stands in
    let none = ap length (h.no_tail going) in
    omega (arith, e, none, length-append (fed h.events) h.tail, ap length h.bytes_are)

-- ---- what it can become

-- It can go on so, behind some bytes.
pub record CanGo (over : Bool) (pid : ℕ) (bytes : List ℕ) (ended : Bool) (all : List ℕ) : Type 0 where
  pub later : List Arrival
  pub can : CanBecome over pid bytes ended all later

-- So how it can go on now it could before, behind fewer bytes.
pub goes_back : (c : Config) (f g : Feed) (bytes piece new : List ℕ) (gone : List FeedEvent) → new ≡ bytes ++ piece
    → has_ended f ≡ false → (over : Bool) → has_ended g ≡ over → (x y : Coming) → Goes c g new gone x y
    → Goes c f bytes gone x y
goes_back c f g bytes piece new gone is going over ends x y go =
    let w = by over (rw (ends, is) at go.can) in
    record {
      all = go.all;
      later = w.later;
      can = rw going w.can;
      is = go.is;
      parts = go.parts;
      over = go.over;
    }
  where
    by : (b : Bool) → CanBecome b c.pid (bytes ++ piece) x.over go.all go.later → CanGo false c.pid bytes x.over go.all
    by false can = record {
      later = arrivals_behind c.pid bytes (piece ++ can.0);
      can = (piece ++ can.0, can.1 ∙ append_assoc bytes piece can.0, refl);
    }
    by true can = record { later = arrivals_behind c.pid bytes piece; can = (piece, can.1, refl) }

-- what it stands for, by its rules and its end
pub has_now : (c : Config) (f g : Feed) (bytes new : List ℕ) (ended now : Bool) (gone : List FeedEvent)
    → FeedHas c f bytes ended gone → marked.ghosts.rules g.frames.group ≡ marked.ghosts.rules f.frames.group
    → (EventFeedStandsFor marked.ghosts f bytes gone → EventFeedStandsFor marked.ghosts g new gone) → has_ended g ≡ now
    → Shows g
    → FeedHas c g new now gone
has_now c f g bytes new ended now gone h rules stands end shows = record {
  network = ap (λ (r : Rules). r.network) rules ∙ h.network;
  stands = stands h.stands;
  end = end;
  shows = shows;
}

-- it has some way to go on
pub some_way : (over : Bool) (pid : ℕ) (bytes : List ℕ) → CanGo over pid bytes over bytes
some_way false pid bytes = record { later = arrivals_behind pid bytes []; can = ([], sym (append-nil bytes), refl) }
some_way true pid bytes = record { later = []; can = (refl, refl, refl) }

-- ---- what is not known yet

-- If nothing is known but the events that were passed, part of a unit more makes nothing known.
pub part_none : (f : Feed) → head_of f ≡ head.Unknown → (bytes part : List ℕ) (gone : List FeedEvent)
    → EventFeedStandsFor marked.ghosts f bytes gone → feed_events (rules_of f) false bytes ≡ gone → length part < SIZE
    → feed_events (rules_of f) false (bytes ++ part) ≡ gone
part_none f e bytes part gone s none short =
    let r = rules_of f in
    let pid = r.network.pid in
    let going : has_ended f ≡ false = (f.settled e).2 in
    let is : bytes ≡ fed s.events =
    s.bytes_are ∙ ap (λ (l : List ℕ). fed s.events ++ l) (s.no_tail going) ∙ append-nil (fed s.events) in
    let whole : length bytes % SIZE ≡ 0 = ap (λ (l : List ℕ). length l % SIZE) is ∙ s.whole in
    let at : (tail : List ℕ) → length tail < SIZE → feed_events r false (bytes ++ tail)
    ≡ gone ++ course_events r f.frames.course s.group false (arrivals_left pid s.events f.idle ++ []) =
    λ tail few. s.all false (bytes ++ tail) (arrivals_behind pid bytes tail)
    (subst (λ (b : Bool). CanBecome b pid bytes false (bytes ++ tail) (arrivals_behind pid bytes tail)) (sym going)
    (tail, refl, refl))
    ∙ ap (λ (l : List Arrival). gone ++ course_events r f.frames.course s.group false
    (arrivals_left pid s.events f.idle ++ l)) (behind_none pid bytes tail whole few) in
    at part short ∙ sym (at [] (omega arith)) ∙ ap (feed_events r false) (append-nil bytes) ∙ none

-- ---- what is next

pub behind_front : (xs ys zs : List FeedEvent) → xs ++ ys ≡ xs ++ zs → ys ≡ zs
behind_front xs ys zs e = sym (drop-append_seam xs ys) ∙ ap (drop (length xs)) e ∙ drop-append_seam xs zs

begins_by : (h : Head) (g : Option Group) (ended : Bool) (gone all : List FeedEvent) (y : Coming)
    → IsNext h g ended gone all
    → all ≡ gone ++ y.events → y.over ≡ ended → Begins h y
begins_by head.Unknown g ended gone all y next parts over = tt
begins_by (head.Frame n) g ended gone all y next parts over = (
  next.0,
  next.2.0,
  behind_front gone y.events _ (sym parts
      ∙ next.2.1),
)
begins_by head.Silent g ended gone all y next parts over = (next.0, behind_front gone y.events _ (sym parts ∙ next.1))
begins_by head.Over g ended gone all y next parts over = (
  behind_front gone y.events [] (sym parts ∙ next.1 ∙ sym (append-nil gone)),
  over ∙ next.0,
)

next_as : (c : Config) (f : Feed) (bytes : List ℕ) (ended : Bool) (gone : List FeedEvent)
    (h : FeedHas c f bytes ended gone)
    (over : Bool) (all : List ℕ) (later : List Arrival) → CanBecome (has_ended f) c.pid bytes over all later
    → IsNext (head_of f) h.stands.group over gone (feed_events (rules c) over all)
next_as c f bytes ended gone h over all later can =
    subst (λ (k : Config). IsNext (head_of f) h.stands.group over gone (feed_events (rules k) over all)) h.network
    (h.shows.next bytes gone h.stands over all later
    (subst (λ (k : Config). CanBecome (has_ended f) k.pid bytes over all later) (sym h.network) can))

pub begins : (c : Config) (f : Feed) (bytes : List ℕ) (ended : Bool) (gone : List FeedEvent) (x y : Coming)
    → FeedHas c f bytes ended gone → Goes c f bytes gone x y → Begins (head_of f) y
begins c f bytes ended gone x y h g =
    begins_by (head_of f) h.stands.group x.over gone (feed_events (rules c) x.over g.all) y
    (next_as c f bytes ended gone h x.over g.all g.later g.can) (sym g.is ∙ g.parts) g.over

-- packets of a frame that are next are those of a group
pub shown_group : (c : Config) (f : Feed) (bytes : List ℕ) (ended : Bool) (gone : List FeedEvent)
    (h : FeedHas c f bytes ended gone)
    (n : ℕ) → head_of f ≡ head.Frame n → (x : Group) × (h.stands.group ≡ Some x)
shown_group c f bytes ended gone h n e =
    let over = has_ended f in
    let way = some_way over c.pid bytes in
    let next = subst (λ (d : Head). IsNext d h.stands.group over gone (feed_events (rules c) over bytes)) e
    (next_as c f bytes ended gone h over bytes way.later way.can) in
    (next.0, next.1)

-- and they are so however it goes on
pub same_group : (c : Config) (f : Feed) (bytes : List ℕ) (ended : Bool) (gone : List FeedEvent)
    (h : FeedHas c f bytes ended gone)
    (x y : Coming) → Goes c f bytes gone x y → (n : ℕ) (g : Group) → head_of f ≡ head.Frame n → h.stands.group ≡ Some g
    → (more : List FeedEvent) × (y.events ≡ Has (record { number = n; group = g }) ∷ more)
same_group c f bytes ended gone h x y go n g e is =
    let next = rw e at (next_as c f bytes ended gone h x.over go.all go.later go.can) in
    let same : next.0 ≡ g = same_Some next.0 g (sym next.1 ∙ is) in (
      next.2.0,
      behind_front gone y.events _ (sym (sym go.is ∙ go.parts) ∙ next.2.1)
          ∙ ap (λ (z : Group). Has (record { number = n; group = z }) ∷ next.2.0) same,
    )
