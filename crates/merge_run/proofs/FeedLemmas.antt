-- What one of the feeds stands for, and which number comes next of it.
use Rattle.std.proofs.Common.{◌≡◌, ℕ, ◌+◌, ◌≤◌, ◌==◌, ◌&&◌, not, Bool, true, false, List, [], ◌∷◌, ◌++◌, Option, Some}
use Rattle.std.proofs.Common.{None, is_some, refl, ap, sym, subst, ◌∙◌, arith, append_assoc}
use Rattle.std.specs.Prelude.{IsSome}
use Rattle.std.specs.List.{AllByRecursion}
use Rattle.std.proofs.lemmas.Bool.{true≢false, and_parts}
use Rattle.plp_config.specs.Capacity.{IsPlan}
use Rattle.plp_config.specs.declared.config.Config.{Config}
use Rattle.frame_groups.specs.Modulated.{FrameRecord}
use Rattle.frame_groups.specs.declared.waiting.Waiting.{Waiting}
use Rattle.open_group.specs.Written.{content_view}
use Rattle.modulator.specs.Laws.{DueFollow}
use Rattle.modulator.specs.StandsFor.{records_due}
use Rattle.stream_laws.specs.Formed.{IsFormed}
use Rattle.stream_laws.specs.FormedLaws.{FramesAreFormed, IsFormedRecord}
use Rattle.feed_merge.specs.declared.seen.Feed.{Feed}
use Rattle.feed_merge.specs.Picking.{is_at, is_there}
use Rattle.feed_merge.specs.Picks.{Picked}
use Rattle.feed_merge.specs.Reading.{is_idle}
use Rattle.feed_merge.specs.Skips.{one_if, AreTaken, IsOnly, Takes}
use Rattle.feed_merge.specs.FeedStandsFor.{IsFirst, waiting_of}
use Rattle.feed_merge.specs.FeedStandsFor as feed
use Rattle.feed_merge.specs.declared.feed.FrameFeed.{FrameFeed}
use Rattle.feed_merge.specs.Both.{IsHeld, OfFeed, IsPast}
use Rattle.feed_merge.specs.Fed.{IsFedWith}
use Rattle.merge_run.specs.Taking.{is_from, leaves}
use Rattle.feed_merge.specs.Seen.{seen_of}
use Rattle.feed_merge.proofs.BothFeedLemmas.{due_of, took_behind, one_of}
use Rattle.feed_merge.proofs.LeastLemmas.{above_taken}
use Rattle.feed_merge.proofs.NumberLemmas.{above_append}
use Rattle.merge_run.proofs.PickLemmas.{PickIs}

-- ---- a record was taken, or none: its frame is sent, or it was left behind

pub record TookFor (held taken : Bool) (c : Config) (f g : FrameFeed) (bytes : List ℕ) (ended : Bool)
    (given : List FrameRecord) : Type 0 where
  pub records : List FrameRecord
  pub are : AreTaken taken (waiting_of f) records
  pub stands : OfFeed held c g bytes ended (given ++ records)

both_on : (b : Bool) → (b && true) ≡ b
both_on true = refl
both_on false = refl

both_off : (b : Bool) → (b && false) ≡ false
both_off true = refl
both_off false = refl

-- what is not muted and of a number is of that number
pub there_at : (n : ℕ) (o : Option Waiting) → is_there n (seen_of o) ≡ true → is_at n (seen_of o) ≡ true
there_at n None e = absurd (true≢false (sym e))
there_at n (Some w) e = (and_parts (w.frame == n) (not (is_some w.mute)) e).0

-- it was left behind, unless its frame is sent
took_by : (held : Bool) (at : Bool) (c : Config) (f g : FrameFeed) (bytes : List ℕ) (ended : Bool)
    (given : List FrameRecord)
    → (held ≡ true → (at ≡ true) × IsSome (waiting_of f)) → feed.config_of g ≡ feed.config_of f
    → ((at && not held) ≡ false → g ≡ f) → Takes (at && not held) f g bytes ended given
    → IsFedWith c f bytes ended given
    → TookFor held at c f g bytes ended given
took_by false at c f g bytes ended given there config stays takes h =
    let t = rw (both_on at) at takes in
    record { records = t.records; are = t.are; stands = record { network = config ∙ h.network; stands = t.stands } }
took_by true at c f g bytes ended given there config stays takes h =
    let d = due_of c f bytes ended given h in
    let here = there refl in
    first (waiting_of f) refl here.1 d.later d.all d.first
  where
    first : (o : Option Waiting) → waiting_of f ≡ o → IsSome (waiting_of f) → (later : List FrameRecord)
        → records_due c ended bytes ≡ given ++ later → IsFirst (waiting_of f) later
        → TookFor true at c f g bytes ended given
    first None none some later all is = absurd (true≢false (sym (subst IsSome none some)))
    first (Some w) waits some [] all is = absurd (subst (λ (o : Option Waiting). IsFirst o []) waits is)
    first (Some w) waits some (x ∷ later) all is =
        let one : IsFirst (waiting_of f) (x ∷ []) =
        rw waits (subst (λ (o : Option Waiting). IsFirst o (x ∷ later)) waits is) in
        let only : IsOnly (waiting_of f) (x ∷ []) = record { one = x; only = refl; first = one } in
        let was : IsHeld c f bytes ended (given ++ x ∷ []) = record {
          before = given;
          one = x;
          later = later;
          given_is = refl;
          due = all;
          first = one;
          fed = h;
        } in
        record {
          records = x ∷ [];
          are = rw (there refl).0 only;
          stands = subst (λ (k : FrameFeed). IsHeld c k bytes ended (given ++ x ∷ [])) (sym (stays (both_off at))) was;
        }

waits_there : (n : ℕ) (o : Option Waiting) → is_there n (seen_of o) ≡ true → IsSome o
waits_there n None e = absurd (true≢false (sym e))
waits_there n (Some w) e = refl

pub took_of : (c : Config) (from : Feed) (source : Option Feed) (n : ℕ) (f g : FrameFeed) (bytes : List ℕ)
    (ended : Bool)
    (given : List FrameRecord) → (is_from from source ≡ true → is_there n (seen_of (waiting_of f)) ≡ true)
    → feed.config_of g ≡ feed.config_of f
    → (leaves from (is_at n (seen_of (waiting_of f))) source ≡ false → g ≡ f)
    → Takes (leaves from (is_at n (seen_of (waiting_of f))) source) f g bytes ended given
    → IsFedWith c f bytes ended given
    → TookFor (is_from from source) (is_at n (seen_of (waiting_of f))) c f g bytes ended given
took_of c from source n f g bytes ended given there config stays takes h =
    took_by (is_from from source) (is_at n (seen_of (waiting_of f))) c f g bytes ended given
    (λ on. (there_at n (waiting_of f) (there on), waits_there n (waiting_of f) (there on))) config stays takes h

pub took_past : DueFollow → (c : Config) (n : ℕ) (held : Bool) (f g : FrameFeed) (bytes : List ℕ) (ended : Bool)
    (given : List FrameRecord) → is_idle (waiting_of f) (feed.has_ended f) ≡ false
    → ((w : Waiting) → waiting_of f ≡ Some w → n ≤ w.frame) → feed.has_ended g ≡ feed.has_ended f
    → (held ≡ true → is_at n (seen_of (waiting_of f)) ≡ true)
    → (is_at n (seen_of (waiting_of f)) ≡ false → waiting_of g ≡ waiting_of f)
    → (t : TookFor held (is_at n (seen_of (waiting_of f))) c f g bytes ended given)
    → IsPast held (n + 1) g (given ++ t.records)
took_past follow c n held f g bytes ended given busy least end here stays t =
    go held here t.stands
  where
    go : (k : Bool) → (k ≡ true → is_at n (seen_of (waiting_of f)) ≡ true)
        → OfFeed k c g bytes ended (given ++ t.records)
        → IsPast k (n + 1) g (given ++ t.records)
    go true on h =
        let taken = (above_taken (waiting_of f) n t.records t.are).1 (let e = ap one_if (on refl) in
        omega (arith, e)) in
        omega (arith, taken, above_append given t.records)
    go false on h =
        took_behind follow c n f g bytes ended given busy least end stays
        (record { records = t.records; are = t.are; stands = h.stands }) h

-- ---- the record of a frame that is picked

-- it is due behind those before
pub due_held : (c : Config) (f : FrameFeed) (bytes : List ℕ) (ended : Bool) (given records : List FrameRecord)
    (x : FrameRecord)
    → records ≡ x ∷ [] → (h : IsHeld c f bytes ended (given ++ records)) → records_due c ended bytes ≡ given
    ++ x ∷ h.later
due_held c f bytes ended given records x only h =
    h.due ∙ sym (append_assoc h.before (h.one ∷ []) h.later) ∙ ap (λ (l : List FrameRecord). l ++ h.later)
    (sym h.given_is)
    ∙ ap (λ (l : List FrameRecord). (given ++ l) ++ h.later) only ∙ append_assoc given (x ∷ []) h.later

-- and formed for its number
pub formed_due : FramesAreFormed → (c : Config) (bytes : List ℕ) (ended : Bool) (given : List FrameRecord)
    (from : Feed) (n : ℕ)
    (records : List FrameRecord) (o : Option Picked) (later : List FrameRecord) → IsPlan c
    → (p : PickIs c n from records o)
    → records_due c ended bytes ≡ given ++ p.one ∷ later → IsFormed c n (content_view c n p.one.content)
formed_due law c bytes ended given from n records o later plan p due =
    subst (λ (k : ℕ). IsFormed c k (content_view c k p.one.content)) p.number
    (one_of (IsFormedRecord c) given p.one later (subst (AllByRecursion (IsFormedRecord c)) due
    (law c ended bytes plan))
    p.group p.whole)
