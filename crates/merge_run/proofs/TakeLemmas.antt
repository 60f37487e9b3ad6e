-- Which records are left behind.
use Rattle.std.proofs.Common.{◌≡◌, ◌<◌, Bool, true, false, Option, Some, None, is_some, refl, sym}
use Rattle.std.proofs.lemmas.Bool.{true≢false}
use Rattle.plp_config.specs.declared.moment.TheConstants.{MOST_FRAMES}
use Rattle.frame_groups.specs.declared.waiting.Waiting.{Waiting}
use Rattle.feed_merge.specs.declared.seen.Feed.{Feed}
use Rattle.feed_merge.specs.Skips.{CanBeLeft}
use Rattle.feed_merge.specs.FeedStandsFor.{is_whole}
use Rattle.feed_merge.proofs.BothCameLemmas.{less_of, nothing_of}

-- if a frame waits, of a number that one may have
pub can_whole : {A : Type 0} (b : Bool) (o : Option Waiting) → ∥ A ∥₁ → (A → b ≡ true → is_whole o ≡ true)
    → (A → b ≡ true → (w : Waiting) → o ≡ Some w → w.frame < MOST_FRAMES) → CanBeLeft b o
can_whole false o came whole early = tt
can_whole true None came whole early = absurd (nothing_of came (λ x. true≢false (sym (whole x refl))))
can_whole true (Some w) came whole early = less_of w.frame MOST_FRAMES came (λ x. early x refl w refl)

pub none_picked_is : (source : Option Feed) → is_some source ≡ false → source ≡ None
none_picked_is None off = refl
none_picked_is (Some feed) off = (let z : true ≡ false = off in absurd cc)
