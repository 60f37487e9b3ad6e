-- A record is left behind, or none.
use Rattle.std.proofs.Common.{◌≡◌, ℕ, ◌<◌, Bool, true, false, List, [], ◌∷◌, refl, sym, subst, arith, append-nil}
use Rattle.std.proofs.lemmas.Bool.{true≢false}
use Rattle.frame_groups.specs.Modulated.{FrameRecord}
use Rattle.feed_merge.specs.FeedStandsFor.{FrameFeedStandsFor, Skipped, left_of}
use Rattle.feed_merge.specs.declared.feed.FrameFeed.{FrameFeed}
use Rattle.feed_merge.specs.Skips.{IsSameFeed, SkipsIf}

pub skips_none : (leaves : Bool) (f : FrameFeed) → leaves ≡ false → SkipsIf leaves f f
skips_none true f off = absurd (true≢false off)
skips_none false f off = record {
  takes = λ bytes ended given s. record {
    records = [];
    are = refl;
    stands = subst (FrameFeedStandsFor f bytes ended) (sym (append-nil given)) s;
  };
  stays = λ _. refl;
  left = omega arith;
  same = record { fed = refl; ended = refl; network = refl };
}

pub skips_one : (leaves : Bool) (f g : FrameFeed) → leaves ≡ true
    → ((bytes : List ℕ) (ended : Bool) (given : List FrameRecord) → FrameFeedStandsFor f bytes ended given
    → Skipped f g bytes ended given)
    → left_of g < left_of f → IsSameFeed f g → SkipsIf leaves f g
skips_one true f g on skips less same = record {
  takes = λ bytes ended given s.
      let k = skips bytes ended given s in
      record { records = k.next ∷ []; are = record { one = k.next; only = refl; first = k.waited }; stands = k.stands };
  stays = λ off. absurd (true≢false off);
  left = omega (arith, less);
  same = same;
}
skips_one false f g on skips less same = absurd (true≢false (sym on))
