-- The records of a file, by a number: those that were given are below it, and the others are not. The frames that are
-- picked of those below are the picked ones below.
use Rattle.std.proofs.Common.{◌≡◌, ℕ, ◌+◌, ◌<◌, ◌≤◌, List, [], ◌∷◌, ◌++◌}
use Rattle.std.proofs.Common.{Option, None, find, refl, ap, ap₂, sym, ◌∙◌, arith}
use Rattle.std.specs.Prelude.{option_map, option_to_list}
use Rattle.std.specs.List.{flat_map, range_with_len}
use Rattle.std.specs.Option.{option_or}
use Rattle.std.proofs.lemmas.Bool.{ne_eqb}
use Rattle.std.proofs.lemmas.List.Concat.{flat_map-append}
use Rattle.std.proofs.lemmas.List.Folds.{find-append}
use Rattle.terms.proofs.RangeLemmas.{range_append, flat_same}
use Rattle.plp_config.specs.declared.config.Config.{Config}
use Rattle.terms.specs.Lists.{IsPrefix}
use Rattle.frame_groups.specs.Modulated.{FrameRecord}
use Rattle.open_group.specs.Written.{content_view}
use Rattle.feed_merge.specs.declared.seen.Feed.{Feed}
use Rattle.feed_merge.specs.declared.seen.Feed.TheVariants.{A, B}
use Rattle.feed_merge.specs.Picks.{Picked, frame_from, picks_below, above_all, picks}
use Rattle.feed_merge.proofs.GrowLemmas.{test, or_none, pick, all_below}
use Rattle.feed_merge.proofs.NumberLemmas.{AllFrom, below_of}

-- ---- which frames are found

none_above : (n m : ℕ) (records : List FrameRecord) → AllFrom n records → m < n → find (test m) records ≡ None
none_above n m [] h l = refl
none_above n m (x ∷ records) h l =
    let above = h.0 in
    rw (ne_eqb x.number m (λ e. absurd (omega (arith, e, above, l)))) (none_above n m records h.1 l)

from_front : (c : Config) (from : Feed) (n m : ℕ) (records more : List FrameRecord) → AllFrom n more → m < n
    → frame_from c from m (records ++ more) ≡ frame_from c from m records
from_front c from n m records more h l =
    ap (option_map (λ (x : FrameRecord). record {
      feed = from;
      frame = record {
        number = m;
        view = content_view
            c m x.content;
      };
    }))
    (find-append (test m) records more ∙ ap (option_or (find (test m) records)) (none_above n m more h l)
    ∙ or_none (find (test m) records))

-- the picked frames below a greater number are those below a number, and more
pub picks_front : (c : Config) (ra rb : List FrameRecord) (n more : ℕ)
    → IsPrefix (picks_below c ra rb n) (picks_below c ra rb (n + more))
picks_front c ra rb n more = (
  flat_map (pick c ra rb) (range_with_len (0 + n) more),
  ap (flat_map (pick c ra rb)) (range_append 0 n more)
      ∙ flat_map-append (pick c ra rb) (range_with_len 0 n) (range_with_len (0 + n) more),
)

pub below_split : (c : Config) (ga la gb lb : List FrameRecord) (n low : ℕ) → low ≤ n → AllFrom n la → AllFrom n lb
    → picks_below c (ga ++ la) (gb ++ lb) low ≡ picks_below c ga gb low
below_split c ga la gb lb n low le x y =
    flat_same (pick c (ga ++ la) (gb ++ lb)) (pick c ga gb) 0 low
    (λ k from lt. ap₂ (λ (p q : Option Picked). option_to_list (option_or p q))
    (from_front c A n k ga la x (omega (arith, lt, le)))
    (from_front c B n k gb lb y (omega (arith, lt, le))))

pub picks_split : (c : Config) (ga la gb lb : List FrameRecord) (n : ℕ) → above_all ga ≤ n → above_all gb ≤ n
    → AllFrom n la
    → AllFrom n lb → picks_below c (ga ++ la) (gb ++ lb) n ≡ picks c ga gb
picks_split c ga la gb lb n a b x y =
    below_split c ga la gb lb n n (omega arith) x y ∙ sym (all_below c ga gb n (below_of n ga a) (below_of n gb b))

pub picks_nothing : (c : Config) → picks c [] [] ≡ []
unfolding picks
picks_nothing c = refl
