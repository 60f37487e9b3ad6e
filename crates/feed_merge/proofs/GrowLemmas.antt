-- The frames that are picked, one number more.
use Rattle.std.proofs.Common.{◌≡◌, ℕ, zero, suc, ◌+◌, ◌-◌, ◌<◌, ◌≤◌, ◌==◌, ◌&&◌, Bool, List, [], ◌∷◌, ◌++◌, max}
use Rattle.std.proofs.Common.{Option, Some, None, find, refl, ap, ap₂, sym, ◌∙◌, arith, append-nil}
use Rattle.std.specs.Prelude.{option_map, option_to_list}
use Rattle.std.specs.List.{flat_map, range_with_len}
use Rattle.std.specs.Option.{option_or}
use Rattle.std.proofs.lemmas.Bool.{ne_eqb}
use Rattle.std.proofs.lemmas.List.Concat.{flat_map-append}
use Rattle.std.proofs.lemmas.List.Folds.{find-append}
use Rattle.terms.proofs.RangeLemmas.{range_append, places_more, flat_same}
use Rattle.plp_config.specs.declared.config.Config.{Config}
use Rattle.frame_groups.specs.Modulated.{FrameRecord}
use Rattle.open_group.specs.Written.{content_view}
use Rattle.feed_merge.specs.declared.seen.Feed.{Feed}
use Rattle.feed_merge.specs.declared.seen.Feed.TheVariants.{A, B}
use Rattle.feed_merge.specs.Laws.{AllBelow, AreOf, PicksGrow}
use Rattle.feed_merge.specs.Picks.{is_frame, Picked, frame_from, pick_of, picks_below, above_all, picks}

abbrev pub test : ℕ → FrameRecord → Bool
test n x = (x.number == n) && is_frame x.content

-- no record below a number has a number that is no less
pub none_found : (n m : ℕ) (records : List FrameRecord) → AllBelow n records → n ≤ m → find (test m) records ≡ None
none_found n m [] h l = refl
none_found n m (x ∷ records) h l =
    let below = h.0 in
    rw (ne_eqb x.number m (λ e. absurd (omega (arith, e, below, l)))) (none_found n m records h.1 l)

-- nor have those of one number another
none_of : (n m : ℕ) (xs : List FrameRecord) → AreOf n xs → m < n → find (test m) xs ≡ None
none_of n m [] h l = refl
none_of n m (x ∷ []) h l = rw (ne_eqb x.number m (λ e. absurd (omega (arith, e, h, l)))) refl
none_of n m (x ∷ y ∷ xs) h l = absurd h

pub or_none : {X : Type 0} (o : Option X) → option_or o None ≡ o
or_none None = refl
or_none (Some x) = refl

from_front : (c : Config) (feed : Feed) (n m : ℕ) (records xs : List FrameRecord) → AreOf n xs → m < n
    → frame_from c feed m (records ++ xs) ≡ frame_from c feed m records
from_front c feed n m records xs h l =
    ap (option_map (λ (x : FrameRecord). record {
      feed = feed;
      frame = record {
        number = m;
        view = content_view
            c m x.content;
      };
    }))
    (find-append (test m) records xs ∙ ap (option_or (find (test m) records)) (none_of n m xs h l)
    ∙ or_none (find (test m) records))

from_back : (c : Config) (feed : Feed) (n : ℕ) (records xs : List FrameRecord) → AllBelow n records
    → frame_from c feed n (records ++ xs) ≡ frame_from c feed n xs
from_back c feed n records xs h =
    ap (option_map (λ (x : FrameRecord). record {
      feed = feed;
      frame = record {
        number = n;
        view = content_view
            c n x.content;
      };
    }))
    (find-append (test n) records xs ∙ ap (λ (o : Option FrameRecord). option_or o (find (test n) xs))
    (none_found n n records h (omega arith)))

pub from_none : (c : Config) (feed : Feed) (n m : ℕ) (records : List FrameRecord) → AllBelow n records → n ≤ m
    → frame_from c feed m records ≡ None
from_none c feed n m records h l =
    ap (option_map (λ (x : FrameRecord). record {
      feed = feed;
      frame = record {
        number = m;
        view = content_view
            c m x.content;
      };
    }))
    (none_found n m records h l)

-- ---- numbers that none has

pub nothing : (f : ℕ → List Picked) (a n : ℕ) → ((k : ℕ) → a ≤ k → f k ≡ []) → flat_map f (range_with_len a n) ≡ []
nothing f a zero h = refl
nothing f a (suc n) h =
    ap₂ (λ (x y : List Picked). x ++ y) (h a (omega arith)) (nothing f (a + 1) n (λ k le. h k (omega (arith, le))))

abbrev pub pick : Config → List FrameRecord → List FrameRecord → ℕ → List Picked
pick c ra rb n = option_to_list (pick_of c ra rb n)

pick_none : (c : Config) (ra rb : List FrameRecord) (n m : ℕ) → AllBelow n ra → AllBelow n rb → n ≤ m
    → pick c ra rb m ≡ []
pick_none c ra rb n m a b l =
    ap₂ (λ (x y : Option Picked). option_to_list (option_or x y)) (from_none c A n m ra a l) (from_none c B n m rb b l)

-- the frames below a number that is above all, or below another such
longer : (c : Config) (ra rb : List FrameRecord) (n more : ℕ) → AllBelow n ra → AllBelow n rb
    → picks_below c ra rb (n + more) ≡ picks_below c ra rb n
longer c ra rb n more a b =
    ap (flat_map (pick c ra rb)) (range_append 0 n more)
    ∙ flat_map-append (pick c ra rb) (range_with_len 0 n) (range_with_len (0 + n) more)
    ∙ ap (λ (l : List Picked). picks_below c ra rb n ++ l)
    (nothing (pick c ra rb) (0 + n) more (λ k le. pick_none c ra rb n k a b (omega (arith, le))))
    ∙ append-nil (picks_below c ra rb n)

pub below_more : (n m : ℕ) (records : List FrameRecord) → n ≤ m → AllBelow n records → AllBelow m records
below_more n m [] l h = tt
below_more n m (x ∷ records) l h = let first = h.0 in (omega (arith, first, l), below_more n m records l h.1)

pub above_is : (records : List FrameRecord) → AllBelow (above_all records) records
above_is [] = tt
above_is (x ∷ records) = (
  omega arith,
  below_more (above_all records) (max (x.number + 1) (above_all records)) records (omega arith)
      (above_is records),
)

pub above_least : (n : ℕ) (records : List FrameRecord) → AllBelow n records → above_all records ≤ n
above_least n [] h = omega arith
above_least n (x ∷ records) h = let first = h.0 in let rest = above_least n records h.1 in omega (arith, first, rest)

-- all are those below a number that none reaches
pub all_below : (c : Config) (ra rb : List FrameRecord) (n : ℕ) → AllBelow n ra → AllBelow n rb
    → picks c ra rb ≡ picks_below c ra rb n
unfolding picks
all_below c ra rb n a b =
    let end : ℕ = max (above_all ra) (above_all rb) in
    let inside : end ≤ n = omega (arith, above_least n ra a, above_least n rb b) in
    let sum : end + (n - end) ≡ n = omega (arith, inside) in
    sym (longer c ra rb end (n - end) (below_more (above_all ra) end ra (omega arith) (above_is ra))
    (below_more (above_all rb) end rb (omega arith) (above_is rb)))
    ∙ ap (picks_below c ra rb) sum

-- ---- one number more

pub all_push : (n : ℕ) (records xs : List FrameRecord) → AllBelow n records → AreOf n xs
    → AllBelow (n + 1) (records ++ xs)
all_push n [] [] h o = tt
all_push n [] (x ∷ []) h o = (omega (arith, o), tt)
all_push n [] (x ∷ y ∷ xs) h o = absurd o
all_push n (r ∷ records) xs h o = let first = h.0 in (omega (arith, first), all_push n records xs h.1 o)

pub picks_grow : PicksGrow
picks_grow c ra rb xs ys n a b x y =
    all_below c (ra ++ xs) (rb ++ ys) (n + 1) (all_push n ra xs a x) (all_push n rb ys b y)
    ∙ ap (flat_map (pick c (ra ++ xs) (rb ++ ys))) (places_more n)
    ∙ flat_map-append (pick c (ra ++ xs) (rb ++ ys)) (range_with_len 0 n) (n ∷ [])
    ∙ ap₂ (λ (p q : List Picked). p ++ q)
    (flat_same (pick c (ra ++ xs) (rb ++ ys)) (pick c ra rb) 0 n
    (λ k le lt. ap₂ (λ (p q : Option Picked). option_to_list (option_or p q))
    (from_front c A n k ra xs x (omega (arith, lt)))
    (from_front c B n k rb ys y (omega (arith, lt))))
    ∙ sym (all_below c ra rb n a b))
    (append-nil (pick c (ra ++ xs) (rb ++ ys) n)
    ∙ ap₂ (λ (p q : Option Picked). option_to_list (option_or p q)) (from_back c A n ra xs a) (from_back c B n rb ys b))
