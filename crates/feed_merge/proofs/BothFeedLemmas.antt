-- What one of the feeds stands for, and which number comes next of it.
use Rattle.std.proofs.Common.{◌≡◌, ℕ, ◌+◌, ◌≤◌, ◌==◌, Bool, true, false, List, [], ◌∷◌, ◌++◌, take, length, Option}
use Rattle.std.proofs.Common.{Some, None, refl, ap, sym, subst, ◌∙◌, arith, append-nil}
use Rattle.std.specs.List.{AllByRecursion}
use Rattle.std.proofs.lemmas.Bool.{true≢false, eqb-false, eqb-true}
use Rattle.std.proofs.lemmas.List.{take_at}
use Rattle.plp_config.specs.declared.config.Config.{Config}
use Rattle.frame_groups.specs.Laws.{AreFrom}
use Rattle.frame_groups.specs.Modulated.{FrameRecord}
use Rattle.frame_groups.specs.declared.waiting.Waiting.{Waiting}
use Rattle.modulator.specs.Laws.{DueFollow}
use Rattle.modulator.specs.StandsFor.{records_due}
use Rattle.feed_merge.specs.Picking.{is_at}
use Rattle.feed_merge.specs.Picks.{above_all}
use Rattle.file_run.specs.FileRun.{IsFed}
use Rattle.feed_merge.specs.FeedStandsFor.{IsFirst, waiting_of}
use Rattle.feed_merge.specs.FeedStandsFor as feed
use Rattle.feed_merge.specs.declared.feed.FrameFeed.{FrameFeed}
use Rattle.feed_merge.specs.Fed.{IsFedWith, IsBehind, end_by}
use Rattle.feed_merge.specs.Reading.{is_idle}
use Rattle.feed_merge.specs.Seen.{seen_of}
use Rattle.feed_merge.specs.Skips.{AreTaken, Takes}
use Rattle.feed_merge.proofs.NumberLemmas.{above_append, above_before}

pub one_of : {X : Type 0} (P : X → Type 0) (xs : List X) (x : X) (ys : List X) → AllByRecursion P (xs ++ x ∷ ys) → P x
one_of P [] x ys all = all.0
one_of P (y ∷ xs) x ys all = one_of P xs x ys all.1

-- ---- the records that are due

-- Those that were given are the first of them, and the one that waits is the next.
pub record IsDue (c : Config) (f : FrameFeed) (bytes : List ℕ) (ended : Bool) (given : List FrameRecord) : Type 0 where
  pub later : List FrameRecord
  pub all : records_due c ended bytes ≡ given ++ later
  pub first : IsFirst (waiting_of f) later

pub due_of : (c : Config) (f : FrameFeed) (bytes : List ℕ) (ended : Bool) (given : List FrameRecord)
    → IsFedWith c f bytes ended given
    → IsDue c f bytes ended given
due_of c f bytes ended given w = record {
  later = w.stands.later;
  all = ap (λ (k : Config). records_due k ended bytes) (sym w.network) ∙ w.stands.all;
  first = w.stands.first;
}

-- what waits has a number above those that were given
pub waits_above : DueFollow → (c : Config) (f : FrameFeed) (bytes : List ℕ) (ended : Bool) (given : List FrameRecord)
    → IsFedWith c f bytes ended given → (w : Waiting) → waiting_of f ≡ Some w → above_all given ≤ w.frame
waits_above follow c f bytes ended given h w is = go d.later d.all (subst (λ (o : Option Waiting). IsFirst o d.later)
    is d.first)
  where
    d : IsDue c f bytes ended given
    d = due_of c f bytes ended given h

    go : (later : List FrameRecord) → records_due c ended bytes ≡ given ++ later → IsFirst (Some w) later
        → above_all given ≤ w.frame
    go [] all first = absurd first
    go (y ∷ later) all first =
        let from = follow c ended bytes in
        let a = above_before from.0 given y later (subst (AreFrom from.0) all from.1) in
        let n = first.0 in
        omega (arith, a, n)

-- ---- bytes came, or the end

pub behind_more : DueFollow → (c : Config) (next : ℕ) (f g : FrameFeed) (bytes : List ℕ) (ended : Bool)
    (given : List FrameRecord)
    → waiting_of f ≡ None → feed.has_ended f ≡ false → IsBehind next f given → IsFedWith c g bytes ended given
    → IsBehind next g given
behind_more follow c next f g bytes ended given none going was h = record {
  waits = λ w is.
      let low = was.idle none going in
      let high = waits_above follow c g bytes ended given h w is in
      omega (arith, low, high);
  idle = λ _ _. was.idle none going;
}

-- ---- a record was taken, or none

pub idle_none : (e : Bool) → is_idle None e ≡ false → e ≡ true
idle_none true off = refl
idle_none false off = absurd (true≢false off)

pub took_behind : DueFollow → (c : Config) (n : ℕ) (f g : FrameFeed) (bytes : List ℕ) (ended : Bool)
    (given : List FrameRecord) → is_idle (waiting_of f) (feed.has_ended f) ≡ false
    → ((w : Waiting) → waiting_of f ≡ Some w → n ≤ w.frame) → feed.has_ended g ≡ feed.has_ended f
    → (is_at n (seen_of (waiting_of f)) ≡ false → waiting_of g ≡ waiting_of f)
    → (t : Takes (is_at n (seen_of (waiting_of f))) f g bytes ended given)
    → IsFedWith c g bytes ended (given ++ t.records) → IsBehind (n + 1) g (given ++ t.records)
took_behind follow c n f g bytes ended given busy least end stays t h =
    go (is_at n (seen_of (waiting_of f))) refl t.are
  where
    go : (b : Bool) → is_at n (seen_of (waiting_of f)) ≡ b → AreTaken b (waiting_of f) t.records
        → IsBehind (n + 1) g (given ++ t.records)
    go true same are =
        let number : are.one.number ≡ n = taken_number (waiting_of f) are.one same are.first in
        let size = ap above_all are.only in
        let high : n + 1 ≤ above_all (given ++ t.records) = omega (arith, above_append given t.records, size, number) in
        record {
          waits = λ w is. let l = waits_above follow c g bytes ended (given ++ t.records) h w is in omega
              (arith, l, high);
          idle = λ _ _. high;
        }
      where
        taken_number : (o : Option Waiting) (x : FrameRecord) → is_at n (seen_of o) ≡ true → IsFirst o (x ∷ [])
            → x.number ≡ n
        taken_number None x e first = absurd (true≢false (sym e))
        taken_number (Some w) x e first = first.0 ∙ eqb-true w.frame n e
    go false differ are = record {
      waits = λ w is. above w (sym (stays differ) ∙ is) (least w (sym (stays differ) ∙ is));
      idle = λ none going.
          let over = idle_none (feed.has_ended f) (subst (λ (o : Option Waiting). is_idle o (feed.has_ended f) ≡ false)
          (sym (stays differ) ∙ none) busy) in
          absurd (true≢false (sym over ∙ sym end ∙ going));
    }
      where
        above : (w : Waiting) → waiting_of f ≡ Some w → n ≤ w.frame → n + 1 ≤ w.frame
        above w is low =
            let off : (w.frame == n) ≡ false = sym (ap (λ (o : Option Waiting). is_at n (seen_of o)) is) ∙ differ in
            let apart = eqb-false w.frame n off in
            omega (arith, low, apart)

-- ---- how far its records have come

-- all that is due was given
pub due_given : (c : Config) (f : FrameFeed) (bytes : List ℕ) (ended : Bool) (given : List FrameRecord)
    → waiting_of f ≡ None
    → feed.has_ended f ≡ false → IsFedWith c f bytes ended given → records_due c false bytes ≡ given
due_given c f bytes ended given none going h =
    let d = due_of c f bytes ended given h in
    let later : d.later ≡ [] = subst (λ (o : Option Waiting). IsFirst o d.later) none d.first in
    ap (λ (e : Bool). records_due c e bytes) (sym going ∙ h.stands.end) ∙ d.all
    ∙ ap (λ (l : List FrameRecord). given ++ l) later
    ∙ append-nil given

-- so by what was taken of a file they end with the last number
pub ends_at : (c : Config) (next : ℕ) (file : List ℕ) (place : ℕ) (f : FrameFeed) (bytes : List ℕ) (ended : Bool)
    (given : List FrameRecord)
    → IsFed file place bytes ended → IsFedWith c f bytes ended given → IsBehind next f given → above_all given ≤ next
    → waiting_of f ≡ None → feed.has_ended f ≡ false → end_by c file (length bytes) ≡ next
ends_at c next file place f bytes ended given taken h b above none going =
    let low = b.idle none going in
    let same : above_all given ≡ next = omega (arith, low, above) in
    ap (λ (l : List ℕ). above_all (records_due c false l))
    (ap (take (length bytes)) taken.parts ∙ take_at bytes taken.more (length bytes) refl)
    ∙ ap above_all (due_given c f bytes ended given none going h) ∙ same
