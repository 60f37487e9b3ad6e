-- What the feeds have of a frame, by the records that are taken.
use Rattle.std.proofs.Common.{◌≡◌, ℕ, ◌==◌, not, Bool, true, false, cond, List, [], ◌∷◌, Option, Some, None, is_some}
use Rattle.std.proofs.Common.{refl, ap, sym, ◌∙◌, eqb-true}
use Rattle.std.proofs.lemmas.Bool.{eq-eqb, false≢true, true≢false}
use Rattle.std.proofs.lemmas.Option.{same_Some}
use Rattle.terms.proofs.OptionLemmas.{none_some}
use Rattle.frame_groups.specs.Modulated.{Content, FrameRecord}
use Rattle.frame_groups.specs.Modulated.Content.{Whole as WholeContent, Muted as MutedContent}
use Rattle.frame_groups.specs.declared.cause.MuteCause.{MuteCause}
use Rattle.frame_groups.specs.declared.waiting.Waiting.{Waiting}
use Rattle.modulator.specs.StandsFor.{mute_of}
use Rattle.feed_merge.specs.FeedStandsFor.{is_whole}
use Rattle.feed_merge.specs.Picking.{is_at}
use Rattle.feed_merge.specs.Seen.{seen_of}
use Rattle.feed_merge.specs.Skips.{AreTaken}
use Rattle.compare_run.specs.Comparing.{content_side, side_of, sides_answer, record_at}
use Rattle.compare_run.specs.Runs.{is_differing}
use Rattle.compare_run.specs.declared.answer.Answer.{Answer}
use Rattle.compare_run.specs.declared.answer.Answer.TheVariants.{MutedA, MutedB, MutedBoth, OnlyA, OnlyB}
use Rattle.compare_run.specs.declared.answer.Side.{Side}
use Rattle.compare_run.specs.declared.answer.Side.TheVariants.{Absent, Muted, Whole}
use Rattle.compare_run.specs.Taking.{side_by, side_at}

-- ---- which side it is

content_is : (x : Content) (mute : Option MuteCause) → mute_of x ≡ mute → content_side x ≡ side_by (is_some mute)
content_is (WholeContent g) mute e = ap (λ (o : Option MuteCause). side_by (is_some o)) e
content_is (MutedContent cause) mute e = ap (λ (o : Option MuteCause). side_by (is_some o)) e

found_here : (n : ℕ) (x : FrameRecord) → x.number ≡ n → record_at n (x ∷ []) ≡ Some x
found_here n x number = rw (eq-eqb x.number n number) refl

pub side_is : (n : ℕ) (o : Option Waiting) (xs : List FrameRecord) → AreTaken (is_at n (seen_of o)) o xs
    → side_of (record_at n xs) ≡ side_at n o
side_is n None xs t = ap (λ (l : List FrameRecord). side_of (record_at n l)) t
side_is n (Some w) xs t = go (w.frame == n) refl t
  where
    go : (b : Bool) → (w.frame == n) ≡ b → AreTaken b (Some w) xs
        → side_of (record_at n xs) ≡ cond b (side_by (is_some w.mute)) Absent
    go true e k =
        ap (λ (l : List FrameRecord). side_of (record_at n l)) k.only
        ∙ ap side_of (found_here n k.one (k.first.0 ∙ eqb-true w.frame n e)) ∙ content_is k.one.content w.mute k.first.1
    go false e k = ap (λ (l : List FrameRecord). side_of (record_at n l)) k

-- a whole side is of a record that waits, of that number, and is not muted
pub record WaitsWhole (n : ℕ) (o : Option Waiting) : Type 0 where
  pub one : Waiting
  pub is : o ≡ Some one
  pub number : one.frame ≡ n
  pub whole : is_whole o ≡ true

pub waits_whole : (n : ℕ) (o : Option Waiting) → side_at n o ≡ Whole → WaitsWhole n o
waits_whole n None e = absurd (let z : Absent ≡ Whole = e in cc)
waits_whole n (Some w) e = go (w.frame == n) refl (is_some w.mute) refl e
  where
    go : (b : Bool) → (w.frame == n) ≡ b → (m : Bool) → is_some w.mute ≡ m → cond b (side_by m) Absent ≡ Whole
        → WaitsWhole n (Some w)
    go true same false off e = record { one = w; is = refl; number = eqb-true w.frame n same; whole = ap not off }
    go true same true on e = absurd (let z : Muted ≡ Whole = e in cc)
    go false same m on e = absurd (let z : Absent ≡ Whole = e in cc)

-- and one of whose number it is
pub waits_at : (n : ℕ) (o : Option Waiting) → is_at n (seen_of o) ≡ true → (w : Waiting) × (o ≡ Some w) × (w.frame ≡ n)
waits_at n None e = absurd (false≢true e)
waits_at n (Some w) e = (w, refl, eqb-true w.frame n e)

-- ---- what both sides are to each other

not_so : (a b : Answer) → Some a ≡ Some b → is_differing a ≡ true → is_differing b ≡ false → ⊥
not_so a b e on off = true≢false (sym on ∙ ap is_differing (same_Some a b e) ∙ off)

-- and frames that differ are whole
pub differ_whole : (x y : Side) (whole a : Answer) → Some a ≡ sides_answer x y whole → is_differing a ≡ true
    → (x ≡ Whole) × (y ≡ Whole)
differ_whole Absent Absent whole a e on = none_some a (sym e)
differ_whole Absent Muted whole a e on = absurd (not_so a OnlyB e on refl)
differ_whole Absent Whole whole a e on = absurd (not_so a OnlyB e on refl)
differ_whole Muted Absent whole a e on = absurd (not_so a OnlyA e on refl)
differ_whole Muted Muted whole a e on = absurd (not_so a MutedBoth e on refl)
differ_whole Muted Whole whole a e on = absurd (not_so a MutedA e on refl)
differ_whole Whole Absent whole a e on = absurd (not_so a OnlyA e on refl)
differ_whole Whole Muted whole a e on = absurd (not_so a MutedB e on refl)
differ_whole Whole Whole whole a e on = (refl, refl)
