-- The records of a file, by a number: those that were given are below it, and the others are not.
use Rattle.std.proofs.Common.{◌≡◌, ℕ, ◌+◌, ◌<◌, ◌≤◌, Bool, true, false, List, [], ◌∷◌, ◌++◌, length, Option, Some, None}
use Rattle.std.proofs.Common.{refl, ap, sym, subst, ◌∙◌, arith, append-nil, append_assoc, length-append}
use Rattle.modulator.proofs.WaitLemmas.{number_at, front_due}
use Rattle.plp_config.specs.declared.config.Config.{Config}
use Rattle.plp_config.specs.declared.moment.TheConstants.{MOST_FRAMES}
use Rattle.frame_groups.specs.Laws.{AreFrom}
use Rattle.terms.specs.Lists.{IsPrefix}
use Rattle.frame_groups.specs.Modulated.{FrameRecord}
use Rattle.frame_groups.specs.declared.waiting.Waiting.{Waiting}
use Rattle.modulator.specs.Laws.{DueFront, DueFollow}
use Rattle.modulator.specs.StandsFor.{records_due, records_of}
use Rattle.file_run.specs.FileRun.{IsFed}
use Rattle.feed_merge.specs.FeedStandsFor.{IsFirst, waiting_of}
use Rattle.feed_merge.specs.FeedStandsFor as feed
use Rattle.feed_merge.specs.declared.feed.FrameFeed.{FrameFeed}
use Rattle.feed_merge.specs.Fed.{AreEarly, IsFedWith, IsBehind, NoneComes}
use Rattle.feed_merge.proofs.BothFeedLemmas.{IsDue, due_of}
use Rattle.feed_merge.proofs.NumberLemmas.{AllFrom, above_before, from_rest, from_more}

pub record IsSplit (c : Config) (file : List ℕ) (given : List FrameRecord) (n : ℕ) : Type 0 where
  pub after : List FrameRecord
  pub all : records_of c file ≡ given ++ after
  pub from : AllFrom n after

module _ (law : DueFront) (follow : DueFollow) (c : Config) (f : FrameFeed) (file : List ℕ) (place : ℕ)
    (bytes : List ℕ) (ended : Bool)
    (given : List FrameRecord) (fed : IsFed file place bytes ended) (h : IsFedWith c f bytes ended given) where
  abbrev pub due : IsDue c f bytes ended given
  due = due_of c f bytes ended given h

  abbrev pub front : IsPrefix (records_due c ended bytes) (records_of c file)
  front = front_due law c ended file bytes fed.more fed.parts fed.end

  pub behind : records_of c file ≡ given ++ (due.later ++ front.0)
  behind = front.1 ∙ ap (λ (l : List FrameRecord). l ++ front.0) due.all ∙ append_assoc given due.later front.0

  -- nothing follows if none comes
  pub all_given : NoneComes f → records_of c file ≡ given
  all_given none = go ended refl
    where
      go : (e : Bool) → ended ≡ e → records_of c file ≡ given
      go true on =
          let file_is : file ≡ bytes =
          fed.parts ∙ ap (λ (l : List ℕ). bytes ++ l) (fed.end on) ∙ append-nil bytes in
          let later : due.later ≡ [] = subst (λ (o : Option Waiting). IsFirst o due.later) none.none due.first in
          ap (records_of c) file_is ∙ ap (λ (e : Bool). records_due c e bytes) (sym on) ∙ due.all
          ∙ ap (λ (l : List FrameRecord). given ++ l) later ∙ append-nil given
      go false off = absurd (let z : true ≡ false = sym none.ended ∙ h.stands.end ∙ off in cc)

  -- what follows is no lower
  pub split_at : (n : ℕ) → IsBehind n f given → IsSplit c file given n
  split_at n b = record {
    after = due.later ++ front.0;
    all = behind;
    from = go (due.later ++ front.0) behind;
  }
    where
      lowest : (y : FrameRecord) (ys : List FrameRecord) → records_of c file ≡ given ++ y ∷ ys
          → (o : Option Waiting) (e : Bool)
          → waiting_of f ≡ o → feed.has_ended f ≡ e → n ≤ y.number
      lowest y ys is None true none over =
          let same = all_given (record { none = none; ended = over }) in
          absurd (let a = ap length is in let b = ap length same in omega (arith, a, b, length-append given (y ∷ ys)))
      lowest y ys is None false none going =
          let from = follow c true file in
          let a = above_before from.0 given y ys (subst (AreFrom from.0) is from.1) in
          let l = b.idle none going in
          omega (arith, a, l)
      lowest y ys is (Some w) e waits over =
          let low = b.waits w waits in
          let number = first_of due.later (subst (λ (o : Option Waiting). IsFirst o due.later) waits due.first)
          behind in
          omega (arith, low, number)
        where
          first_of : (later : List FrameRecord) → IsFirst (Some w) later → records_of c file ≡ given
              ++ (later ++ front.0)
              → y.number ≡ w.frame
          first_of [] first same = absurd first
          first_of (x ∷ later) first same =
              let from = follow c true file in
              let p = number_at from.0 given y ys (subst (AreFrom from.0) is from.1) in
              let q = number_at from.0 given x (later ++ front.0) (subst (AreFrom from.0) same from.1) in
              let e = first.0 in
              omega (arith, p, q, e)

      go : (after : List FrameRecord) → records_of c file ≡ given ++ after → AllFrom n after
      go [] is = tt
      go (y ∷ ys) is =
          let from = follow c true file in
          let low = lowest y ys is (waiting_of f) (feed.has_ended f) refl refl in
          let rest = from_rest from.0 given (y ∷ ys) (subst (AreFrom from.0) is from.1) in
          let number = rest.0 in
          from_more n (from.0 + length given) (y ∷ ys) (omega (arith, low, number)) rest

  -- a late one waits
  pub late_waits : (w : Waiting) → waiting_of f ≡ Some w → MOST_FRAMES ≤ w.frame → ¬ (AreEarly (records_of c file))
  late_waits w waits late early = go due.later (subst (λ (o : Option Waiting). IsFirst o due.later) waits due.first)
      behind
    where
      early_one : (xs : List FrameRecord) (x : FrameRecord) (ys : List FrameRecord) → AreEarly (xs ++ x ∷ ys)
          → x.number < MOST_FRAMES
      early_one [] x ys all = all.0
      early_one (y ∷ xs) x ys all = early_one xs x ys all.1

      go : (later : List FrameRecord) → IsFirst (Some w) later → records_of c file ≡ given ++ (later ++ front.0) → ⊥
      go [] first is = first
      go (x ∷ later) first is =
          let small = early_one given x (later ++ front.0) (subst AreEarly is early) in
          let number = first.0 in
          absurd (omega (arith, small, number, late))
