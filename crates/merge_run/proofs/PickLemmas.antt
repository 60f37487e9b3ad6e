-- What is picked of the records that wait.
use Rattle.std.proofs.Common.{◌≡◌, ℕ, ◌==◌, ◌&&◌, not, min, Bool, true, false, cond, List, [], ◌∷◌, Option, Some, None}
use Rattle.std.proofs.Common.{is_some, refl, ap, sym, subst, ◌∙◌, eqb-true}
use Rattle.std.specs.Option.{option_or}
use Rattle.std.proofs.lemmas.Bool.{true≢false, eq-eqb, and_parts}
use Rattle.std.proofs.lemmas.Option.{same_Some}
use Rattle.terms.proofs.OptionLemmas.{none_some}
use Rattle.plp_config.specs.declared.config.Config.{Config}
use Rattle.frame_groups.specs.Groups.{Group}
use Rattle.frame_groups.specs.Modulated.{Content, FrameRecord}
use Rattle.frame_groups.specs.Modulated.Content.{Whole, Muted}
use Rattle.frame_groups.specs.declared.cause.MuteCause.{MuteCause}
use Rattle.frame_groups.specs.declared.waiting.Waiting.{Waiting}
use Rattle.open_group.specs.Written.{content_view}
use Rattle.modulator.specs.StandsFor.{mute_of}
use Rattle.feed_merge.specs.declared.seen.Feed.{Feed}
use Rattle.feed_merge.specs.declared.seen.Feed.TheVariants.{A, B}
use Rattle.feed_merge.specs.Picking.{is_at, is_there, source_at, pick_at, picked}
use Rattle.feed_merge.specs.Picks.{is_frame, Picked, frame_from, pick_of}
use Rattle.stream_laws.specs.Remade.{numbered}
use Rattle.feed_merge.specs.Reading.{least_of}
use Rattle.feed_merge.specs.Skips.{IsOnly, AreTaken}
use Rattle.feed_merge.specs.Seen.{seen_of}

-- the least number is the one that is picked
pub picked_at : (v w : Option Waiting) (n : ℕ) → least_of v w ≡ Some n → picked (seen_of v) (seen_of w)
    ≡ pick_at n (seen_of v) (seen_of w)
picked_at None None n e = none_some n e
picked_at (Some v) None n e = ap (λ (k : ℕ). pick_at k (seen_of (Some v)) None) (same_Some v.frame n e)
picked_at None (Some w) n e = ap (λ (k : ℕ). pick_at k None (seen_of (Some w))) (same_Some w.frame n e)
picked_at (Some v) (Some w) n e =
    ap (λ (k : ℕ). pick_at k (seen_of (Some v)) (seen_of (Some w))) (same_Some (min v.frame w.frame) n e)

-- ---- a frame is picked

pub record PickIs (c : Config) (n : ℕ) (feed : Feed) (xs : List FrameRecord) (o : Option Picked) : Type 0 where
  pub one : FrameRecord
  pub only : xs ≡ one ∷ []
  pub number : one.number ≡ n
  pub group : Group
  pub whole : one.content ≡ Whole group
  pub is : o ≡ Some (record { feed = feed; frame = numbered n (content_view c n one.content) })

record IsWhole (content : Content) : Type 0 where
  group : Group
  is : content ≡ Whole group

whole_content : (content : Content) (mute : Option MuteCause) → mute_of content ≡ mute → not (is_some mute) ≡ true
    → IsWhole content
whole_content (Whole g) mute e off = record { group = g; is = refl }
whole_content (Muted cause) mute e off =
    absurd (true≢false (sym off ∙ ap (λ (o : Option MuteCause). not (is_some o)) (sym e)))

muted_content : (content : Content) (mute : Option MuteCause) → mute_of content ≡ mute → not (is_some mute) ≡ false
    → is_frame content ≡ false
muted_content (Whole g) mute e on = ap (λ (o : Option MuteCause). not (is_some o)) e ∙ on
muted_content (Muted cause) mute e on = refl

there : (c : Config) (feed : Feed) (n : ℕ) (o : Option Waiting) (xs : List FrameRecord)
    → AreTaken (is_at n (seen_of o)) o xs
    → is_there n (seen_of o) ≡ true → PickIs c n feed xs (frame_from c feed n xs)
there c feed n None xs t e = absurd (true≢false (sym e))
there c feed n (Some w) xs t e =
    let h = and_parts (w.frame == n) (not (is_some w.mute)) e in
    let k : IsOnly (Some w) xs = subst (λ (b : Bool). AreTaken b (Some w) xs) h.0 t in
    let g = whole_content k.one.content w.mute k.first.1 h.1 in
    let number : k.one.number ≡ n = k.first.0 ∙ eqb-true w.frame n h.0 in
    let found : frame_from c feed n (k.one ∷ []) ≡ Some
    (record { feed = feed; frame = numbered n (content_view c n k.one.content) }) =
    rw (eq-eqb k.one.number n number, ap is_frame g.is) refl in
    record {
      one = k.one;
      only = k.only;
      number = number;
      group = g.group;
      whole = g.is;
      is = ap (frame_from c feed n) k.only ∙ found;
    }

not_there : (c : Config) (feed : Feed) (n : ℕ) (o : Option Waiting) (xs : List FrameRecord)
    → AreTaken (is_at n (seen_of o)) o xs
    → is_there n (seen_of o) ≡ false → frame_from c feed n xs ≡ None
not_there c feed n None xs t e = ap (frame_from c feed n) t
not_there c feed n (Some w) xs t e = go (w.frame == n) refl t
  where
    go : (b : Bool) → (w.frame == n) ≡ b → AreTaken b (Some w) xs → frame_from c feed n xs ≡ None
    go true same k =
        let off : not (is_some w.mute) ≡ false = sym (ap (λ (b : Bool). b && not (is_some w.mute)) same) ∙ e in
        let none : is_frame k.one.content ≡ false = muted_content k.one.content w.mute k.first.1 off in
        let number : k.one.number ≡ n = k.first.0 ∙ eqb-true w.frame n same in
        let found : frame_from c feed n (k.one ∷ []) ≡ None = rw (eq-eqb k.one.number n number, none) refl in
        ap (frame_from c feed n) k.only ∙ found
    go false differ k = ap (frame_from c feed n) k

-- by the source
module _ (c : Config) (n : ℕ) (v w : Option Waiting) (xs ys : List FrameRecord)
    (a : AreTaken (is_at n (seen_of v)) v xs)
    (b : AreTaken (is_at n (seen_of w)) w ys) where
  pub pick_first : source_at n (seen_of v) (seen_of w) ≡ Some A → PickIs c n A xs (pick_of c xs ys n)
  pick_first e = go (is_there n (seen_of v)) (is_there n (seen_of w)) refl e
    where
      go : (s t : Bool) → is_there n (seen_of v) ≡ s → cond s (Some A) (cond t (Some B) None) ≡ Some A
          → PickIs c n A xs (pick_of c xs ys n)
      go true t on e =
          let p = there c A n v xs a on in
          subst (PickIs c n A xs) (p.is ∙ sym (ap (λ (o : Option Picked). option_or o (frame_from c B n ys)) p.is)) p
      go false true off e = absurd (let z : Some B ≡ Some A = e in cc)
      go false false off e = none_some A e

  pub pick_second : source_at n (seen_of v) (seen_of w) ≡ Some B → PickIs c n B ys (pick_of c xs ys n)
  pick_second e = go (is_there n (seen_of v)) (is_there n (seen_of w)) refl refl e
    where
      go : (s t : Bool) → is_there n (seen_of v) ≡ s → is_there n (seen_of w) ≡ t
          → cond s (Some A) (cond t (Some B) None) ≡ Some B
          → PickIs c n B ys (pick_of c xs ys n)
      go true t on so e = absurd (let z : Some A ≡ Some B = e in cc)
      go false true off so e =
          subst (PickIs c n B ys)
          (sym (ap (λ (o : Option Picked). option_or o (frame_from c B n ys)) (not_there c A n v xs a off)))
          (there c B n w ys b so)
      go false false off so e = none_some B e

  pub pick_none : source_at n (seen_of v) (seen_of w) ≡ None → pick_of c xs ys n ≡ None
  pick_none e = go (is_there n (seen_of v)) (is_there n (seen_of w)) refl refl e
    where
      go : (s t : Bool) → is_there n (seen_of v) ≡ s → is_there n (seen_of w) ≡ t
          → cond s (Some A) (cond t (Some B) None) ≡ None
          → pick_of c xs ys n ≡ None
      go true t on so e = none_some A (sym e)
      go false true off so e = none_some B (sym e)
      go false false off so e =
          ap (λ (o : Option Picked). option_or o (frame_from c B n ys)) (not_there c A n v xs a off)
          ∙ not_there c B n w ys b so
