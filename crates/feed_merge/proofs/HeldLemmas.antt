-- A feed whose last record is one whose frame is under way, or not.
use Rattle.std.proofs.Common.{◌≡◌, ℕ, ◌+◌, Bool, true, false, List, [], ◌∷◌, ◌++◌, length, Option}
use Rattle.std.proofs.Common.{refl, ap, sym, subst, ◌∙◌, arith, append_assoc}
use Rattle.std.proofs.lemmas.List.{append_cancel_left}
use Rattle.plp_config.specs.declared.config.Config.{Config}
use Rattle.frame_groups.specs.Laws.{AreFrom}
use Rattle.frame_groups.specs.Modulated.{FrameRecord}
use Rattle.frame_groups.specs.declared.waiting.Waiting.{Waiting}
use Rattle.modulator.specs.Laws.{DueFront, DueFollow}
use Rattle.modulator.specs.StandsFor.{records_due, records_of}
use Rattle.modulator.proofs.WaitLemmas.{front_due}
use Rattle.file_run.specs.FileRun.{IsFed}
use Rattle.feed_merge.specs.Skips.{IsOnly, Takes}
use Rattle.feed_merge.specs.FeedStandsFor.{FrameFeedStandsFor, IsFirst, waiting_of}
use Rattle.feed_merge.specs.FeedStandsFor as feed
use Rattle.feed_merge.specs.declared.feed.FrameFeed.{FrameFeed}
use Rattle.feed_merge.specs.Both.{OfFeed, IsPast}
use Rattle.feed_merge.specs.Fed.{IsFedWith, IsBehind, NoneComes}
use Rattle.feed_merge.proofs.BothFeedLemmas.{waits_above}
use Rattle.feed_merge.proofs.NumberLemmas.{AllFrom, above_before, from_rest, from_more}
use Rattle.feed_merge.proofs.SplitLemmas.{IsSplit, split_at, all_given}

-- ---- what is so of both

module _ (c : Config) (f : FrameFeed) (bytes : List ℕ) (ended : Bool) (given : List FrameRecord) where
  pub network_of : (held : Bool) → OfFeed held c f bytes ended given → feed.config_of f ≡ c
  network_of true h = h.fed.network
  network_of false h = h.network

  pub end_of : (held : Bool) → OfFeed held c f bytes ended given → feed.has_ended f ≡ ended
  end_of true h = h.fed.stands.end
  end_of false h = h.stands.end

  pub count_of : (held : Bool) → OfFeed held c f bytes ended given → feed.fed_of f ≡ length bytes
  count_of true h = h.fed.stands.count
  count_of false h = h.stands.count

-- ---- the records of a file

module _ (law : DueFront) (follow : DueFollow) (c : Config) (f : FrameFeed) (file : List ℕ) (place : ℕ)
    (bytes : List ℕ) (ended : Bool)
    (given : List FrameRecord) (is : IsFed file place bytes ended) where
  -- nothing follows if none comes
  pub all_of : (held : Bool) → OfFeed held c f bytes ended given → NoneComes f → records_of c file ≡ given
  all_of true h none = absurd (let e : h.one ∷ [] ≡ [] = subst (λ (o : Option Waiting). IsFirst o (h.one ∷ []))
      none.none h.first in
      let z = ap length e in omega (arith, z))
  all_of false h none = all_given law follow c f file place bytes ended given is h none

  -- what follows is no lower
  pub split_of : (held : Bool) (n : ℕ) → OfFeed held c f bytes ended given → IsPast held n f given
      → IsSplit c file given n
  split_of false n h past = split_at law follow c f file place bytes ended given is h n past
  split_of true n h past =
      let front = front_due law c ended file bytes is.more is.parts is.end in
      let all : records_of c file ≡ given ++ (h.later ++ front.0) =
      front.1 ∙ ap (λ (l : List FrameRecord). l ++ front.0) (h.due ∙ sym (append_assoc h.before (h.one ∷ []) h.later))
      ∙ ap (λ (l : List FrameRecord). (l ++ h.later) ++ front.0) (sym h.given_is)
      ∙ append_assoc given h.later front.0 in
      record { after = h.later ++ front.0; all = all; from = go (h.later ++ front.0) all }
    where
      go : (after : List FrameRecord) → records_of c file ≡ given ++ after → AllFrom n after
      go [] all = tt
      go (y ∷ ys) all =
          let from = follow c true file in
          let are = subst (AreFrom from.0) all from.1 in
          let low = above_before from.0 given y ys are in
          let rest = from_rest from.0 given (y ∷ ys) are in
          let number = rest.0 in
          from_more n (from.0 + length given) (y ∷ ys) (omega (arith, low, number, past)) rest

-- ---- the frame was sent

-- the record that was left behind is the one that was under way
pub left_of : (held : Bool) (c : Config) (f g : FrameFeed) (bytes : List ℕ) (ended : Bool) (given : List FrameRecord)
    → feed.config_of g ≡ feed.config_of f → (held ≡ false → g ≡ f)
    → ((given : List FrameRecord) → FrameFeedStandsFor f bytes ended given → Takes held f g bytes ended given)
    → OfFeed held c f bytes ended given → IsFedWith c g bytes ended given
left_of false c f g bytes ended given config same takes h =
    subst (λ (k : FrameFeed). IsFedWith c k bytes ended given) (sym (same refl)) h
left_of true c f g bytes ended given config same takes h =
    let t = takes h.before h.fed.stands in
    let are : IsOnly (waiting_of f) t.records = t.are in
    let network : feed.config_of g ≡ c = config ∙ h.fed.network in
    let all : records_due c ended bytes ≡ (h.before ++ t.records) ++ t.stands.later =
    ap (λ (k : Config). records_due k ended bytes) (sym network) ∙ t.stands.all in
    let one : h.one ∷ h.later ≡ are.one ∷ t.stands.later =
    append_cancel_left h.before (h.one ∷ h.later) (are.one ∷ t.stands.later)
    (sym h.due ∙ all ∙ ap (λ (l : List FrameRecord). (h.before ++ l) ++ t.stands.later) are.only
    ∙ append_assoc h.before (are.one ∷ []) t.stands.later) in
    let first : h.one ≡ are.one = cc in
    let is : h.before ++ t.records ≡ given =
    ap (λ (l : List FrameRecord). h.before ++ l) are.only ∙ ap (λ (x : FrameRecord). h.before ++ x ∷ []) (sym first)
    ∙ sym h.given_is in
    record { network = network; stands = subst (FrameFeedStandsFor g bytes ended) is t.stands }

pub left_past : DueFollow → (held : Bool) (c : Config) (next : ℕ) (f g : FrameFeed) (bytes : List ℕ) (ended : Bool)
    (given : List FrameRecord) → (held ≡ false → g ≡ f) → IsPast held next f given → IsFedWith c g bytes ended given
    → IsBehind next g given
left_past follow false c next f g bytes ended given same past h =
    subst (λ (k : FrameFeed). IsBehind next k given) (sym (same refl)) past
left_past follow true c next f g bytes ended given same past h = record {
  waits = λ w is. let l = waits_above follow c g bytes ended given h w is in omega (arith, l, past);
  idle = λ _ _. past;
}
