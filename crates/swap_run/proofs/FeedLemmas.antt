-- What the feed of the T2-MI stream stands for by one event more.
use Rattle.std.proofs.Common.{◌≡◌, ℕ, Bool, true, false, List, [], ◌∷◌, ◌++◌, length, ap, sym, ◌∙◌, append-nil}
use Rattle.std.proofs.lemmas.List.{nil_from_length}
use Rattle.plp_config.specs.declared.config.Config.{Config}
use Rattle.frame_groups.specs.Modulated.{FrameRecord}
use Rattle.file_run.specs.Events.{Event, Fed, Ended, fed, has_ended}
use Rattle.file_run.specs.Laws.{EventsTell}
use Rattle.feed_merge.specs.FeedStandsFor.{FrameFeedStandsFor, waiting_of}
use Rattle.feed_merge.specs.FeedStandsFor as feed
use Rattle.feed_merge.specs.declared.feed.FrameFeed.{FrameFeed}
use Rattle.feed_merge.specs.Fed.{IsFedWith}
use Rattle.feed_merge.proofs.StepLemmas.{IsIdle}

module _ (tell : EventsTell) (c : Config) (f g : FrameFeed) (events : List Event) (piece : List ℕ)
    (given : List FrameRecord)
    (idle : IsIdle (waiting_of f) (feed.has_ended f)) (config : feed.config_of g ≡ feed.config_of f)
    (h : IsFedWith c f (fed 0 events) (has_ended 0 events) given) where
  off : has_ended 0 events ≡ false
  off = sym h.stands.end ∙ idle.going

  -- it had not ended
  was : FrameFeedStandsFor f (fed 0 events) false given
  was = rw off at h.stands

  now : (more : List Event) (bytes : List ℕ) (over : Bool) → fed 0 more ≡ bytes → has_ended 0 more ≡ over
      → FrameFeedStandsFor g bytes over given → IsFedWith c g (fed 0 more) (has_ended 0 more) given
  now more bytes over e o s = record {
    network = config ∙ h.network;
    stands = rw (o, e) s;
  }

  pub fed_one : ((bytes : List ℕ) (given : List FrameRecord) → FrameFeedStandsFor f bytes false given
      → FrameFeedStandsFor g (bytes ++ piece) false given)
      → IsFedWith c g (fed 0 (events ++ Fed 0 piece ∷ [])) (has_ended 0 (events ++ Fed 0 piece ∷ [])) given
  fed_one stands =
      let t = tell.fed 0 piece events in
      now (events ++ Fed 0 piece ∷ []) (fed 0 events ++ piece) false t.here (t.ended 0 ∙ off)
      (stands (fed 0 events) given was)

  pub ended_one : length piece ≡ 0
      → ((bytes : List ℕ) (given : List FrameRecord) → FrameFeedStandsFor f bytes false given
      → FrameFeedStandsFor g bytes true given)
      → IsFedWith c g (fed 0 (events ++ Ended 0 piece ∷ [])) (has_ended 0 (events ++ Ended 0 piece ∷ [])) given
  ended_one none stands =
      let t = tell.ended 0 piece events in
      now (events ++ Ended 0 piece ∷ []) (fed 0 events) true
      (t.here ∙ ap (λ (l : List ℕ). fed 0 events ++ l) (nil_from_length piece none) ∙ append-nil (fed 0 events)) t.ended
      (stands (fed 0 events) given was)
