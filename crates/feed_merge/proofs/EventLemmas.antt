-- What two feeds stand for by one event more.
use Rattle.std.proofs.Common.{◌≡◌, ℕ, Bool, true, false, List, [], ◌∷◌, ◌++◌, length}
use Rattle.std.proofs.Common.{ap, sym, subst, ◌∙◌, arith, append-nil, append_assoc}
use Rattle.std.proofs.lemmas.Bool.{true≢false}
use Rattle.std.proofs.lemmas.List.{nil_from_length}
use Rattle.plp_config.specs.declared.config.Config.{Config}
use Rattle.frame_groups.specs.Modulated.{FrameRecord, Numbered}
use Rattle.modulator.specs.Laws.{DueFollow}
use Rattle.file_run.specs.Events.{Event, Fed, Ended, Gave, fed, has_ended, gave}
use Rattle.file_run.specs.Laws.{EventsTell}
use Rattle.feed_merge.specs.Groups.{AreGroups, groups_of}
use Rattle.feed_merge.specs.FeedStandsFor.{FrameFeedStandsFor, waiting_of}
use Rattle.feed_merge.specs.FeedStandsFor as feed
use Rattle.feed_merge.specs.declared.feed.FrameFeed.{FrameFeed}
use Rattle.feed_merge.specs.Both.{OfFeed, AreFedWith, GoOn}
use Rattle.feed_merge.specs.Fed.{IsFedWith, IsBehind}
use Rattle.feed_merge.proofs.BothFeedLemmas.{behind_more}
use Rattle.feed_merge.proofs.FilesLemmas.{two}
use Rattle.feed_merge.proofs.StepLemmas.{IsIdle}

-- the same of any bytes and ends that are the same
same_of : (held : Bool) (c : Config) (f : FrameFeed) (bytes other : List ℕ) (ended over : Bool)
    (given : List FrameRecord)
    → bytes ≡ other → ended ≡ over → OfFeed held c f bytes ended given → OfFeed held c f other over given
same_of held c f bytes other ended over given b e h =
    subst (λ (l : List ℕ). OfFeed held c f l over given) b (subst (λ (k : Bool). OfFeed held c f bytes k given) e h)

pub same_both : (c : Config) (events more : List Event) (held_a held_b : Bool) (next : ℕ) (a b : FrameFeed)
    (ga gb : List FrameRecord)
    → ((input : ℕ) → fed input events ≡ fed input more) → ((input : ℕ) → has_ended input events ≡ has_ended input more)
    → AreFedWith c events held_a held_b next a b ga gb → AreFedWith c more held_a held_b next a b ga gb
same_both c events more held_a held_b next a b ga gb bytes ended s = record {
  of_a = same_of held_a c a _ _ _ _ ga (bytes 0) (ended 0) s.of_a;
  of_b = same_of held_b c b _ _ _ _ gb (bytes 1) (ended 1) s.of_b;
  behind_a = s.behind_a;
  behind_b = s.behind_b;
  next_is = s.next_is;
  early = s.early;
}

-- Nothing was fed.
pub gave_both : EventsTell → (c : Config) (events : List Event) (bytes : List ℕ) (held_a held_b : Bool)
    (next : ℕ) (a b : FrameFeed)
    (ga gb : List FrameRecord) → AreFedWith c events held_a held_b next a b ga gb
    → AreFedWith c (events ++ Gave bytes ∷ []) held_a held_b next a b ga gb
gave_both tell c events bytes held_a held_b next a b ga gb s =
    let t = tell.given bytes events in
    same_both c events (events ++ Gave bytes ∷ []) held_a held_b next a b ga gb (λ input. sym (t.fed input))
    (λ input. sym (t.ended input)) s

-- ---- one of them

-- One of two feeds goes on.
record GoesOn (c : Config) (events more : List Event) (input next : ℕ) (f : FrameFeed) (given : List FrameRecord) :
    Type 0 where
  pub of : IsFedWith c f (fed input more) (has_ended input more) given
  pub behind : IsBehind next f given
  pub groups : (gs : List Numbered) → AreGroups c (fed input more) (has_ended input more) gs
      → AreGroups c (fed input events) (has_ended input events) gs

module _ (follow : DueFollow) (c : Config) (events more : List Event) (input next : ℕ) (f : FrameFeed)
    (given : List FrameRecord)
    (s : IsFedWith c f (fed input events) (has_ended input events) given) (behind : IsBehind next f given) where
  -- it was fed these bytes, and has ended or not
  grows : (g : FrameFeed) (piece : List ℕ) (over : Bool) → fed input more ≡ fed input events ++ piece
      → has_ended input more ≡ over
      → IsIdle (waiting_of f) (feed.has_ended f) → feed.config_of g ≡ feed.config_of f
      → (FrameFeedStandsFor f (fed input events) false given → FrameFeedStandsFor g (fed input events ++ piece)
      over given)
      → GoesOn c events more input next g given
  grows g piece over bytes ended idle config stands =
      let off : has_ended input events ≡ false = sym s.stands.end ∙ idle.going in
      let now : IsFedWith c g (fed input more) (has_ended input more) given = same_of false c g _ _ _
      _ given (sym bytes) (sym ended)
      (record {
        network = config ∙ s.network;
        stands = stands (subst (λ (e : Bool). FrameFeedStandsFor f (fed input events) e given) off s.stands);
      }) in
      record {
        of = now;
        behind = behind_more follow c next f g _ _ given idle.none idle.going behind now;
        groups = λ gs g. record {
          more = piece ++ g.more;
          none = λ on. absurd (true≢false (sym on ∙ off));
          are = g.are ∙ ap (λ (l : List ℕ). groups_of c (l ++ g.more)) bytes
              ∙ ap (groups_of c) (append_assoc (fed input events) piece g.more);
        };
      }

  -- it was not
  stays : fed input more ≡ fed input events → has_ended input more ≡ has_ended input events
      → GoesOn c events more input next f given
  stays bytes ended = record {
    of = same_of false c f _ _ _ _ given (sym bytes) (sym ended) s;
    behind = behind;
    groups = λ gs g. subst (λ (e : Bool). AreGroups c (fed input events) e gs) ended
        (subst (λ (l : List ℕ). AreGroups c l (has_ended input more) gs) bytes g);
  }

-- ---- both

both_go : (c : Config) (events more : List Event) (next : ℕ) (a b g h : FrameFeed) (ga gb : List FrameRecord)
    → AreFedWith c events false false next a b ga gb → gave more ≡ gave events → GoesOn c events more 0 next g ga
    → GoesOn c events more 1 next h gb → GoOn c events more next g h ga gb
both_go c events more next a b g h ga gb s same x y = record {
  both = record {
    of_a = x.of;
    of_b = y.of;
    behind_a = x.behind;
    behind_b = y.behind;
    next_is = s.next_is;
    early = s.early;
  };
  gave_is = same;
  groups = two (λ (input : ℕ). (gs : List Numbered) → AreGroups c (fed input more) (has_ended input more) gs
      → AreGroups c (fed input events) (has_ended input events) gs) x.groups y.groups;
}

ended_stands : (g : FrameFeed) (bytes piece : List ℕ) (given : List FrameRecord) → length piece ≡ 0
    → FrameFeedStandsFor g bytes true given → FrameFeedStandsFor g (bytes ++ piece) true given
ended_stands g bytes piece given none h =
    subst (λ (l : List ℕ). FrameFeedStandsFor g l true given)
    (sym (ap (λ (l : List ℕ). bytes ++ l) (nil_from_length piece none) ∙ append-nil bytes)) h

module _ (tell : EventsTell) (follow : DueFollow) (c : Config) (events : List Event) (next : ℕ) (a b g : FrameFeed)
    (ga gb : List FrameRecord) (s : AreFedWith c events false false next a b ga gb) (input : ℕ) (piece : List ℕ) where
  pub first_fed : input ≡ 0 → IsIdle (waiting_of a) (feed.has_ended a) → feed.config_of g ≡ feed.config_of a
      → ((bytes : List ℕ) (given : List FrameRecord) → FrameFeedStandsFor a bytes false given
      → FrameFeedStandsFor g (bytes ++ piece) false given)
      → GoOn c events (events ++ Fed input piece ∷ []) next g b ga gb
  first_fed is idle config stands =
      let t = tell.fed 0 piece events in
      let more : List Event = events ++ Fed 0 piece ∷ [] in
      subst (λ (k : ℕ). GoOn c events (events ++ Fed k piece ∷ []) next g b ga gb) (sym is)
      (both_go c events more next a b g b ga gb s t.gave
      (grows follow c events more 0 next a ga s.of_a s.behind_a g piece false t.here
      (t.ended 0 ∙ sym s.of_a.stands.end ∙ idle.going) idle config (stands _ ga))
      (stays follow c events more 1 next b gb s.of_b s.behind_b (t.others 1 (λ e. absurd (omega (arith, e))))
      (t.ended 1)))

  pub second_fed : input ≡ 1 → IsIdle (waiting_of b) (feed.has_ended b) → feed.config_of g ≡ feed.config_of b
      → ((bytes : List ℕ) (given : List FrameRecord) → FrameFeedStandsFor b bytes false given
      → FrameFeedStandsFor g (bytes ++ piece) false given)
      → GoOn c events (events ++ Fed input piece ∷ []) next a g ga gb
  second_fed is idle config stands =
      let t = tell.fed 1 piece events in
      let more : List Event = events ++ Fed 1 piece ∷ [] in
      subst (λ (k : ℕ). GoOn c events (events ++ Fed k piece ∷ []) next a g ga gb) (sym is)
      (both_go c events more next a b a g ga gb s t.gave
      (stays follow c events more 0 next a ga s.of_a s.behind_a (t.others 0 (λ e. absurd (omega (arith, e))))
      (t.ended 0))
      (grows follow c events more 1 next b gb s.of_b s.behind_b g piece false t.here
      (t.ended 1 ∙ sym s.of_b.stands.end ∙ idle.going) idle config (stands _ gb)))

  -- nothing of it was left
  pub first_ended : input ≡ 0 → length piece ≡ 0 → IsIdle (waiting_of a) (feed.has_ended a)
      → feed.config_of g ≡ feed.config_of a
      → ((bytes : List ℕ) (given : List FrameRecord) → FrameFeedStandsFor a bytes false given
      → FrameFeedStandsFor g bytes true given)
      → GoOn c events (events ++ Ended input piece ∷ []) next g b ga gb
  first_ended is none idle config stands =
      let t = tell.ended 0 piece events in
      let more : List Event = events ++ Ended 0 piece ∷ [] in
      subst (λ (k : ℕ). GoOn c events (events ++ Ended k piece ∷ []) next g b ga gb) (sym is)
      (both_go c events more next a b g b ga gb s t.gave
      (grows follow c events more 0 next a ga s.of_a s.behind_a g piece true t.here t.ended idle config
      (λ h. ended_stands g _ piece ga none (stands _ ga h)))
      (stays follow c events more 1 next b gb s.of_b s.behind_b (t.others 1 (λ e. absurd (omega (arith, e))))
      (t.others_ended 1 (λ e. absurd (omega (arith, e))))))

  pub second_ended : input ≡ 1 → length piece ≡ 0 → IsIdle (waiting_of b) (feed.has_ended b)
      → feed.config_of g ≡ feed.config_of b
      → ((bytes : List ℕ) (given : List FrameRecord) → FrameFeedStandsFor b bytes false given
      → FrameFeedStandsFor g bytes true given)
      → GoOn c events (events ++ Ended input piece ∷ []) next a g ga gb
  second_ended is none idle config stands =
      let t = tell.ended 1 piece events in
      let more : List Event = events ++ Ended 1 piece ∷ [] in
      subst (λ (k : ℕ). GoOn c events (events ++ Ended k piece ∷ []) next a g ga gb) (sym is)
      (both_go c events more next a b a g ga gb s t.gave
      (stays follow c events more 0 next a ga s.of_a s.behind_a (t.others 0 (λ e. absurd (omega (arith, e))))
      (t.others_ended 0 (λ e. absurd (omega (arith, e)))))
      (grows follow c events more 1 next b gb s.of_b s.behind_b g piece true t.here t.ended idle config
      (λ h. ended_stands g _ piece gb none (stands _ gb h))))
