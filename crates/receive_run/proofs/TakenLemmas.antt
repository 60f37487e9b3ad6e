-- A record that came whole was taken or refused.
use Rattle.std.proofs.Common.{◌≡◌, ℕ, List, [], ◌∷◌, ◌++◌, length, Option, Some, None, ap, sym, subst, ◌∙◌, inl, inr}
use Rattle.std.specs.Prelude.{unwrap_or}
use Rattle.plp_config.specs.declared.config.Config.{Config}
use Rattle.site_frame.specs.Placing.{IsPlaced}
use Rattle.site_frame.specs.Whole.{moment_of}
use Rattle.site_frame.specs.declared.fault.RecordWhy.{RecordWhy}
use Rattle.site_frame.specs.declared.reading.RecordView.{RecordView}
use Rattle.site_frame.specs.Behind.{Behind}
use Rattle.site_frame.specs.FeedStandsFor.{RecordFeedStandsFor, coming_of, count_of}
use Rattle.site_frame.specs.declared.coming.Coming.{Coming}
use Rattle.site_frame.specs.declared.coming.Coming.TheVariants.{Head, Whole, Refused}
use Rattle.site_frame.specs.declared.feed.RecordFeed.{RecordFeed}
use Rattle.plp_receiver.specs.JointLaws.{JoinedFront}
use Rattle.plp_receiver.specs.JointStandsFor.{network_of, plp_of, joins_of, due_of}
use Rattle.plp_receiver.specs.declared.joined_receiver.JoinedReceiver.{JoinedReceiver}
use Rattle.file_run.specs.Events.{Event, fed, has_ended, gave}
use Rattle.receive_run.specs.Received.{expected_after, IsMisplaced}
use Rattle.receive_run.specs.AsMachine.{IsTaken, SameTaken, IsRefused, IsStopped, IsLookedAt, Judged, GavePackets}
use Rattle.receive_run.specs.AsMachine.{Given, first_of, Shown, Becomes}
use Rattle.receive_run.specs.Taking.{expected_by, SamePlp, TakesView, TakesRecord}
use Rattle.receive_run.specs.declared.machine.ReceiverMachine.{ReceiverMachine}
use Rattle.receive_run.proofs.CameLemmas.{came_given, first_after, expected_is}
use Rattle.receive_run.proofs.StepLemmas.{same_shown, same_plp, then_same, KnownPlan, expects, judged_none}

as_given : (joins : Option ℕ) (c : Config) (plp : ℕ) (v : JoinedReceiver) (first : ℕ) (views : List RecordView)
    (view : RecordView) (released : ℕ)
    (text : List ℕ) → GavePackets joins c plp v first (views ++ view ∷ []) released text
    → Given joins c plp v first (views ++ view ∷ []) released text
as_given joins c plp v first [] view released text g = g
as_given joins c plp v first (w ∷ ws) view released text g = g

-- what was taken, by the same things under other names
abbrev pub taken_as : (c d : Config) (expected other : Option ℕ) (bytes : List ℕ) (old new : JoinedReceiver) (frame : ℕ)
    → d ≡ c
    → expected ≡ other → TakesRecord c expected bytes old new frame → TakesRecord d other bytes old new frame
taken_as c d expected other bytes old new frame same_c same_e t = record {
  view = t.view;
  len = t.len;
  begins = t.begins;
  placed = subst (λ (e : Config). IsPlaced e other (moment_of t.view) frame) (sym same_c)
      (subst (λ (o : Option ℕ). IsPlaced c o (moment_of t.view) frame) same_e t.placed);
  takes = subst (λ (o : Option ℕ). TakesView o old new frame t.view) same_e t.takes;
}

-- a record came whole behind those that a machine took, and nothing is due; no record was misplaced
pub record Waits (joins : Option ℕ) (c : Config) (plp : ℕ) (m mid : ReceiverMachine) (was now : List Event) :
    Type 0 where
  pub shown : Shown joins c plp m was
  pub feed : RecordFeedStandsFor mid.feed shown.views (fed 0 now) (has_ended 0 now)
  pub same : SameTaken m mid
  pub none : mid.misplaced ≡ None
  pub text : gave now ≡ gave was
  pub idle : due_of m.receiver ≡ 0

-- what was expected of it
asked : (joins : Option ℕ) (c : Config) (plp : ℕ) (m mid : ReceiverMachine) (was now : List Event)
    (w : Waits joins c plp m mid was now)
    → expected_by mid.first (count_of mid.feed) ≡ expected_by (first_of w.shown.first w.shown.views)
    (length w.shown.views)
asked joins c plp m mid was now w =
    ap (λ (o : Option ℕ). expected_by o (count_of mid.feed)) w.same.first
    ∙ expects joins c plp m was w.shown (count_of mid.feed) w.feed.number

taken_shown : JoinedFront → (joins : Option ℕ) (c : Config) (plp : ℕ) (m mid n : ReceiverMachine) (was now : List Event)
    (w : Waits joins c plp m mid was now) → KnownPlan joins c plp → network_of m.receiver ≡ c → plp_of m.receiver ≡ plp
    → joins_of m.receiver ≡ joins
    → IsTaken mid n → Shown joins c plp n now
taken_shown front joins c plp m mid n was now w known same_c same_p same_j i =
    let s = w.shown in
    let t = i.takes in
    let c_mid : network_of mid.receiver ≡ c = ap network_of w.same.receiver ∙ same_c in
    let p_mid : plp_of mid.receiver ≡ plp = ap plp_of w.same.receiver ∙ same_p in
    let j_mid : joins_of mid.receiver ≡ joins = ap joins_of w.same.receiver ∙ same_j in
    let expected = asked joins c plp m mid was now w in
    let placed = subst (λ (o : Option ℕ). IsPlaced c o (moment_of t.view) i.frame) expected
    (subst (λ (e : Config). IsPlaced e (expected_by mid.first (count_of mid.feed)) (moment_of t.view) i.frame)
    c_mid t.placed) in
    let takes = subst (λ (o : Option ℕ). TakesView o m.receiver n.receiver i.frame t.view) expected
    (subst (λ (v : JoinedReceiver). TakesView (expected_by mid.first (count_of mid.feed)) v n.receiver i.frame t.view)
    w.same.receiver
    t.takes) in
    let start : ℕ = unwrap_or (first_of s.first s.views) i.frame in
    let given = came_given front joins c plp m.receiver n.receiver s.first i.frame s.views t.view m.slots
    (gave was) known.0 known.1 known.2
    (i.same.0 ∙ c_mid) (i.same.1 ∙ p_mid) (i.same.2 ∙ j_mid) w.idle i.frame_is placed takes i.due s.successive
    s.given in
    let feed = i.feed s.views (fed 0 now) (has_ended 0 now) w.feed in
    record {
      first = start;
      views = s.views ++ t.view ∷ [];
      feed = feed;
      successive = given.successive;
      first_is = i.first ∙ ap (λ (o : Option ℕ). Some (unwrap_or o i.frame)) (w.same.first ∙ s.first_is)
          ∙ first_after s.first i.frame s.views t.view;
      judged = judged_none c (expected_after start (s.views ++ t.view ∷ [])) n (coming_of n.feed) feed.rest
          (i.misplaced ∙ w.none) (λ whole. let e : Head ≡ Whole = sym i.coming ∙ whole in cc);
      given = subst (λ (k : ℕ). Given joins c plp n.receiver start (s.views ++ t.view ∷ []) k (gave now))
          (sym (i.slots ∙ w.same.slots))
          (subst (λ (l : List ℕ). Given joins c plp n.receiver start (s.views ++ t.view ∷ []) m.slots l) (sym w.text)
          (as_given joins c plp n.receiver start s.views t.view m.slots (gave was) given.given));
      between = λ some. (i.coming, i.left, i.misplaced ∙ w.none);
    }

refused_shown : (joins : Option ℕ) (c : Config) (plp : ℕ) (m mid n : ReceiverMachine) (was now : List Event)
    (w : Waits joins c plp m mid was now)
    → IsRefused mid n → Shown joins c plp n now
refused_shown joins c plp m mid n was now w r =
    let s = w.shown in
    let feed = r.feed s.views (fed 0 now) (has_ended 0 now) w.feed in
    same_shown joins c plp m n was now s w.idle (then_same m mid n w.same r.same) w.text feed
    (judged_none c (expected_after s.first s.views) n (coming_of n.feed) feed.rest (r.misplaced ∙ w.none)
    (λ whole. let e : Refused r.why ≡ Whole = sym r.coming ∙ whole in cc))

stopped_shown : (joins : Option ℕ) (c : Config) (plp : ℕ) (m mid n : ReceiverMachine) (was now : List Event)
    (w : Waits joins c plp m mid was now)
    → network_of m.receiver ≡ c → coming_of mid.feed ≡ Whole → IsStopped mid n → Shown joins c plp n now
stopped_shown joins c plp m mid n was now w same_c whole r =
    let s = w.shown in
    let c_mid : network_of mid.receiver ≡ c = ap network_of w.same.receiver ∙ same_c in
    let expected : expected_by mid.first (count_of mid.feed) ≡ expected_after s.first s.views =
    asked joins c plp m mid was now w ∙ expected_is s.first s.views in
    let feed : RecordFeedStandsFor n.feed s.views (fed 0 now) (has_ended 0 now) =
    subst (λ (f : RecordFeed). RecordFeedStandsFor f s.views (fed 0 now) (has_ended 0 now)) (sym r.feed) w.feed in
    let comes : coming_of n.feed ≡ Whole = ap coming_of r.feed ∙ whole in
    let behind = subst (λ (p : Coming). Behind p n.feed.head n.feed.bytes.items n.feed.left feed.rest (has_ended 0 now))
    comes
    feed.behind in
    let bytes : mid.feed.bytes.items ≡ feed.rest = ap (λ (f : RecordFeed). f.bytes.items) (sym r.feed) ∙ sym behind.0 in
    let place : IsMisplaced c (expected_after s.first s.views) feed.rest r.why =
    subst (λ (e : Config). IsMisplaced e (expected_after s.first s.views) feed.rest r.why) c_mid
    (subst (λ (o : Option ℕ). IsMisplaced (network_of mid.receiver) o feed.rest r.why) expected
    (subst (λ (l : List ℕ). IsMisplaced (network_of mid.receiver) (expected_by mid.first (count_of mid.feed)) l r.why)
    bytes
    r.place)) in
    same_shown joins c plp m n was now s w.idle (then_same m mid n w.same r.same) w.text feed
    (subst (λ (o : Option RecordWhy). Judged c (expected_after s.first s.views) o (coming_of n.feed) feed.rest)
    (sym r.misplaced)
    (comes, place))

-- the record that has come whole was looked at
pub looked_becomes : JoinedFront → (start m mid n : ReceiverMachine) (was now : List Event)
    → SamePlp start.receiver m.receiver
    → KnownPlan (joins_of m.receiver) (network_of m.receiver) (plp_of m.receiver)
    → Waits (joins_of start.receiver) (network_of start.receiver) (plp_of start.receiver) m mid was now
    → coming_of mid.feed ≡ Whole → IsLookedAt mid n
    → Becomes start now n
looked_becomes front start m mid n was now same known w whole (inl i) = record {
  same = (
    i.same.0 ∙ ap network_of w.same.receiver ∙ same.0,
    i.same.1 ∙ ap plp_of w.same.receiver ∙ same.1,
    i.same.2 ∙ ap joins_of w.same.receiver ∙ same.2,
  );
  shown = taken_shown front (joins_of start.receiver) (network_of start.receiver) (plp_of start.receiver)
      m mid n was now w
      (subst (λ (j : Option ℕ). KnownPlan j (network_of start.receiver) (plp_of start.receiver)) same.2
      (subst (λ (c : Config). KnownPlan (joins_of m.receiver) c (plp_of start.receiver)) same.0
      (subst (KnownPlan (joins_of m.receiver) (network_of m.receiver)) same.1 known)))
      same.0 same.1 same.2 i;
}
looked_becomes front start m mid n was now same known w whole (inr (inl r)) = record {
  same = same_plp start m n (then_same m mid n w.same r.same) same;
  shown = refused_shown (joins_of start.receiver) (network_of start.receiver) (plp_of start.receiver)
      m mid n was now w r;
}
looked_becomes front start m mid n was now same known w whole (inr (inr r)) = record {
  same = same_plp start m n (then_same m mid n w.same r.same) same;
  shown = stopped_shown (joins_of start.receiver) (network_of start.receiver) (plp_of start.receiver)
      m mid n was now w same.0 whole r;
}
