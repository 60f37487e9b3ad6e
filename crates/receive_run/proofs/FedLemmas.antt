-- The machine was fed bytes, or its file has ended.
use Rattle.std.proofs.Common.{◌≡◌, ◌≢◌, ℕ, Bool, true, List, [], ◌∷◌, ◌++◌, length, ap, sym, subst, ◌∙◌}
use Rattle.std.proofs.Common.{arith, append-nil}
use Rattle.std.proofs.lemmas.List.{nil_from_length}
use Rattle.site_frame.specs.declared.reading.RecordView.{RecordView}
use Rattle.site_frame.specs.FeedStandsFor.{RecordFeedStandsFor, coming_of, Takes}
use Rattle.site_frame.specs.declared.coming.Coming.TheVariants.{Whole}
use Rattle.site_frame.specs.declared.feed.RecordFeed.{RecordFeed}
use Rattle.plp_receiver.specs.JointLaws.{JoinedFront}
use Rattle.plp_receiver.specs.JointStandsFor.{network_of, plp_of, joins_of}
use Rattle.file_run.specs.Events.{Event, Fed, Ended, fed, has_ended}
use Rattle.file_run.specs.Laws.{EventsTell}
use Rattle.file_run.specs.Steps.{Suffices, FallsShort}
use Rattle.receive_run.specs.Received.{expected_after}
use Rattle.receive_run.specs.AsMachine.{next_of, SameTaken, IsLookedAt, Becomes}
use Rattle.receive_run.specs.declared.machine.ReceiverMachine.{ReceiverMachine}
use Rattle.receive_run.proofs.StepLemmas.{same_shown, same_plp, KnownPlan, judged_none}
use Rattle.receive_run.proofs.TakenLemmas.{looked_becomes}
use Rattle.receive_run.proofs.WantedLemmas.{short, enough}

fed_stands : EventsTell → (f g : RecordFeed) (views : List RecordView) (events : List Event) (piece : List ℕ)
    → RecordFeedStandsFor f views (fed 0 events) (has_ended 0 events) → Takes f g piece
    → RecordFeedStandsFor g views (fed 0 (events ++ Fed 0 piece ∷ [])) (has_ended 0 (events ++ Fed 0 piece ∷ []))
fed_stands law f g views events piece s takes =
    let more = law.fed 0 piece events in
    subst (λ (l : List ℕ). RecordFeedStandsFor g views l (has_ended 0 (events ++ Fed 0 piece ∷ []))) (sym more.here)
    (subst (λ (e : Bool). RecordFeedStandsFor g views (fed 0 events ++ piece) e) (sym (more.ended 0))
    (takes views (fed 0 events) (has_ended 0 events) s))

-- no record is whole
pub fed_some : EventsTell → (start m n : ReceiverMachine) (events : List Event) (input count : ℕ) (piece : List ℕ)
    → Suffices (next_of m) input count → SameTaken m n → n.misplaced ≡ m.misplaced → coming_of n.feed ≢ Whole
    → Takes m.feed n.feed piece → Becomes start events m → Becomes start (events ++ Fed input piece ∷ []) n
fed_some law start m n events input count piece wanted same misplaced seen takes b =
    let s = b.shown in
    let w = (enough m input count wanted).0 in
    let now : List Event = events ++ Fed 0 piece ∷ [] in
    let feed = fed_stands law m.feed n.feed s.views events piece s.feed takes in
    subst (λ (k : ℕ). Becomes start (events ++ Fed k piece ∷ []) n) (sym w.only) (record {
      same = same_plp start m n same b.same;
      shown = same_shown (joins_of start.receiver) (network_of start.receiver) (plp_of start.receiver)
          m n events now s w.idle same
          (law.fed 0 piece events).gave feed
          (judged_none (network_of start.receiver) (expected_after s.first s.views) n (coming_of n.feed) feed.rest
          (misplaced ∙ w.none) seen);
    })

-- a record is whole, and was looked at
pub fed_whole : EventsTell → JoinedFront → (start m mid n : ReceiverMachine) (events : List Event) (input count : ℕ)
    (piece : List ℕ) → KnownPlan (joins_of m.receiver) (network_of m.receiver) (plp_of m.receiver)
    → Suffices (next_of m) input count → SameTaken m mid
    → mid.misplaced ≡ m.misplaced → coming_of mid.feed ≡ Whole → Takes m.feed mid.feed piece → IsLookedAt mid n
    → Becomes start events m → Becomes start (events ++ Fed input piece ∷ []) n
fed_whole law front start m mid n events input count piece known wanted same misplaced whole takes looked b =
    let w = (enough m input count wanted).0 in
    subst (λ (k : ℕ). Becomes start (events ++ Fed k piece ∷ []) n) (sym w.only)
    (looked_becomes front start m mid n events (events ++ Fed 0 piece ∷ []) b.same known
    (record {
      shown = b.shown;
      feed = fed_stands law m.feed mid.feed b.shown.views events piece b.shown.feed takes;
      same = same;
      none = misplaced ∙ w.none;
      text = (law.fed 0 piece events).gave;
      idle = w.idle;
    }) whole looked)

-- ---- the end of the file

pub ended : EventsTell → (start m n : ReceiverMachine) (events : List Event) (input : ℕ) (bytes : List ℕ)
    → FallsShort (next_of m) input (length bytes) → SameTaken m n → n.misplaced ≡ m.misplaced → coming_of n.feed ≢ Whole
    → ((views : List RecordView) (came : List ℕ) (over : Bool) → RecordFeedStandsFor m.feed views came over
    → RecordFeedStandsFor n.feed views came true)
    → Becomes start events m → Becomes start (events ++ Ended input bytes ∷ []) n
ended law start m n events input bytes wanted same misplaced seen stands b =
    let s = b.shown in
    let w = short m input (length bytes) wanted in
    let few = w.1 in
    let nothing : bytes ≡ [] = nil_from_length bytes (omega (arith, few)) in
    let now : List Event = events ++ Ended 0 bytes ∷ [] in
    let more = law.ended 0 bytes events in
    let all : fed 0 now ≡ fed 0 events = more.here ∙ ap (λ (l : List ℕ). fed 0 events ++ l) nothing
    ∙ append-nil (fed 0 events) in
    let feed : RecordFeedStandsFor n.feed s.views (fed 0 now) (has_ended 0 now) =
    subst (λ (l : List ℕ). RecordFeedStandsFor n.feed s.views l (has_ended 0 now)) (sym all)
    (subst (λ (e : Bool). RecordFeedStandsFor n.feed s.views (fed 0 events) e) (sym more.ended)
    (stands s.views (fed 0 events) (has_ended 0 events) s.feed)) in
    subst (λ (k : ℕ). Becomes start (events ++ Ended k bytes ∷ []) n) (sym w.0.only) (record {
      same = same_plp start m n same b.same;
      shown = same_shown (joins_of start.receiver) (network_of start.receiver) (plp_of start.receiver)
          m n events now s w.0.idle same more.gave feed
          (judged_none (network_of start.receiver) (expected_after s.first s.views) n (coming_of n.feed) feed.rest
          (misplaced ∙ w.0.none) seen);
    })
