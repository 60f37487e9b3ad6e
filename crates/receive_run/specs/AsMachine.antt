-- A receiver as a machine between files. No public clause cites this module.
use Rattle.std.specs.Prelude.{◌≡◌, ◌≢◌, ◌⊎◌, ℕ, ◌+◌, ◌-◌, ◌<◌, ◌≤◌, Bool, List, [], ◌∷◌, ◌++◌, length, take, Option}
use Rattle.std.specs.Prelude.{Some, None, unwrap_or, Result, Ok, Err}
use Rattle.std.specs.List.{concat}
use Rattle.plp_config.specs.Plps.{spread}
use Rattle.plp_config.specs.declared.config.Config.{Config}
use Rattle.plp_config.specs.declared.moment.TheConstants.{MOST_FRAMES}
use Rattle.site_frame.specs.Record.{head_len}
use Rattle.site_frame.specs.RecordFile.{IsOnGrid}
use Rattle.site_frame.specs.declared.fault.RecordWhy.{RecordWhy}
use Rattle.site_frame.specs.declared.reading.RecordView.{RecordView}
use Rattle.site_frame.specs.FeedStandsFor.{RecordFeedStandsFor, coming_of, count_of, came_of, left_of, lacks_of}
use Rattle.site_frame.specs.FeedStandsFor.{record_of}
use Rattle.site_frame.specs.declared.coming.Coming.{Coming}
use Rattle.site_frame.specs.declared.coming.Coming.TheVariants.{Head, Whole, Refused}
use Rattle.plp_receiver.specs.JointStandsFor as stands
use Rattle.plp_receiver.specs.StandsFor.{slots_over}
use Rattle.plp_receiver.specs.JointStandsFor.{IsFresh, network_of, plp_of, joins_of, frame_of, due_of}
use Rattle.plp_receiver.specs.JoinedBack.{JoinedBackWith}
use Rattle.plp_receiver.specs.declared.joined_receiver.JoinedReceiver.{JoinedReceiver}
use Rattle.file_run.specs.Events.{Event, fed, has_ended, gave}
use Rattle.file_run.specs.declared.machine.Step.{Step}
use Rattle.receive_run.specs.NextStep.{next_from, left_by}
use Rattle.receive_run.specs.JoinedReceived.{GivesBack}
use Rattle.receive_run.specs.Received.{expected_after, IsMisplaced}
use Rattle.receive_run.specs.Taking.{expected_by, Awaits, SamePlp, TakesRecord, TellsDue}
use Rattle.receive_run.specs.declared.machine.ReceiverMachine.{ReceiverMachine}
use Rattle.receive_run.specs.declared.stop.ReceiveRan.{ReceiveRan}
use Rattle.receive_run.specs.declared.stop.ReceiveStop.{ReceiveStop}
use Rattle.receive_run.specs.declared.stop.ReceiveStop.TheVariants as stop

-- what is done next
abbrev pub next_of : ReceiverMachine → Step
next_of m = next_from (due_of m.receiver) m.misplaced (lacks_of m.feed)

-- how far the input may have been read
abbrev pub reach_of : ReceiverMachine → ℕ → ℕ
reach_of m input = came_of m.feed + left_by (due_of m.receiver) (left_of m.feed)

-- ---- a step of it

-- The receiver is ready for a record: all that is due was given, and it waits for the frame that is expected.
pub record IsReady (v : JoinedReceiver) (first : Option ℕ) (count : ℕ) : Type 0 where
  pub none : due_of v ≡ 0
  pub awaits : Awaits v (expected_by first count)
  pub few : count ≤ MOST_FRAMES
  pub fits : (n : ℕ) → first ≡ Some n → n + count ≤ MOST_FRAMES

-- The record that has come whole was taken, and what is due comes next, or the next head.
pub record IsTaken (old new : ReceiverMachine) : Type 0 where
  pub frame : ℕ
  pub takes : TakesRecord (network_of old.receiver) (expected_by old.first (count_of old.feed)) (record_of old.feed)
      old.receiver
      new.receiver frame
  pub same : SamePlp old.receiver new.receiver
  pub due : TellsDue new.receiver
  pub frame_is : frame_of new.receiver ≡ frame + 1
  pub first : new.first ≡ Some (unwrap_or old.first frame)
  pub slots : new.slots ≡ old.slots
  pub misplaced : new.misplaced ≡ old.misplaced
  pub feed : (views : List RecordView) (came : List ℕ) (ended : Bool) → RecordFeedStandsFor old.feed views came ended
      → RecordFeedStandsFor new.feed (views ++ takes.view ∷ []) came ended
  pub coming : coming_of new.feed ≡ Head
  pub left : left_of new.feed ≡ head_len

-- Nothing was taken.
pub record SameTaken (old new : ReceiverMachine) : Type 0 where
  pub receiver : new.receiver ≡ old.receiver
  pub first : new.first ≡ old.first
  pub slots : new.slots ≡ old.slots

-- What has come whole is no record,
pub record IsRefused (old new : ReceiverMachine) : Type 0 where
  pub why : RecordWhy
  pub same : SameTaken old new
  pub misplaced : new.misplaced ≡ old.misplaced
  pub feed : (views : List RecordView) (came : List ℕ) (ended : Bool) → RecordFeedStandsFor old.feed views came ended
      → RecordFeedStandsFor new.feed views came ended
  pub coming : coming_of new.feed ≡ Refused why

-- or not that of the frame that is expected.
pub record IsStopped (old new : ReceiverMachine) : Type 0 where
  pub why : RecordWhy
  pub same : SameTaken old new
  pub feed : new.feed ≡ old.feed
  pub misplaced : new.misplaced ≡ Some why
  pub place : IsMisplaced (network_of old.receiver) (expected_by old.first (count_of old.feed)) (record_of old.feed) why

abbrev pub IsLookedAt : ReceiverMachine → ReceiverMachine → Type 0
IsLookedAt old new = IsTaken old new ⊎ (IsRefused old new ⊎ IsStopped old new)

-- ---- what was done to a machine

-- If a record stands whole behind those that were taken, it is misplaced.
abbrev pub Judged : Config → Option ℕ → Option RecordWhy → Coming → List ℕ → Type 0
Judged c expected None coming rest = coming ≢ Whole
Judged c expected (Some why) coming rest = (coming ≡ Whole) × IsMisplaced c expected rest why

-- Between two records.
abbrev pub IsBetween : ReceiverMachine → Type 0
IsBetween m = (coming_of m.feed ≡ Head) × (left_of m.feed ≡ head_len) × (m.misplaced ≡ None)

-- All that the records before the last one give back was given.
pub record GaveEarly (joins : Option ℕ) (c : Config) (plp first : ℕ) (views : List RecordView) (text : List ℕ) :
    Type 0 where
  pub before : List RecordView
  pub last : RecordView
  pub are : views ≡ before ++ last ∷ []
  pub packets : List (List ℕ)
  pub back : GivesBack joins c plp first before packets
  pub more : List ℕ
  pub begins : text ≡ concat packets ++ more

-- Of what the records give back so many packets were given, and no other is due but those behind them.
pub record GavePackets (joins : Option ℕ) (c : Config) (plp : ℕ) (v : JoinedReceiver) (first : ℕ)
    (views : List RecordView)
    (released : ℕ) (text : List ℕ) : Type 0 where
  pub stands : stands.JoinedReceiverStandsFor v first views released
  pub frame : frame_of v ≡ first + length views
  pub packets : List (List ℕ)
  pub back : JoinedBackWith joins c plp first views packets
  pub inside : released ≤ length packets
  pub due : due_of v ≡ length packets - released
  pub text_is : text ≡ concat (take released packets)
  pub early : GaveEarly joins c plp first views text

abbrev pub Given : Option ℕ → Config → ℕ → JoinedReceiver → ℕ → List RecordView → ℕ → List ℕ → Type 0
Given joins c plp v first [] released text = IsFresh v × (due_of v ≡ 0) × (released ≡ 0) × (text ≡ [])
Given joins c plp v first (view ∷ views) released text = GavePackets joins c plp v first (view ∷ views) released text

-- the frame of the first record
abbrev pub first_of : ℕ → List RecordView → Option ℕ
first_of first [] = None
first_of first (view ∷ views) = Some first

-- To a machine of this PLP, with which this one is joined, this was done: these records were taken, the first of them
-- of this frame.
pub record Shown (joins : Option ℕ) (c : Config) (plp : ℕ) (m : ReceiverMachine) (events : List Event) : Type 0 where
  pub first : ℕ
  pub views : List RecordView
  pub feed : RecordFeedStandsFor m.feed views (fed 0 events) (has_ended 0 events)
  pub successive : IsOnGrid c first views
  pub first_is : m.first ≡ first_of first views
  pub judged : Judged c (expected_after first views) m.misplaced (coming_of m.feed) feed.rest
  pub given : Given joins c plp m.receiver first views m.slots (gave events)
  pub between : 0 < due_of m.receiver → IsBetween m

-- To the first this was done, and then it is the second.
pub record Becomes (start : ReceiverMachine) (events : List Event) (m : ReceiverMachine) : Type 0 where
  pub same : SamePlp start.receiver m.receiver
  pub shown : Shown (joins_of start.receiver) (network_of start.receiver) (plp_of start.receiver) m events

-- ---- how a run ends

-- the slot at which the output begins, by the frame of the first record
abbrev pub slot_by : Config → ℕ → Option ℕ → ℕ
slot_by c plp None = 0
slot_by c plp (Some first) = slots_over c plp (first - spread c.plps plp)

abbrev pub ran_by : Config → ℕ → Option ℕ → ℕ → ReceiveRan
ran_by c plp first slots = record { first = slot_by c plp first; slots = slots }

-- what comes of a machine's run, at its end, by why the record of the next frame did not come
abbrev pub ending_of : Option RecordWhy → ℕ → ReceiveRan → Result ReceiveRan ReceiveStop
ending_of (Some why) count ran = Err (stop.RecordRefused count why)
ending_of None count ran = Ok ran
