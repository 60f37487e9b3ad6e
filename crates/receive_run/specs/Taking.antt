-- A record that came, and packets that are given out behind it. No public clause cites this module.
use Rattle.std.specs.Prelude.{◌≡◌, ℕ, ◌+◌, ◌-◌, ◌≤◌, List, [], ◌∷◌, ◌++◌, length, take, Option, Some, None}
use Rattle.std.specs.List.{concat}
use Rattle.plp_config.specs.declared.config.Config.{Config}
use Rattle.site_frame.specs.Placing.{IsPlaced}
use Rattle.site_frame.specs.Whole.{BeginsWith, Refuses, moment_of}
use Rattle.site_frame.specs.declared.reading.RecordView.{RecordView}
use Rattle.plp_receiver.specs.JointStandsFor.{JoinedReceiverStandsFor, IsFresh, network_of, plp_of, joins_of, frame_of}
use Rattle.plp_receiver.specs.JointStandsFor.{due_of}
use Rattle.plp_receiver.specs.JoinedBack.{JoinedBackWith}
use Rattle.plp_receiver.specs.declared.joined_receiver.JoinedReceiver.{JoinedReceiver}
use Rattle.receive_run.specs.Received.{IsMisplaced}
use Rattle.receive_run.specs.declared.record.Look.{Look}
use Rattle.receive_run.specs.declared.record.Look.TheVariants.{Taken, NoRecord, Misplaced}

-- the frame that is expected, by the frame of the first record and their number
abbrev pub expected_by : Option ℕ → ℕ → Option ℕ
expected_by None count = None
expected_by (Some first) count = Some (first + count)

-- The receiver waits for the record of the frame that is expected.
abbrev pub Awaits : JoinedReceiver → Option ℕ → Type 0
Awaits v None = IsFresh v
Awaits v (Some frame) = frame_of v ≡ frame

-- The network, the PLP and what is joined with it are the same.
abbrev pub SamePlp : JoinedReceiver → JoinedReceiver → Type 0
SamePlp old new = (network_of new ≡ network_of old) × (plp_of new ≡ plp_of old) × (joins_of new ≡ joins_of old)

-- The receiver took the record of a frame, of any if none was expected.
abbrev pub TakesView : Option ℕ → JoinedReceiver → JoinedReceiver → ℕ → RecordView → Type 0
TakesView None old new frame view = JoinedReceiverStandsFor new frame (view ∷ []) 0
TakesView (Some other) old new frame view = (first : ℕ) (views : List RecordView) (released : ℕ)
    → JoinedReceiverStandsFor old first views released
    → JoinedReceiverStandsFor new first (views ++ view ∷ []) released

-- The bytes begin with a record of the frame that was expected, and the receiver took it.
pub record TakesRecord (c : Config) (expected : Option ℕ) (bytes : List ℕ) (old new : JoinedReceiver)
    (frame : ℕ) : Type 0 where
  pub view : RecordView
  pub len : ℕ
  pub begins : BeginsWith bytes view len
  pub placed : IsPlaced c expected (moment_of view) frame
  pub takes : TakesView expected old new frame view

-- What became of a record that has come whole: the receiver took it, or nothing, since it is no record, or misplaced.
abbrev pub IsLook : Config → Option ℕ → List ℕ → JoinedReceiver → JoinedReceiver → Look → Type 0
IsLook c expected bytes old new (Taken frame) =
    TakesRecord c expected bytes old new frame × (frame_of new ≡ frame + 1) × SamePlp old new
IsLook c expected bytes old new (NoRecord why) = Refuses bytes why × (new ≡ old)
IsLook c expected bytes old new (Misplaced why) = IsMisplaced c expected bytes why × (new ≡ old)

-- The next packet was given out, and these are its bytes.
pub record GivesPacket (old new : JoinedReceiver) (packet : List ℕ) : Type 0 where
  pub same : SamePlp old new
  pub frame : frame_of new ≡ frame_of old
  pub due : due_of new + 1 ≡ due_of old
  pub stands : (first : ℕ) (views : List RecordView) (released : ℕ) → JoinedReceiverStandsFor old first views released
      → JoinedReceiverStandsFor new first views (released + 1)
  pub packets : (first : ℕ) (views : List RecordView) (released : ℕ) (packets : List (List ℕ))
      → JoinedReceiverStandsFor old first views released
      → JoinedBackWith (joins_of old) (network_of old) (plp_of old) first views packets → released ≤ length packets
      → (released + 1 ≤ length packets) × (concat (take (released + 1) packets) ≡ concat (take released packets)
      ++ packet)

-- There is a list of packets that the records give back, and of these so many are due.
abbrev pub TellsDue : JoinedReceiver → Type 0
TellsDue v = (first : ℕ) (views : List RecordView) (released : ℕ) → JoinedReceiverStandsFor v first views released
    → (packets : List (List ℕ)) × JoinedBackWith (joins_of v) (network_of v) (plp_of v) first views packets
    × (due_of v ≡ length packets - released)
