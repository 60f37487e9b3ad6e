-- What a `JoinedReceiver` stands for.
use Rattle.std.specs.Prelude.{ℕ, max, List, Option, Some, None}
use Rattle.plp_config.specs.declared.config.Config.{Config}
use Rattle.site_frame.specs.declared.reading.RecordView.{RecordView}
use Rattle.plp_receiver.specs.StandsFor as one
use Rattle.plp_receiver.specs.StandsFor.{Status}
use Rattle.plp_receiver.specs.declared.receiver.Receiver.{Receiver}
use Rattle.plp_receiver.specs.declared.joined_receiver.JoinedReceiver.{JoinedReceiver}

-- The receiver of the common PLP, if there is one, stands for these records too; no record came to it.
abbrev pub CommonStandsFor : Option Receiver → ℕ → List RecordView → ℕ → Type 0
CommonStandsFor None first views released = Unit {0}
CommonStandsFor (Some v) first views released = one.ReceiverStandsFor v first views released

abbrev pub CommonIsFresh : Option Receiver → Type 0
CommonIsFresh None = Unit {0}
CommonIsFresh (Some v) = one.IsFresh v

-- the PLP of which it is
abbrev pub common_at : Option Receiver → Option ℕ
common_at None = None
common_at (Some v) = Some (one.plp_of v)

-- how many slots it has due
abbrev pub common_due : Option Receiver → ℕ
common_due None = 0
common_due (Some v) = one.due_of v

-- These records came, the first of them of this frame, and so many slots were given out.
unfoldable pub JoinedReceiverStandsFor : JoinedReceiver → ℕ → List RecordView → ℕ → Type 0
JoinedReceiverStandsFor j first views released =
    one.ReceiverStandsFor j.own first views released × CommonStandsFor j.common first views released

-- No record came yet.
unfoldable pub IsFresh : JoinedReceiver → Type 0
IsFresh j = one.IsFresh j.own × CommonIsFresh j.common

-- what a caller sees: the network, the place of the PLP, the frame that comes next, and how many slots are due
abbrev pub network_of : JoinedReceiver → Config
network_of j = one.network_of j.own

abbrev pub plp_of : JoinedReceiver → ℕ
plp_of j = one.plp_of j.own

abbrev pub frame_of : JoinedReceiver → ℕ
frame_of j = one.frame_of j.own

unfoldable pub due_of : JoinedReceiver → ℕ
due_of j = max (one.due_of j.own) (common_due j.common)

-- the common PLP that is joined with it, if one is
abbrev pub joins_of : JoinedReceiver → Option ℕ
joins_of j = common_at j.common

abbrev pub status_of : JoinedReceiver → Status
status_of j = record { network = network_of j; plp = plp_of j; frame = frame_of j; due = due_of j }
