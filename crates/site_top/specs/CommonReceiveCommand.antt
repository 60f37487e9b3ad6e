-- What `common receive CONFIG PLP IN OUT` gives back.
use Rattle.std.specs.Prelude.{◌≡◌, ◌+◌, ◌<◌, ◌≤◌, ℕ, Bool, not, List, [], map, length, Some, None, IfSome}
use Rattle.std.specs.List.{AllByRecursion, concat, range_with_len}
use Rattle.ports.specs.Desk.{State, bytes_of}
use Rattle.plp_config.specs.declared.config.Config.{Config}
use Rattle.plp_config.specs.declared.moment.TheConstants.{MOST_FRAMES}
use Rattle.common_plp.specs.Groups.{common_of}
use Rattle.common_plp.specs.Split.{split}
use Rattle.site_frame.specs.RecordFile.{AreRecords}
use Rattle.site_frame.specs.declared.reading.RecordView.{RecordView}
use Rattle.record_laws.specs.Records.{record_of, file_bytes}
use Rattle.record_laws.specs.Recover.{due_slots}
use Rattle.network_laws.specs.ToldEpochs.{IsPacket}
use Rattle.network_laws.specs.CommonLaws as common
use Rattle.receive_run.specs.JoinedReceived.{Received}
use Rattle.site_top.specs.ReceiveCommand.{ComesBack}

-- These bytes are what a file gives back of the PLP at a place and of the common PLP of its group.
pub record JoinedComesBack (c : Config) (plp : ℕ) (file bytes : List ℕ) : Type 0 where
  -- If the file is the records of frames in a row, each as all transmitters send it, or muted, of a run whose streams
  -- are those into which inputs are split: for each slot that is due the packet of the input, if it is not null and
  -- every interleaving frame that carries a byte of its user packet is there, in the common PLP if all inputs of the
  -- group share it, and else in the PLP's own; and else the canonical null packet.
  pub frames : (shared : ℕ) → common_of c plp ≡ Some shared → (inputs : ℕ → List (List ℕ)) (whole : ℕ → Bool)
      (first count : ℕ) → ((input : ℕ) → AllByRecursion IsPacket (inputs input)) → 1 ≤ count
      → first + count ≤ MOST_FRAMES
      → file ≡ file_bytes (map (record_of c (split c inputs) whole) (range_with_len first count))
      → bytes ≡ concat (map (common.comes_back c inputs shared plp (λ m. not (whole m)) first count)
      (due_slots c plp first count))
  -- Without a common PLP, what comes back of the PLP alone.
  pub alone : common_of c plp ≡ None → ComesBack c plp file bytes

-- So it is with the bytes of IN and OUT.
abbrev pub HoldsWhatIsJoined : Config → ℕ → State → State → List ℕ → List ℕ → Type 0
HoldsWhatIsJoined c plp old new file out =
    IfSome old.held (λ h. IfSome new.held (λ k. JoinedComesBack c plp (bytes_of h.files file) (bytes_of k.files out)))

-- So it is of every file of records of successive frames, and what they give back.
abbrev pub ReceivedIsJoined : Config → Type 0
ReceivedIsJoined c = (plp : ℕ) (file bytes : List ℕ) (views : List RecordView) → plp < length c.plps
    → AreRecords file views []
    → Received (common_of c plp) c plp views bytes → JoinedComesBack c plp file bytes
