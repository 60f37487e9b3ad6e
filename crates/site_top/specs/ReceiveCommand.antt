-- What `receive CONFIG PLP IN OUT` gives back, and its line.
use Rattle.std.specs.Prelude.{◌≡◌, ◌+◌, ◌<◌, ◌≤◌, ℕ, Bool, not, List, [], ◌++◌, map, length, replicate, codes, IfSome}
use Rattle.std.specs.Fmt.{decimal}
use Rattle.std.specs.List.{AllByRecursion, concat, range_with_len}
use Rattle.ports.specs.Desk.{State, bytes_of}
use Rattle.plp_config.specs.Plps.{plp_at}
use Rattle.plp_config.specs.declared.config.Config.{Config}
use Rattle.plp_config.specs.declared.moment.TheConstants.{MOST_FRAMES}
use Rattle.ts_packet.specs.Null.{null_packet}
use Rattle.null_delete.specs.Deletion.{packet_at}
use Rattle.site_frame.specs.RecordFile.{AreRecords}
use Rattle.site_frame.specs.declared.reading.RecordView.{RecordView}
use Rattle.record_laws.specs.Frames.{run_frames}
use Rattle.record_laws.specs.Records.{record_of, file_bytes}
use Rattle.record_laws.specs.Recover.{recover}
use Rattle.stream_laws.specs.SentFrames.{run_length}
use Rattle.network_laws.specs.RecoverLaws.{IsCanonical}
use Rattle.network_laws.specs.ToldEpochs.{IsPacket}
use Rattle.receive_run.specs.Received.{Received}
use Rattle.receive_run.specs.declared.stop.ReceiveRan.{ReceiveRan}

-- the line of a run to its end
abbrev pub receive_line : ReceiveRan → List ℕ
receive_line ran = codes "first=" ++ decimal ran.first ++ codes " slots=" ++ decimal ran.slots ++ codes "\n"

-- If a file is records of the frames of a run, these bytes are what the frames give back of the PLP at a place: for
-- each slot that is due the packet that was sent in it, and a null packet if it was not kept, if the input had ended,
-- or if an interleaving frame that carries a part of it is not there: one of its frames is muted, or is none of these.
pub record ComesBack (c : Config) (plp : ℕ) (file bytes : List ℕ) : Type 0 where
  -- the records of frames in a row, each as all transmitters send it, or muted; so are those that must come of what is
  -- received of a stream
  pub frames : (inputs : ℕ → List (List ℕ)) (whole : ℕ → Bool) (first count : ℕ) → AllByRecursion IsPacket (inputs plp)
      → 1 ≤ count → first + count ≤ MOST_FRAMES
      → file ≡ file_bytes (map (record_of c inputs whole) (range_with_len first count))
      → bytes ≡ concat (recover c plp (packet_at (inputs plp)) (λ m. not (whole m)) first count)
  -- all frames of the run, none of them muted: the packets that were sent, if their null packets are canonical or none
  -- is deleted, and null packets behind
  pub run : (inputs : ℕ → List (List ℕ)) → AllByRecursion IsPacket (inputs plp)
      → AllByRecursion (IsCanonical (plp_at c.plps plp).delete) (inputs plp) → run_length c inputs ≤ MOST_FRAMES
      → file ≡ file_bytes (run_frames c inputs) → (nulls : ℕ)
      × (bytes ≡ concat (inputs plp ++ replicate nulls null_packet))

-- So it is with the bytes of IN and OUT.
abbrev pub HoldsWhatComesBack : Config → ℕ → State → State → List ℕ → List ℕ → Type 0
HoldsWhatComesBack c plp old new file out =
    IfSome old.held (λ h. IfSome new.held (λ k. ComesBack c plp (bytes_of h.files file) (bytes_of k.files out)))

-- So it is of every file of records of successive frames, and what they give back.
abbrev pub ReceivedComesBack : Config → Type 0
ReceivedComesBack c = (plp : ℕ) (file bytes : List ℕ) (views : List RecordView) → plp < length c.plps
    → AreRecords file views []
    → Received c plp views bytes → ComesBack c plp file bytes
