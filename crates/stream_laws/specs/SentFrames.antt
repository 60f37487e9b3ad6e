-- The packets of a run as packets that are sent frame by frame, and the records that must come of what is received.
use Rattle.std.specs.Prelude.{ℕ, ◌+◌, List, [], ◌∷◌, length, drop, replicate}
use Rattle.plp_config.specs.RunLength.{frame_count}
use Rattle.plp_config.specs.declared.config.Config.{Config}
use Rattle.t2mi_packet.specs.declared.packet.Body.{Body}
use Rattle.t2mi_stream.specs.Pipe.{pipe}
use Rattle.t2mi_stream.specs.Received.{Fate, received}
use Rattle.t2mi_stream.specs.Received.Fate.{Kept}
use Rattle.site_frame.specs.declared.reading.RecordView.{RecordView}
use Rattle.record_laws.specs.Records.{records}
use Rattle.frame_writer.specs.FramePackets.{packet_with}
use Rattle.gateway_core.specs.Packets.{bodies_before, front_packets}
use Rattle.stream_laws.specs.SentPackets.{Sent}
use Rattle.stream_laws.specs.Streams.{Stream, stream_survival, stream_survivors}
use Rattle.stream_laws.specs.Survivors.{is_whole, end_of}

-- packets with these numbers and the next ones, each with its frame
abbrev pub sent_from : Config → ℕ → List (ℕ × Body) → List Sent
sent_from c number [] = []
sent_from c number (b ∷ bodies) = record { frame = b.0; packet = packet_with c number b.0 b.1 } ∷ sent_from
    c (number + 1) bodies

-- the packets of the frames below n
abbrev pub sent_frames : Config → (ℕ → List (List ℕ)) → ℕ → List Sent
sent_frames c inputs n = sent_from c 0 (bodies_before c inputs n)

-- their stream
abbrev pub frames_stream : Config → (ℕ → List (List ℕ)) → ℕ → Stream
frames_stream c inputs n =
    record {
      pid = c.pid;
      frames = c.frames;
      count = n;
      sent = sent_frames c inputs n;
      packets = front_packets
          c inputs n;
    }

-- how many frames a run has, and its stream
abbrev pub run_length : Config → (ℕ → List (List ℕ)) → ℕ
run_length c inputs = frame_count c (λ plp. length (inputs plp))

abbrev pub run_stream : Config → (ℕ → List (List ℕ)) → Stream
run_stream c inputs = frames_stream c inputs (run_length c inputs)

-- what is received of a stream's units, from one on, by their fates
abbrev pub stream_bytes : Stream → ℕ → List Fate → List ℕ
stream_bytes s from fates = received (pipe s.pid s.packets) from fates

-- the fates of units that are all kept
abbrev pub all_kept : Stream → ℕ → List Fate
all_kept s from = replicate (length (drop from (pipe s.pid s.packets))) Kept

-- the records that must come of the frames below n: from the first whole frame that begins a superframe to the last one
-- of which a packet survives, each whole frame, and each other one muted
abbrev pub left_records : Config → (ℕ → List (List ℕ)) → ℕ → ℕ → List Fate → List RecordView
left_records c inputs n from fates =
    records c inputs (is_whole c (sent_frames c inputs n) (stream_survival (frames_stream c inputs n) from fates))
    (end_of (stream_survivors (frames_stream c inputs n) from fates))

-- and of a run
abbrev pub run_records : Config → (ℕ → List (List ℕ)) → ℕ → List Fate → List RecordView
run_records c inputs from fates = left_records c inputs (run_length c inputs) from fates
