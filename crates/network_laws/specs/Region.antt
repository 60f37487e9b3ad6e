-- What comes of a run of which one PLP carries another input.
use Rattle.std.specs.Prelude.{◌≡◌, ℕ, ◌<◌, ◌≤◌, ◌==◌, true, List, length, map, if◌then◌else◌}
use Rattle.std.specs.List.{filter}
use Rattle.plp_config.specs.Capacity.{IsPlan}
use Rattle.plp_config.specs.declared.config.Config.{Config}
use Rattle.plp_config.specs.declared.moment.TheConstants.{MOST_FRAMES}
use Rattle.ts_packet.specs.TsFile.{joined}
use Rattle.t2mi_stream.specs.Pipe.{pipe}
use Rattle.t2mi_stream.specs.Received.{Fate}
use Rattle.record_laws.specs.Frames.{frame_of}
use Rattle.record_laws.specs.Records.{record_numbers}
use Rattle.open_group.specs.Written.{content_view}
use Rattle.gateway_core.specs.Packets.{packets_of}
use Rattle.modulator.specs.StandsFor.{records_due}
use Rattle.stream_laws.specs.Remade.{NumberedView, remade_packets, AreSpaced}
use Rattle.stream_laws.specs.Streams.{Honest, stream_survival, stream_survivors}
use Rattle.stream_laws.specs.Survivors.{is_whole, end_of}
use Rattle.stream_laws.specs.SentFrames.{run_length, run_stream, stream_bytes, sent_frames}
use Rattle.stream_laws.specs.Types.{TypesFit}
use Rattle.stream_laws.specs.Again.{run_frame}
use Rattle.network_laws.specs.Merged.{must_come}
use Rattle.region_swap.specs.Swapped.{frames_in, swapped_view, swapped}

-- inputs with that of the PLP at a place replaced
abbrev pub with_input : (ℕ → List (List ℕ)) → ℕ → List (List ℕ) → ℕ → List (List ℕ)
with_input inputs plp input j = if j == plp then input else inputs j

-- the frames that are sent: those of a stream's records that are not muted, with the PLP replaced
abbrev pub region_frames : Config → ℕ → List (List ℕ) → List ℕ → List NumberedView
region_frames c plp input bytes = swapped c plp input (frames_in c (records_due c true bytes))

-- Of what is received of a run: the numbers of the frames that are whole, from the first that begins a superframe on.
abbrev pub whole_numbers : Config → (ℕ → List (List ℕ)) → ℕ → List Fate → List ℕ
whole_numbers c inputs from fates =
    filter (is_whole c (sent_frames c inputs (run_length c inputs)) (stream_survival (run_stream c inputs) from fates))
    (record_numbers c (is_whole c (sent_frames c inputs (run_length c inputs))
    (stream_survival (run_stream c inputs) from fates))
    (end_of (stream_survivors (run_stream c inputs) from fates)))

-- these frames of the run with the other input
abbrev pub region_of_run : Config → ℕ → (ℕ → List (List ℕ)) → List (List ℕ) → ℕ → List Fate → List NumberedView
region_of_run c plp inputs input from fates = map (run_frame c (with_input inputs plp input))
    (whole_numbers c inputs from fates)

-- A frame of a run with the PLP replaced is that frame of the run with the other input.
abbrev pub FrameIsReplaced : Type 0
FrameIsReplaced = (c : Config) (plp : ℕ) (inputs : ℕ → List (List ℕ)) (input : List (List ℕ)) (n : ℕ)
    → IsPlan c → TypesFit c
    → plp < length c.plps → swapped_view c plp input n (frame_of c inputs n) ≡ frame_of c (with_input inputs plp input)
    n

-- If damage is honest, the frames that are sent are those of the run with the other input that are whole.
abbrev pub RegionIsOfRun : Type 0
RegionIsOfRun = (c : Config) (plp : ℕ) (inputs : ℕ → List (List ℕ)) (input : List (List ℕ)) (from : ℕ)
    (fates : List Fate) → IsPlan c
    → TypesFit c → plp < length c.plps → run_length c inputs ≤ MOST_FRAMES → Honest (run_stream c inputs) from fates
    → region_frames c plp input (stream_bytes (run_stream c inputs) from fates) ≡ region_of_run c plp
    inputs input from fates

-- If they are spaced, what comes of their packets runs from the first to the last of them: each that is complete, and
-- every other number muted.
abbrev pub RegionComesBack : Type 0
RegionComesBack = (c : Config) (plp : ℕ) (inputs : ℕ → List (List ℕ)) (input : List (List ℕ)) (from : ℕ)
    (fates : List Fate) → IsPlan c
    → TypesFit c → plp < length c.plps → run_length c inputs ≤ MOST_FRAMES → Honest (run_stream c inputs) from fates
    → AreSpaced c (region_of_run c plp inputs input from fates)
    → map (λ x. content_view c x.number x.content)
    (records_due c true (joined (pipe c.pid (remade_packets c (region_of_run c plp inputs input from fates)))))
    ≡ must_come c (region_of_run c plp inputs input from fates)

-- Of a whole stream, if the run with the other input has as many frames, the packets are those that the gateway sends
-- of it.
abbrev pub WholeIsReplaced : Type 0
WholeIsReplaced = (c : Config) (plp : ℕ) (inputs : ℕ → List (List ℕ)) (input : List (List ℕ)) → IsPlan c → TypesFit c
    → plp < length c.plps → run_length c inputs ≤ MOST_FRAMES → run_length c (with_input inputs plp input) ≡ run_length
    c inputs
    → remade_packets c (region_frames c plp input (joined (pipe c.pid (packets_of c inputs)))) ≡ packets_of
    c (with_input inputs plp input)
