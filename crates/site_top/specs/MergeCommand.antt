-- What `merge CONFIG A B OUT` does, up to its last line.
use Rattle.std.specs.Prelude.{◌≡◌, ◌<◌, ◌≤◌, ℕ, true, List, ◌++◌, map, codes, Option, Some, IsSome, IfSome, Ok, Err}
use Rattle.std.specs.Fmt.{decimal}
use Rattle.ports.specs.Desk.{State, bytes_of}
use Rattle.plp_config.specs.declared.config.Config.{Config}
use Rattle.plp_config.specs.declared.moment.TheConstants.{MOST_FRAMES}
use Rattle.ts_packet.specs.TsFile.{joined}
use Rattle.t2mi_stream.specs.Pipe.{pipe}
use Rattle.t2mi_stream.specs.Received.{Fate}
use Rattle.record_laws.specs.Frames.{frame_of}
use Rattle.open_group.specs.Written.{content_view}
use Rattle.gateway_core.specs.Packets.{packets_of}
use Rattle.modulator.specs.StandsFor.{records_due}
use Rattle.stream_laws.specs.Remade.{remade_packets, AreSpaced}
use Rattle.stream_laws.specs.Streams.{Honest}
use Rattle.stream_laws.specs.SentFrames.{run_length, run_stream, stream_bytes}
use Rattle.feed_merge.specs.Picks.{Picked, pick_of}
use Rattle.network_laws.specs.Merged.{merged, must_come}
use Rattle.file_run.specs.Work.{Ends as RunEnds, Into}
use Rattle.file_run.specs.declared.stop.RunStop.{RunStop}
use Rattle.merge_run.specs.MergeRun.{merge_work}
use Rattle.feed_merge.specs.Fed.{names_of, AreEarly}
use Rattle.merge_run.specs.declared.stop.MergeRan.{MergeRan}
use Rattle.merge_run.specs.declared.stop.MergeStop.{MergeStop}
use Rattle.site_top.specs.declared.outcome.Outcome.{Outcome}
use Rattle.site_top.specs.Outcomes.{merge_cause}
use Rattle.site_top.specs.PlanCommand.{RunsAndTells, ByPlan}

-- the line of a run to its end
abbrev pub merge_line : MergeRan → List ℕ
merge_line ran = codes "merged frames=" ++ decimal ran.frames ++ codes " a=" ++ decimal ran.a ++ codes " b="
    ++ decimal ran.b
    ++ codes " units=" ++ decimal ran.units ++ codes "\n"

-- the frame with a number that is picked of two streams
abbrev pub picked_at : Config → List ℕ → List ℕ → ℕ → Option Picked
picked_at c a b n = pick_of c (records_due c true a) (records_due c true b) n

-- Two streams are what is received of the one that a gateway makes of some inputs, and damage to either is honest,
-- whatever becomes of the units from one on.
pub record AreDamaged (c : Config) (inputs : ℕ → List (List ℕ)) (a b : List ℕ) : Type 0 where
  pub from_a : ℕ
  pub from_b : ℕ
  pub fates_a : List Fate
  pub fates_b : List Fate
  pub honest_a : Honest (run_stream c inputs) from_a fates_a
  pub honest_b : Honest (run_stream c inputs) from_b fates_b
  pub is_a : a ≡ stream_bytes (run_stream c inputs) from_a fates_a
  pub is_b : b ≡ stream_bytes (run_stream c inputs) from_b fates_b

-- What holds of bytes that are two streams, merged.
pub record ComesOfMerged (c : Config) (a b bytes : List ℕ) : Type 0 where
  -- What a modulator makes of them, if the frames are spaced that are picked, whatever the streams are: from the first
  -- of these frames to the last, each that is complete, and each other number muted.
  pub comes : AreSpaced c (merged c a b)
      → map (λ x. content_view c x.number x.content) (records_due c true bytes) ≡ must_come c (merged c a b)
  -- Of a damaged run each frame that is picked is that of the run.
  pub honest : (inputs : ℕ → List (List ℕ)) → run_length c inputs ≤ MOST_FRAMES → AreDamaged c inputs a b
      → (n : ℕ) (p : Picked)
      → picked_at c a b n ≡ Some p → (n < run_length c inputs) × (p.frame.view ≡ frame_of c inputs n)
  -- And if each frame of the run is picked, they are what the gateway wrote.
  pub whole : (inputs : ℕ → List (List ℕ)) → run_length c inputs ≤ MOST_FRAMES → AreDamaged c inputs a b
      → ((n : ℕ) → n < run_length c inputs → IsSome (picked_at c a b n))
      → bytes ≡ joined (pipe c.pid (packets_of c inputs))

-- So it is with the bytes of A, B and OUT.
abbrev pub HoldsMerged : Config → State → State → List ℕ → List ℕ → List ℕ → Type 0
HoldsMerged c old new a b out = IfSome old.held
    (λ h. IfSome new.held (λ k. ComesOfMerged c (bytes_of h.files a) (bytes_of h.files b) (bytes_of k.files out)))

-- So it is of all units of the frames that are picked of any two streams, if none has a late record.
abbrev pub UnitsAreMerged : Config → Type 0
UnitsAreMerged c = (a b bytes : List ℕ) → AreEarly (records_due c true a) → AreEarly (records_due c true b)
    → bytes ≡ joined (pipe c.pid (remade_packets c (merged c a b))) → ComesOfMerged c a b bytes

-- a run to its end, and one that stops
abbrev pub Ends : List ℕ → List ℕ → List ℕ → Config → State → State → MergeRan → Type 0
Ends a b out c mid after ran = RunEnds (merge_work c) mid after (Into out) (names_of a b) (Ok ran)
    × HoldsMerged c mid after a b out

abbrev pub StopsSo : List ℕ → List ℕ → List ℕ → Config → State → State → RunStop MergeStop → Type 0
StopsSo a b out c mid new stop = RunEnds (merge_work c) mid new (Into out) (names_of a b) (Err stop)

-- the run
abbrev pub Follows : List ℕ → List ℕ → List ℕ → Config → State → State → Outcome → Type 0
Follows a b out c mid new outcome = RunsAndTells (Ends a b out c) (StopsSo a b out c) merge_line merge_cause
    mid new outcome

-- `merge CONFIG A B OUT`: CONFIG gives no plan, and nothing else is done; or the run follows.
abbrev pub Merges : State → State → List ℕ → List ℕ → List ℕ → List ℕ → Outcome → Type 0
Merges old new config a b out outcome = ByPlan old new config (Follows a b out) outcome
