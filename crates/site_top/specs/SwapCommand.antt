-- What `swap CONFIG PLP T2MI IN OUT` does, up to its last line.
use Rattle.std.specs.Prelude.{◌≡◌, ◌⊎◌, ◌<◌, ◌≤◌, ℕ, true, List, ◌++◌, length, map, codes, IfSome, Ok, Err}
use Rattle.std.specs.Fmt.{decimal}
use Rattle.ports.specs.Desk.{State, bytes_of}
use Rattle.plp_config.specs.Places.{IsPlace, HasNoPlace}
use Rattle.plp_config.specs.declared.config.Config.{Config}
use Rattle.plp_config.specs.declared.moment.TheConstants.{MOST_FRAMES}
use Rattle.ts_packet.specs.TsFile.{packets_in, joined}
use Rattle.t2mi_stream.specs.Pipe.{pipe}
use Rattle.t2mi_stream.specs.Received.{Fate}
use Rattle.open_group.specs.Written.{content_view}
use Rattle.gateway_core.specs.Packets.{packets_of}
use Rattle.modulator.specs.StandsFor.{records_due}
use Rattle.stream_laws.specs.Remade.{remade_packets, AreSpaced}
use Rattle.stream_laws.specs.Streams.{Honest}
use Rattle.stream_laws.specs.SentFrames.{run_length, run_stream, stream_bytes}
use Rattle.network_laws.specs.Merged.{must_come}
use Rattle.network_laws.specs.Region.{with_input, region_frames, region_of_run}
use Rattle.file_run.specs.Work.{Ends as RunEnds, Into}
use Rattle.file_run.specs.declared.stop.RunStop.{RunStop}
use Rattle.feed_merge.specs.Fed.{names_of}
use Rattle.swap_run.specs.SwapRun.{swap_work}
use Rattle.swap_run.specs.declared.stop.SwapRan.{SwapRan}
use Rattle.swap_run.specs.declared.stop.SwapStop.{SwapStop}
use Rattle.site_top.specs.declared.outcome.Outcome.{Outcome}
use Rattle.site_top.specs.declared.outcome.Outcome.TheVariants.{UnknownPlp}
use Rattle.site_top.specs.Outcomes.{swap_cause}
use Rattle.site_top.specs.PlanCommand.{RunsAndTells, ByPlan}

-- the line of a run to its end
abbrev pub swap_line : SwapRan → List ℕ
swap_line ran = codes "frames=" ++ decimal ran.frames ++ codes " muted=" ++ decimal ran.muted ++ codes " unsent="
    ++ decimal ran.unsent ++ codes " units=" ++ decimal ran.units ++ codes "\n"

-- What holds of bytes that are a stream with the PLP at a place replaced by the packets of a file.
pub record ComesOfSwapped (c : Config) (plp : ℕ) (t2mi file bytes : List ℕ) : Type 0 where
  -- Of a damaged run they are the units of these frames of the run with the other input, and of no others: those that
  -- came whole, from the first of a superframe on.
  pub honest : (inputs : ℕ → List (List ℕ)) (from : ℕ) (fates : List Fate) → run_length c inputs ≤ MOST_FRAMES
      → Honest (run_stream c inputs) from fates → t2mi ≡ stream_bytes (run_stream c inputs) from fates
      → bytes ≡ joined (pipe c.pid (remade_packets c (region_of_run c plp inputs (packets_in file) from fates)))
  -- If these are spaced, what a modulator makes of them: from the first to the last, each that is complete, and each
  -- other number muted.
  pub comes : (inputs : ℕ → List (List ℕ)) (from : ℕ) (fates : List Fate) → run_length c inputs ≤ MOST_FRAMES
      → Honest (run_stream c inputs) from fates → t2mi ≡ stream_bytes (run_stream c inputs) from fates
      → AreSpaced c (region_of_run c plp inputs (packets_in file) from fates)
      → map (λ x. content_view c x.number x.content) (records_due c true bytes)
      ≡ must_come c (region_of_run c plp inputs (packets_in file) from fates)
  -- Of a whole run, if the one with the other input has as many frames, they are what the gateway writes of that.
  pub whole : (inputs : ℕ → List (List ℕ)) → run_length c inputs ≤ MOST_FRAMES
      → t2mi ≡ joined (pipe c.pid (packets_of c inputs))
      → run_length c (with_input inputs plp (packets_in file)) ≡ run_length c inputs
      → bytes ≡ joined (pipe c.pid (packets_of c (with_input inputs plp (packets_in file))))

-- So it is with the bytes of T2MI, IN and OUT.
abbrev pub HoldsSwapped : Config → ℕ → State → State → List ℕ → List ℕ → List ℕ → Type 0
HoldsSwapped c plp old new t2mi file out = IfSome old.held
    (λ h. IfSome new.held (λ k. ComesOfSwapped c plp (bytes_of h.files t2mi) (bytes_of h.files file)
    (bytes_of k.files out)))

-- So it is of all units of the frames of any stream, with a PLP replaced.
abbrev pub UnitsAreSwapped : Config → Type 0
UnitsAreSwapped c = (plp : ℕ) (t2mi file bytes : List ℕ) → plp < length c.plps
    → bytes ≡ joined (pipe c.pid (remade_packets c (region_frames c plp (packets_in file) t2mi)))
    → ComesOfSwapped c plp t2mi file bytes

-- a run to its end, and one that stops
abbrev pub Ends : List ℕ → List ℕ → List ℕ → Config → ℕ → State → State → SwapRan → Type 0
Ends t2mi file out c plp mid after ran = RunEnds (swap_work c plp) mid after (Into out) (names_of t2mi file) (Ok ran)
    × HoldsSwapped c plp mid after t2mi file out

abbrev pub StopsSo : List ℕ → List ℕ → List ℕ → Config → ℕ → State → State → RunStop SwapStop → Type 0
StopsSo t2mi file out c plp mid new stop = RunEnds (swap_work c plp) mid new (Into out) (names_of t2mi file) (Err stop)

-- No PLP has the identifier, and nothing else is done; or the run follows.
abbrev pub Follows : ℕ → List ℕ → List ℕ → List ℕ → Config → State → State → Outcome → Type 0
Follows id t2mi file out c mid new outcome =
    (HasNoPlace c id × (new ≡ mid) × (outcome ≡ UnknownPlp id))
    ⊎ ((plp : ℕ) × IsPlace c id plp
    × RunsAndTells (Ends t2mi file out c plp) (StopsSo t2mi file out c plp) swap_line swap_cause mid new outcome)

-- `swap CONFIG PLP T2MI IN OUT`: CONFIG gives no plan, and nothing else is done; or what follows does.
abbrev pub Swaps : State → State → List ℕ → ℕ → List ℕ → List ℕ → List ℕ → Outcome → Type 0
Swaps old new config id t2mi file out outcome = ByPlan old new config (Follows id t2mi file out) outcome
