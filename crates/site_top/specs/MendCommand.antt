-- What `mend CONFIG OUT IN..` does, up to its last line.
use Rattle.std.specs.Prelude.{◌≡◌, ◌≢◌, ◌<◌, ◌≤◌, ℕ, Bool, true, List, [], ◌++◌, length, codes, Result, Ok, Err, IfSome}
use Rattle.std.specs.Fmt.{decimal}
use Rattle.std.specs.List.{AllByRecursion}
use Rattle.ports.specs.Desk.{State, bytes_of}
use Rattle.plp_config.specs.declared.config.Config.{Config}
use Rattle.plp_config.specs.declared.moment.TheConstants.{MOST_FRAMES}
use Rattle.ts_packet.specs.TsFile.{joined}
use Rattle.t2mi_stream.specs.Pipe.{pipe}
use Rattle.gateway_core.specs.Packets.{packets_of}
use Rattle.stream_laws.specs.SentFrames.{run_length}
use Rattle.spaced_frames.specs.Laws.{Rise, AreNear}
use Rattle.spaced_frames.specs.Spaced.{spaced}
use Rattle.mended_frames.specs.Feeds.{all_of, made_of_all, units_of}
use Rattle.mended_frames.specs.Laws.{PassBehind}
use Rattle.mended_frames.specs.Mended.{frames_of}
use Rattle.network_laws.specs.FeedsOfRun.{IsDamagedRun, IsRunFrame, HaveCome, AllCame, GoOn, HasRunFrame, IsLossyRun}
use Rattle.network_laws.specs.FeedsOfRun.{AllSurvive}
use Rattle.network_laws.specs.MendedRun.{mended_records, modulated_records}
use Rattle.file_run.specs.FileRun.{file_at}
use Rattle.file_run.specs.Work.{Ends as RunEnds, Into}
use Rattle.file_run.specs.declared.stop.RunStop.{RunStop}
use Rattle.mend_run.specs.Counted.{counted}
use Rattle.mend_run.specs.MendRun.{mend_work}
use Rattle.mend_run.specs.declared.stop.MendStop.{MendStop}
use Rattle.mend_run.specs.declared.stop.MendStop.TheVariants.{NoFrame}
use Rattle.mend_run.specs.declared.stop.MendRan.{MendRan}
use Rattle.site_top.specs.declared.outcome.Outcome.{Outcome}
use Rattle.site_top.specs.Outcomes.{mend_cause}
use Rattle.site_top.specs.PlanCommand.{RunsAndTells, ByPlan}

-- the line of a run to its end
abbrev pub mend_line : MendRan → List ℕ
mend_line ran = codes "mended frames=" ++ decimal ran.frames ++ codes " woven=" ++ decimal ran.woven
    ++ codes " missing="
    ++ decimal ran.missing ++ codes " units=" ++ decimal ran.units ++ codes "\n"

-- How a run must end over so many files that are not too long, if nothing outside fails.
abbrev pub MustMend : Config → ℕ → (ℕ → List ℕ) → Result MendRan MendStop → Type 0
MustMend c k files (Ok ran) = (made_of_all c k files ≢ [])
    × (ran ≡ counted (made_of_all c k files) (length (units_of c k files)))
MustMend c k files (Err NoFrame) = made_of_all c k files ≡ []

-- What holds of bytes that are one stream of several, whatever these are.
pub record ComesOfMended (c : Config) (k : ℕ) (files : ℕ → List ℕ) (bytes : List ℕ) : Type 0 where
  -- They are all units of the frames that are made of the streams.
  pub units : bytes ≡ joined (units_of c k files)
  -- Each of these passes our six tests as the frame of its number, behind those before it.
  pub pass : PassBehind c [] (made_of_all c k files)
  -- Their numbers rise.
  pub rise : Rise (frames_of c (made_of_all c k files))
  -- With the superframes of a timestamp alone no packet is more than 14 superframes behind the one before: whoever
  -- counts superframes modulo 16 counts them right.
  pub near : AreNear c (spaced c (frames_of c (made_of_all c k files)))
  -- So a modulator makes of them, from the first frame that begins a superframe to the last, each frame as it was made,
  -- under the number that it was made for, and each other number muted.
  pub comes : modulated_records c bytes ≡ mended_records c (made_of_all c k files)
  -- Of damaged streams of one run each frame that is made is the run's frame of its number, however long a stream was
  -- out, if the length of each loss without an idle unit shows (`SurvivesOfRun`).
  pub honest : (inputs : ℕ → List (List ℕ)) → run_length c inputs ≤ MOST_FRAMES
      → ((i : ℕ) → i < k → IsDamagedRun c inputs (files i)) → AllByRecursion (IsRunFrame c inputs)
      (made_of_all c k files)
  -- Each frame is made of which every packet came in one of them, in a group of its number, if so it is of the frames
  -- in which the interleaving frames began that it carries, and if none is silent too often.
  pub come : (inputs : ℕ → List (List ℕ)) (frames : ℕ → Bool) → run_length c inputs ≤ MOST_FRAMES
      → ((i : ℕ) → i < k → IsDamagedRun c inputs (files i)) → GoOn k (all_of c files)
      → HaveCome c inputs (AllCame c inputs k (all_of c files)) frames → (n : ℕ) → frames n ≡ true
      → HasRunFrame c inputs n (made_of_all c k files)
  -- Without idle units: each frame of which every packet survives in one of them in which its number is known, if so it
  -- is of those frames.
  pub survive : (inputs : ℕ → List (List ℕ)) (survivals : ℕ → List Bool) (frames : ℕ → Bool)
      → run_length c inputs ≤ MOST_FRAMES → ((i : ℕ) → i < k → IsLossyRun c inputs (survivals i) (files i))
      → HaveCome c inputs (AllSurvive c inputs k survivals) frames → (n : ℕ) → frames n ≡ true
      → HasRunFrame c inputs n (made_of_all c k files)
  -- So if they lost nothing together, they make the stream of the run, bit for bit.
  pub none_lost : (inputs : ℕ → List (List ℕ)) (survivals : ℕ → List Bool) → run_length c inputs ≤ MOST_FRAMES
      → ((i : ℕ) → i < k → IsLossyRun c inputs (survivals i) (files i))
      → ((n : ℕ) → n < run_length c inputs → AllSurvive c inputs k survivals n)
      → bytes ≡ joined (pipe c.pid (packets_of c inputs))
  -- And if one of them is the whole stream of the run, they are that stream, whatever the others lost.
  pub whole : (inputs : ℕ → List (List ℕ)) (one : ℕ) → run_length c inputs ≤ MOST_FRAMES → one < k
      → files one ≡ joined (pipe c.pid (packets_of c inputs)) → ((i : ℕ) → i < k → i ≢ one
      → IsDamagedRun c inputs (files i))
      → bytes ≡ joined (pipe c.pid (packets_of c inputs))

-- So it is with the bytes of the INs and OUT.
abbrev pub HoldsMended : Config → State → State → List (List ℕ) → List ℕ → Type 0
HoldsMended c old new ins out = IfSome old.held
    (λ h. IfSome new.held (λ k. ComesOfMended c (length ins) (file_at h ins) (bytes_of k.files out)))

-- So it is of all units of the frames that are made of any streams.
abbrev pub UnitsAreMended : Config → Type 0
UnitsAreMended c = (k : ℕ) (files : ℕ → List ℕ) (bytes : List ℕ) → bytes ≡ joined (units_of c k files)
    → ComesOfMended c k files bytes

-- a run to its end, and one that stops
abbrev pub Ends : List ℕ → List (List ℕ) → Config → State → State → MendRan → Type 0
Ends out ins c mid after ran =
    RunEnds (mend_work c (length ins)) mid after (Into out) ins (Ok ran) × HoldsMended c mid after ins out

abbrev pub StopsSo : List ℕ → List (List ℕ) → Config → State → State → RunStop MendStop → Type 0
StopsSo out ins c mid new stop = RunEnds (mend_work c (length ins)) mid new (Into out) ins (Err stop)

-- the run
abbrev pub Follows : List ℕ → List (List ℕ) → Config → State → State → Outcome → Type 0
Follows out ins c mid new outcome = RunsAndTells (Ends out ins c) (StopsSo out ins c) mend_line mend_cause
    mid new outcome

-- `mend CONFIG OUT IN..`: CONFIG gives no plan, and nothing else is done; or the run follows.
abbrev pub Mends : State → State → List ℕ → List ℕ → List (List ℕ) → Outcome → Type 0
Mends old new config out ins outcome = ByPlan old new config (Follows out ins) outcome
