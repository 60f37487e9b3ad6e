-- What holds of a stream of which a PLP was replaced.
use Rattle.std.proofs.Common.{◌≡◌, ℕ, ◌<◌, ◌≤◌, true, List, map, length, ap, ◌∙◌}
use Rattle.std.specs.Prelude.{Ok}
use Rattle.ports.specs.Desk.{State}
use Rattle.plp_config.specs.Capacity.{IsPlan}
use Rattle.plp_config.specs.declared.config.Config.{Config}
use Rattle.plp_config.specs.declared.moment.TheConstants.{MOST_FRAMES}
use Rattle.ts_packet.specs.TsFile.{packets_in, joined}
use Rattle.t2mi_stream.specs.Pipe.{pipe}
use Rattle.t2mi_stream.specs.Received.{Fate}
use Rattle.frame_groups.specs.Modulated.{FrameRecord}
use Rattle.open_group.specs.Written.{content_view}
use Rattle.modulator.specs.StandsFor.{records_due}
use Rattle.stream_laws.specs.Remade.{NumberedView, remade_packets}
use Rattle.stream_laws.specs.Streams.{Honest}
use Rattle.stream_laws.specs.SentFrames.{run_length, run_stream, stream_bytes}
use Rattle.stream_laws.specs.Types.{TypesFit}
use Rattle.file_run.specs.Work.{Ends, Into}
use Rattle.site_top.proofs.PlanCommandLemmas.{holds_of}
use Rattle.feed_merge.specs.Fed.{names_of}
use Rattle.network_laws.specs.Region.{region_frames, region_of_run, RegionIsOfRun, RegionComesBack, WholeIsReplaced}
use Rattle.swap_run.specs.SwapRun.{swap_work}
use Rattle.swap_run.specs.declared.stop.SwapRan.{SwapRan}
use Rattle.site_top.specs.SwapCommand.{ComesOfSwapped, HoldsSwapped, UnitsAreSwapped}

pub are_swapped : (c : Config) → IsPlan c → TypesFit c → RegionIsOfRun → RegionComesBack → WholeIsReplaced
    → UnitsAreSwapped c
are_swapped c plan fit region back whole plp t2mi file bytes inside is =
    let of_run : (inputs : ℕ → List (List ℕ)) (from : ℕ) (fates : List Fate) → run_length c inputs ≤ MOST_FRAMES
    → Honest (run_stream c inputs) from fates → t2mi ≡ stream_bytes (run_stream c inputs) from fates
    → bytes ≡ joined (pipe c.pid (remade_packets c (region_of_run c plp inputs (packets_in file) from fates))) =
    λ inputs from fates short honest came.
    is ∙ ap (λ (frames : List NumberedView). joined (pipe c.pid (remade_packets c frames)))
    (ap (region_frames c plp (packets_in file)) came
    ∙ region c plp inputs (packets_in file) from fates plan fit inside short honest) in
    record {
      honest = of_run;
      comes = λ inputs from fates short honest came spaced.
          ap (λ (l : List ℕ). map (λ (x : FrameRecord). content_view c x.number x.content) (records_due c true l))
          (of_run inputs from fates short honest came)
          ∙ back c plp inputs (packets_in file) from fates plan fit inside short honest spaced;
      whole = λ inputs short came same. is
          ∙ ap (λ (l : List ℕ). joined (pipe c.pid (remade_packets c (region_frames c plp (packets_in file) l)))) came
          ∙ ap (λ (packets : List (List ℕ)). joined (pipe c.pid packets))
          (whole c plp inputs (packets_in file) plan fit inside short same);
    }

-- OUT is all units of the frames of T2MI, with the PLP replaced by the packets of IN.
pub holds_swapped : (c : Config) (plp : ℕ) (old new : State) (t2mi file out : List ℕ) (ran : SwapRan)
    → plp < length c.plps
    → UnitsAreSwapped c → Ends (swap_work c plp) old new (Into out) (names_of t2mi file) (Ok ran)
    → HoldsSwapped c plp old new t2mi file out
holds_swapped c plp old new t2mi file out ran inside law (counts, d) =
    holds_of (λ files bytes. ComesOfSwapped c plp (files 0) (files 1) bytes) d
    (law plp (d.files 0) (d.files 1) d.bytes inside d.does.1.1.output)
