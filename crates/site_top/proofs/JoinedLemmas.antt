-- What comes back of a file of the records of a run's frames, with what goes in common PLPs.
use Rattle.std.proofs.Common.{◌<◌, ℕ, List, [], ◌∷◌, length, Option, ap, subst, ◌∙◌}
use Rattle.std.specs.Prelude.{Ok}
use Rattle.std.specs.List.{concat}
use Rattle.ports.specs.Desk.{State}
use Rattle.plp_config.specs.Capacity.{IsPlan}
use Rattle.plp_config.specs.declared.config.Config.{Config}
use Rattle.common_plp.specs.Groups.{common_of}
use Rattle.common_plp.specs.Split.{split}
use Rattle.plp_receiver.specs.JoinedBack.{JoinedBack}
use Rattle.network_laws.specs.CommonLaws.{CommonComesBack}
use Rattle.stream_laws.specs.Types.{TypesFit}
use Rattle.file_run.specs.Work.{Ends, Into}
use Rattle.receive_run.specs.JoinedReceived.{Received}
use Rattle.receive_run.specs.JoinedRun.{receive_work}
use Rattle.receive_run.specs.declared.stop.ReceiveRan.{ReceiveRan}
use Rattle.site_top.specs.CommonReceiveCommand.{JoinedComesBack, HoldsWhatIsJoined, ReceivedIsJoined}
use Rattle.site_top.specs.ReceiveCommand.{ReceivedComesBack}
use Rattle.site_top.proofs.RecoverLemmas.{FileLaws, packets_back, holds_with}

pub is_joined : FileLaws → CommonComesBack → (c : Config) → IsPlan c → TypesFit c → ReceivedComesBack c
    → ReceivedIsJoined c
unfolding JoinedBack
is_joined laws law c plan types alone plp file bytes views inside records r = record {
  frames = λ shared is inputs whole first count all some small file_is.
      r.bytes_are
      ∙ ap concat (law c shared plp inputs whole first count r.packets plan types inside is all
      (packets_back laws c plan types plp inside (common_of c plp) file bytes views records r (split c inputs)
      whole first count some
      small file_is));
  alone = λ none. alone plp file bytes views inside records (subst (λ (o : Option ℕ). Received o c plp views bytes)
      none r);
}

pub holds_joined : (c : Config) (plp : ℕ) (old new : State) (file out : List ℕ) (ran : ReceiveRan) → ReceivedIsJoined c
    → plp < length c.plps → Ends (receive_work (common_of c plp) c plp) old new (Into out) (file ∷ []) (Ok ran)
    → HoldsWhatIsJoined c plp old new file out
holds_joined c plp old new file out ran law inside r =
    holds_with (JoinedComesBack c plp) (common_of c plp) c plp old new file out ran
    (λ from bytes views records given. law plp from bytes views inside records given) r
