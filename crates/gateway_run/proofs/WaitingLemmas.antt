-- What is known where packets are wanted or a frame can begin.
use Rattle.std.proofs.Common.{◌≡◌, List, subst}
use Rattle.plp_config.specs.declared.config.Config.{Config}
use Rattle.common_plp.specs.Sharing.{Sharing}
use Rattle.file_run.specs.Events as run
use Rattle.gateway_core.specs.StandsFor.{Status}
use Rattle.gateway_run.specs.Holds.{AreComplete, NoTails, IsIn}
use Rattle.gateway_run.specs.Ready.{IsReady}
use Rattle.gateway_run.specs.Seen.{Seen}
use Rattle.gateway_run.specs.declared.place.Phase.{Phase}
use Rattle.gateway_run.specs.declared.place.Phase.TheVariants.{Wants, Begins}
use Rattle.gateway_run.specs.declared.place.Place.{Place}
use Rattle.gateway_run.specs.declared.stop.GatewayRan.{GatewayRan}
use Rattle.gateway_run.proofs.BeginLemmas.{IsReadyFor}
use Rattle.gateway_run.proofs.TakeLemmas.{Waits}

module _ (way : Sharing) (c : Config) (s : Seen) (t : Status) (place : Place) (ran : GatewayRan)
    (r : IsReady way c s t place ran)
    (done : List run.Event) where
  pub waits : place.phase ≡ Wants → Waits way c done s.stands place ran (s.wants place.input)
  waits e = λ h.
      let i : NoTails h.tails × AreComplete way c h.events = subst (λ (p : Phase). IsIn way c h.events h.tails p)
      e h.is_in in
      let a = (r.wanting e).0 in
      record {
        none = i.0;
        complete = i.1;
        first = a.right h.events h.stands;
        is_going = a.is_going h.events h.stands;
      }

  pub ready_for : place.phase ≡ Begins → IsReadyFor way c done s.stands place ran
  ready_for e = λ h.
      let i : NoTails h.tails × AreComplete way c h.events = subst (λ (p : Phase). IsIn way c h.events h.tails p)
      e h.is_in in
      let a = (r.beginning e).0 in
      record {
        none = i.0;
        complete = i.1;
        is_going = a.is_going h.events h.stands;
        all = a.right h.events h.stands;
      }
