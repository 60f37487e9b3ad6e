-- What a gateway is ready for behind a step.
use Rattle.std.proofs.Common.{◌≡◌, ℕ, false, Option, Some, None, sym, subst, ◌∙◌, arith}
use Rattle.plp_config.specs.declared.config.Config.{Config}
use Rattle.common_plp.specs.Sharing.{Sharing}
use Rattle.gateway_core.specs.StandsFor.{Status}
use Rattle.gateway_run.specs.Ready.{IsReady, IsCounted, place_by}
use Rattle.gateway_run.specs.Seen.{Seen, Asks, IsIdle}
use Rattle.gateway_run.specs.declared.place.Phase.TheVariants.{Wants, Begins, Gives}
use Rattle.gateway_run.specs.declared.place.Place.{Place}
use Rattle.gateway_run.specs.declared.stop.GatewayRan.{GatewayRan}

module _ (way : Sharing) (c : Config) where
  counted : (t u : Status) (ran : GatewayRan) → IsCounted t ran → u.frame ≡ t.frame → u.left ≡ t.left → IsCounted u ran
  counted t u ran n frame left = record {
    frames = n.frames ∙ sym frame;
    early = n.early;
    few = (let f = n.few in omega (arith, f, left));
  }

  asked_ready : (s : Seen) (t : Status) (asked : Option ℕ) (ran : GatewayRan) → IsCounted t ran → IsIdle t
      → Asks way c s asked
      → IsReady way c s t (place_by asked) ran
  asked_ready s t None ran n idle a = record {
    is_of = a.is_of;
    counted = n;
    wanting = λ e. absurd (let z : Begins ≡ Wants = e in cc);
    beginning = λ _. (a, idle);
    giving = λ e. absurd (let z : Begins ≡ Gives = e in cc);
  }
  asked_ready s t (Some input) ran n idle a = record {
    is_of = a.is_of;
    counted = n;
    wanting = λ _. (a, idle);
    beginning = λ e. absurd (let z : Wants ≡ Begins = e in cc);
    giving = λ e. absurd (let z : Wants ≡ Gives = e in cc);
  }

  -- behind a packet or an end of the input that was looked at
  pub ready_on : (s next : Seen) (t u : Status) (place : Place) (asked : Option ℕ) (ran : GatewayRan)
      → IsReady way c s t place ran
      → place.phase ≡ Wants → u ≡ t → Asks way c next asked → IsReady way c next u (place_by asked) ran
  ready_on s next t u place asked ran r wants status a =
      subst (λ (x : Status). IsReady way c next x (place_by asked) ran) (sym status)
      (asked_ready next t asked ran r.counted (r.wanting wants).1 a)

  -- behind the units of a frame
  pub ready_behind : (s next : Seen) (t mid u : Status) (place : Place) (asked : Option ℕ) (ran : GatewayRan)
      → IsReady way c s t place ran → place.phase ≡ Gives → mid.unit ≡ false → mid.finished ≡ t.finished
      → mid.frame ≡ t.frame
      → mid.left ≡ t.left → u ≡ mid → Asks way c next asked → IsReady way c next u (place_by asked) ran
  ready_behind s next t mid u place asked ran r gives unit finished frame left status a =
      subst (λ (x : Status). IsReady way c next x (place_by asked) ran) (sym status)
      (asked_ready next mid asked ran (counted t mid ran r.counted frame left)
      (record { given = unit; is_open = finished ∙ r.giving gives }) a)
