-- A gateway to which nothing was done.
use Rattle.std.proofs.Common.{◌≡◌, ℕ, ◌-◌, ◌*◌, ◌/◌, true, false, List, [], ◌++◌, length, refl, ap, ◌∙◌, arith}
use Rattle.std.proofs.Math.Nat.{zero-div}
use Rattle.plp_config.specs.Capacity.{IsPlan}
use Rattle.plp_config.specs.SlotTime.{slots_by, num, den}
use Rattle.plp_config.specs.declared.config.Config.{Config}
use Rattle.t2mi_stream.specs.Complete.{complete_in, complete_units}
use Rattle.t2mi_stream.specs.Pipe.{pipe}
use Rattle.gateway_core.specs.Packets.{front_packets}
use Rattle.common_plp.specs.Inputs.{place_of, streams_by}
use Rattle.common_plp.specs.Sharing.{Sharing}
use Rattle.gateway_core.specs.Events.{Event}
use Rattle.gateway_run.specs.Holds.{Holds}
use Rattle.gateway_run.specs.declared.place.Phase.TheVariants.{Gives}
use Rattle.gateway_run.specs.declared.place.Place.{Place}
use Rattle.gateway_run.specs.declared.stop.GatewayRan.{GatewayRan}

none_over : (c : Config) (plp : ℕ) → slots_by c plp ((0 - 1) * c.ticks) ≡ 0
none_over c plp =
    ap (λ (k : ℕ). k * den c plp / num c) (let e : (0 - 1) * c.ticks ≡ 0 = omega arith in e)
    ∙ ap (λ (k : ℕ). k / num c) (let e : 0 * den c plp ≡ 0 = omega arith in e) ∙ zero-div (num c)

none_complete : (c : Config) (inputs : ℕ → List (List ℕ)) → complete_units c.pid (front_packets c inputs 0) ≡ []
unfolding front_packets complete_in
none_complete c inputs = refl

abbrev pub first_place : Place
first_place = record { input = 0; phase = Gives }

abbrev pub first_ran : GatewayRan
first_ran = record { frames = 0; units = 0 }

pub first : (way : Sharing) (c : Config) (g : List Event → Type 0) → IsPlan c → g []
    → Holds way c [] g first_place first_ran
first way c g plan stands = record {
  plan = plan;
  events = [];
  stands = stands;
  frames = refl;
  units = refl;
  tails = λ plp. [];
  inputs = record { each = λ plp lt. record { parts = refl; each = tt; end = λ _. refl }; whole = λ plp on. refl };
  time = record {
    within = λ plp lt. omega arith;
    there = λ plp lt on. let z = none_over c (place_of way c plp) in omega (arith, z);
    few = λ inputs k. omega arith;
    last = λ on. absurd (let z : false ≡ true = on in cc);
  };
  sends = record {
    units = [];
    gave = refl;
    count = refl;
    front = λ inputs k more none.
        (pipe c.pid (front_packets c (streams_by way c inputs) 0 ++ more), refl);
  };
  is_in = (
    λ plp. refl,
    record {
      begun_all = omega arith;
      units = λ inputs k. let n = ap length (none_complete c (streams_by way c inputs)) in
          omega (arith, n);
    },
  );
  cut = λ plp some. absurd (some refl);
}
