-- A gateway as a machine between files.
use Rattle.std.proofs.Common.{◌≡◌, ℕ, ◌*◌, ◌<◌, ◌≤◌, Bool, List, [], ◌++◌, length, ap, ◌∙◌, arith, append-nil}
use Rattle.plp_config.specs.SlotTime.{slots_by}
use Rattle.plp_config.specs.declared.config.Config.{Config}
use Rattle.ts_packet.specs.TsFile.{joined}
use Rattle.ts_packet.specs.declared.sizes.TheConstants.{SIZE}
use Rattle.common_plp.specs.Inputs.{place_of, input_count}
use Rattle.common_plp.specs.Sharing.{Sharing}
use Rattle.file_run.specs.Events as run
use Rattle.file_run.specs.Steps.{CanBeRead}
use Rattle.gateway_core.specs.Events.{Event}
use Rattle.gateway_run.specs.Holds.{IsOffered, Holds}
use Rattle.gateway_run.specs.Phases.{frame_read, reach_by}
use Rattle.gateway_run.specs.declared.place.Phase.{Phase}
use Rattle.gateway_run.specs.declared.place.Phase.TheVariants.{Wants}
use Rattle.gateway_run.specs.declared.place.Place.{Place}
use Rattle.gateway_run.specs.declared.stop.GatewayRan.{GatewayRan}
use Rattle.ts_packet.proofs.FileLemmas.{joined_length}
use Rattle.gateway_run.proofs.LawLemmas.{slots_rise}
use Rattle.gateway_run.proofs.TakeLemmas.{Waits}

pub offered_length : (bytes : List ℕ) (ended over : Bool) (packets : List (List ℕ)) (tail : List ℕ) → tail ≡ []
    → IsOffered bytes ended packets over tail → length bytes ≡ SIZE * length packets
offered_length bytes ended over packets tail e o =
    ap length (o.parts ∙ ap (λ (l : List ℕ). joined packets ++ l) e ∙ append-nil (joined packets))
    ∙ joined_length packets o.each

-- no input is to be read less far
pub reach_more : (c : Config) (plp frame later : ℕ) → frame ≤ later → SIZE * slots_by c plp (frame * c.ticks)
    ≤ SIZE * slots_by c plp (later * c.ticks)
reach_more c plp frame later le = let s = slots_rise c plp frame later le in omega (arith, s)

-- What a frame wants of the input that is looked at can be read.
pub wanted_by : (way : Sharing) (c : Config) (done : List run.Event) (g : List Event → Type 0) (place : Place)
    (ran : GatewayRan)
    (wants n inputs : ℕ) → place.phase ≡ Wants → inputs ≡ input_count way c → Waits way c done g place ran wants
    → n ≤ wants
    → (0 < wants → 0 < n) → Holds way c done g place ran
    → CanBeRead inputs done (reach_by way c place.phase ran.frames) place.input SIZE (SIZE * n)
wanted_by way c done g place ran wants n inputs e all wait few some h =
    let w = wait h in
    let i = w.first.inside in
    let o = h.inputs.each place.input i in
    let at = ap (λ (m : ℕ). slots_by c (place_of way c place.input) (m * c.ticks))
    (ap (λ (p : Phase). frame_read p ran.frames) e ∙ h.frames) in
    let l = w.first.less in
    let k = w.first.wants_are in
    let size = offered_length _ _ _ _ _ (w.none place.input) o in
    let more : 0 < n = some (omega (arith, k, l)) in
    record {
      place = omega (arith, i, all);
      is_open = o.end (w.none place.input) ∙ w.first.is_open;
      some = omega arith;
      few = omega arith;
      order = omega (arith, more);
      near = omega (arith, k, at, l, size, few);
    }
