-- Units are given.
use Rattle.std.proofs.Common.{◌≡◌, ℕ, ◌+◌, ◌-◌, ◌<◌, true, false, List, [], ◌∷◌, ◌++◌, length, refl, ap, sym, subst}
use Rattle.std.proofs.Common.{◌∙◌, inl, inr, arith, append-nil, append_assoc, take, ◌≤◌}
use borrow.Rule.Slice.PartMut.{put_mid}
use Rattle.std.specs.Prelude.{Option, Some, None}
use Rattle.plp_config.specs.declared.config.Config.{Config}
use Rattle.t2mi_stream.specs.Complete.{complete_units}
use Rattle.frame_writer.proofs.UnitsLemmas.{piece_taken}
use Rattle.file_run.specs.Events as run
use Rattle.file_run.specs.Laws.{EventsTell}
use Rattle.gateway_core.specs.Events.{Event, Gave, begun, finished}
use Rattle.gateway_core.specs.Packets.{front_packets}
use Rattle.gateway_core.specs.InputSoFar.{told}
use Rattle.gateway_core.proofs.InputsLemmas.{nothing_told}
use Rattle.gateway_core.proofs.HoldsLemmas.{given_with, begun_same, finished_same}
use Rattle.gateway_run.specs.Holds.{AreComplete, HasGiven, NoTails, IsIn, Holds}
use Rattle.common_plp.specs.Inputs.{place_of, streams_by}
use Rattle.common_plp.specs.Sharing.{Sharing}
use Rattle.gateway_run.specs.Seen.{IsNext}
use Rattle.gateway_run.specs.Phases.{IsGiving, left_by}
use Rattle.gateway_run.specs.Ready.{place_by}
use Rattle.gateway_run.specs.declared.place.Phase.{Phase}
use Rattle.gateway_run.specs.declared.place.Phase.TheVariants.{Gives}
use Rattle.gateway_run.specs.declared.place.Place.{Place}
use Rattle.gateway_run.specs.declared.stop.GatewayRan.{GatewayRan}
use Rattle.gateway_run.proofs.BeginLemmas.{moved_to}
use Rattle.gateway_run.proofs.ContinueLemmas.{back_same}
use Rattle.gateway_run.proofs.PhaseLemmas.{giving_cases}
use Rattle.gateway_run.proofs.StreamLemmas.{still_last}
use Rattle.gateway_run.proofs.StepLemmas.{sends_gave, time_same}
use Rattle.gateway_run.proofs.TakeLemmas.{offered_as, looked_in, holds_of}

module _ (way : Sharing) where
  no_tails : (phase : Phase) (c : Config) (events : List Event) (tails : ℕ → List ℕ) → IsGiving phase
      → IsIn way c events tails phase
      → NoTails tails
  no_tails phase c events tails i s =
      elim (giving_cases phase i) [
        | inl gives ↦
            (let at : NoTails tails × HasGiven way c events (begun events - 1) = subst
            (λ (p : Phase). IsIn way c events tails p) gives s in
            at.0)
        | inr rests ↦
            (let at : NoTails tails × HasGiven way c events (begun events) × (finished events ≡ true) =
            subst (λ (p : Phase). IsIn way c events tails p) rests s in at.0)
      ]

  -- one unit more was given
  given_more : (c : Config) (events : List Event) (frames now : ℕ)
      → ((plp : ℕ) → told plp (events ++ Gave ∷ []) ≡ told plp events)
      → now ≡ frames → HasGiven way c events frames → HasGiven way c (events ++ Gave ∷ []) now
  given_more c events frames now same e h = record {
    begun_all = (let b = h.begun_all in let n = begun_same events Gave refl in omega (arith, b, n, e));
    units = λ inputs k.
        let w = h.units inputs (back_same way c events Gave inputs same k) in
        let m = given_with events Gave in
        let q = ap (λ (j : ℕ). length (complete_units c.pid (front_packets c (streams_by way c inputs) j))) e in
        omega (arith, w, m, q);
  }

  in_giving : (phase : Phase) (c : Config) (events : List Event) (tails : ℕ → List ℕ) → IsGiving phase
      → ((plp : ℕ) → told plp (events ++ Gave ∷ []) ≡ told plp events) → IsIn way c events tails phase
      → IsIn way c (events ++ Gave ∷ []) tails phase
  in_giving phase c events tails i same s =
      let n = begun_same events Gave refl in
      elim (giving_cases phase i) [
        | inl gives ↦
            let at : NoTails tails × HasGiven way c events (begun events - 1) = subst
            (λ (p : Phase). IsIn way c events tails p) gives s in
            subst (λ (p : Phase). IsIn way c (events ++ Gave ∷ []) tails p) (sym gives) (
              at.0,
              given_more c events (begun events - 1) (begun (events ++ Gave ∷ []) - 1) same
                  (ap (λ (k : ℕ). k - 1) n) at.1,
            )
        | inr rests ↦
            let at : NoTails tails × HasGiven way c events (begun events) × (finished events ≡ true) =
            subst (λ (p : Phase). IsIn way c events tails p) rests s in
            subst (λ (p : Phase). IsIn way c (events ++ Gave ∷ []) tails p) (sym rests) (
              at.0,
              given_more c events (begun events) (begun (events ++ Gave ∷ [])) same n at.1,
              finished_same events Gave refl
                  ∙ at.2,
            )
      ]

  -- A unit was given.
  pub unit_gave : EventsTell → (c : Config) (done : List run.Event) (g next : List Event → Type 0) (place : Place)
      (ran now : GatewayRan)
      (unit bytes : List ℕ) → IsGiving place.phase → bytes ≡ unit → now.frames ≡ ran.frames → now.units ≡ ran.units + 1
      → ((events : List Event) → g events → IsNext way c events unit)
      → ((events : List Event) → g events → next (events ++ Gave ∷ []))
      → Holds way c done g place ran → Holds way c (done ++ run.Gave bytes ∷ []) next place now
  unit_gave tell c done g next place ran now unit bytes i is frames units gives stands h =
      let same : (plp : ℕ) → told plp (h.events ++ Gave ∷ []) ≡ told plp h.events =
      λ plp. nothing_told plp h.events Gave refl refl refl in
      let none = no_tails place.phase c h.events h.tails i h.is_in in
      let f = tell.given bytes done in
      record {
        plan = h.plan;
        events = h.events ++ Gave ∷ [];
        stands = stands h.events h.stands;
        frames = frames ∙ h.frames ∙ sym (begun_same h.events Gave refl);
        units = (let u = h.units in let m = given_with h.events Gave in omega (arith, units, u, m));
        tails = h.tails;
        inputs = record {
          each = λ plp lt. offered_as _ _ _ _ (told (place_of way c plp) h.events)
              (told (place_of way c plp) (h.events ++ Gave ∷ [])) _ (f.fed plp) (f.ended plp)
              (same (place_of way c plp)) (h.inputs.each plp lt);
          whole = λ plp on. none plp;
        };
        time = time_same way c h.events Gave same refl
            (λ on. still_last way c h.events Gave h.plan.rules same (h.time.last (sym (finished_same h.events Gave refl)
            ∙ on))) h.time;
        sends = sends_gave way c done (done ++ run.Gave bytes ∷ []) h.events unit (f.gave
            ∙ ap (λ (l : List ℕ). run.gave done ++ l) is)
            (gives h.events h.stands) h.sends;
        is_in = in_giving place.phase c h.events h.tails i same h.is_in;
        cut = λ plp some. absurd (some (none plp));
      }

  -- Nothing was given.
  pub nothing_gave : EventsTell → (c : Config) (done : List run.Event) (g : List Event → Type 0) (place : Place)
      (ran : GatewayRan)
      → Holds way c done g place ran → Holds way c (done ++ run.Gave [] ∷ []) g place ran
  nothing_gave tell c done g place ran h =
      let f = tell.given [] done in
      holds_of way c done (done ++ run.Gave [] ∷ []) g place ran f.fed f.ended (f.gave ∙ append-nil (run.gave done)) h

  -- Two pieces that were given are one.
  pub pieces_gave : EventsTell → (c : Config) (done : List run.Event) (g : List Event → Type 0) (place : Place)
      (ran : GatewayRan) (a b all : List ℕ) → all ≡ a ++ b
      → Holds way c ((done ++ run.Gave a ∷ []) ++ run.Gave b ∷ []) g place ran
      → Holds way c (done ++ run.Gave all ∷ []) g place ran
  pieces_gave tell c done g place ran a b all e h =
      let f = tell.given a done in
      let s = tell.given b (done ++ run.Gave a ∷ []) in
      let w = tell.given all done in
      holds_of way c ((done ++ run.Gave a ∷ []) ++ run.Gave b ∷ []) (done ++ run.Gave all ∷ []) g place ran
      (λ input. w.fed input ∙ sym (s.fed input ∙ f.fed input))
      (λ input. w.ended input ∙ sym (s.ended input ∙ f.ended input))
      (w.gave ∙ ap (λ (l : List ℕ). run.gave done ++ l) e ∙ sym (append_assoc (run.gave done) a b)
      ∙ sym (s.gave ∙ ap (λ (l : List ℕ). l ++ b) f.gave)) h

  -- A piece more was given behind those before it.
  pub piece_gave : EventsTell → (c : Config) (done : List run.Event) (g : List Event → Type 0) (place : Place)
      (ran : GatewayRan) (xs ys : List ℕ) (len k count all : ℕ) → all ≡ len + count → len ≤ length xs
      → count ≤ length ys
      → Holds way c ((done ++ run.Gave (take len xs) ∷ []) ++ run.Gave (take count ys) ∷ []) g place ran
      → Holds way c (done ++ run.Gave (take all (put_mid len k xs ys)) ∷ []) g place ran
  piece_gave tell c done g place ran xs ys len k count all e inside few h =
      pieces_gave tell c done g place ran (take len xs) (take count ys) (take all (put_mid len k xs ys))
      (ap (λ (n : ℕ). take n (put_mid len k xs ys)) e ∙ piece_taken xs ys len k count inside few) h

  -- All complete units of the frames begun were given.
  pub units_out : EventsTell → (c : Config) (done : List run.Event) (g next : List Event → Type 0) (place : Place)
      (asked : Option ℕ) (ran : GatewayRan) → place.phase ≡ Gives
      → ((events : List Event) → g events → next events)
      → ((events : List Event) → g events → finished events ≡ false → AreComplete way c events)
      → ((events : List Event) → g events → finished events ≡ false)
      → Holds way c done g place ran → Holds way c (done ++ run.Gave [] ∷ []) next (place_by asked) ran
  units_out tell c done g next place asked ran e still caught off h =
      let i : NoTails h.tails × HasGiven way c h.events (begun h.events - 1) =
      subst (λ (p : Phase). IsIn way c h.events h.tails p) e h.is_in in
      nothing_gave tell c done next (place_by asked) ran (moved_to way c done g next place (place_by asked) ran h
      (still h.events h.stands)
      (looked_in way c h.events h.tails asked i.0 (caught h.events h.stands (off h.events h.stands))) i.0)

-- what is left to give is less behind the last unit of a frame
pub looked_left : (asked : Option ℕ) (bytes later frames : ℕ) → later ≡ bytes
    → left_by later (place_by asked).phase frames < left_by bytes Gives frames
looked_left None bytes later frames kept = omega (arith, kept)
looked_left (Some input) bytes later frames kept = omega (arith, kept)
