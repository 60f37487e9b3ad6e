-- A frame begins, or none comes.
use Rattle.std.proofs.Common.{◌≡◌, ℕ, ◌+◌, ◌-◌, ◌*◌, ◌<◌, true, false, List, [], ◌∷◌, ◌++◌, length, refl, ap, sym}
use Rattle.std.proofs.Common.{subst, ◌∙◌, inl, inr, arith, length-append, append-nil}
use Rattle.ts_packet.specs.TsFile.{joined, ArePackets}
use Rattle.std.proofs.lemmas.Bool.{cases_eq}
use Rattle.plp_config.specs.SlotTime.{slots_by}
use Rattle.plp_config.specs.declared.config.Config.{Config}
use Rattle.plp_config.specs.declared.moment.TheConstants.{MOST_FRAMES}
use Rattle.t2mi_stream.specs.Complete.{complete_units}
use Rattle.file_run.specs.Events as run
use Rattle.gateway_core.specs.Events.{Event, Begun, Finished, offered, has_ended, begun, given, finished}
use Rattle.gateway_core.specs.Laws.{NotYetLast, FrontsGrow}
use Rattle.gateway_core.specs.Packets.{front_packets}
use Rattle.gateway_core.specs.InputSoFar.{Told, told}
use Rattle.gateway_core.proofs.HoldsLemmas.{finished_now, begun_with, begun_same, given_same, finished_same}
use Rattle.gateway_core.proofs.InputsLemmas.{nothing_told, told_begun}
use Rattle.gateway_run.specs.Holds.{AreOffered, IsInTime, AreComplete, HasAll, NoTails, IsIn, Holds}
use Rattle.common_plp.specs.Inputs.{place_of, input_count, streams_by}
use Rattle.common_plp.specs.Sharing.{Sharing}
use Rattle.common_plp.proofs.InputLemmas.{place_inside}
use Rattle.gateway_run.specs.Inputs.{Continue, IsLastBy, frames_by}
use Rattle.gateway_run.specs.declared.stop.GatewayStop.TheVariants.{TooManyFrames}
use Rattle.gateway_run.specs.declared.place.Phase.{Phase}
use Rattle.gateway_run.specs.declared.place.Phase.TheVariants.{Gives, Rests, Stopped}
use Rattle.gateway_run.specs.declared.place.Place.{Place}
use Rattle.gateway_run.specs.declared.stop.GatewayRan.{GatewayRan}
use Rattle.gateway_run.proofs.ContinueLemmas.{back_begun, back_same}
use Rattle.gateway_run.proofs.StreamLemmas.{OwnLength, frames_same, still_last, ended_cases}
use Rattle.gateway_run.proofs.LawLemmas.{slots_rise}
use Rattle.gateway_run.proofs.StepLemmas.{sends_begun, sends_finished, time_same}

module _ (way : Sharing) where
  -- what is known before a frame begins
  pub record IsBeforeFrame (c : Config) (events : List Event) (tails : ℕ → List ℕ) : Type 0 where
    pub none : NoTails tails
    pub complete : AreComplete way c events
    pub is_going : finished events ≡ false
    pub all : (plp : ℕ) → plp < input_count way c → HasAll way c events plp

  -- so it is whatever a machine was done
  abbrev pub IsReadyFor : Config → List run.Event → (List Event → Type 0) → Place → GatewayRan → Type 0
  IsReadyFor c done g place ran = (h : Holds way c done g place ran) → IsBeforeFrame c h.events h.tails

  -- nothing was told of inputs but that a frame began, or no more comes
  offered_on : (c : Config) (done : List run.Event) (old new : List Event) (tails : ℕ → List ℕ)
      → ((plp : ℕ) → (told plp new).packets ≡ (told plp old).packets)
      → ((plp : ℕ) → has_ended plp new ≡ has_ended plp old)
      → NoTails tails
      → AreOffered way c done old tails → AreOffered way c done new tails
  offered_on c done old new tails packets ended none h = record {
    each = λ plp lt. let o = h.each plp lt in record {
      parts = o.parts ∙ ap (λ (l : List (List ℕ)). joined l ++ tails plp) (sym (packets (place_of way c plp)));
      each = subst (λ (l : List (List ℕ)). ArePackets l) (sym (packets (place_of way c plp))) o.each;
      end = λ z. o.end z ∙ sym (ended (place_of way c plp));
    };
    whole = λ plp on. none plp;
  }

  -- the run is longer than the frames begun, if it is not over
  more_frames : NotYetLast → OwnLength way → (c : Config) (done : List run.Event) (g : List Event
      → Type 0) (place : Place)
      (ran : GatewayRan) (h : Holds way c done g place ran) → IsBeforeFrame c h.events h.tails
      → (IsLastBy way c h.events → ⊥)
      → (inputs : ℕ → List (List ℕ)) → Continue way c h.events inputs → begun h.events < frames_by way c inputs
  more_frames law own c done g place ran h b not_last inputs k =
      let f = h.time.few inputs k in
      elim (ended_cases way c (input_count way c) h.events) [
        | inr some ↦
            let x = k some.0 some.1 in
            let size : length (inputs some.0) ≡ length (offered (place_of way c some.0) h.events) + length x.rest =
            ap length x.front ∙ length-append (offered (place_of way c some.0) h.events) x.rest in
            let enough = b.all some.0 some.1 some.2 in
            let stream = own c inputs some.0 h.plan.rules some.1 in
            let m = law c (λ j. length (streams_by way c inputs j)) (place_of way c some.0) (begun h.events) h.plan
            (place_inside way c some.0 some.1) (omega (arith, size, enough, stream)) in
            omega (arith, m)
        | inl all ↦
            let same : frames_by way c (λ j. offered (place_of way c j) h.events) ≡ frames_by way c inputs =
            frames_same way c (λ j. offered (place_of way c j) h.events) inputs h.plan.rules (λ j lt.
            let x = k j lt in
            sym (x.front ∙ ap (λ (l : List (List ℕ)). offered (place_of way c j) h.events ++ l) (x.whole (all j lt))
            ∙ append-nil (offered (place_of way c j) h.events))) in
            elim (cases_eq (begun h.events) (frames_by way c inputs)) [
              | inl over ↦ absurd (not_last (record { ended = all; frames = over ∙ sym same }))
              | inr differ ↦ omega (arith, f, differ)
            ]
      ]

  -- one frame more in time
  time_begun : (c : Config) (events : List Event) → ((plp : ℕ) → plp < input_count way c → HasAll way c events plp)
      → ((inputs : ℕ → List (List ℕ)) → Continue way c events inputs → begun events < frames_by way c inputs)
      → finished events ≡ false
      → IsInTime way c events → IsInTime way c (events ++ Begun ∷ [])
  time_begun c events all more off h =
      let n : begun (events ++ Begun ∷ []) ≡ begun events + 1 = begun_with events Begun in
      record {
        within = λ plp lt.
            let m = ap (λ (t : Told). length t.packets) (told_begun (place_of way c plp) events) in
            let rises = slots_rise c (place_of way c plp) (begun events) (begun (events ++ Begun ∷ []))
            (omega (arith, n)) in
            let le = h.within plp lt in
            omega (arith, m, rises, le);
        there = λ plp lt on.
            let m = ap (λ (t : Told). length t.packets) (told_begun (place_of way c plp) events) in
            let all = all plp lt (sym (ap (λ (t : Told). t.ended) (told_begun (place_of way c plp) events)) ∙ on) in
            let same : begun (events ++ Begun ∷ []) - 1 ≡ begun events = omega (arith, n) in
            let s = ap (λ (k : ℕ). slots_by c (place_of way c plp) (k * c.ticks)) same in
            omega (arith, m, all, s);
        few = λ inputs k. let f = more inputs (back_begun way c events inputs k) in omega (arith, f, n);
        last = λ on. absurd (let z : true ≡ false = sym on ∙ finished_same events Begun refl ∙ off in cc);
      }

  -- A frame was begun.
  pub frame_begun : NotYetLast → OwnLength way → FrontsGrow → (c : Config) (done : List run.Event)
      (g next : List Event → Type 0) (place after : Place) (ran now : GatewayRan) → IsReadyFor c done g place ran
      → after.phase ≡ Gives
      → now.frames ≡ ran.frames + 1 → now.units ≡ ran.units
      → ((events : List Event) → g events → IsLastBy way c events → ⊥)
      → ((events : List Event) → g events → next (events ++ Begun ∷ []))
      → Holds way c done g place ran → Holds way c done next after now
  frame_begun law own grow c done g next place after ran now ready to one same not_last stands h =
      let b = ready h in
      let n : begun (h.events ++ Begun ∷ []) ≡ begun h.events + 1 = begun_with h.events Begun in
      let m : given (h.events ++ Begun ∷ []) ≡ given h.events = given_same h.events Begun refl in
      let before : begun (h.events ++ Begun ∷ []) - 1 ≡ begun h.events = omega (arith, n) in
      let f = h.frames in
      record {
        plan = h.plan;
        events = h.events ++ Begun ∷ [];
        stands = stands h.events h.stands;
        frames = omega (arith, one, f, n);
        units = same ∙ h.units ∙ sym m;
        tails = h.tails;
        inputs =
            offered_on c done h.events (h.events ++ Begun ∷ []) h.tails
            (λ plp. ap (λ (t : Told). t.packets) (told_begun plp h.events))
            (λ plp. ap (λ (t : Told). t.ended) (told_begun plp h.events)) b.none h.inputs;
        time = time_begun c h.events b.all (more_frames law own c done g place ran h b (not_last h.events h.stands))
            b.is_going
            h.time;
        sends = sends_begun way grow c done h.events b.is_going h.sends;
        is_in = subst (λ (p : Phase). IsIn way c (h.events ++ Begun ∷ []) h.tails p) (sym to) (
          b.none,
          record {
            begun_all = omega arith;
            units = λ inputs k. let w = b.complete inputs (back_begun way c h.events inputs k) in let q =
                ap (λ (j : ℕ). length (complete_units c.pid (front_packets c (streams_by way c inputs) j)))
                before in omega (arith, w, q, m);
          },
        );
        cut = λ plp some. absurd (some (b.none plp));
      }

  -- No more frames come.
  pub frames_ended : (c : Config) (done : List run.Event) (g next : List Event → Type 0) (place after : Place)
      (ran : GatewayRan)
      → IsReadyFor c done g place ran → after.phase ≡ Rests
      → ((events : List Event) → g events → IsLastBy way c events)
      → ((events : List Event) → g events → next (events ++ Finished ∷ []))
      → Holds way c done g place ran → Holds way c done next after ran
  frames_ended c done g next place after ran ready to last stands h =
      let b = ready h in
      let same : (plp : ℕ) → told plp (h.events ++ Finished ∷ []) ≡ told plp h.events =
      λ plp. nothing_told plp h.events Finished refl refl refl in
      let n = begun_same h.events Finished refl in
      let m = given_same h.events Finished refl in
      record {
        plan = h.plan;
        events = h.events ++ Finished ∷ [];
        stands = stands h.events h.stands;
        frames = h.frames ∙ sym n;
        units = h.units ∙ sym m;
        tails = h.tails;
        inputs = offered_on c done h.events (h.events ++ Finished ∷ []) h.tails
            (λ plp. ap (λ (t : Told). t.packets) (same plp))
            (λ plp. ap (λ (t : Told). t.ended) (same plp)) b.none h.inputs;
        time = time_same way c h.events Finished same refl (λ on. still_last way c h.events Finished
            h.plan.rules same (last h.events h.stands))
            h.time;
        sends = sends_finished way c done h.events b.is_going h.sends;
        is_in = subst (λ (p : Phase). IsIn way c (h.events ++ Finished ∷ []) h.tails p) (sym to) (
          b.none,
          record {
            begun_all = omega arith;
            units = λ inputs k. let w = b.complete inputs (back_same way c h.events Finished inputs same k) in let q =
                ap (λ (j : ℕ). length (complete_units c.pid (front_packets c (streams_by way c inputs) j)))
                n in omega (arith, w, q, m);
          },
          finished_now h.events,
        );
        cut = λ plp some. absurd (some (b.none plp));
      }

  -- The same was done, and it goes on elsewhere.
  pub moved_to : (c : Config) (done : List run.Event) (g next : List Event
      → Type 0) (place after : Place) (ran : GatewayRan)
      (h : Holds way c done g place ran) → next h.events → IsIn way c h.events h.tails after.phase
      → NoTails h.tails → Holds way c done next after ran
  moved_to c done g next place after ran h stands at none = record {
    plan = h.plan;
    events = h.events;
    stands = stands;
    frames = h.frames;
    units = h.units;
    tails = h.tails;
    inputs = h.inputs;
    time = h.time;
    sends = h.sends;
    is_in = at;
    cut = λ plp some. absurd (some (none plp));
  }

  -- Another frame would be one too many.
  pub too_many : NotYetLast → OwnLength way → (c : Config) (done : List run.Event) (g : List Event → Type 0)
      (place after : Place) (ran : GatewayRan) → IsReadyFor c done g place ran → after.phase ≡ Stopped TooManyFrames
      → ran.frames ≡ MOST_FRAMES
      → ((events : List Event) → g events → IsLastBy way c events → ⊥) → Holds way c done g place ran
      → Holds way c done g after ran
  too_many law own c done g place after ran ready to most not_last h =
      let b = ready h in
      moved_to c done g g place after ran h h.stands
      (subst (λ (p : Phase). IsIn way c h.events h.tails p) (sym to)
      (record {
        none = b.none;
        frame = sym h.frames ∙ most;
        complete = b.complete;
        all = b.all;
        more = more_frames law own c done g place ran h b (not_last h.events h.stands);
      })) b.none
