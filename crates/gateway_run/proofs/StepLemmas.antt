-- What events more leave of what was.
use Rattle.std.proofs.Common.{◌≡◌, ℕ, ◌+◌, ◌-◌, ◌*◌, ◌≤◌, true, false, List, [], ◌∷◌, ◌++◌, length, refl, ap, sym, ◌∙◌}
use Rattle.std.proofs.Common.{arith, append_assoc}
use Rattle.std.specs.Prelude.{slice_get}
use Rattle.std.proofs.lemmas.List.{length_push}
use Rattle.terms.proofs.ListLemmas.{next_element}
use Rattle.ts_packet.proofs.JoinedLemmas.{joined_push}
use Rattle.plp_config.specs.RunLength.{frame_count}
use Rattle.plp_config.specs.SlotTime.{slots_by}
use Rattle.plp_config.specs.declared.config.Config.{Config}
use Rattle.t2mi_stream.specs.Complete.{complete_units}
use Rattle.t2mi_stream.specs.Pipe.{pipe}
use Rattle.gateway_core.specs.Events.{Event, Offered, Ended, Begun, Gave, Finished, has_ended, begins, begun, gives}
use Rattle.gateway_core.specs.Events.{given, finished}
use Rattle.gateway_core.specs.Laws.{FrontsGrow}
use Rattle.gateway_core.specs.Packets.{front_packets}
use Rattle.gateway_core.specs.InputSoFar.{Told, told}
use Rattle.gateway_core.proofs.InputsLemmas.{nothing_told}
use Rattle.file_run.specs.Events as run
use Rattle.gateway_core.proofs.HoldsLemmas.{begun_with, given_with, begun_same, given_same, finished_same}
use Rattle.common_plp.specs.Inputs.{place_of, streams_by}
use Rattle.common_plp.specs.Sharing.{Sharing}
use Rattle.gateway_run.specs.Holds.{AreComplete, Sends, IsInTime}
use Rattle.gateway_run.specs.Inputs.{Continue, IsLastBy}
use Rattle.gateway_run.specs.Seen.{IsNext}
use Rattle.gateway_run.proofs.ContinueLemmas.{back_offered, back_ended, back_same, back_begun}

module _ (way : Sharing) where
  -- No more frames were begun than the run has.
  abbrev pub IsFew : Config → List Event → Type 0
  IsFew c events = (inputs : ℕ → List (List ℕ)) → Continue way c events inputs
      → begun events ≤ frame_count c (λ plp. length (streams_by way c inputs plp))

  -- What continues the events behind continues those before, and nothing else has changed.
  pub record IsStep (c : Config) (old new : List Event) : Type 0 where
    pub back : (inputs : ℕ → List (List ℕ)) → Continue way c new inputs → Continue way c old inputs
    pub begun_is : begun new ≡ begun old
    pub given_is : given new ≡ given old
    pub finished_is : finished new ≡ finished old

  pub step_offered : (c : Config) (events : List Event) (plp : ℕ) (packet : List ℕ) → has_ended plp events ≡ false
      → IsStep c events (events ++ Offered plp packet ∷ [])
  step_offered c events plp packet off = record {
    back = λ inputs h. back_offered way c events plp packet inputs off h;
    begun_is = begun_same events (Offered plp packet) refl;
    given_is = given_same events (Offered plp packet) refl;
    finished_is = finished_same events (Offered plp packet) refl;
  }

  pub step_ended : (c : Config) (events : List Event) (plp : ℕ) → IsStep c events (events ++ Ended plp ∷ [])
  step_ended c events plp = record {
    back = λ inputs h. back_ended way c events plp inputs h;
    begun_is = begun_same events (Ended plp) refl;
    given_is = given_same events (Ended plp) refl;
    finished_is = finished_same events (Ended plp) refl;
  }

  pub complete_kept : (c : Config) (old new : List Event) → IsStep c old new → AreComplete way c old
      → AreComplete way c new
  complete_kept c old new s h inputs k = s.given_is ∙ h inputs (s.back inputs k)
      ∙ ap (λ (n : ℕ). length (complete_units c.pid (front_packets c (streams_by way c inputs) n))) (sym s.begun_is)

  pub sends_kept : (c : Config) (done is : List run.Event) (old new : List Event) → IsStep c old new
      → run.gave is ≡ run.gave done
      → Sends way c done old → Sends way c is new
  sends_kept c done is old new s same h = record {
    units = h.units;
    gave = same ∙ h.gave;
    count = s.given_is ∙ h.count;
    front = λ inputs k more none.
        let r = h.front inputs (s.back inputs k) more (λ on. none (s.finished_is ∙ on)) in
        (r.0, ap (λ (n : ℕ). pipe c.pid (front_packets c (streams_by way c inputs) n ++ more)) s.begun_is ∙ r.1);
  }

  pub few_kept : (c : Config) (old new : List Event) → IsStep c old new → IsFew c old → IsFew c new
  few_kept c old new s h inputs k = (let f = h inputs (s.back inputs k) in let b = s.begun_is in omega (arith, f, b))

  -- a frame more
  pub sends_begun : FrontsGrow → (c : Config) (done : List run.Event) (events : List Event) → finished events ≡ false
      → Sends way c done events → Sends way c done (events ++ Begun ∷ [])
  sends_begun law c done events off h = record {
    units = h.units;
    gave = h.gave;
    count = given_same events Begun refl ∙ h.count;
    front = λ inputs k more none.
        let grown = law c (streams_by way c inputs) (begun events) 1 in
        let n : begun (events ++ Begun ∷ []) ≡ begun events + 1 = begun_with events Begun in
        let r = h.front inputs (back_begun way c events inputs k) (grown.0 ++ more)
        (λ on. absurd (let z : true ≡ false = sym on ∙ off in cc)) in (
          r.0,
          ap (λ (m : ℕ). pipe c.pid (front_packets c (streams_by way c inputs) m ++ more)) n
              ∙ ap (λ (l : List (List ℕ)). pipe c.pid (l ++ more)) grown.1
              ∙ ap (pipe c.pid) (append_assoc (front_packets c (streams_by way c inputs) (begun events)) grown.0 more)
              ∙ r.1,
        );
  }

  -- no frame more
  pub sends_finished : (c : Config) (done : List run.Event) (events : List Event) → finished events ≡ false
      → Sends way c done events
      → Sends way c done (events ++ Finished ∷ [])
  sends_finished c done events off h = record {
    units = h.units;
    gave = h.gave;
    count = given_same events Finished refl ∙ h.count;
    front = λ inputs k more none.
        let same : (plp : ℕ) → told plp (events ++ Finished ∷ []) ≡ told plp events =
        λ plp. nothing_told plp events Finished refl refl refl in
        let r = h.front inputs (back_same way c events Finished inputs same k) more
        (λ on. absurd (let z : true ≡ false = sym on ∙ off in cc)) in (
          r.0,
          ap (λ (n : ℕ). pipe c.pid (front_packets c (streams_by way c inputs) n ++ more))
              (begun_same events Finished refl) ∙ r.1,
        );
  }

  -- a unit more
  pub sends_gave : (c : Config) (done is : List run.Event) (events : List Event) (unit : List ℕ)
      → run.gave is ≡ run.gave done ++ unit → IsNext way c events unit → Sends way c done events
      → Sends way c is (events ++ Gave ∷ [])
  sends_gave c done is events unit gave gives h = record {
    units = h.units ++ unit ∷ [];
    gave = gave ∙ ap (λ (l : List ℕ). l ++ unit) h.gave ∙ sym (joined_push h.units unit);
    count = (let k = given_with events Gave in let m = h.count in let p = length_push h.units unit in
        omega (arith, k, m, p));
    front = λ inputs k more none.
        let same : (plp : ℕ) → told plp (events ++ Gave ∷ []) ≡ told plp events =
        λ plp. nothing_told plp events Gave refl refl refl in
        let was : Continue way c events inputs = back_same way c events Gave inputs same k in
        let end : finished events ≡ true → more ≡ [] = λ on. none (finished_same events Gave refl ∙ on) in
        let r = h.front inputs was more end in
        let n = next_element h.units r.0 unit (sym (ap (λ (l : List (List ℕ)). slice_get l (length h.units)) r.1)
        ∙ ap (slice_get (pipe c.pid (front_packets c (streams_by way c inputs) (begun events) ++ more))) (sym h.count)
        ∙ gives inputs was more end) in (
          n.0,
          ap (λ (m : ℕ). pipe c.pid (front_packets c (streams_by way c inputs) m ++ more)) (begun_same events Gave refl)
              ∙ r.1
              ∙ ap (λ (l : List (List ℕ)). h.units ++ l) n.1 ∙ sym (append_assoc h.units (unit ∷ []) n.0),
        );
  }

  -- Nothing was told of inputs, and no frame was begun.
  pub time_same : (c : Config) (events : List Event) (e : Event)
      → ((plp : ℕ) → told plp (events ++ e ∷ []) ≡ told plp events)
      → begins e ≡ false → (finished (events ++ e ∷ []) ≡ true → IsLastBy way c (events ++ e ∷ []))
      → IsInTime way c events
      → IsInTime way c (events ++ e ∷ [])
  time_same c events e same off last h =
      let n = begun_same events e off in
      record {
        within = λ plp lt. let m = ap (λ (t : Told). length t.packets) (same (place_of way c plp)) in
            let le = h.within plp lt in let s =
            ap (λ (k : ℕ). slots_by c (place_of way c plp) (k * c.ticks)) n in omega (arith, m, s, le);
        there = λ plp lt on. let m = ap (λ (t : Told). length t.packets) (same (place_of way c plp)) in let le =
            h.there plp lt (sym (ap (λ (t : Told). t.ended) (same (place_of way c plp))) ∙ on) in let s =
            ap (λ (k : ℕ). slots_by c (place_of way c plp) ((k - 1) * c.ticks)) n in omega (arith, m, s, le);
        few = λ inputs k. let f = h.few inputs (back_same way c events e inputs same k) in omega (arith, f, n);
        last = last;
      }
