-- What a gateway gave, by the files.
use Rattle.std.proofs.Common.{◌≡◌, ◌≢◌, ℕ, ◌+◌, ◌-◌, ◌*◌, ◌<◌, ◌≤◌, Bool, true, false, List, [], ◌++◌, length, refl, ap}
use Rattle.std.proofs.Common.{sym, subst, ◌∙◌, inl, inr, arith, append_assoc, append-nil, length-append}
use Rattle.std.proofs.lemmas.Bool.{cases_Bool}
use Rattle.std.proofs.lemmas.Grind.{flat_map-append}
use Rattle.std.proofs.lemmas.List.{nil_from_length}
use Rattle.std.specs.Prelude.{slice_index}
use Rattle.terms.proofs.ListLemmas.{same_front}
use Rattle.t2mi_stream.proofs.CompleteLemmas.{shorter_front}
use Rattle.plp_config.specs.SlotTime.{slots_by}
use Rattle.plp_config.specs.declared.config.Config.{Config}
use Rattle.ts_packet.specs.TsFile.{packets_in, HasBad, joined, ReadsNoBad}
use Rattle.ts_packet.specs.declared.sizes.TheConstants.{SIZE}
use Rattle.t2mi_stream.specs.Complete.{complete_units}
use Rattle.t2mi_stream.specs.Pipe.{pipe}
use Rattle.file_run.specs.Events as run
use Rattle.file_run.specs.FileRun.{IsFed, AreFed}
use Rattle.gateway_core.specs.Events.{Event, offered, has_ended, begun, given, finished}
use Rattle.gateway_core.specs.Laws.{UnitsLaw, FrontsGrow}
use Rattle.gateway_core.specs.Packets.{front_packets, packets_of}
use Rattle.common_plp.specs.Inputs.{place_of, input_count, streams_by}
use Rattle.common_plp.specs.Sharing.{Sharing}
use Rattle.gateway_run.specs.Inputs.{Continue}
use Rattle.gateway_run.specs.GatewayRun.{inputs_of, frames_of, units_of, MeetsNone, MeetsBad, BeginsUnits}
use Rattle.gateway_run.specs.GatewayRun.{CompleteBefore}
use Rattle.gateway_run.specs.Holds.{IsOffered, AreComplete, AreAll, HasGiven, HasAll, MetBad, NoTails, IsIn, Holds}
use Rattle.gateway_run.specs.declared.place.Phase.{Phase}
use Rattle.gateway_run.specs.declared.place.Phase.TheVariants.{Done, Stopped}
use Rattle.gateway_run.specs.declared.stop.GatewayStop.TheVariants.{Bad}
use Rattle.gateway_run.specs.declared.place.Place.{Place}
use Rattle.gateway_run.specs.declared.stop.GatewayRan.{GatewayRan}
use Rattle.ts_packet.proofs.FileLemmas.{IsRead, taken_few, taken_all, none_bad, next_bad, not_wanted, still_bad}
use Rattle.gateway_core.proofs.FileLemmas.{continues}
use Rattle.gateway_run.proofs.MachineLemmas.{offered_length}
use Rattle.gateway_run.proofs.OrderLemmas.{earlier_still}
use Rattle.gateway_run.proofs.StreamLemmas.{frames_same}

read_of : (file bytes tail : List ℕ) (place : ℕ) (ended over : Bool) (packets : List (List ℕ))
    → (over ≡ true → tail ≡ [])
    → (f : IsFed file place bytes ended) → IsOffered bytes ended packets over tail
    → IsRead file packets over (tail ++ f.more)
read_of file bytes tail place ended over packets whole f o = record {
  parts = f.parts ∙ ap (λ (l : List ℕ). l ++ f.more) o.parts ∙ append_assoc (joined packets) tail f.more;
  each = o.each;
  end = λ on. ap (λ (l : List ℕ). l ++ f.more) (whole on) ∙ f.end (o.end (whole on) ∙ on);
}

module _ {way : Sharing} {c : Config} {done : List run.Event} {g : List Event → Type 0} {place : Place}
    {ran : GatewayRan} (h : Holds way c done g place ran) (files : ℕ → List ℕ) (places : List ℕ)
    (are : AreFed (input_count way c) files places done) where
  -- what goes in the PLPs, and the packets of so many first frames
  abbrev pub streams : ℕ → List (List ℕ)
  streams = streams_by way c (inputs_of files)

  abbrev pub front : ℕ → List (List ℕ)
  front frames = front_packets c streams frames

  -- what was read of each file
  reads : (plp : ℕ) (lt : plp < input_count way c)
      → IsRead (files plp) (offered (place_of way c plp) h.events) (has_ended (place_of way c plp) h.events)
      (h.tails plp ++ (are plp lt).more)
  reads plp lt = read_of _ _ (h.tails plp) _ _ _ _ (h.inputs.whole plp) (are plp lt) (h.inputs.each plp lt)

  -- no more was offered than there is
  pub offered_few : (plp : ℕ) → plp < input_count way c
      → length (offered (place_of way c plp) h.events) ≤ length (packets_in (files plp))
  offered_few plp lt = taken_few _ _ _ _ (reads plp lt)

  -- the packets of the files continue what was offered
  pub continue_files : Continue way c h.events (inputs_of files)
  continue_files plp lt = continues (files plp) (offered (place_of way c plp) h.events)
      (has_ended (place_of way c plp) h.events) _
      (begun h.events) (reads plp lt)

  -- If so much was offered, no bad packet is wanted of so much.
  never_wanted : (plp slots : ℕ) → plp < input_count way c
      → (has_ended (place_of way c plp) h.events ≡ false → slots ≤ length (offered (place_of way c plp) h.events))
      → ¬ (HasBad (files plp) × length (packets_in (files plp)) < slots)
  never_wanted plp slots lt enough = not_wanted (files plp) (offered (place_of way c plp) h.events)
      (has_ended (place_of way c plp) h.events) _ slots (reads plp lt) enough

  -- So none was met in the frames before the one under way.
  pub none_before : MeetsNone way c files (ran.frames - 1)
  none_before plp lt = never_wanted plp (slots_by c (place_of way c plp) ((ran.frames - 1) * c.ticks)) lt (λ on.
      let t = h.time.there plp lt on in
      let e = ap (λ (n : ℕ). slots_by c (place_of way c plp) ((n - 1) * c.ticks)) h.frames in
      omega (arith, t, e))

  -- Nor in the one under way, of an input of which it has all.
  pub none_here : (plp : ℕ) → plp < input_count way c → HasAll way c h.events plp
      → ¬ (HasBad (files plp) × length (packets_in (files plp)) < slots_by c (place_of way c plp)
      (ran.frames * c.ticks))
  none_here plp lt all = never_wanted plp (slots_by c (place_of way c plp) (ran.frames * c.ticks)) lt (λ on.
      let t = all on in
      let e = ap (λ (n : ℕ). slots_by c (place_of way c plp) (n * c.ticks)) h.frames in
      omega (arith, t, e))

  -- If less than a packet waits of an input, no bad packet of it was read whole.
  pub none_whole : (plp : ℕ) → plp < input_count way c → h.tails plp ≡ []
      → slice_index places plp < length (run.fed plp done) + SIZE → ReadsNoBad (files plp) (slice_index places plp)
  none_whole plp lt none short =
      let size = offered_length _ _ _ _ _ none (h.inputs.each plp lt) in
      let few = offered_few plp lt in
      omega (arith, size, few, short)

  -- Once no more comes, each file was read to its end,
  ended_read : finished h.events ≡ true → (plp : ℕ) (lt : plp < input_count way c)
      → IsRead (files plp) (offered (place_of way c plp) h.events) true (h.tails plp ++ (are plp lt).more)
  ended_read on plp lt =
      subst (λ (b : Bool). IsRead (files plp) (offered (place_of way c plp) h.events) b
      (h.tails plp ++ (are plp lt).more))
      ((h.time.last on).ended plp lt) (reads plp lt)

  -- and all frames of the files were begun.
  last_frames : finished h.events ≡ true → begun h.events ≡ frames_of way c files
  last_frames on =
      (h.time.last on).frames ∙ frames_same way c (λ j. offered (place_of way c j) h.events) (inputs_of files)
      h.plan.rules
      (λ j lt. sym (taken_all (files j) (offered (place_of way c j) h.events) _ (ended_read on j lt)))

  -- All units of all packets of the files were given.
  pub record GaveAll (bytes : List ℕ) : Type 0 where
    pub units : bytes ≡ joined (units_of way c files)
    pub whole : (plp : ℕ) → plp < input_count way c → ¬ (HasBad (files plp))
    pub frames : ran.frames ≡ frames_of way c files
    pub count : ran.units ≡ length (units_of way c files)
    pub ended : (plp : ℕ) → plp < input_count way c → run.has_ended plp done ≡ true

  pub gave_all : place.phase ≡ Done → GaveAll (run.gave done)
  gave_all e =
      let i : NoTails h.tails × (finished h.events ≡ true) × AreAll way c h.events =
      subst (λ (p : Phase). IsIn way c h.events h.tails p) e h.is_in in
      let frames = last_frames i.1 in
      let all = h.sends.front (inputs_of files) continue_files [] (λ _. refl) in
      let whole : pipe c.pid (front (begun h.events)) ≡ h.sends.units ++ all.0 =
      ap (pipe c.pid) (sym (append-nil (front (begun h.events)))) ∙ all.1 in
      let size = i.2 (inputs_of files) continue_files in
      let none : all.0 ≡ [] = nil_from_length all.0 (let n = ap length whole in let m = length-append
      h.sends.units all.0 in
      let d = h.sends.count in omega (arith, n, m, d, size)) in
      let units : units_of way c files ≡ h.sends.units =
      ap (λ (n : ℕ). pipe c.pid (front n)) (sym frames) ∙ whole ∙ ap (λ (l : List (List ℕ)). h.sends.units ++ l) none
      ∙ append-nil h.sends.units in
      record {
        units = h.sends.gave ∙ ap joined (sym units);
        whole = λ plp lt. none_bad (files plp) (offered (place_of way c plp) h.events) _ (ended_read i.1 plp lt);
        frames = h.frames ∙ frames;
        count = h.units ∙ h.sends.count ∙ ap length (sym units);
        ended = λ plp lt. (h.inputs.each plp lt).end (i.0 plp) ∙ (h.time.last i.1).ended plp lt;
      }

  -- The complete units of the frames begun were given, and no more.
  pub gave_complete : UnitsLaw → AreComplete way c h.events → CompleteBefore way c files ran.frames (run.gave done)
  gave_complete law complete =
      let all = h.sends.front (inputs_of files) continue_files [] (λ _. refl) in
      let l = law c streams (begun h.events) (begun h.events) (omega arith) in
      let units : h.sends.units ≡ complete_units c.pid (front (begun h.events)) =
      same_front h.sends.units (complete_units c.pid (front (begun h.events))) all.0 l.0
      (sym all.1 ∙ ap (pipe c.pid) (append-nil (front (begun h.events))) ∙ l.1)
      (sym h.sends.count ∙ complete (inputs_of files) continue_files) in
      h.sends.gave ∙ ap joined units ∙ ap (λ (n : ℕ). joined (complete_units c.pid (front n))) (sym h.frames)

  -- The complete units of some frames were given, and then some more.
  pub gave_since : UnitsLaw → (frames : ℕ) → HasGiven way c h.events frames → (since : List ℕ)
      × (run.gave done ≡ joined (complete_units c.pid (front frames)) ++ since)
  gave_since law frames given =
      let all = h.sends.front (inputs_of files) continue_files [] (λ _. refl) in
      let l = law c streams frames (begun h.events) given.begun_all in
      let few = given.units (inputs_of files) continue_files in
      let count = h.sends.count in
      let s = shorter_front (complete_units c.pid (front frames)) h.sends.units l.0 all.0
      (sym l.1 ∙ ap (pipe c.pid) (sym (append-nil (front (begun h.events)))) ∙ all.1) (omega (arith, few, count)) in (
        joined s.0,
        h.sends.gave ∙ ap joined s.1 ∙ flat_map-append (λ (p : List ℕ). p) (complete_units c.pid (front frames)) s.0,
      )

  -- What was given is the first of all units.
  pub gave_front : FrontsGrow → BeginsUnits way c files (run.gave done)
  gave_front grow =
      let f : (more : List (List ℕ)) × (front (begun h.events) ++ more ≡ packets_of c streams)
      × (finished h.events ≡ true → more ≡ []) =
      elim (cases_Bool (finished h.events)) [
        | inl on ↦ ([], append-nil (front (begun h.events)) ∙ ap front (last_frames on), λ _. refl)
        | inr off ↦
            let few = h.time.few (inputs_of files) continue_files in
            let sum : begun h.events + (frames_of way c files - begun h.events) ≡ frames_of way c files =
            omega (arith, few) in
            let r = grow c streams (begun h.events) (frames_of way c files - begun h.events) in
            (r.0, sym r.1 ∙ ap front sum, λ on. absurd (let z : true ≡ false = sym on ∙ off in cc))
      ] in
      let all = h.sends.front (inputs_of files) continue_files f.0 f.2 in (
        joined all.0,
        ap joined (ap (pipe c.pid) (sym f.1) ∙ all.1) ∙ flat_map-append (λ (p : List ℕ). p) h.sends.units all.0
            ∙ ap (λ (l : List ℕ). l ++ joined all.0) (sym h.sends.gave),
      )

  -- The bad packet that is met first was met.
  pub meets_bad : (plp packet : ℕ) → place.phase ≡ Stopped (Bad plp packet) → MeetsBad way c files ran.frames plp packet
  meets_bad plp packet e =
      let m : MetBad way c h.events h.tails plp packet = subst (λ (p : Phase). IsIn way c h.events h.tails p)
      e h.is_in in
      let f = are plp m.place in
      let some : h.tails plp ++ f.more ≢ [] =
      λ z. m.some (nil_from_length (h.tails plp) (let n = ap length z in let l = length-append (h.tails plp) f.more in
      omega (arith, n, l))) in
      let bad = next_bad (files plp) (offered (place_of way c plp) h.events) (has_ended (place_of way c plp) h.events) _
      (reads plp m.place) some
      (still_bad (h.tails plp) f.more (run.has_ended plp done) m.some m.bad (h.cut plp m.some) f.end) in
      let slots = ap (λ (n : ℕ). slots_by c (place_of way c plp) (n * c.ticks)) h.frames in
      record {
        place = m.place;
        number = m.number ∙ sym bad.number;
        wants = (
          bad.bad,
          (let n = bad.number in let w = m.wanted in let p = m.number in omega
              (arith, n, w, p, slots)),
        );
        before = none_before;
        below = λ j lt before. none_here j lt (m.below j lt
            (earlier_still way c j (length (offered (place_of way c j) h.events)) (length (packets_in (files j)))
            plp packet
            (offered_few j lt) before));
      }
