-- An input was fed, or ended.
use Rattle.std.proofs.Common.{◌≡◌, ◌≢◌, ℕ, ◌+◌, ◌-◌, ◌*◌, ◌<◌, Bool, true, false, cond, List, [], ◌∷◌, ◌++◌}
use Rattle.std.proofs.Common.{length, refl, ap, sym, subst, ◌∙◌, inl, inr, arith, append-nil, append_assoc, eq-eqb}
use Rattle.std.specs.Prelude.{◌==◌, ◌⊎◌, slice_index, Option, Some, None}
use Rattle.std.proofs.lemmas.Bool.{cases_eq, ne_eqb}
use Rattle.std.proofs.lemmas.List.{length_push}
use Rattle.ts_packet.proofs.JoinedLemmas.{joined_push}
use Rattle.common_plp.specs.Inputs.{place_of}
use Rattle.common_plp.specs.Sharing.{Sharing}
use Rattle.common_plp.proofs.InputLemmas.{place_apart}
use Rattle.plp_config.specs.SlotTime.{slots_by}
use Rattle.plp_config.specs.declared.config.Config.{Config}
use Rattle.ts_packet.specs.TsFile.{joined, begins_with_packet, ArePackets}
use Rattle.ts_packet.specs.declared.sizes.TheConstants.{SIZE, SYNC}
use Rattle.file_run.specs.Events as run
use Rattle.file_run.specs.Laws.{EventsTell}
use Rattle.gateway_core.specs.Events.{Event, Offered, Ended, offered, has_ended, begun, finished}
use Rattle.gateway_core.specs.InputSoFar.{Told, told}
use Rattle.gateway_core.proofs.InputsLemmas.{told_offered, told_ended}
use Rattle.gateway_core.proofs.HoldsLemmas.{other_offered, other_ended}
use Rattle.gateway_run.specs.Holds.{IsOffered, IsInTime, AreComplete, MetBad, StopsFor, NoTails, IsIn, Holds}
use Rattle.gateway_run.specs.Inputs.{IsBefore, IsLastBy}
use Rattle.gateway_run.specs.Seen.{WantsFirst}
use Rattle.gateway_run.specs.Ready.{place_by}
use Rattle.gateway_run.specs.declared.stop.GatewayStop.{GatewayStop}
use Rattle.gateway_run.specs.declared.place.Phase.{Phase}
use Rattle.gateway_run.specs.declared.place.Phase.TheVariants.{Stopped}
use Rattle.gateway_run.specs.declared.place.Place.{Place}
use Rattle.gateway_run.specs.declared.stop.GatewayRan.{GatewayRan}
use Rattle.ts_packet.proofs.FileLemmas.{packets_push}
use Rattle.gateway_run.proofs.StepLemmas.{IsStep, step_offered, step_ended, complete_kept, sends_kept, few_kept}

-- what holds of one input and of each other
each_input : (P : ℕ → Type 0) (plp : ℕ) → P plp → ((k : ℕ) → k ≢ plp → P k) → (k : ℕ) → P k
each_input P plp here others k = elim (cases_eq k plp) [
  | inl same ↦ subst P (sym same) here
  | inr differ
      ↦ others k differ
]

-- a packet more, or a tail
offered_packet : (bytes now packet : List ℕ) (ended is over still : Bool) (packets more : List (List ℕ)) (tail : List ℕ)
    → tail ≡ [] → now ≡ bytes ++ packet → is ≡ ended → still ≡ over → more ≡ packets ++ packet ∷ []
    → length packet ≡ SIZE → slice_index packet 0 ≡ SYNC → IsOffered bytes ended packets over tail
    → IsOffered now is more still tail
offered_packet bytes now packet ended is over still packets more tail e n i s m long sync o = record {
  parts = n ∙ ap (λ (l : List ℕ). l ++ packet) (o.parts ∙ ap (λ (l : List ℕ). joined packets ++ l) e
      ∙ append-nil (joined packets)) ∙ sym (joined_push packets packet) ∙ ap joined (sym m)
      ∙ sym (append-nil (joined more))
      ∙ ap (λ (l : List ℕ). joined more ++ l) (sym e);
  each = subst (λ (l : List (List ℕ)). ArePackets l) (sym m) (packets_push packets packet o.each long sync);
  end = λ z. i ∙ o.end z ∙ sym s;
}

-- the same of which the same is told
pub offered_as : (bytes now : List ℕ) (ended is : Bool) (t u : Told) (tail : List ℕ) → now ≡ bytes → is ≡ ended → u ≡ t
    → IsOffered bytes ended t.packets t.ended tail → IsOffered now is u.packets u.ended tail
offered_as bytes now ended is t u tail n i e o = record {
  parts = n ∙ o.parts ∙ ap (λ (t : Told). joined t.packets ++ tail) (sym e);
  each = subst (λ (t : Told). ArePackets t.packets) (sym e) o.each;
  end = λ z. i ∙ o.end z ∙ ap (λ (t : Told). t.ended) (sym e);
}

offered_tail : (bytes now more : List ℕ) (ended is over : Bool) (packets : List (List ℕ)) (tail new : List ℕ)
    → tail ≡ []
    → new ≡ more → more ≢ [] → now ≡ bytes ++ more → IsOffered bytes ended packets over tail
    → IsOffered now is packets over new
offered_tail bytes now more ended is over packets tail new e f some n o = record {
  parts = n ∙ ap (λ (l : List ℕ). l ++ more) (o.parts ∙ ap (λ (l : List ℕ). joined packets ++ l) e
      ∙ append-nil (joined packets))
      ∙ ap (λ (l : List ℕ). joined packets ++ l) (sym f);
  each = o.each;
  end = λ z. absurd (some (sym f ∙ z));
}

tail_as : (bytes now : List ℕ) (ended is over : Bool) (packets : List (List ℕ)) (tail new : List ℕ) → new ≡ tail
    → now ≡ bytes
    → is ≡ ended → IsOffered bytes ended packets over tail → IsOffered now is packets over new
tail_as bytes now ended is over packets tail new e n i o = record {
  parts = n ∙ o.parts ∙ ap (λ (l : List ℕ). joined packets ++ l) (sym e);
  each = o.each;
  end = λ z. i ∙ o.end (sym e ∙ z);
}

module _ (way : Sharing) where
  -- if it is behind a look
  pub looked_in : (c : Config) (events : List Event) (tails : ℕ → List ℕ) (asked : Option ℕ) → NoTails tails
      → AreComplete way c events
      → IsIn way c events tails (place_by asked).phase
  looked_in c events tails None t k = (t, k)
  looked_in c events tails (Some input) t k = (t, k)

  -- what is known while packets are wanted
  pub record IsWaiting (c : Config) (events : List Event) (tails : ℕ → List ℕ) (plp wants : ℕ)
      : Type 0 where
    pub none : NoTails tails
    pub complete : AreComplete way c events
    pub first : WantsFirst way c events plp wants
    pub is_going : finished events ≡ false

  -- so it is whatever a machine was done
  abbrev pub Waits : Config → List run.Event → (List Event → Type 0) → Place → GatewayRan → ℕ → Type 0
  Waits c done g place ran wants = (h : Holds way c done g place ran) → IsWaiting c h.events h.tails place.input wants

  last_none : (c : Config) (old new : List Event) → IsStep way c old new → finished old ≡ false → finished new ≡ true
      → IsLastBy way c new
  last_none c old new s off on = absurd (let z : true ≡ false = sym on ∙ s.finished_is ∙ off in cc)

  -- Of what was done nothing counts but what was fed, ended and given.
  pub holds_of : (c : Config) (done is : List run.Event) (g : List Event → Type 0) (place : Place) (ran : GatewayRan)
      → ((input : ℕ) → run.fed input is ≡ run.fed input done)
      → ((input : ℕ) → run.has_ended input is ≡ run.has_ended input done) → run.gave is ≡ run.gave done
      → Holds way c done g place ran → Holds way c is g place ran
  holds_of c done is g place ran fed ended gave h = record {
    plan = h.plan;
    events = h.events;
    stands = h.stands;
    frames = h.frames;
    units = h.units;
    tails = h.tails;
    inputs = record {
      each = λ plp lt.
          let t : Told = told (place_of way c plp) h.events in
          offered_as _ _ _ _ t t _ (fed plp) (ended plp) refl (h.inputs.each plp lt);
      whole = h.inputs.whole;
    };
    time = h.time;
    sends = record {
      units = h.sends.units;
      gave = gave ∙ h.sends.gave;
      count = h.sends.count;
      front = h.sends.front;
    };
    is_in = h.is_in;
    cut = λ plp some. elim (h.cut plp some) [ inl sync ↦ inl sync | inr on ↦ inr (ended plp ∙ on) ];
  }

  -- Nothing was fed.
  pub nothing_fed : EventsTell → (c : Config) (done : List run.Event) (g : List Event → Type 0) (place : Place)
      (ran : GatewayRan) (at : ℕ)
      → Holds way c done g place ran → Holds way c (done ++ run.Fed at [] ∷ []) g place ran
  nothing_fed tell c done g place ran at h =
      let f = tell.fed at [] done in
      holds_of c done (done ++ run.Fed at [] ∷ []) g place ran
      (each_input _ at (f.here ∙ append-nil (run.fed at done)) f.others) f.ended f.gave h

  -- Two pieces that were fed of an input are one.
  pub pieces_fed : EventsTell → (c : Config) (done : List run.Event) (g : List Event → Type 0) (place : Place)
      (ran : GatewayRan) (at : ℕ) (a b all : List ℕ) → all ≡ a ++ b
      → Holds way c ((done ++ run.Fed at a ∷ []) ++ run.Fed at b ∷ []) g place ran
      → Holds way c (done ++ run.Fed at all ∷ []) g place ran
  pieces_fed tell c done g place ran at a b all e h =
      let f = tell.fed at a done in
      let s = tell.fed at b (done ++ run.Fed at a ∷ []) in
      let w = tell.fed at all done in
      holds_of c ((done ++ run.Fed at a ∷ []) ++ run.Fed at b ∷ []) (done ++ run.Fed at all ∷ []) g place ran
      (each_input _ at (w.here ∙ ap (λ (l : List ℕ). run.fed at done ++ l) e ∙ sym (append_assoc (run.fed at done) a b)
      ∙ sym (s.here ∙ ap (λ (l : List ℕ). l ++ b) f.here))
      (λ k differ. w.others k differ ∙ sym (s.others k differ ∙ f.others k differ)))
      (λ input. w.ended input ∙ sym (s.ended input ∙ f.ended input))
      (w.gave ∙ sym (s.gave ∙ f.gave)) h

  -- other inputs have other PLPs
  others_apart : (c : Config) (k plp : ℕ) → k ≢ plp → place_of way c k ≢ place_of way c plp
  others_apart c k plp differ e = differ (place_apart way c k plp e)

  -- one packet more in time, or an end
  time_offered : (c : Config) (events : List Event) (plp : ℕ) (packet : List ℕ)
      → has_ended (place_of way c plp) events ≡ false
      → length (offered (place_of way c plp) events) < slots_by c (place_of way c plp) (begun events * c.ticks)
      → finished events ≡ false → IsInTime way c events
      → IsInTime way c (events ++ Offered (place_of way c plp) packet ∷ [])
  time_offered c events plp packet off less going h =
      let s : IsStep way c events (events ++ Offered (place_of way c plp) packet ∷ []) = step_offered
      way c events (place_of way c plp) packet off in
      let more : length (offered (place_of way c plp) (events ++ Offered (place_of way c plp) packet ∷ [])) ≡ length
      (offered (place_of way c plp) events) + 1 =
      ap (λ (t : Told). length t.packets) (told_offered (place_of way c plp) events packet)
      ∙ length_push (offered (place_of way c plp) events) packet in
      record {
        within =
            each_input _ plp (λ lt. let b = ap (λ (k : ℕ). slots_by c (place_of way c plp) (k * c.ticks)) s.begun_is in
            omega (arith, more, less, b))
            (λ k differ lt. let n = ap (λ (t : Told). length t.packets) (other_offered (place_of way c k)
            (place_of way c plp) events packet (others_apart c k plp differ)) in
            let l = h.within k lt in let b = ap (λ (j : ℕ). slots_by c (place_of way c k) (j * c.ticks))
            s.begun_is in omega (arith, n, l, b));
        there = each_input _ plp
            (λ lt on. let l = h.there plp lt off in let b = ap (λ (k : ℕ). slots_by c (place_of way c plp)
            ((k - 1) * c.ticks)) s.begun_is in
            omega (arith, more, l, b))
            (λ k differ lt on. let o = other_offered (place_of way c k) (place_of way c plp) events packet
            (others_apart c k plp differ) in let n = ap (λ (t : Told). length t.packets) o in
            let l = h.there k lt (sym (ap (λ (t : Told). t.ended) o) ∙ on) in
            let b = ap (λ (j : ℕ). slots_by c (place_of way c k) ((j - 1) * c.ticks)) s.begun_is in omega
            (arith, n, l, b));
        few = few_kept way c events (events ++ Offered (place_of way c plp) packet ∷ []) s h.few;
        last = last_none c events (events ++ Offered (place_of way c plp) packet ∷ []) s going;
      }

  time_ended : (c : Config) (events : List Event) (plp : ℕ) → finished events ≡ false → IsInTime way c events
      → IsInTime way c (events ++ Ended (place_of way c plp) ∷ [])
  time_ended c events plp going h =
      let s : IsStep way c events (events ++ Ended (place_of way c plp) ∷ []) = step_ended way c events
      (place_of way c plp) in
      let same : (k : ℕ) → length (offered (place_of way c k) (events ++ Ended (place_of way c plp) ∷ [])) ≡ length
      (offered (place_of way c k) events) =
      each_input _ plp (ap (λ (t : Told). length t.packets) (told_ended (place_of way c plp) events))
      (λ k differ. ap (λ (t : Told). length t.packets) (other_ended (place_of way c k) (place_of way c plp)
      events (others_apart c k plp differ))) in
      record {
        within = λ k lt. let n = same k in let l = h.within k lt in let b = ap
            (λ (j : ℕ). slots_by c (place_of way c k) (j * c.ticks)) s.begun_is in
            omega (arith, n, l, b);
        there = each_input _ plp (λ lt on. absurd (let z : true ≡ false = sym (ap (λ (t : Told). t.ended)
            (told_ended (place_of way c plp) events)) ∙ on in cc))
            (λ k differ lt on. let n = same k in
            let l = h.there k lt (sym (ap (λ (t : Told). t.ended) (other_ended (place_of way c k) (place_of way c plp)
            events (others_apart c k plp differ))) ∙ on) in
            let b = ap (λ (j : ℕ). slots_by c (place_of way c k) ((j - 1) * c.ticks)) s.begun_is in omega
            (arith, n, l, b));
        few = few_kept way c events (events ++ Ended (place_of way c plp) ∷ []) s h.few;
        last = last_none c events (events ++ Ended (place_of way c plp) ∷ []) s going;
      }

-- the tail of one input
abbrev pub one_tail : ℕ → List ℕ → ℕ → List ℕ
one_tail plp bytes k = cond (k == plp) bytes []

tail_here : (plp : ℕ) (bytes : List ℕ) → one_tail plp bytes plp ≡ bytes
tail_here plp bytes = let self : (plp == plp) ≡ true = eq-eqb plp plp refl in ap (λ (b : Bool). cond b bytes []) self

tail_other : (plp k : ℕ) (bytes : List ℕ) → k ≢ plp → one_tail plp bytes k ≡ []
tail_other plp k bytes differ = ap (λ (b : Bool). cond b bytes []) (ne_eqb k plp differ)

-- what an input was told last
record IsTold (done is : List run.Event) (plp : ℕ) (bytes : List ℕ) : Type 0 where
  here : run.fed plp is ≡ run.fed plp done ++ bytes
  others : (other : ℕ) → other ≢ plp → run.fed other is ≡ run.fed other done
  ended : (other : ℕ) → other ≢ plp → run.has_ended other is ≡ run.has_ended other done
  gave : run.gave is ≡ run.gave done

-- what is done at the input that is waited for
module _ {way : Sharing} {c : Config} {done : List run.Event} {g : List Event → Type 0} {place : Place}
    {ran : GatewayRan} (wants : ℕ) (wait : Waits way c done g place ran wants) (h : Holds way c done g place ran) where
  -- A packet was offered.
  pub packet_offered : EventsTell → (next : List Event → Type 0) (asked : Option ℕ) (packet bytes : List ℕ)
      → packet ≡ bytes → length packet ≡ SIZE → slice_index packet 0 ≡ SYNC
      → ((events : List Event) → g events → next (events ++ Offered (place_of way c place.input) packet ∷ []))
      → Holds way c (done ++ run.Fed place.input bytes ∷ []) next (place_by asked) ran
  packet_offered tell next asked packet bytes same long sync stands =
      let w = wait h in
      let off = w.first.is_open in
      let s : IsStep way c h.events (h.events ++ Offered (place_of way c place.input) packet ∷ []) =
      step_offered way c h.events (place_of way c place.input) packet off in
      let f = tell.fed place.input bytes done in
      let t = told_offered (place_of way c place.input) h.events packet in
      record {
        plan = h.plan;
        events = h.events ++ Offered (place_of way c place.input) packet ∷ [];
        stands = stands h.events h.stands;
        frames = h.frames ∙ sym s.begun_is;
        units = h.units ∙ sym s.given_is;
        tails = h.tails;
        inputs = record {
          each = each_input _ place.input (λ lt. offered_packet _ _ packet _ _ _ _ _ _ _ (w.none place.input)
              (f.here ∙ ap (λ (l : List ℕ). run.fed place.input done ++ l) (sym same)) (f.ended place.input)
              (ap (λ (t : Told). t.ended) t) (ap (λ (t : Told). t.packets) t) long sync (h.inputs.each place.input lt))
              (λ k differ lt. offered_as _ _ _ _ (told (place_of way c k) h.events)
              (told (place_of way c k) (h.events ++ Offered (place_of way c place.input) packet ∷ [])) _
              (f.others k differ) (f.ended k) (other_offered (place_of way c k) (place_of way c place.input)
              h.events packet (others_apart way c k place.input differ)) (h.inputs.each k lt));
          whole = λ k on. w.none k;
        };
        time = time_offered way c h.events place.input packet off w.first.less w.is_going h.time;
        sends = sends_kept way c done (done ++ run.Fed place.input bytes ∷ []) h.events
            (h.events ++ Offered (place_of way c place.input) packet ∷ []) s
            f.gave h.sends;
        is_in = looked_in way c (h.events ++ Offered (place_of way c place.input) packet ∷ []) h.tails asked
            w.none (complete_kept way c h.events (h.events ++ Offered (place_of way c place.input) packet ∷ [])
            s w.complete);
        cut = λ k some. absurd (some (w.none k));
      }

  -- An input ended.
  pub input_ended : EventsTell → (next : List Event → Type 0) (asked : Option ℕ) (bytes : List ℕ) → bytes ≡ []
      → ((events : List Event) → g events → next (events ++ Ended (place_of way c place.input) ∷ []))
      → Holds way c (done ++ run.Ended place.input bytes ∷ []) next (place_by asked) ran
  input_ended tell next asked bytes nothing stands =
      let w = wait h in
      let s : IsStep way c h.events (h.events ++ Ended (place_of way c place.input) ∷ []) = step_ended
      way c h.events (place_of way c place.input) in
      let f = tell.ended place.input bytes done in
      let t = told_ended (place_of way c place.input) h.events in
      record {
        plan = h.plan;
        events = h.events ++ Ended (place_of way c place.input) ∷ [];
        stands = stands h.events h.stands;
        frames = h.frames ∙ sym s.begun_is;
        units = h.units ∙ sym s.given_is;
        tails = h.tails;
        inputs = record {
          each = each_input _ place.input (λ lt. let o = h.inputs.each place.input lt in record {
            parts = f.here ∙ ap (λ (l : List ℕ). run.fed place.input done ++ l) nothing
                ∙ append-nil (run.fed place.input done)
                ∙ o.parts ∙ ap (λ (t : Told). joined t.packets ++ h.tails place.input) (sym t);
            each = subst (λ (t : Told). ArePackets t.packets) (sym t) o.each;
            end = λ _. f.ended ∙ ap (λ (t : Told). t.ended) (sym t);
          })
              (λ k differ lt. offered_as _ _ _ _ (told (place_of way c k) h.events)
              (told (place_of way c k) (h.events ++ Ended (place_of way c place.input) ∷ [])) _ (f.others k differ)
              (f.others_ended k differ) (other_ended (place_of way c k) (place_of way c place.input)
              h.events (others_apart way c k place.input differ)) (h.inputs.each k lt));
          whole = λ k on. w.none k;
        };
        time = time_ended way c h.events place.input w.is_going h.time;
        sends = sends_kept way c done (done ++ run.Ended place.input bytes ∷ []) h.events
            (h.events ++ Ended (place_of way c place.input) ∷ []) s f.gave
            h.sends;
        is_in = looked_in way c (h.events ++ Ended (place_of way c place.input) ∷ []) h.tails asked w.none
            (complete_kept way c h.events (h.events ++ Ended (place_of way c place.input) ∷ []) s w.complete);
        cut = λ k some. absurd (some (w.none k));
      }

  -- These bytes are no packet.
  stopped_at : (is : List run.Event) (after : Place) (bytes : List ℕ) (why : GatewayStop) → after.phase ≡ Stopped why
      → bytes ≢ []
      → (slice_index bytes 0 ≢ SYNC) ⊎ (run.has_ended place.input is ≡ true) → IsTold done is place.input bytes
      → StopsFor way c h.events (one_tail place.input bytes) why → Holds way c is g after ran
  stopped_at is after bytes why to some cut tells stops =
      let w = wait h in
      record {
        plan = h.plan;
        events = h.events;
        stands = h.stands;
        frames = h.frames;
        units = h.units;
        tails = one_tail place.input bytes;
        inputs = record {
          each = each_input _ place.input
              (λ lt. offered_tail _ _ bytes _ _ _ _ _ _ (w.none place.input) (tail_here place.input bytes)
              some tells.here
              (h.inputs.each place.input lt))
              (λ k differ lt. tail_as _ _ _ _ _ _ _ _ (tail_other place.input k bytes differ ∙ sym (w.none k))
              (tells.others k differ)
              (tells.ended k differ) (h.inputs.each k lt));
          whole = each_input _ place.input (λ on. absurd (let z : true ≡ false = sym on ∙ w.first.is_open in cc))
              (λ k differ on. tail_other place.input k bytes differ);
        };
        time = h.time;
        sends = record {
          units = h.sends.units;
          gave = tells.gave ∙ h.sends.gave;
          count = h.sends.count;
          front = h.sends.front;
        };
        is_in = subst (λ (p : Phase). IsIn way c h.events (one_tail place.input bytes) p) (sym to) stops;
        cut = each_input _ place.input (λ there.
            elim cut [
              | inl sync ↦ inl (λ z. sync (sym (ap (λ (l : List ℕ). slice_index l 0) (tail_here place.input bytes))
                  ∙ z))
              | inr on ↦
                  inr on
            ])
            (λ k differ there. absurd (there (tail_other place.input k bytes differ)));
      }

  pub fed_stopped : EventsTell → (after : Place) (bytes : List ℕ) (why : GatewayStop) → after.phase ≡ Stopped why
      → bytes ≢ [] → slice_index bytes 0 ≢ SYNC → StopsFor way c h.events (one_tail place.input bytes) why
      → Holds way c (done ++ run.Fed place.input bytes ∷ []) g after ran
  fed_stopped tell after bytes why to some sync stops =
      let f = tell.fed place.input bytes done in
      stopped_at (done ++ run.Fed place.input bytes ∷ []) after bytes why to some (inl sync)
      (record { here = f.here; others = f.others; ended = λ k differ. f.ended k; gave = f.gave }) stops

  pub ended_stopped : EventsTell → (after : Place) (bytes : List ℕ) (why : GatewayStop) → after.phase ≡ Stopped why
      → bytes ≢ [] → StopsFor way c h.events (one_tail place.input bytes) why
      → Holds way c (done ++ run.Ended place.input bytes ∷ []) g after ran
  ended_stopped tell after bytes why to some stops =
      let f = tell.ended place.input bytes done in
      stopped_at (done ++ run.Ended place.input bytes ∷ []) after bytes why to some (inr f.ended)
      (record { here = f.here; others = f.others; ended = f.others_ended; gave = f.gave }) stops

  -- The next packet of the input that is looked at is bad.
  pub met_bad : (bytes : List ℕ) → bytes ≢ [] → begins_with_packet bytes ≡ false
      → MetBad way c h.events (one_tail place.input bytes) place.input
      (slots_by c (place_of way c place.input) (ran.frames * c.ticks) - wants)
  met_bad bytes some off =
      let w = wait h in
      let same = ap (λ (n : ℕ). slots_by c (place_of way c place.input) (n * c.ticks)) h.frames in
      let l = w.first.less in
      let k = w.first.wants_are in
      let packet : ℕ = slots_by c (place_of way c place.input) (ran.frames * c.ticks) - wants in
      let number : packet ≡ length (offered (place_of way c place.input) h.events) = omega (arith, k, same, l) in
      record {
        place = w.first.inside;
        number = number;
        is_open = w.first.is_open;
        wanted = omega (arith, number, l);
        some = λ z. some (sym (tail_here place.input bytes) ∙ z);
        bad = ap begins_with_packet (tail_here place.input bytes) ∙ off;
        below = λ other lt before. w.first.below other lt
            (subst (λ (n : ℕ). IsBefore way c other (length (offered (place_of way c other) h.events)) place.input n)
            number before);
        others = λ other differ. tail_other place.input other bytes differ;
        complete = w.complete;
        is_going = w.is_going;
      }

pub some_bytes : (bytes : List ℕ) → 0 < length bytes → bytes ≢ []
some_bytes bytes some e = let n = ap length e in omega (arith, n, some)
