-- What each call of the machine makes of what was done to it.
use Rattle.std.proofs.Common.{◌≡◌, ℕ, ◌+◌, ◌<◌, ◌≤◌, Bool, true, false, cond, List, [], ◌∷◌, ◌++◌, length, take, Option}
use Rattle.std.proofs.Common.{Some}
use Rattle.std.proofs.Common.{None, refl, ap, sym, subst, ◌∙◌, arith, length-append, append-nil, eqb-true, ltb-true}
use Rattle.std.specs.Prelude.{nat_lt}
use Rattle.std.proofs.lemmas.Bool.{true≢false, eqb-false}
use Rattle.std.proofs.lemmas.List.{length-take-le, nil_from_length}
use Rattle.std.proofs.lemmas.Option.{same_Some}
use Rattle.plp_config.specs.declared.config.Config.{Config}
use Rattle.plp_config.specs.declared.moment.TheConstants.{MOST_FRAMES}
use Rattle.terms.specs.Lists.{IsPrefix}
use Rattle.frame_groups.specs.declared.waiting.Waiting.{Waiting}
use Rattle.terms.proofs.OptionLemmas.{none_some}
use Rattle.modulator.proofs.WaitLemmas.{TellsNext, NextIs, next_told}
use Rattle.file_run.specs.Events.{Event, Fed, Ended, Gave, fed, has_ended, gave}
use Rattle.file_run.specs.Laws.{EventsTell}
use Rattle.file_run.specs.Steps.{Suffices, FallsShort}
use Rattle.file_run.specs.declared.machine.Step.TheVariants.{Give, End}
use Rattle.modulator.specs.Laws.{DueFront, DueFollow}
use Rattle.modulator.specs.StandsFor.{ModulatorStandsFor, TakesOf, records_due, bytes_due, config_of, is_finished}
use Rattle.modulator.specs.StandsFor.{fed_of, next_of, waits_for}
use Rattle.modulate_run.specs.GivenRecord.{added}
use Rattle.modulate_run.specs.AsMachine.{step_of, IsNext, IsAll, Behind, Shown}
use Rattle.modulate_run.specs.declared.machine.ModulatorMachine.{ModulatorMachine}
use Rattle.modulate_run.specs.declared.stop.ModulateRan.{ModulateRan}
use Rattle.modulate_run.proofs.CountLemmas.{fed_next, fed_all, still_next, then_next, then_all, rest_of, first_next}
use Rattle.modulate_run.proofs.CountLemmas.{first_all}
use Rattle.modulate_run.proofs.FrontLemmas.{given_fed, given_more}

-- ---- what is wanted

gives_none : (b : Bool) (input count : ℕ) → Suffices (cond b Give End) input count → ⊥
gives_none true input count h = h
gives_none false input count h = h

pub suffices : (o : Option Waiting) (e : Bool) (input count : ℕ) → Suffices (step_of o e) input count
    → (o ≡ None) × (e ≡ false)
    × (0 ≡ input) × (0 < count)
suffices (Some w) e input count h = absurd (gives_none (nat_lt w.frame MOST_FRAMES) input count h)
suffices None true input count h = absurd h
suffices None false input count h = (refl, refl, h.0, (let l = h.1 in omega (arith, l)))

ends_none : (b : Bool) (input count : ℕ) → FallsShort (cond b Give End) input count → ⊥
ends_none true input count h = h
ends_none false input count h = h

pub falls_short : (o : Option Waiting) (e : Bool) (input count : ℕ) → FallsShort (step_of o e) input count → (o ≡ None)
    × (e ≡ false) × (0 ≡ input) × (count ≡ 0)
falls_short (Some w) e input count h = absurd (ends_none (nat_lt w.frame MOST_FRAMES) input count h)
falls_short None true input count h = absurd h
falls_short None false input count h = (refl, refl, h.0, (let l = h.1 in omega (arith, l)))

given_so : (b : Bool) → cond b Give End ≡ Give → b ≡ true
given_so true e = refl
given_so false e = absurd (let z : End ≡ Give = e in cc)

-- a record that is given has a number that one may have
pub waits_early : (o : Option Waiting) (e : Bool) (w : Waiting) → step_of o e ≡ Give → o ≡ Some w
    → w.frame < MOST_FRAMES
waits_early (Some v) e w h is =
    let l = ltb-true v.frame MOST_FRAMES (given_so (nat_lt v.frame MOST_FRAMES) h) in
    let f = ap (λ (x : Waiting). x.frame) (same_Some v w is) in
    omega (arith, l, f)
waits_early None e w h is = none_some w is

-- ---- what a modulator tells of its next record

-- of a machine, by how far it has come
next_of_machine : (m : ModulatorMachine) (bytes taken : List ℕ) → TellsNext m.modulator m.waiting
    → ModulatorStandsFor m.modulator bytes taken → NextIs (config_of m.modulator) m.ended bytes taken m.waiting
next_of_machine m bytes taken t s = subst (λ (e : Bool). NextIs (config_of m.modulator) e bytes taken m.waiting)
    (sym m.finished)
    (next_told m.modulator m.waiting bytes taken t s)

-- ---- it was opened

pub shown_opened : (m : ModulatorMachine) → m.ended ≡ false → m.ran ≡ record { first = 0; records = 0; muted = 0 }
    → fed_of m.modulator ≡ 0 → ModulatorStandsFor m.modulator [] [] → TellsNext m.modulator m.waiting
    → Shown m [] [] false
shown_opened m going none count stands tells = record {
  stands = stands;
  count = count;
  end = going;
  behind = subst (λ (r : ModulateRan). Behind (config_of m.modulator) m.ended [] [] m.waiting r) (sym none)
      (by (config_of m.modulator) m.ended m.waiting (next_of_machine m [] [] tells stands));
  front = λ k less. absurd (omega (arith, less));
}
  where
    by : (c : Config) (e : Bool) (o : Option Waiting) → NextIs c e [] [] o
        → Behind c e [] [] o (record { first = 0; records = 0; muted = 0 })
    by c e None n = first_all c e [] n
    by c e (Some w) n = first_next c e [] w n

-- ---- it was fed

behind_fed : (c : Config) (e : Bool) (bytes more taken : List ℕ) (ran : ModulateRan) (o : Option Waiting)
    → IsPrefix (records_due c false bytes) (records_due c e (bytes ++ more)) → IsAll c false bytes taken ran
    → NextIs c e (bytes ++ more) taken o
    → Behind c e (bytes ++ more) taken o ran
behind_fed c e bytes more taken ran None prefix was n = fed_all c e bytes more taken ran prefix was n
behind_fed c e bytes more taken ran (Some w) prefix was n = fed_next c e bytes more taken w ran prefix was n

all_before : (now : ModulatorMachine) (bytes taken : List ℕ) (ended : Bool) → now.waiting ≡ None → now.ended ≡ false
    → Shown now bytes taken ended → IsAll (config_of now.modulator) false bytes taken now.ran
all_before now bytes taken ended none going s =
    subst (λ (e : Bool). IsAll (config_of now.modulator) e bytes taken now.ran) going
    (subst (λ (o : Option Waiting). Behind (config_of now.modulator) now.ended bytes taken o now.ran) none s.behind)

pub shown_fed : DueFront → (now new : ModulatorMachine) (bytes taken piece : List ℕ) (count : ℕ) (ended : Bool)
    → now.waiting ≡ None → now.ended ≡ false → config_of new.modulator ≡ config_of now.modulator → new.ended ≡ now.ended
    → new.ran ≡ now.ran
    → fed_of new.modulator ≡ fed_of now.modulator + count → count ≤ length piece
    → ((bytes taken : List ℕ) → ModulatorStandsFor now.modulator bytes taken
    → ModulatorStandsFor new.modulator (bytes ++ take count piece) taken)
    → ((k : ℕ) → k < count → (bytes taken : List ℕ) → ModulatorStandsFor now.modulator bytes taken
    → bytes_due (config_of now.modulator) false (bytes ++ take k piece) ≡ taken)
    → TellsNext new.modulator new.waiting → Shown now bytes taken ended
    → Shown new (bytes ++ take count piece) taken ended
shown_fed law now new bytes taken piece count ended none going config end ran len few stands first tells s =
    let c = config_of now.modulator in
    let more = take count piece in
    let after = stands bytes taken s.stands in
    let next : NextIs c new.ended (bytes ++ more) taken new.waiting =
    subst (λ (k : Config). NextIs k new.ended (bytes ++ more) taken new.waiting) config
    (next_of_machine new (bytes ++ more) taken tells after) in
    let behind : Behind c new.ended (bytes ++ more) taken new.waiting now.ran =
    behind_fed c new.ended bytes more taken now.ran new.waiting (law c new.ended bytes more)
    (all_before now bytes taken ended none going s) next in
    record {
      stands = after;
      count = (let n = s.count in omega (arith, len, n, length-append bytes more, length-take-le count piece few));
      end = end ∙ s.end;
      behind = subst (λ (k : Config). Behind k new.ended (bytes ++ more) taken new.waiting new.ran) (sym config)
          (subst (Behind c new.ended (bytes ++ more) taken new.waiting) (sym ran) behind);
      front = subst (λ (k : Config). (n : ℕ) → n < length (bytes ++ more)
          → IsPrefix (bytes_due k false (take n (bytes ++ more))) taken) (sym config)
          (given_fed c bytes piece taken count s.front (λ k less. first k less bytes taken s.stands));
    }

-- ---- its input ended

pub shown_ended : DueFront → (now new : ModulatorMachine) (bytes taken : List ℕ) (ended : Bool) → now.waiting ≡ None
    → now.ended ≡ false → config_of new.modulator ≡ config_of now.modulator → new.ended ≡ true → new.ran ≡ now.ran
    → fed_of new.modulator ≡ fed_of now.modulator
    → ((bytes taken : List ℕ) → ModulatorStandsFor now.modulator bytes taken
    → ModulatorStandsFor new.modulator bytes taken)
    → TellsNext new.modulator new.waiting → Shown now bytes taken ended → Shown new bytes taken true
shown_ended law now new bytes taken ended none going config end ran len stands tells s =
    let c = config_of now.modulator in
    let after = stands bytes taken s.stands in
    let same : bytes ++ [] ≡ bytes = append-nil bytes in
    let next : NextIs c new.ended bytes taken new.waiting =
    subst (λ (k : Config). NextIs k new.ended bytes taken new.waiting) config
    (next_of_machine new bytes taken tells after) in
    let behind : Behind c new.ended (bytes ++ []) taken new.waiting now.ran =
    behind_fed c new.ended bytes [] taken now.ran new.waiting (law c new.ended bytes [])
    (all_before now bytes taken ended none going s)
    (subst (λ (l : List ℕ). NextIs c new.ended l taken new.waiting) (sym same) next) in
    record {
      stands = after;
      count = len ∙ s.count;
      end = end;
      behind = subst (λ (k : Config). Behind k new.ended bytes taken new.waiting new.ran) (sym config)
          (subst (Behind c new.ended bytes taken new.waiting) (sym ran)
          (subst (λ (l : List ℕ). Behind c new.ended l taken new.waiting now.ran) same behind));
      front = subst (λ (k : Config). (n : ℕ) → n < length bytes → IsPrefix (bytes_due k false (take n bytes)) taken)
          (sym config) s.front;
    }

-- ---- it gave

behind_gave : DueFollow → (c : Config) (e : Bool) (bytes taken piece : List ℕ) (w : Waiting) (ran : ModulateRan)
    (o : Option Waiting)
    (n : IsNext c e bytes taken w ran) → w.frame < MOST_FRAMES → length piece ≤ length n.waits.rest
    → NextIs c e bytes (taken ++ piece) o
    → (b : Bool) → waits_for o w.frame ≡ b → Behind c e bytes (taken ++ piece) o (cond b ran (added ran w))
behind_gave follow c e bytes taken piece w ran None n small few next true same = absurd (true≢false (sym same))
behind_gave follow c e bytes taken piece w ran None n small few next false same =
    then_all follow c e bytes taken piece w ran n small next few
behind_gave follow c e bytes taken piece w ran (Some v) n small few next true same =
    still_next follow c e bytes taken piece w v ran n small next few (eqb-true v.frame w.frame same)
behind_gave follow c e bytes taken piece w ran (Some v) n small few next false same =
    then_next follow c e bytes taken piece w v ran n small next few (eqb-false v.frame w.frame same)

pub shown_gave : DueFollow → (now new : ModulatorMachine) (bytes taken piece : List ℕ) (count : ℕ) (ended : Bool)
    (w : Waiting)
    (b : Bool) → now.waiting ≡ Some w → w.frame < MOST_FRAMES → config_of new.modulator ≡ config_of now.modulator
    → new.ended ≡ now.ended
    → waits_for new.waiting w.frame ≡ b → new.ran ≡ cond b now.ran (added now.ran w)
    → fed_of new.modulator ≡ fed_of now.modulator
    → length piece ≡ count
    → ((bytes taken : List ℕ) → ModulatorStandsFor now.modulator bytes taken
    → ModulatorStandsFor new.modulator bytes (taken ++ piece))
    → ((bytes taken : List ℕ) → ModulatorStandsFor now.modulator bytes taken
    → TakesOf (config_of now.modulator) (is_finished now.modulator) bytes taken (next_of now.modulator) count)
    → TellsNext new.modulator new.waiting → Shown now bytes taken ended → Shown new bytes (taken ++ piece) ended
shown_gave follow now new bytes taken piece count ended w b is small config end same ran len size stands
    within tells s =
    let c = config_of now.modulator in
    let after = stands bytes taken s.stands in
    let was : IsNext c now.ended bytes taken w now.ran =
    subst (λ (o : Option Waiting). Behind c now.ended bytes taken o now.ran) is s.behind in
    let takes : TakesOf c now.ended bytes taken (next_of now.modulator) count =
    subst (λ (e : Bool). TakesOf c e bytes taken (next_of now.modulator) count) (sym now.finished)
    (within bytes taken s.stands) in
    let most = rest_of c now.ended bytes taken w was.waits (next_of now.modulator) count takes in
    let few : length piece ≤ length was.waits.rest = omega (arith, most, size) in
    let next : NextIs c now.ended bytes (taken ++ piece) new.waiting =
    subst (λ (e : Bool). NextIs c e bytes (taken ++ piece) new.waiting) end
    (subst (λ (k : Config). NextIs k new.ended bytes (taken ++ piece) new.waiting) config
    (next_of_machine new bytes (taken ++ piece) tells after)) in
    let behind = behind_gave follow c now.ended bytes taken piece w now.ran new.waiting was small few next b same in
    record {
      stands = after;
      count = len ∙ s.count;
      end = end ∙ s.end;
      behind = subst (λ (k : Config). Behind k new.ended bytes (taken ++ piece) new.waiting new.ran) (sym config)
          (subst (λ (e : Bool). Behind c e bytes (taken ++ piece) new.waiting new.ran) (sym end)
          (subst (Behind c now.ended bytes (taken ++ piece) new.waiting) (sym ran) behind));
      front = subst (λ (k : Config). (n : ℕ) → n < length bytes → IsPrefix (bytes_due k false (take n bytes))
          (taken ++ piece))
          (sym config) (given_more c bytes taken piece s.front);
    }

-- ---- by events

pub fed_event : EventsTell → (m : ModulatorMachine) (events : List Event) (input : ℕ) (bytes : List ℕ) → 0 ≡ input
    → Shown m (fed 0 events ++ bytes) (gave events) (has_ended 0 events)
    → Shown m (fed 0 (events ++ Fed input bytes ∷ [])) (gave (events ++ Fed input bytes ∷ []))
    (has_ended 0 (events ++ Fed input bytes ∷ []))
fed_event tell m events input bytes first s =
    let t = tell.fed 0 bytes events in
    subst (λ (k : ℕ). Shown m (fed 0 (events ++ Fed k bytes ∷ [])) (gave (events ++ Fed k bytes ∷ []))
    (has_ended 0 (events ++ Fed k bytes ∷ []))) first
    (subst (λ (l : List ℕ). Shown m l (gave (events ++ Fed 0 bytes ∷ [])) (has_ended 0 (events ++ Fed 0 bytes ∷ [])))
    (sym t.here)
    (subst (λ (l : List ℕ). Shown m (fed 0 events ++ bytes) l (has_ended 0 (events ++ Fed 0 bytes ∷ []))) (sym t.gave)
    (subst (λ (e : Bool). Shown m (fed 0 events ++ bytes) (gave events) e) (sym (t.ended 0)) s)))

pub ended_event : EventsTell → (m : ModulatorMachine) (events : List Event) (input : ℕ) (bytes : List ℕ) → 0 ≡ input
    → length bytes ≡ 0 → Shown m (fed 0 events) (gave events) true
    → Shown m (fed 0 (events ++ Ended input bytes ∷ [])) (gave (events ++ Ended input bytes ∷ []))
    (has_ended 0 (events ++ Ended input bytes ∷ []))
ended_event tell m events input bytes first none s =
    let t = tell.ended 0 bytes events in
    let here : fed 0 (events ++ Ended 0 bytes ∷ []) ≡ fed 0 events =
    t.here ∙ ap (λ (l : List ℕ). fed 0 events ++ l) (nil_from_length bytes none) ∙ append-nil (fed 0 events) in
    subst (λ (k : ℕ). Shown m (fed 0 (events ++ Ended k bytes ∷ [])) (gave (events ++ Ended k bytes ∷ []))
    (has_ended 0 (events ++ Ended k bytes ∷ []))) first
    (subst (λ (l : List ℕ). Shown m l (gave (events ++ Ended 0 bytes ∷ []))
    (has_ended 0 (events ++ Ended 0 bytes ∷ [])))
    (sym here)
    (subst (λ (l : List ℕ). Shown m (fed 0 events) l (has_ended 0 (events ++ Ended 0 bytes ∷ []))) (sym t.gave)
    (subst (λ (e : Bool). Shown m (fed 0 events) (gave events) e) (sym t.ended) s)))

pub gave_event : EventsTell → (m : ModulatorMachine) (events : List Event) (piece : List ℕ)
    → Shown m (fed 0 events) (gave events ++ piece) (has_ended 0 events)
    → Shown m (fed 0 (events ++ Gave piece ∷ [])) (gave (events ++ Gave piece ∷ []))
    (has_ended 0 (events ++ Gave piece ∷ []))
gave_event tell m events piece s =
    let t = tell.given piece events in
    subst (λ (l : List ℕ). Shown m l (gave (events ++ Gave piece ∷ [])) (has_ended 0 (events ++ Gave piece ∷ [])))
    (sym (t.fed 0))
    (subst (λ (l : List ℕ). Shown m (fed 0 events) l (has_ended 0 (events ++ Gave piece ∷ []))) (sym t.gave)
    (subst (λ (e : Bool). Shown m (fed 0 events) (gave events ++ piece) e) (sym (t.ended 0)) s))
