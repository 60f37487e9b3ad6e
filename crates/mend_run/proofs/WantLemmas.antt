-- What several feeds want.
use Rattle.std.proofs.Common.{◌≡◌, ℕ, ◌+◌, ◌^◌, ◌<◌, ◌≤◌, false, List, length, Option, Some, None, refl, ap, sym, subst}
use Rattle.std.proofs.Common.{◌∙◌, arith}
use Rattle.std.specs.Option.{option_map_or}
use Rattle.std.specs.Prelude.{slice_get}
use Rattle.plp_config.specs.declared.config.Config.{Config}
use Rattle.ts_packet.specs.declared.sizes.TheConstants.{SIZE}
use Rattle.feed_events.specs.StandsFor.{fed_of, has_ended}
use Rattle.mended_frames.specs.StandsFor.{Feed}
use Rattle.file_run.specs.Events.{Event, fed}
use Rattle.file_run.specs.FileRun.{read_ahead}
use Rattle.file_run.specs.Steps.{IsWanted, Suffices, FallsShort, Needs}
use Rattle.file_run.specs.declared.machine.Step.{Step}
use Rattle.file_run.specs.declared.machine.Step.TheVariants.{Read, Give, End}
use Rattle.mend_run.specs.AsMachine.{step_in, step_of, reach_of}
use Rattle.mend_run.specs.Row.{HaveCome, first_waiting, wants}
use Rattle.mend_run.specs.declared.machine.MendMachine.{MendMachine}
use Rattle.mend_run.specs.declared.phase.Phase.{Phase}
use Rattle.mend_run.specs.declared.phase.Phase.TheVariants as phase
use Rattle.mend_run.proofs.FeedLemmas.{fed_all, fed_most}
use Rattle.mend_run.proofs.RowLemmas.{IsFirst, first_some, get_at, get_too, known_at}
use Rattle.feed_events.specs.FeedEvents.{FeedEvent}

-- A feed is asked for bytes of this input: the first of which it is not known what is next.
pub record IsAsked (m : MendMachine) (input : ℕ) : Type 0 where
  pub looks : m.phase ≡ phase.Looks
  pub waits : IsFirst m.feeds.items input
  pub first : first_waiting m.feeds.items ≡ Some input

asked : (Asks : Step → ℕ → ℕ → Type 0) (m : MendMachine) (input count : ℕ) → (Asks Give input count → ⊥)
    → (Asks End input count → ⊥) → ((i : ℕ) → Asks (Read i SIZE read_ahead) input count → i ≡ input)
    → Asks (step_of m) input count → IsAsked m input × Asks (Read input SIZE read_ahead) input count
asked Asks m input count give end of h = by m.phase refl h
  where
    go : m.phase ≡ phase.Looks → (o : Option ℕ) → first_waiting m.feeds.items ≡ o → Asks (wants o) input count
        → IsAsked m input × Asks (Read input SIZE read_ahead) input count
    go looks None e h = absurd (give h)
    go looks (Some w) e h =
        let at = of w h in
        let first : first_waiting m.feeds.items ≡ Some input = e ∙ ap Some at in (
          record { looks = looks; waits = first_some m.feeds.items input first; first = first },
          subst (λ (i : ℕ). Asks (Read i SIZE read_ahead) input count) at h,
        )

    by : (p : Phase) → m.phase ≡ p → Asks (step_in p m.feeds.items) input count
        → IsAsked m input × Asks (Read input SIZE read_ahead) input count
    by phase.Looks e h = go e (first_waiting m.feeds.items) refl h
    by (phase.Sends n from) e h = absurd (give h)
    by phase.Rests e h = absurd (give h)
    by phase.Done e h = absurd (end h)

-- so many bytes are enough, too few, or no more than are wanted
pub enough : (m : MendMachine) (input count : ℕ) → Suffices (step_of m) input count → IsAsked m input × (SIZE ≤ count)
enough m input count h =
    let w = asked Suffices m input count (λ z. z) (λ z. z) (λ i z. z.0) h in (w.0, w.1.1)

pub short : (m : MendMachine) (input count : ℕ) → FallsShort (step_of m) input count → IsAsked m input × (count < SIZE)
short m input count h =
    let w = asked FallsShort m input count (λ z. z) (λ z. z) (λ i z. z.0) h in (w.0, w.1.1)

pub needs : (m : MendMachine) (input count : ℕ) → Needs (step_of m) input count → IsAsked m input × (count ≤ SIZE)
needs m input count h = let w = asked Needs m input count (λ z. z) (λ z. z) (λ i z. z.0) h in (w.0, w.1.1)

pub reach_more : (old new : List Feed) → length new ≡ length old
    → ((i : ℕ) (f h : Feed) → slice_get old i ≡ Some f → slice_get new i ≡ Some h → fed_of f ≤ fed_of h)
    → (i : ℕ) → option_map_or fed_of (slice_get old i) 0 ≤ option_map_or fed_of (slice_get new i) 0
reach_more old new len more i = go (slice_get old i) refl
  where
    go : (o : Option Feed) → slice_get old i ≡ o → option_map_or fed_of o 0 ≤ option_map_or fed_of (slice_get new i) 0
    go None e = omega arith
    go (Some f) e =
        let h = get_too new old i f (sym len) e in
        subst (λ (o : Option Feed). fed_of f ≤ option_map_or fed_of o 0) (sym h.1) (more i f h.0 e h.1)

-- the same of a row by another name
pub reach_by : (old mid new now : List Feed) → mid ≡ old → now ≡ new → length new ≡ length mid
    → ((i : ℕ) (f h : Feed) → slice_get mid i ≡ Some f → slice_get new i ≡ Some h → fed_of f ≤ fed_of h)
    → (i : ℕ) → option_map_or fed_of (slice_get old i) 0 + read_ahead ≤ option_map_or fed_of (slice_get now i)
    0 + read_ahead
reach_by old mid new now was is len more i =
    let r : option_map_or fed_of (slice_get old i) 0 ≤ option_map_or fed_of (slice_get now i) 0 =
    rw (← was, is) (reach_more mid new len more i) in
    omega (arith, r)

module _ (c : Config) (k : ℕ) (m : MendMachine) (done : List Event) (gone : ℕ → List FeedEvent)
    (h : HaveCome c k m.feeds.items done gone)
  where
    wanted_of : (o : Option ℕ) → first_waiting m.feeds.items ≡ o → IsWanted k done (reach_of m) (wants o)
    wanted_of None e = tt
    wanted_of (Some w) e =
        let first = first_some m.feeds.items w e in
        let count = h.count in
        let inside = first.inside in
        let f = get_at m.feeds.items w inside in
        let has = h.each w f.0 f.1 in
        let going : has_ended f.0 ≡ false = (f.0.settled (sym (known_at m.feeds.items w f.0 f.1) ∙ first.there)).2 in
        let fed_is = fed_all f.0 (fed w done) (gone w) has.stands going in
        let reach : reach_of m w ≡ fed_of f.0 + read_ahead = ap (λ (o : Option Feed). option_map_or fed_of
        o 0 + read_ahead) f.1 in
        record {
          place = omega (arith, inside, count);
          is_open = sym has.end ∙ going;
          some = omega arith;
          few = omega arith;
          order = omega arith;
          near = omega (arith, reach, fed_is);
        }

    pub wanted : IsWanted k done (reach_of m) (wants (first_waiting m.feeds.items))
    wanted = wanted_of (first_waiting m.feeds.items) refl

    pub room_of : (input count : ℕ) (f : Feed) → slice_get m.feeds.items input ≡ Some f
        → length (fed input done) + count ≤ 2 ^ 40
        → fed_of f + count < 2 ^ 60
    room_of input count f is few =
        let most = fed_most f (fed input done) (gone input) (h.each input f is).stands in
        omega (arith, most, few)
