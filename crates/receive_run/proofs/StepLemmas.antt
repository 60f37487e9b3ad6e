-- What a call of the machine leaves as it was.
use Rattle.std.proofs.Common.{◌≡◌, ◌≢◌, ℕ, ◌<◌, List, Option, None, length, ap, sym, subst, ◌∙◌, arith}
use Rattle.plp_config.specs.Capacity.{IsPlan}
use Rattle.plp_config.specs.declared.config.Config.{Config}
use Rattle.site_frame.specs.declared.fault.RecordWhy.{RecordWhy}
use Rattle.site_frame.specs.Behind.{Behind}
use Rattle.site_frame.specs.FeedStandsFor.{RecordFeedStandsFor, coming_of}
use Rattle.site_frame.specs.declared.coming.Coming.{Coming}
use Rattle.site_frame.specs.declared.coming.Coming.TheVariants.{Whole}
use Rattle.plp_receiver.specs.JoinedBack.{MayJoin}
use Rattle.plp_receiver.specs.JointStandsFor.{network_of, plp_of, joins_of, due_of}
use Rattle.plp_receiver.specs.declared.joined_receiver.JoinedReceiver.{JoinedReceiver}
use Rattle.file_run.specs.Events.{Event, fed, has_ended, gave}
use Rattle.receive_run.specs.Received.{expected_after}
use Rattle.receive_run.specs.AsMachine.{SameTaken, Judged, Given, first_of, Shown}
use Rattle.receive_run.specs.Taking.{expected_by, SamePlp}
use Rattle.receive_run.specs.declared.machine.ReceiverMachine.{ReceiverMachine}

-- no record more was taken
pub same_shown : (joins : Option ℕ) (c : Config) (plp : ℕ) (m n : ReceiverMachine) (was now : List Event)
    (s : Shown joins c plp m was)
    → due_of m.receiver ≡ 0 → SameTaken m n → gave now ≡ gave was
    → (f : RecordFeedStandsFor n.feed s.views (fed 0 now) (has_ended 0 now))
    → Judged c (expected_after s.first s.views) n.misplaced (coming_of n.feed) f.rest → Shown joins c plp n now
same_shown joins c plp m n was now s idle same text f judged = record {
  first = s.first;
  views = s.views;
  feed = f;
  successive = s.successive;
  first_is = same.first ∙ s.first_is;
  judged = judged;
  given = subst (λ (l : List ℕ). Given joins c plp n.receiver s.first s.views n.slots l) (sym text)
      (subst (λ (k : ℕ). Given joins c plp n.receiver s.first s.views k (gave was)) (sym same.slots)
      (subst (λ (v : JoinedReceiver). Given joins c plp v s.first s.views m.slots (gave was)) (sym same.receiver)
      s.given));
  between = λ some. absurd (let e = ap due_of same.receiver in omega (arith, e, idle, some));
}

pub same_plp : (start m n : ReceiverMachine) → SameTaken m n → SamePlp start.receiver m.receiver
    → SamePlp start.receiver n.receiver
same_plp start m n same s = subst (λ (v : JoinedReceiver). SamePlp start.receiver v) (sym same.receiver) s

pub then_same : (m k n : ReceiverMachine) → SameTaken m k → SameTaken k n → SameTaken m n
then_same m k n a b = record {
  receiver = b.receiver ∙ a.receiver;
  first = b.first ∙ a.first;
  slots = b.slots ∙ a.slots;
}

-- what a machine knows of its plan
abbrev pub KnownPlan : Option ℕ → Config → ℕ → Type 0
KnownPlan joins c plp = IsPlan c × (plp < length c.plps) × MayJoin c plp joins

pub known_plan : (m : ReceiverMachine) → IsPlan m.plan.now → IsPlan (network_of m.receiver)
known_plan m plan = subst IsPlan (sym m.network) plan

pub known_inside : (m : ReceiverMachine) → plp_of m.receiver < length (network_of m.receiver).plps
known_inside m = subst (λ (c : Config). plp_of m.receiver < length c.plps) (sym m.network)
    (subst (λ (p : ℕ). p < length m.plan.now.plps) (sym m.place) m.inside)

pub known_of : (m : ReceiverMachine) → IsPlan m.plan.now → MayJoin (network_of m.receiver) (plp_of m.receiver)
    (joins_of m.receiver)
    → KnownPlan (joins_of m.receiver) (network_of m.receiver) (plp_of m.receiver)
known_of m plan may = (known_plan m plan, known_inside m, may)

-- by the numbers that a machine holds, what is expected
pub expects : (joins : Option ℕ) (c : Config) (plp : ℕ) (m : ReceiverMachine) (was : List Event)
    (s : Shown joins c plp m was) (count : ℕ)
    → count ≡ length s.views → expected_by m.first count ≡ expected_by (first_of s.first s.views) (length s.views)
expects joins c plp m was s count number = ap (λ (o : Option ℕ). expected_by o count) s.first_is
    ∙ ap (expected_by (first_of s.first s.views)) number

-- what stands behind the records, by what comes next
pub behind_at : (joins : Option ℕ) (c : Config) (plp : ℕ) (m : ReceiverMachine) (events : List Event) (p : Coming)
    → coming_of m.feed ≡ p
    → (s : Shown joins c plp m events) → Behind p m.feed.head m.feed.bytes.items m.feed.left s.feed.rest
    (has_ended 0 events)
behind_at joins c plp m events p is s =
    subst (λ (q : Coming). Behind q m.feed.head m.feed.bytes.items m.feed.left s.feed.rest (has_ended 0 events))
    is s.feed.behind

-- a record that is whole is misplaced, since it was looked at
pub judged_none : (c : Config) (expected : Option ℕ) (m : ReceiverMachine) (coming : Coming) (rest : List ℕ)
    → m.misplaced ≡ None → coming ≢ Whole → Judged c expected m.misplaced coming rest
judged_none c expected m coming rest none seen =
    subst (λ (o : Option RecordWhy). Judged c expected o coming rest) (sym none) seen
