-- A file has one ending at most.
use Rattle.std.proofs.Common.{◌≡◌, ℕ, ◌+◌, List, [], ◌∷◌, length, take, drop, Option, Some, refl, ap, ap₂, sym, subst}
use Rattle.std.proofs.Common.{◌∙◌, inl, inr, append-nil}
use Rattle.std.specs.List.{concat}
use Rattle.std.specs.Prelude.{◌⊎◌, Result, Ok, Err}
use Rattle.std.proofs.lemmas.List.{take-append-drop}
use Rattle.plp_config.specs.Rules.{AllRules}
use Rattle.plp_config.specs.declared.config.Config.{Config}
use Rattle.plp_config.specs.declared.moment.Moment.{Moment}
use Rattle.site_frame.specs.Laws.{OneRecord, NoRefusal, OneRefusal, OneFrame}
use Rattle.site_frame.specs.Placing.{RefusesPlace}
use Rattle.site_frame.specs.RecordFile.{AreRecords, IsOnGrid}
use Rattle.site_frame.specs.Whole.{Refuses, moment_of}
use Rattle.site_frame.specs.declared.fault.RecordWhy.{RecordWhy}
use Rattle.site_frame.specs.declared.fault.RecordWhy.TheVariants as why
use Rattle.site_frame.specs.declared.reading.RecordView.{RecordView}
use Rattle.plp_receiver.specs.JointLaws.{JoinedOnce}
use Rattle.plp_receiver.specs.JoinedBack.{JoinedBackWith}
use Rattle.receive_run.specs.JoinedLaws.{OneRun, OneOutput}
use Rattle.receive_run.specs.JoinedRun.{HasAll, HasBefore}
use Rattle.receive_run.specs.JoinedReceived.{GivesBack, Received}
use Rattle.receive_run.specs.Received.{first_slot, ran_of, expected_after, RefusesNext}
use Rattle.receive_run.specs.declared.stop.ReceiveRan.{ReceiveRan}
use Rattle.receive_run.specs.declared.stop.ReceiveStop.{ReceiveStop}
use Rattle.receive_run.specs.declared.stop.ReceiveStop.TheVariants.{RecordRefused}
use Rattle.site_frame.proofs.RecordSplitLemmas.{same_front}
use Rattle.receive_run.proofs.SameLemmas.{GoesOn, begins_nothing, comparable, same_first, next_not_refused}
use Rattle.receive_run.proofs.SameLemmas.{nothing_not_refused}

-- ---- what records give back

abbrev ran_with : ℕ → ℕ → ReceiveRan
ran_with first slots = record { first = first; slots = slots }

same_ran : JoinedOnce → OneFrame → (joins : Option ℕ) (c : Config) (plp : ℕ) → AllRules c
    → (views : List RecordView) (bytes other : List ℕ)
    (a : Received joins c plp views bytes) (b : Received joins c plp views other)
    → ran_of c plp a.first views a.packets ≡ ran_of c plp b.first views b.packets
same_ran once frame joins c plp rules [] bytes other a b = ap (λ (l : List (List ℕ)). ran_with 0 (length l)) (a.back
    ∙ sym b.back)
same_ran once frame joins c plp rules (w ∷ ws) bytes other a b =
    let first = same_first frame c rules a.first b.first w ws ws a.successive b.successive in
    let packets =
    once joins c plp a.first (w ∷ ws) a.packets b.packets a.back
    (subst (λ (n : ℕ). JoinedBackWith joins c plp n (w ∷ ws) b.packets) (sym first) b.back) in
    ap₂ (λ (n : ℕ) (l : List (List ℕ)). ran_with (first_slot c plp n (w ∷ ws)) (length l)) first packets

same_rans : JoinedOnce → OneFrame → (joins : Option ℕ) (c : Config) (plp : ℕ) → AllRules c
    → (views others : List RecordView) (bytes other : List ℕ) → views ≡ others
    → (a : Received joins c plp views bytes) (b : Received joins c plp others other)
    → ran_of c plp a.first views a.packets ≡ ran_of c plp b.first others b.packets
same_rans once frame joins c plp rules views others bytes other e a =
    subst (λ (l : List RecordView). (b : Received joins c plp l other) → ran_of c plp a.first views a.packets
    ≡ ran_of c plp b.first l b.packets) e (same_ran once frame joins c plp rules views bytes other a)

-- ---- why a record is refused

same_expected : OneFrame → (c : Config) → AllRules c → (views : List RecordView) (first second : ℕ)
    → IsOnGrid c first views
    → IsOnGrid c second views → expected_after first views ≡ expected_after second views
same_expected frame c rules [] first second a b = refl
same_expected frame c rules (w ∷ ws) first second a b =
    ap (λ (n : ℕ). Some (n + length (w ∷ ws))) (same_first frame c rules first second w ws ws a b)

place_once : (c : Config) (expected : Option ℕ) (moment : Moment) (why other : RecordWhy)
    → RefusesPlace c expected moment why
    → RefusesPlace c expected moment other → why ≡ other
place_once c expected moment why.Head other a b = absurd a
place_once c expected moment why.Kind other a b = absurd a
place_once c expected moment why.Length other a b = absurd a
place_once c expected moment why.Order why.Head a b = absurd b
place_once c expected moment why.Order why.Kind a b = absurd b
place_once c expected moment why.Order why.Length a b = absurd b
place_once c expected moment why.Order why.Order a b = refl
place_once c expected moment why.Order why.OffGrid a b = absurd (b a.frame a.of.small a.of.emission-is)
place_once c expected moment why.OffGrid why.Head a b = absurd b
place_once c expected moment why.OffGrid why.Kind a b = absurd b
place_once c expected moment why.OffGrid why.Length a b = absurd b
place_once c expected moment why.OffGrid why.Order a b = absurd (a b.frame b.of.small b.of.emission-is)
place_once c expected moment why.OffGrid why.OffGrid a b = refl

refused_once : OneRecord → NoRefusal → OneRefusal → (c : Config) (expected : Option ℕ) (bytes : List ℕ)
    (why other : RecordWhy)
    → RefusesNext c expected bytes why → RefusesNext c expected bytes other → why ≡ other
refused_once one never refusal c expected bytes why other (inl a) (inl b) = refusal bytes why other a.1 b.1
refused_once one never refusal c expected bytes why other (inl a) (inr p) =
    absurd (never p.0 (take p.1 bytes) (drop p.1 bytes) why p.2.spells
    (subst (λ (l : List ℕ). Refuses l why) (sym (take-append-drop p.1 bytes)) a.1))
refused_once one never refusal c expected bytes why other (inr p) (inl b) =
    absurd (never p.0 (take p.1 bytes) (drop p.1 bytes) other p.2.spells
    (subst (λ (l : List ℕ). Refuses l other) (sym (take-append-drop p.1 bytes)) b.1))
refused_once one never refusal c expected bytes why other (inr p) (inr q) =
    let same = same_front one bytes p.0 q.0 p.1 q.1 p.2 q.2 in
    place_once c expected (moment_of q.0) why other
    (subst (λ (v : RecordView). RefusesPlace c expected (moment_of v) why) same.0 p.3) q.3

-- ---- two endings

all_once : OneRecord → (file : List ℕ) (vs ws : List RecordView) → AreRecords file vs [] → AreRecords file ws []
    → vs ≡ ws
all_once one file vs ws h k = go (comparable one file [] [] vs ws h k)
  where
    go : GoesOn vs [] ws [] ⊎ GoesOn ws [] vs [] → vs ≡ ws
    go (inl ([], is, more)) = sym (is ∙ append-nil vs)
    go (inl (o ∷ os, is, (len, begins, more))) = absurd (begins_nothing o len begins)
    go (inr ([], is, more)) = is ∙ append-nil ws
    go (inr (o ∷ os, is, (len, begins, more))) = absurd (begins_nothing o len begins)

-- a file that is nothing but records is not refused
all_not_refused : OneRecord → NoRefusal → OneFrame → (joins : Option ℕ) (c : Config) (plp : ℕ) → AllRules c
    → (ran : ReceiveRan) (number : ℕ) (why : RecordWhy) (file bytes other : List ℕ) → HasAll joins c plp ran file bytes
    → HasBefore joins c plp number why file other → ⊥
all_not_refused one never frame joins c plp rules ran number why file bytes other a b =
    go (comparable one file [] b.rest a.views b.views a.records b.records)
  where
    nothing : [] ≡ b.rest → ⊥
    nothing e = nothing_not_refused c (expected_after b.received.first b.views) why
        (subst (λ (l : List ℕ). RefusesNext c (expected_after b.received.first b.views) l why) (sym e) b.refused)

    go : GoesOn a.views [] b.views b.rest ⊎ GoesOn b.views b.rest a.views [] → ⊥
    go (inl ([], is, more)) = nothing more
    go (inl (o ∷ os, is, (len, begins, more))) = begins_nothing o len begins
    go (inr ([], is, more)) = nothing (sym more)
    go (inr (o ∷ os, is, (len, begins, more))) =
        next_not_refused one never frame c rules b.received.first a.received.first b.views o os b.rest why len
        (subst (IsOnGrid c a.received.first) is a.received.successive) b.received.successive begins b.refused

abbrev refused_as : ℕ → RecordWhy → Result ReceiveRan ReceiveStop
refused_as number why = Err (RecordRefused number why)

-- two refusals behind the same records
same_refused : OneRecord → NoRefusal → OneRefusal → OneFrame → (joins : Option ℕ) (c : Config) (plp : ℕ) → AllRules c
    → (number count : ℕ) (why other : RecordWhy) (file bytes given : List ℕ)
    (a : HasBefore joins c plp number why file bytes)
    (b : HasBefore joins c plp count other file given)
    → a.views ≡ b.views → a.rest ≡ b.rest → refused_as number why ≡ refused_as count other
same_refused one never refusal frame joins c plp rules number count why other file bytes given a b views rest =
    let first : ℕ = a.received.first in
    let expected : expected_after first b.views ≡ expected_after b.received.first b.views =
    same_expected frame c rules b.views first b.received.first (subst (IsOnGrid c first) views a.received.successive)
    b.received.successive in
    let refused : RefusesNext c (expected_after b.received.first b.views) b.rest why =
    subst (λ (o : Option ℕ). RefusesNext c o b.rest why) expected
    (subst (λ (l : List ℕ). RefusesNext c (expected_after first b.views) l why) rest
    (subst (λ (l : List RecordView). RefusesNext c (expected_after first l) a.rest why) views a.refused)) in
    ap₂ refused_as (a.number_is ∙ ap (λ (l : List RecordView). length l) views ∙ sym b.number_is)
    (refused_once one never refusal c (expected_after b.received.first b.views) b.rest why other refused b.refused)

before_once : OneRecord → NoRefusal → OneRefusal → OneFrame → (joins : Option ℕ) (c : Config) (plp : ℕ) → AllRules c
    → (number count : ℕ) (why other : RecordWhy) (file bytes given : List ℕ)
    → HasBefore joins c plp number why file bytes
    → HasBefore joins c plp count other file given
    → refused_as number why ≡ refused_as count other
before_once one never refusal frame joins c plp rules number count why other file bytes given a b =
    go (comparable one file a.rest b.rest a.views b.views a.records b.records)
  where
    go : GoesOn a.views a.rest b.views b.rest ⊎ GoesOn b.views b.rest a.views a.rest → refused_as number why
        ≡ refused_as count other
    go (inl ([], is, more)) = same_refused one never refusal frame joins c plp rules number count why
        other file bytes given a b
        (sym (is ∙ append-nil a.views)) more
    go (inl (o ∷ os, is, (len, begins, more))) =
        absurd (next_not_refused one never frame c rules a.received.first b.received.first a.views o os a.rest why len
        (subst (IsOnGrid c b.received.first) is b.received.successive) a.received.successive begins a.refused)
    go (inr ([], is, more)) = same_refused one never refusal frame joins c plp rules number count why
        other file bytes given a b
        (is ∙ append-nil b.views) (sym more)
    go (inr (o ∷ os, is, (len, begins, more))) =
        absurd (next_not_refused one never frame c rules b.received.first a.received.first b.views o os b.rest other len
        (subst (IsOnGrid c a.received.first) is a.received.successive) b.received.successive begins b.refused)

pub one_run : OneRecord → NoRefusal → OneRefusal → OneFrame → JoinedOnce → OneRun
one_run one never refusal frame once joins c plp file (Ok ran) (Ok other) plan (bytes, a) (given, b) =
    ap Ok (a.ran_is ∙ same_rans once frame joins c plp plan.rules a.views b.views bytes given
    (all_once one file a.views b.views a.records b.records) a.received b.received ∙ sym b.ran_is)
one_run one never refusal frame once joins c plp file (Ok ran) (Err (RecordRefused number why)) plan
    (bytes, a) (given, b) =
    absurd (all_not_refused one never frame joins c plp plan.rules ran number why file bytes given a b)
one_run one never refusal frame once joins c plp file (Err (RecordRefused number why)) (Ok ran) plan
    (bytes, a) (given, b) =
    absurd (all_not_refused one never frame joins c plp plan.rules ran number why file given bytes b a)
one_run one never refusal frame once joins c plp file (Err (RecordRefused number why)) (Err (RecordRefused count other))
    plan (bytes, a)
    (given, b) = before_once one never refusal frame joins c plp plan.rules number count why other file bytes given a b

-- ---- one output

back_once : JoinedOnce → OneFrame → (joins : Option ℕ) (c : Config) (plp : ℕ) → AllRules c
    → (views : List RecordView) (first second : ℕ) (packets others : List (List ℕ)) → IsOnGrid c first views
    → IsOnGrid c second views → GivesBack joins c plp first views packets
    → GivesBack joins c plp second views others → packets ≡ others
back_once once frame joins c plp rules [] first second packets others a b g h = g ∙ sym h
back_once once frame joins c plp rules (w ∷ ws) first second packets others a b g h =
    let same = same_first frame c rules first second w ws ws a b in
    once joins c plp first (w ∷ ws) packets others g (subst (λ (n : ℕ). JoinedBackWith joins c plp n (w ∷ ws) others)
    (sym same) h)

pub one_output : OneRecord → OneFrame → JoinedOnce → OneOutput
one_output one frame once joins c plp file first views packets ran bytes plan records successive back a =
    let same = all_once one file a.views views a.records records in
    let r : Received joins c plp views (concat packets) =
    record { first = first; successive = successive; packets = packets; back = back; bytes_are = refl } in
    let b = a.received in (
      b.bytes_are
          ∙ ap concat (back_once once frame joins c plp plan.rules views b.first first b.packets packets
          (subst (IsOnGrid c b.first) same b.successive) successive
          (subst (λ (l : List RecordView). GivesBack joins c plp b.first l b.packets) same b.back) back),
      a.ran_is ∙ same_rans once frame joins c plp plan.rules a.views views bytes (concat packets) same b r,
    )
