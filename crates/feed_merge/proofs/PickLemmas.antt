-- A picked frame of an honest feed is that of the run.
use Rattle.std.proofs.Common.{◌≡◌, ℕ, zero, suc, ◌+◌, ◌-◌, ◌%◌, ◌<◌, ◌≤◌, ◌==◌, ◌&&◌, Bool, true, false, List, [], ◌∷◌}
use Rattle.std.proofs.Common.{map, find, Option, Some, None, refl, ap, sym, subst, ◌∙◌, ⊎_elim, arith, true≢false}
use Rattle.std.proofs.Common.{option_map}
use Rattle.std.specs.Prelude.{if◌then◌else◌}
use Rattle.std.specs.List.{range_with_len, items_where_true, AllByRecursion}
use Rattle.std.specs.Option.{option_or}
use Rattle.std.proofs.lemmas.Bool.{cases_Bool, cases_lt, cond-true, cond-false, and_parts, eqb-true}
use Rattle.std.proofs.lemmas.Option.{same_Some}
use Rattle.plp_config.specs.Capacity.{IsPlan}
use Rattle.plp_config.specs.declared.config.Config.{Config}
use Rattle.plp_config.specs.declared.moment.TheConstants.{MOST_FRAMES}
use Rattle.t2mi_stream.specs.Received.{Fate}
use Rattle.frame_groups.specs.Modulated.{FrameRecord}
use Rattle.frame_groups.specs.Modulated.Content.{Whole, Muted}
use Rattle.frame_groups.specs.Tests.{rules}
use Rattle.record_laws.specs.Frames.{frame_of}
use Rattle.record_laws.specs.Records.{numbers_from, record_numbers}
use Rattle.open_group.specs.Written.{content_view}
use Rattle.stream_laws.specs.SentPackets.{Sent, frame_packets, frame_group}
use Rattle.stream_laws.specs.UnitLaws.{SurvivalLength, HonestRecords}
use Rattle.stream_laws.specs.Streams.{Stream, IsStream, Honest, stream_survival}
use Rattle.stream_laws.specs.Survivors.{is_whole, loss_of, sent_content, sent_record, end_of}
use Rattle.stream_laws.specs.FrameLaws.{SentAreFrames, FramesAreStream, TestsMeet, WrittenIsFrame}
use Rattle.stream_laws.specs.SentFrames.{sent_frames, frames_stream, stream_bytes}
use Rattle.stream_laws.specs.Types.{TypesFit}
use Rattle.stream_laws.proofs.FrameRecordLemmas.{last_below}
use Rattle.feed_merge.specs.declared.seen.Feed.{Feed}
use Rattle.feed_merge.specs.declared.seen.Feed.TheVariants.{A, B}
use Rattle.modulator.specs.StandsFor.{records_due}
use Rattle.feed_merge.specs.Laws.{PicksAreFrames}
use Rattle.feed_merge.specs.Picks.{is_frame, Picked, frame_from}

-- numbers below another
range_below : (n a k : ℕ) → a + k ≤ n → AllByRecursion (λ j. j < n) (range_with_len a k)
range_below n a zero l = tt
range_below n a (suc k) l = (omega (arith, l), range_below n (a + 1) k (omega (arith, l)))

pub numbers_below : (n end : ℕ) (first : Option ℕ) → end ≤ n → AllByRecursion (λ j. j < n) (numbers_from end first)
numbers_below n end None l = tt
numbers_below n end (Some first) l = ⊎_elim
    (λ (s : first < end). range_below n first (end - first) (omega (arith, l, s)))
    (λ (s : end ≤ first).
    let none : end - first ≡ 0 = omega (arith, s) in
    subst (λ (k : ℕ). AllByRecursion (λ j. j < n) (range_with_len first k)) (sym none) tt)
    (cases_lt first end)

module _ (written : WrittenIsFrame) (c : Config) (inputs : ℕ → List (List ℕ)) (n : ℕ) (plan : IsPlan c)
    (types : TypesFit c)
    (survival : List Bool) (m : ℕ) where
  abbrev sent : List Sent
  sent = sent_frames c inputs n

  abbrev test : FrameRecord → Bool
  test x = (x.number == m) && is_frame x.content

  abbrev one : ℕ → FrameRecord
  one = sent_record c sent survival

  -- the record of a frame that is whole
  is_own : (k : ℕ) → k < n → test (one k) ≡ true → (m < n) × (content_view c m (one k).content ≡ frame_of c inputs m)
  is_own k l t =
      let p = and_parts (k == m) (is_frame (sent_content c sent survival k)) t in
      let same : k ≡ m = eqb-true k m p.0 in
      go (is_whole c sent survival k) same p.1
    where
      go : (w : Bool) → k ≡ m
          → is_frame (if w then Whole (frame_group c.frames sent k)
          else Muted (loss_of (frame_packets k (items_where_true survival sent)))) ≡ true
          → (m < n) × (content_view c m (if w then Whole (frame_group c.frames sent k)
          else Muted (loss_of (frame_packets k (items_where_true survival sent)))) ≡ frame_of c inputs m)
      go true same e =
          let inside : m < n = subst (λ (j : ℕ). j < n) same l in (
            inside,
            ap (λ (j : ℕ). content_view c m (Whole (frame_group c.frames sent j))) same
                ∙ written c inputs n m plan types inside,
          )
      go false same e = absurd (true≢false (sym e))

  found_own : (numbers : List ℕ) → AllByRecursion (λ k. k < n) numbers → (x : FrameRecord)
      → find test (map one numbers) ≡ Some x
      → (m < n) × (content_view c m x.content ≡ frame_of c inputs m)
  found_own [] h x e = absurd (let z : ◌≡◌ {A = Option FrameRecord} None (Some x) = e in cc)
  found_own (k ∷ numbers) h x e = ⊎_elim
      (λ (t : test (one k) ≡ true).
      let same : one k ≡ x =
      same_Some (one k) x (sym (cond-true {A = Option FrameRecord} (test (one k)) (Some (one k))
      (find test (map one numbers)) t) ∙ e) in
      subst (λ (y : FrameRecord). (m < n) × (content_view c m y.content ≡ frame_of c inputs m)) same (is_own k h.0 t))
      (λ (t : test (one k) ≡ false).
      found_own numbers h.1 x
      (sym (cond-false {A = Option FrameRecord} (test (one k)) (Some (one k)) (find test (map one numbers)) t) ∙ e))
      (cases_Bool (test (one k)))

-- what a feed has is of the run
record IsOfRun (c : Config) (inputs : ℕ → List (List ℕ)) (n m : ℕ) (records : List FrameRecord) : Type 0 where
  pub view : (x : FrameRecord) → find (λ x. (x.number == m) && is_frame x.content) records ≡ Some x
      → (m < n) × (content_view c m x.content ≡ frame_of c inputs m)

of_run : SentAreFrames → FramesAreStream → TestsMeet → WrittenIsFrame → SurvivalLength → HonestRecords
    → (c : Config) (inputs : ℕ → List (List ℕ)) (n from : ℕ) (fates : List Fate) → IsPlan c → TypesFit c
    → n ≤ MOST_FRAMES
    → Honest (frames_stream c inputs n) from fates → (m : ℕ)
    → IsOfRun c inputs n m (records_due c true (stream_bytes (frames_stream c inputs n) from fates))
of_run are stream meet written len records c inputs n from fates plan types l honest m =
    let s : Stream = frames_stream c inputs n in
    let is : IsStream s = stream c inputs n plan types.ids l in
    let survival : List Bool = stream_survival s from fates in
    let whole : ℕ → Bool = is_whole c s.sent survival in
    let end : ℕ = end_of (items_where_true survival s.sent) in
    let below = numbers_below n end (find (λ k. whole k && (k % c.frames == 0)) (range_with_len 0 end))
    (last_below n s.sent survival None (omega arith) (are c inputs n is.some).below) in
    subst (IsOfRun c inputs n m)
    (sym (records (rules c) s from fates refl is honest (meet c inputs n survival plan types l (len s from fates is))))
    (record { view = found_own written c inputs n plan types survival m (record_numbers c whole end) below })

from_is : (c : Config) (inputs : ℕ → List (List ℕ)) (n : ℕ) (feed : Feed) (m : ℕ) (records : List FrameRecord)
    → IsOfRun c inputs n m records
    → (p : Picked) → frame_from c feed m records ≡ Some p
    → (m < n) × (p.frame.view ≡ frame_of c inputs m)
from_is c inputs n feed m records of p e = go (find (λ x. (x.number == m) && is_frame x.content) records) refl e
  where
    go : (o : Option FrameRecord) → find (λ x. (x.number == m) && is_frame x.content) records ≡ o
        → option_map (λ (x : FrameRecord). record {
          feed = feed;
          frame = record {
            number = m;
            view =
                content_view c m x.content;
          };
        }) o
        ≡ Some p
        → (m < n) × (p.frame.view ≡ frame_of c inputs m)
    go None is e = absurd (let z : ◌≡◌ {A = Option Picked} None (Some p) = e in cc)
    go (Some x) is e =
        let own = of.view x is in (own.0, sym (ap (λ (q : Picked). q.frame.view) (same_Some _ p e)) ∙ own.1)

either_is : (c : Config) (inputs : ℕ → List (List ℕ)) (n m : ℕ) (p : Picked) (a b : Option Picked)
    → (a ≡ Some p → (m < n) × (p.frame.view ≡ frame_of c inputs m))
    → (b ≡ Some p → (m < n) × (p.frame.view ≡ frame_of c inputs m))
    → option_or a b ≡ Some p → (m < n) × (p.frame.view ≡ frame_of c inputs m)
either_is c inputs n m p None b f g e = g e
either_is c inputs n m p (Some q) b f g e = f e

pub picks_are_frames : SentAreFrames → FramesAreStream → TestsMeet → WrittenIsFrame → SurvivalLength → HonestRecords
    → PicksAreFrames
picks_are_frames are stream meet written len records c inputs n from later fates others plan types l honest also m p e =
    let a = of_run are stream meet written len records c inputs n from fates plan types l honest m in
    let b = of_run are stream meet written len records c inputs n later others plan types l also m in
    either_is c inputs n m p
    (frame_from c A m (records_due c true (stream_bytes (frames_stream c inputs n) from fates)))
    (frame_from c B m (records_due c true (stream_bytes (frames_stream c inputs n) later others)))
    (from_is c inputs n A m _ a p) (from_is c inputs n B m _ b p) e
