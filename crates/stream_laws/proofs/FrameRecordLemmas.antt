-- The records that must come of what is received of a run.
use Rattle.std.proofs.Common.{◌≡◌, ℕ, zero, suc, ◌+◌, ◌-◌, ◌%◌, ◌<◌, ◌≤◌, ◌==◌, ◌&&◌, Bool, true, false, List, [], ◌∷◌}
use Rattle.std.proofs.Common.{◌++◌, map, replicate, Option, Some, None, refl, ap, ap₂, sym, ◌∙◌, ⊎_elim}
use Rattle.std.proofs.Common.{arith}
use Rattle.std.specs.Prelude.{find}
use Rattle.std.specs.List.{flat_map, range_with_len, items_where_true, last_or, AllByRecursion}
use Rattle.std.specs.Option.{option_map_or}
use Rattle.std.proofs.lemmas.Bool.{cases_lt}
use Rattle.plp_config.specs.Capacity.{IsPlan}
use Rattle.plp_config.specs.declared.config.Config.{Config}
use Rattle.t2mi_stream.specs.Received.{AlteredWhole}
use Rattle.t2mi_stream.specs.Received.Fate.{Kept}
use Rattle.t2mi_stream.specs.Survivors.{AreKept}
use Rattle.site_frame.specs.Whole.{record_bytes}
use Rattle.record_laws.specs.Frames.{HasByteIds}
use Rattle.record_laws.specs.Records.{numbers_from, record_of, file_bytes}
use Rattle.frame_groups.specs.Tests.{rules}
use Rattle.open_group.specs.Written.{content_view, spelled}
use Rattle.stream_laws.specs.SentPackets.{Sent}
use Rattle.stream_laws.specs.Survivors.{is_whole, sent_content, sent_record, end_of}
use Rattle.stream_laws.specs.UnitLaws.{SurvivalLength, HonestRecords, KeptHonest}
use Rattle.stream_laws.specs.Streams.{Stream, IsStream, stream_survival}
use Rattle.stream_laws.specs.FrameLaws.{SentAreFrames, FramesAreStream, TestsMeet, WrittenIsFrame, KeptIsHonest}
use Rattle.stream_laws.specs.FrameLaws.{WrittenMustCome, UndamagedMustCome}
use Rattle.stream_laws.specs.SentFrames.{sent_frames, frames_stream}
use Rattle.stream_laws.specs.Types.{TypesFit}

pub kept_is_honest : FramesAreStream → KeptHonest → KeptIsHonest
kept_is_honest stream kept c inputs n from fates plan ids l altered units =
    kept (frames_stream c inputs n) from fates (stream c inputs n plan ids l) altered units

-- ---- no survivor is of frame n or a later one

pub last_below : (n : ℕ) (sent : List Sent) (survival : List Bool) (before : Option Sent)
    → option_map_or (λ s. s.frame + 1) before 0 ≤ n → AllByRecursion (λ s. s.frame < n) sent
    → option_map_or (λ s. s.frame + 1) (last_or before (items_where_true survival sent)) 0 ≤ n
last_below n sent [] before l h = l
last_below n [] (b ∷ survival) before l h = l
last_below n (s ∷ sent) (true ∷ survival) before l h = let k = h.0 in last_below n sent survival (Some s)
    (omega (arith, k)) h.1
last_below n (s ∷ sent) (false ∷ survival) before l h = last_below n sent survival before l h.1

-- ---- each record is the one that must come

module _ (written : WrittenIsFrame) (c : Config) (inputs : ℕ → List (List ℕ)) (n : ℕ) (plan : IsPlan c)
    (types : TypesFit c)
    (survival : List Bool) where
  abbrev sent : List Sent
  sent = sent_frames c inputs n

  abbrev whole : ℕ → Bool
  whole = is_whole c sent survival

  one_view : (m : ℕ) → m < n → content_view c m (sent_content c sent survival m) ≡ record_of c inputs whole m
  one_view m l = grind arith

  some_bytes : (a k : ℕ) → a + k ≤ n → flat_map (spelled c) (map (sent_record c sent survival) (range_with_len a k))
      ≡ file_bytes (map (record_of c inputs whole) (range_with_len a k))
  some_bytes a zero l = refl
  some_bytes a (suc k) l = ap₂ (λ (x y : List ℕ). x ++ y) (ap record_bytes (one_view a (omega (arith, l))))
      (some_bytes (a + 1) k (omega (arith, l)))

  numbers_bytes : (end : ℕ) (first : Option ℕ) → end ≤ n
      → flat_map (spelled c) (map (sent_record c sent survival) (numbers_from end first))
      ≡ file_bytes (map (record_of c inputs whole) (numbers_from end first))
  numbers_bytes end None l = refl
  numbers_bytes end (Some first) l = ⊎_elim
      (λ (s : first < end). some_bytes first (end - first) (omega (arith, l, s)))
      (λ (s : end ≤ first).
      let none : end - first ≡ 0 = omega (arith, s) in
      ap (λ (k : ℕ). flat_map (spelled c) (map (sent_record c sent survival) (range_with_len first k))) none
      ∙ sym (ap (λ (k : ℕ). file_bytes (map (record_of c inputs whole) (range_with_len first k))) none))
      (cases_lt first end)

pub written_must_come : SentAreFrames → FramesAreStream → TestsMeet → WrittenIsFrame → SurvivalLength → HonestRecords
    → (c : Config) → IsPlan c → TypesFit c → WrittenMustCome c
written_must_come are stream meet written len records c plan types inputs n from fates l honest =
    let s : Stream = frames_stream c inputs n in
    let is : IsStream s = stream c inputs n plan types.ids l in
    let survival : List Bool = stream_survival s from fates in
    let whole : ℕ → Bool = is_whole c s.sent survival in
    let end : ℕ = end_of (items_where_true survival s.sent) in
    ap (flat_map (spelled c))
    (records (rules c) s from fates refl is honest (meet c inputs n survival plan types l (len s from fates is)))
    ∙ numbers_bytes written c inputs n plan types survival end (find (λ m. whole m && (m % c.frames == 0))
    (range_with_len 0 end))
    (last_below n s.sent survival None (omega arith) (are c inputs n is.some).below)

-- Kept units are not altered.
pub none_altered : (count : ℕ) → AlteredWhole (replicate count Kept)
none_altered zero = tt
none_altered (suc count) = none_altered count

pub each_kept : (count : ℕ) → AreKept count (replicate count Kept)
each_kept zero n l = absurd (omega (arith, l))
each_kept (suc count) zero l = refl
each_kept (suc count) (suc n) l = each_kept count n (omega (arith, l))

pub undamaged_must_come : (c : Config) → IsPlan c → HasByteIds c → KeptIsHonest → WrittenMustCome c
    → UndamagedMustCome c
undamaged_must_come c plan ids kept written inputs n from l = grind (arith, replicate, none_altered, each_kept)
