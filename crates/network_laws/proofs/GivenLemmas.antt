-- What a PLP is given back of the frames of a run.
use Rattle.std.proofs.Common.{◌≡◌, ℕ, zero, suc, ◌+◌, ◌-◌, ◌*◌, ◌/◌, ◌<◌, ◌≤◌, ◌%◌, ◌==◌, ◌&&◌, not, Bool, true, false}
use Rattle.std.proofs.Common.{cond, List, [], ◌∷◌, ◌++◌, length, map, replicate, get_or, Option, Some, None, refl, ap}
use Rattle.std.proofs.Common.{ap₂, ◌∙◌, sym, arith, eq-eqb, eqb-true}
use Rattle.std.specs.Prelude.{find, ◌||◌, nat_le, nat_lt}
use Rattle.std.specs.List.{AllByRecursion, range_with_len, filter}
use Rattle.std.proofs.lemmas.Bool.{le-leb, lt-ltb}
use Rattle.std.proofs.lemmas.List.FromFn.{length-map-range_with_len}
use Rattle.std.proofs.lemmas.Nat.{div-add-mod', mod-mul-add}
use Rattle.std.proofs.Math.Nat.{mul-le-mul_right, div-mul-le_self}
use Rattle.ts_packet.specs.Null.{null_packet, is_null}
use Rattle.plp_config.specs.Capacity.{IsPlan}
use Rattle.plp_config.specs.Emission.{emission}
use Rattle.plp_config.specs.InterleavingFrames.{is_first}
use Rattle.plp_config.specs.Laws.{SlotLength, SpreadDividesFrames, NoneAtZero, ReleasedFirst, EmissionsDiffer}
use Rattle.plp_config.specs.Laws.{FrameCountLeast}
use Rattle.plp_config.specs.RunLength.{frame_count}
use Rattle.plp_config.specs.SlotTime.{num, den, delay, slots_by, released_count, epoch_ticks}
use Rattle.plp_config.specs.Plps.{plp_at, spread}
use Rattle.plp_config.specs.declared.config.Config.{Config}
use Rattle.plp_config.specs.declared.moment.Moment.{Moment}
use Rattle.null_delete.specs.Deletion.{packet_at}
use Rattle.site_frame.specs.Whole.{moment_of}
use Rattle.site_frame.specs.declared.reading.RecordView.{RecordView}
use Rattle.site_frame.specs.declared.reading.RecordView.TheVariants.{Muted}
use Rattle.record_laws.specs.Frames.{frame_of, run_frames}
use Rattle.record_laws.specs.Laws.{NoneLost}
use Rattle.site_frame.specs.RecordFile.{IsOnGrid}
use Rattle.record_laws.specs.Records.{record_of, records}
use Rattle.record_laws.specs.Recover.{due_slots, is_there, recovered, recover}
use Rattle.plp_receiver.specs.SlotEpochs.{Epoch, readback}
use Rattle.terms.proofs.RangeLemmas.{map_same}
use Rattle.plp_receiver.specs.Laws.{ReadbackOnce}
use Rattle.plp_receiver.specs.Epochs.{epochs_in, slot_rule, Readback}
use Rattle.network_laws.specs.ToldEpochs.{IsPacket, ArePackets, is_lost, ended_epochs}
use Rattle.network_laws.specs.RecoverLaws.{LostEnded, ReadbackRecovers, RunRecovers, RecordsRecover, IsCanonical}
use Rattle.network_laws.specs.RecoverLaws.{WholeComesBack, RunComesBack}
use Rattle.network_laws.proofs.TellLemmas as T

-- ---- packets of an input

pub small_run : (n i v : ℕ) → v < 256 → get_or (replicate n v) i 0 < 256
small_run zero i v l = omega arith
small_run (suc n) zero v l = l
small_run (suc n) (suc i) v l = small_run n i v l

pub null_is : IsPacket null_packet
null_is = record { size = refl; sync = refl; bytes = small }
  where
    small : (i : ℕ) → get_or null_packet i 0 < 256
    small zero = omega arith
    small (suc zero) = omega arith
    small (suc (suc zero)) = omega arith
    small (suc (suc (suc zero))) = omega arith
    small (suc (suc (suc (suc i)))) = small_run 184 i 0xFF (omega arith)

-- what is true of the null packet and of all packets of an input is true of the packet of each slot
pub in_each_slot : (P : List ℕ → Type 0) → P null_packet → (packets : List (List ℕ)) → AllByRecursion P packets
    → (k : ℕ) → P (packet_at packets k)
in_each_slot P null [] h k = null
in_each_slot P null (p ∷ packets) h zero = h.0
in_each_slot P null (p ∷ packets) h (suc k) = in_each_slot P null packets h.1 k

-- ---- records

pub run_recovers : T.Reads → T.Stand → ReadbackOnce → ReadbackRecovers → RunRecovers
run_recovers reads stand once recovers c plp inputs whole first count packets plan types inside all back =
    let at : ℕ → List ℕ = packet_at (inputs plp) in
    let muted : ℕ → Bool = λ m. not (whole m) in
    let views : List RecordView = map (record_of c inputs whole) (range_with_len first count) in
    let each : ArePackets at = in_each_slot IsPacket null_is (inputs plp) all in
    let told : List Epoch = ended_epochs c plp at muted first count in
    let other : Readback c plp first views (readback (slot_rule c plp) first (length views) told) = record {
      told = told;
      tells = T.tells_all reads c inputs plan types stand plp inside each whole first count;
      packets_are = refl;
    } in
    once c plp first views packets (readback (slot_rule c plp) first (length views) told) back other
    ∙ ap (λ (n : ℕ). readback (slot_rule c plp) first n told) (length-map-range_with_len (record_of c inputs whole)
    first count)
    ∙ recovers c plp at muted first count plan inside each

-- the moment of a record is that of its frame
moment_is : (c : Config) (inputs : ℕ → List (List ℕ)) (whole : ℕ → Bool) (n : ℕ)
    → moment_of (record_of c inputs whole n)
    ≡ emission c n
moment_is c inputs whole n = go (whole n)
  where
    go : (b : Bool) → moment_of (cond b (frame_of c inputs n) (Muted (emission c n))) ≡ emission c n
    go true = refl
    go false = refl

-- the records are those of so many frames from one on
pub record AreFrom (c : Config) (inputs : ℕ → List (List ℕ)) (whole : ℕ → Bool) (end : ℕ) : Type 0 where
  pub first : ℕ
  pub count : ℕ
  pub are : records c inputs whole end ≡ map (record_of c inputs whole) (range_with_len first count)

are_from : (c : Config) (inputs : ℕ → List (List ℕ)) (whole : ℕ → Bool) (end : ℕ) → AreFrom c inputs whole end
are_from c inputs whole end = go (find (λ n. whole n && (n % c.frames == 0)) (range_with_len 0 end)) refl
  where
    go : (o : Option ℕ) → find (λ n. whole n && (n % c.frames == 0)) (range_with_len 0 end) ≡ o
        → AreFrom c inputs whole end
    go None e =
        record {
          first = 0;
          count = 0;
          are = rw e;
        }
    go (Some n) e =
        record {
          first = n;
          count = end - n;
          are = rw e;
        }

-- they tell the frame from which on they are
same_first : EmissionsDiffer → (c : Config) (inputs : ℕ → List (List ℕ)) (whole : ℕ → Bool) (first other count : ℕ)
    (views : List RecordView) → IsPlan c
    → IsOnGrid c first views → views ≡ map (record_of c inputs whole) (range_with_len other count)
    → map (record_of c inputs whole) (range_with_len other count) ≡ map (record_of c inputs whole)
    (range_with_len first count)
same_first differ c inputs whole first other zero views plan grid e = refl
same_first differ c inputs whole first other (suc count) views plan grid e =
    let len : length views ≡ suc count = ap (λ (l : List RecordView). length l) e
    ∙ length-map-range_with_len (record_of c inputs whole) other (suc count) in
    let moments : map moment_of (map (record_of c inputs whole) (range_with_len other (suc count)))
    ≡ map (emission c) (range_with_len first (suc count)) =
    ap (λ (l : List RecordView). map moment_of l) (sym e) ∙ grid.moments
    ∙ ap (λ (k : ℕ). map (emission c) (range_with_len first k)) len in
    let head : List Moment → Moment = λ l. get_or l 0 (emission c 0) in
    let same : other ≡ first = differ c other first plan.rules (sym (moment_is c inputs whole other)
    ∙ ap head moments) in
    ap (λ (k : ℕ). map (record_of c inputs whole) (range_with_len k (suc count))) same

pub records_recover : EmissionsDiffer → RunRecovers → RecordsRecover
records_recover differ run c plp inputs whole end first packets plan types inside all grid back =
    let from = are_from c inputs whole end in
    let views : List RecordView = map (record_of c inputs whole) (range_with_len first from.count) in
    let same : records c inputs whole end ≡ views = from.are ∙ same_first differ c inputs whole first
    from.first from.count
    (records c inputs whole end) plan grid from.are in
    let len : length (records c inputs whole end) ≡ from.count = ap (λ (l : List RecordView). length l) from.are
    ∙ length-map-range_with_len (record_of c inputs whole) from.first from.count in
    run c plp inputs whole first from.count packets plan types inside all (rw (← same) back)
    ∙ ap (recover c plp (packet_at (inputs plp)) (λ m. not (whole m)) first) (sym len)

-- ---- nothing is muted

none_lost : (lost : ℕ → Bool) (count first : ℕ) → ((m : ℕ) → first ≤ m → m < first + count → lost m ≡ false)
    → filter lost (range_with_len first count) ≡ []
none_lost lost zero first h = refl
none_lost lost (suc count) first h =
    rw (
      h first (omega arith) (omega arith),
      none_lost lost count (first + 1) (λ m from below. h m (omega arith) (omega arith)),
    )

-- an epoch is there whose frames are among so many from one on
there : (c : Config) (plp : ℕ) (muted : ℕ → Bool) (first count m : ℕ)
    → ((n : ℕ) → first ≤ n → n < first + count → muted n ≡ false) → first ≤ m * spread c.plps plp
    → m * spread c.plps plp + spread c.plps plp ≤ first + count → is_there c plp muted first count m ≡ true
there c plp muted first count m none from below =
    T.each_passes (λ n. nat_le first n && (nat_lt n (first + count) && not (muted n))) (spread c.plps plp)
    (m * spread c.plps plp)
    (λ n a b. let low : first ≤ n = omega arith in let high : n < first + count = omega arith in
    ap₂ (λ (s t : Bool). s && (t && not (muted n))) (le-leb first n low) (lt-ltb n (first + count) high)
    ∙ ap not (none n low high))

-- all that end are if the first frame begins one
all_there : (c : Config) (plp : ℕ) (muted : ℕ → Bool) (first count : ℕ) → is_first c plp first ≡ true
    → ((n : ℕ) → first ≤ n → n < first + count → muted n ≡ false)
    → filter (is_lost c plp muted first count) (epochs_in (spread c.plps plp) first count) ≡ []
all_there c plp muted first count begins none =
    let frames : ℕ = spread c.plps plp in
    let place : first / frames * frames + first % frames ≡ first = div-add-mod' first frames in
    let zero_is : first % frames ≡ 0 = eqb-true (first % frames) 0 begins in
    none_lost (is_lost c plp muted first count) ((first + count) / frames - first / frames) (first / frames) (λ m a b.
    let low : first / frames * frames ≤ m * frames = mul-le-mul_right frames a in
    let high : (m + 1) * frames ≤ (first + count) / frames * frames = mul-le-mul_right frames (omega arith) in
    let next : (m + 1) * frames ≡ m * frames + frames = omega arith in
    ap not (there c plp muted first count m none (omega arith) (omega (arith, div-mul-le_self (first + count) frames))))

-- what is not kept is null, and null packets are deleted
not_kept : (deletes null longest : Bool) → cond deletes (not null || longest) true ≡ false → (deletes ≡ true)
    × (null ≡ true)
not_kept true true longest e = (refl, refl)
not_kept true false longest e = absurd cc
not_kept false null longest e = absurd cc

pub whole_comes_back : NoneLost → LostEnded → RunRecovers → WholeComesBack
whole_comes_back none ended run c plp inputs whole first count packets plan types inside all canonical
    begins each back =
    let at : ℕ → List ℕ = packet_at (inputs plp) in
    let muted : ℕ → Bool = λ m. not (whole m) in
    let slots : List ℕ = due_slots c plp first count in
    run c plp inputs whole first count packets plan types inside all back
    ∙ ended c plp at muted first count plan inside
    ∙ ap (λ (lost : List ℕ). map (recovered c plp (epoch_ticks c plp) at lost) slots)
    (all_there c plp muted first count begins (λ m from below. ap not (each m from below)))
    ∙ map_same (recovered c plp (epoch_ticks c plp) at []) at _ _ (λ k from below. none c plp (epoch_ticks c plp)
    at k (λ e.
    let lost = not_kept (plp_at c.plps plp).delete (is_null (at k)) _ e in
    in_each_slot (IsCanonical (plp_at c.plps plp).delete) (λ deletes null. refl) (inputs plp) canonical
    k lost.0 lost.1))

-- ---- all frames of a run

nulls_behind : (n a : ℕ) → map (packet_at []) (range_with_len a n) ≡ replicate n null_packet
nulls_behind zero a = refl
nulls_behind (suc n) a = ap (λ (l : List (List ℕ)). null_packet ∷ l) (nulls_behind n (a + 1))

-- the packets of the slots from one on are those of an input from there on
moved_slots : (p : List ℕ) (packets : List (List ℕ)) (n a : ℕ)
    → map (packet_at (p ∷ packets)) (range_with_len (a + 1) n)
    ≡ map (packet_at packets) (range_with_len a n)
moved_slots p packets zero a = refl
moved_slots p packets (suc n) a =
    let e : a + 1 ≡ suc a = omega arith in
    ap₂ (λ (q : List ℕ) (l : List (List ℕ)). q ∷ l) (ap (packet_at (p ∷ packets)) e) (moved_slots p packets n (a + 1))

packets_first : (packets : List (List ℕ)) (n : ℕ) → map (packet_at packets) (range_with_len 0 (length packets + n))
    ≡ packets ++ replicate n null_packet
packets_first [] n = let z : 0 + n ≡ n = omega arith in ap (λ (k : ℕ). map (packet_at []) (range_with_len 0 k)) z
    ∙ nulls_behind n 0
packets_first (p ∷ packets) n =
    let s : suc (length packets) + n ≡ suc (length packets + n) = omega arith in
    ap (λ (k : ℕ). map (packet_at (p ∷ packets)) (range_with_len 0 k)) s
    ∙ ap (λ (l : List (List ℕ)). p ∷ l) (moved_slots p packets (length packets + n) 0 ∙ packets_first packets n)

module _ (lengths : SlotLength) (zero_law : NoneAtZero) (released : ReleasedFirst) (least : FrameCountLeast)
    (c : Config) (plp : ℕ) (inputs : ℕ → List (List ℕ)) (plan : IsPlan c) (inside : plp < length c.plps) where
  abbrev frames : ℕ
  frames = frame_count c (λ plp. length (inputs plp))

  abbrev pub due : ℕ
  due = released_count (num c) (den c plp) (delay c plp) ((0 + frames) * c.ticks)

  -- each packet has been given out when the run ends
  enough : length (inputs plp) < due
  enough =
      let e = (least c (λ plp. length (inputs plp)) plan.rules).enough plp inside in
      let z : (0 + frames) * c.ticks ≡ frames * c.ticks = let s : 0 + frames ≡ frames = omega arith in
      ap (λ (k : ℕ). k * c.ticks) s in
      (released (num c) (den c plp) (delay c plp) ((0 + frames) * c.ticks) (length (inputs plp)) (omega (
        arith,
        lengths c plp plan.rules inside,
      )) (omega (arith, lengths c plp plan.rules inside))).1 (omega arith)

  pub slots_are : due_slots c plp 0 frames ≡ range_with_len 0 (length (inputs plp) + (due - length (inputs plp)))
  slots_are =
      let from : 0 - spread c.plps plp ≡ 0 = omega arith in
      let start : (0 - spread c.plps plp) * c.ticks ≡ 0 = ap (λ (k : ℕ). k * c.ticks) from ∙ omega arith in
      let none : slots_by c plp ((0 - spread c.plps plp) * c.ticks) ≡ 0 = ap (slots_by c plp) start
      ∙ zero_law (num c) (den c plp) (omega (arith, lengths c plp plan.rules inside)) in
      let size : due - 0 ≡ length (inputs plp) + (due - length (inputs plp)) = omega (arith, enough) in
      ap (λ (k : ℕ). range_with_len k (due - k)) none ∙ ap (range_with_len 0) size

-- an interleaving frame begins in frame 0
zero_begins : (c : Config) (plp : ℕ) → 1 ≤ spread c.plps plp → is_first c plp 0 ≡ true
zero_begins c plp some =
    let e : 0 ≡ 0 * spread c.plps plp + 0 = omega arith in
    eq-eqb (0 % spread c.plps plp) 0 (ap (λ (k : ℕ). k % spread c.plps plp) e
    ∙ mod-mul-add 0 (spread c.plps plp) 0 (omega arith))

pub run_comes_back : SlotLength → SpreadDividesFrames → NoneAtZero → ReleasedFirst → FrameCountLeast → WholeComesBack
    → RunComesBack
run_comes_back lengths spreads zero_law released least whole c plp inputs packets plan types inside all canonical back =
    let frames : ℕ = frame_count c (λ plp. length (inputs plp)) in
    let same : run_frames c inputs ≡ map (record_of c inputs (λ n. true)) (range_with_len 0 frames) =
    map_same (frame_of c inputs) (record_of c inputs (λ n. true)) 0 frames (λ k from below. refl) in
    let nulls : ℕ = due lengths zero_law released least c plp inputs plan inside - length (inputs plp) in (
      nulls,
      whole c plp inputs (λ n. true) 0 frames packets plan types inside all canonical
          (zero_begins c plp (spreads c plp plan.rules inside).0) (λ m from below. refl) (rw (← same) back)
          ∙ ap (map (packet_at (inputs plp))) (slots_are lengths zero_law released least c plp inputs plan inside)
          ∙ packets_first (inputs plp) nulls,
    )
