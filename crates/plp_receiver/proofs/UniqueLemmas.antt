-- A PLP is given back one list of packets: its rule is one, and records tell one thing.
use Rattle.std.proofs.Common.{◌≡◌, ℕ, ◌+◌, ◌-◌, ◌/◌, ◌<◌, ◌≤◌, Bool, true, false, List, [], ◌∷◌, ◌++◌}
use Rattle.std.proofs.Common.{length, Option, Some, None, refl, ap, ap₂, sym, ◌∙◌, subst, arith, length-append}
use Rattle.std.specs.List.{AllZip, range_with_len}
use Rattle.terms.specs.Bits.{bits_of, bytes_of}
use Rattle.bb_frame.specs.Scrambled.{scrambled}
use Rattle.bb_frame.specs.declared.header.Header.{Header}
use Rattle.bb_frame.specs.Laws.{BitCounts}
use Rattle.plp_config.specs.Capacity.{IsPlan}
use Rattle.plp_config.specs.Laws.{FrameTicks, SoundTimes, SpreadDividesFrames, UserPacketRange}
use Rattle.std.proofs.lemmas.Slice.Zip.{AllZip-long}
use Rattle.std.proofs.lemmas.List.FromFn.{length-range_with_len}
use Rattle.terms.proofs.RangeLemmas.{range_append}
use Rattle.plp_config.specs.Plps.{plp_at}
use Rattle.plp_config.specs.declared.config.Config.{Config}
use Rattle.site_frame.specs.declared.reading.RecordView.{RecordView}
use Rattle.plp_receiver.specs.SlotLaws as slots
use Rattle.plp_receiver.specs.SlotEpochs.{Epoch, HaveEnded, epoch_with, readback}
use Rattle.plp_receiver.specs.Strings.{Block}
use Rattle.plp_config.specs.Plps.{spread}
use Rattle.plp_receiver.specs.Sound.{IsSound}
use Rattle.plp_receiver.specs.Parts.{Part, count_of}
use Rattle.plp_receiver.specs.Taken.{block_read, IsTaken, IsTold, IsGiven, bytes_at}
use Rattle.plp_receiver.specs.Epochs.{epoch_parts, cells_stand, place_of, Tells, TellAll, slot_rule}
use Rattle.plp_receiver.specs.Epochs.{Readback}
use Rattle.plp_receiver.proofs.EpochLemmas.{epoch_rises, told_after}
use Rattle.plp_receiver.proofs.SpelledLemmas.{spelled_once}

-- ---- a block
same_block : (h k : Header) (field other : List ℕ) → h.syncd ≡ k.syncd → h.issy ≡ k.issy → field ≡ other
    → block_read h field
    ≡ block_read k other
same_block h k field other s i f = rw (s, i, f)

taken_once : BitCounts → (deletes : Bool) (bits : List Bool) (b other : Block) → IsTaken deletes bits b
    → IsTaken deletes bits other → b ≡ other
taken_once counts deletes bits b other s t =
    let same = spelled_once counts s.header t.header s.body t.body bits s.spelled t.spelled in
    s.block ∙ same_block s.header t.header (bytes_of s.body) (bytes_of t.body) same.syncd same.issy
    (ap bytes_of same.field)
    ∙ sym t.block

told_once : BitCounts → (deletes : Bool) (bytes : List ℕ) (a b : Option Block) → IsTold deletes bytes a
    → IsTold deletes bytes b
    → a ≡ b
told_once counts deletes bytes None None s t = refl
told_once counts deletes bytes None (Some b) s t = absurd (s b t)
told_once counts deletes bytes (Some a) None s t = absurd (t a s)
told_once counts deletes bytes (Some a) (Some b) s t = ap Some (taken_once counts deletes (scrambled (bits_of bytes))
    a b s t)

given_once : BitCounts → (deletes stands : Bool) (bytes : List ℕ) (a b : Option Block) → IsGiven deletes stands bytes a
    → IsGiven deletes stands bytes b → a ≡ b
given_once counts deletes true bytes a b s t = told_once counts deletes bytes a b s t
given_once counts deletes false bytes a b s t = s ∙ sym t

zip_once : {A B : Type 0} (R : A → B → Type 0) → ((x : A) (y z : B) → R x y → R x z → y ≡ z)
    → (xs : List A) (ys zs : List B)
    → AllZip R xs ys → AllZip R xs zs → ys ≡ zs
zip_once R one [] [] [] s t = refl
zip_once R one [] [] (z ∷ zs) s t = absurd t
zip_once R one [] (y ∷ ys) zs s t = absurd s
zip_once R one (x ∷ xs) [] zs s t = absurd s
zip_once R one (x ∷ xs) (y ∷ ys) [] s t = absurd t
zip_once R one (x ∷ xs) (y ∷ ys) (z ∷ zs) s t =
    ap₂ (λ (v : _) (l : _). v ∷ l) (one x y z s.0 t.0) (zip_once R one xs ys zs s.1 t.1)

-- what is in step with two lists is two lists
zip_split : {A B : Type 0} (R : A → B → Type 0) (xs more : List A) (ys : List B) → AllZip R (xs ++ more) ys
    → (front : List B) × (back : List B) × AllZip R xs front × (ys ≡ front ++ back)
zip_split R [] more ys z = ([], ys, tt, refl)
zip_split R (x ∷ xs) more [] z = absurd z
zip_split R (x ∷ xs) more (y ∷ ys) z =
    let rest = zip_split R xs more ys z.1 in
    (y ∷ rest.0, rest.1, (z.0, rest.2), ap (λ (l : _). y ∷ l) rest.3)

-- ---- an epoch
tells_once : BitCounts → (c : Config) (plp : ℕ) (parts : Option (List Part)) (a b : Epoch) → Tells c plp parts a
    → Tells c plp parts b → a ≡ b
tells_once counts c plp None a b s t = s ∙ sym t
tells_once counts c plp (Some []) a b s t = s ∙ sym t
tells_once counts c plp (Some (p ∷ parts)) a b s t =
    s.2
    ∙ ap epoch_with (zip_once
    (λ block b. IsGiven (plp_at c.plps plp).delete (cells_stand c plp (p ∷ parts) block)
    (bytes_at p.blocks (place_of c plp p block)) b)
    (λ block x y u v. given_once counts (plp_at c.plps plp).delete (cells_stand c plp (p ∷ parts) block)
    (bytes_at p.blocks (place_of c plp p block)) x y u v)
    (range_with_len 0 (count_of plp p)) s.0 t.0 s.1 t.1)
    ∙ sym t.2

pub tell_all_once : BitCounts → (c : Config) (plp first : ℕ) (views : List RecordView) (a b : List Epoch)
    → TellAll c plp first views a → TellAll c plp first views b → a ≡ b
unfolding TellAll
tell_all_once counts c plp first views a b s t = grind (arith, zip_once, tells_once)

-- ---- the packets
pub packets_are : BitCounts → (c : Config) (plp first : ℕ) (views : List RecordView) (packets : List (List ℕ))
    (told : List Epoch)
    → Readback c plp first views packets → TellAll c plp first views told
    → packets ≡ readback (slot_rule c plp) first (length views) told
packets_are counts c plp first views packets told b tells =
    b.packets_are ∙ ap (readback (slot_rule c plp) first (length views))
    (tell_all_once counts c plp first views b.told told b.tells tells)

pub readback_once : BitCounts → (c : Config) (plp first : ℕ) (views : List RecordView) (packets other : List (List ℕ))
    → Readback c plp first views packets → Readback c plp first views other → packets ≡ other
readback_once counts c plp first views packets other a b =
    packets_are counts c plp first views packets b.told a b.tells ∙ sym b.packets_are

-- as many epochs are told as have ended
pub told_ended : (c : Config) (plp first : ℕ) (views : List RecordView) (told : List Epoch) → 1 ≤ spread c.plps plp
    → TellAll c plp first views told → HaveEnded (slot_rule c plp) first (first + length views) told
unfolding TellAll
told_ended c plp first views told some t = grind (arith, epoch_rises, AllZip-long, length-range_with_len)

-- those of the first records are a prefix
tell_front : (c : Config) (plp first : ℕ) (views more : List RecordView) (told : List Epoch) → 1 ≤ spread c.plps plp
    → TellAll c plp first (views ++ more) told
    → (front : List Epoch) × (back : List Epoch) × TellAll c plp first views front × (told ≡ front ++ back)
unfolding TellAll
tell_front c plp first views more told some t =
    let s : ℕ = spread c.plps plp in
    let a : ℕ = first / s in
    let low = epoch_rises s first (first + length views) some (omega arith) in
    let high = epoch_rises s (first + length views) (first + length (views ++ more)) some
    (omega (arith, length-append views more)) in
    let n : ℕ = (first + length views) / s - a in
    let m : ℕ = (first + length (views ++ more)) / s - a - n in
    let R : ℕ → Epoch → Type 0 = λ k e. Tells c plp (epoch_parts c plp first (views ++ more) k) e in
    let e : (first + length (views ++ more)) / s - a ≡ n + m = omega (arith, low, high) in
    let parts = zip_split R (range_with_len a n) (range_with_len (a + n) m) told
    (subst (λ (l : List ℕ). AllZip R l told) (ap (range_with_len a) e ∙ range_append a n m) t) in
    (parts.0, parts.1, told_after c plp first views more parts.0 low parts.2, parts.3)

pub readback_front : BitCounts → SoundTimes → UserPacketRange → slots.ReadbackFront → SpreadDividesFrames → FrameTicks
    → (c : Config) (plp first : ℕ) (views more : List RecordView) (packets all : List (List ℕ))
    → IsPlan c → plp < length c.plps → Readback c plp first views packets → Readback c plp first (views ++ more) all
    → (others : List (List ℕ)) × (all ≡ packets ++ others)
readback_front counts times up law divides ticks c plp first views more packets all plan inside a b =
    let some = (divides c plp plan.rules inside).0 in
    let parts = tell_front c plp first views more b.told some b.tells in
    let sound : IsSound (slot_rule c plp) = record {
      times = times c plp plan.rules inside;
      frame = (let t = ticks c plan.rules in (omega (arith, t.0), t.1));
      spread = some;
      epoch = refl;
      up = up c plp;
    } in
    let prefix = law (slot_rule c plp) first (length views) (length more) parts.0 parts.1 sound
    (told_ended c plp first views parts.0 some parts.2) in
    let own = packets_are counts c plp first views packets parts.0 a parts.2 in (
      prefix.0,
      b.packets_are ∙ ap₂ (readback (slot_rule c plp) first) (length-append views more) parts.3 ∙ prefix.1
          ∙ ap (λ (l : List (List ℕ)). l ++ prefix.0) (sym own),
    )
