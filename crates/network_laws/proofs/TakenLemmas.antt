-- The bits of a gateway's blocks are taken as what was sent.
use Rattle.std.proofs.Common.{◌≡◌, ◌⊎◌, ℕ, zero, suc, ◌+◌, ◌-◌, ◌*◌, ◌^◌, ◌<◌, ◌≤◌, ◌==◌, Bool, true, false, List, []}
use Rattle.std.proofs.Common.{◌∷◌, ◌++◌, length, map, take, drop, get_or, min, Option, Some, None, refl, ap, ◌∙◌, sym}
use Rattle.std.proofs.Common.{arith, inl, inr, append-nil}
use Rattle.std.specs.Prelude.{if◌then◌else◌, slice_get, option_map}
use Rattle.std.specs.Int.{div_ceil}
use Rattle.std.specs.List.{AllZip, AllByRecursion, flat_map, range_with_len}
use Rattle.std.proofs.lemmas.List.{get_or_append_left, get_or-append_right, get_or-drop}
use Rattle.std.proofs.lemmas.Bool.{cases_lt, lt-ltb, le-ltb}
use Rattle.terms.specs.Bits.{bits_of, number_of}
use Rattle.terms.proofs.BitLemmas.{length-bits_of, bytes_of-bits_of, number_of-lt}
use Rattle.bb_frame.specs.BasebandFrame.{Fits, Describes, IsPlace}
use Rattle.bb_frame.specs.Laws.{WrittenIsSpelled}
use Rattle.bb_frame.specs.declared.header.Header.{Header}
use Rattle.plp_config.specs.Capacity.{up_bytes, field_bytes, block_bytes}
use Rattle.plp_config.specs.Plps.{plp_at}
use Rattle.plp_config.specs.SlotTime.{slots_by, epoch_ticks}
use Rattle.plp_config.specs.declared.config.Config.{Config}
use Rattle.null_delete.specs.Deletion.{dnp, kept_slots}
use Rattle.null_delete.specs.Laws.{DnpFits}
use Rattle.ts_packet.specs.Null.{is_null}
use Rattle.mode_adapt.specs.Matype.{matype1, matype2, is_constant}
use Rattle.mode_adapt.specs.Queue.{sent, sent_before}
use Rattle.mode_adapt.specs.UserPackets.{keeps_of, user_packet}
use Rattle.mode_adapt.specs.Blocks.{rates_of, plp_keeps, plp_string, header_at, up_with, first_up, with_place}
use Rattle.mode_adapt.specs.Blocks.{data_field, block_bits, block_places, blocks_of}
use Rattle.network_laws.specs.ToldEpochs.{told_block, told_blocks, ArePackets}
use Rattle.plp_receiver.specs.Taken.{block_read, IsOfStream, IsTaken}
use Rattle.network_laws.proofs.GatewayLemmas.{ceil_parts}
use Rattle.network_laws.proofs.SentLemmas as S

-- Bytes.

abbrev Small : List ℕ → Type 0
Small xs = (i : ℕ) → get_or xs i 0 < 256

small_nil : Small []
small_nil i = omega arith

small_append : (xs ys : List ℕ) → Small xs → Small ys → Small (xs ++ ys)
small_append xs ys f g i =
    elim (cases_lt i (length xs)) [
      | inl lt ↦ rw (get_or_append_left xs ys 0 i lt) (f i)
      | inr ge ↦ rw (get_or-append_right xs ys (length xs) i 0 refl ge) (g (i - length xs))
    ]

small_take : (n : ℕ) (xs : List ℕ) → Small xs → Small (take n xs)
small_take zero xs f i = omega arith
small_take (suc n) [] f i = omega arith
small_take (suc n) (x ∷ xs) f zero = f 0
small_take (suc n) (x ∷ xs) f (suc i) = small_take n xs (λ j. f (suc j)) i

small_drop : (n : ℕ) (xs : List ℕ) → Small xs → Small (drop n xs)
small_drop n xs f i = rw (get_or-drop n xs i 0) (f (n + i))

small_flat : (f : ℕ → List ℕ) → ((k : ℕ) → Small (f k)) → (ks : List ℕ) → Small (flat_map f ks)
small_flat f each [] = small_nil
small_flat f each (k ∷ ks) = small_append (f k) (flat_map f ks) (each k) (small_flat f each ks)

small_one : (v : ℕ) → v < 256 → Small (v ∷ [])
small_one v l zero = l
small_one v l (suc i) = omega arith

small_packet : DnpFits → (deletes : Bool) (packet : ℕ → List ℕ) → ArePackets packet → (k : ℕ)
    → Small (user_packet deletes packet k)
small_packet fits true packet small k =
    small_append (drop 1 (packet k)) (dnp (keeps_of true packet) k ∷ []) (small_drop 1 (packet k) (small k).bytes)
    (small_one _ (fits true (λ j. is_null (packet j)) k))
small_packet fits false packet small k = small_append (drop 1 (packet k)) [] (small_drop 1 (packet k) (small k).bytes)
    small_nil

-- Headers.

matype_small : (c : Config) (plp : ℕ) → matype1 c plp < 2 ^ 8
unfolding matype1
matype_small c plp =
    number_of-lt (true ∷ true ∷ (length c.plps == 1) ∷ is_constant c.plps ∷ true ∷ (plp_at c.plps plp).delete
    ∷ false ∷ false
    ∷ [])

of_stream : (a b d : Bool) → IsOfStream d (number_of (true ∷ true ∷ a ∷ b ∷ true ∷ d ∷ false ∷ false ∷ []))
of_stream true true true = record { stream = refl; issyi = refl; npd = refl }
of_stream true true false = record { stream = refl; issyi = refl; npd = refl }
of_stream true false true = record { stream = refl; issyi = refl; npd = refl }
of_stream true false false = record { stream = refl; issyi = refl; npd = refl }
of_stream false true true = record { stream = refl; issyi = refl; npd = refl }
of_stream false true false = record { stream = refl; issyi = refl; npd = refl }
of_stream false false true = record { stream = refl; issyi = refl; npd = refl }
of_stream false false false = record { stream = refl; issyi = refl; npd = refl }

matype_is : (c : Config) (plp : ℕ) → IsOfStream (plp_at c.plps plp).delete (matype1 c plp)
unfolding matype1
matype_is c plp = of_stream (length c.plps == 1) (is_constant c.plps) (plp_at c.plps plp).delete

id_small : (b : Bool) (id : ℕ) → id < 2 ^ 8 → (if b then 0 else id) < 2 ^ 8
id_small true id l = omega arith
id_small false id l = omega arith

matype2_small : (c : Config) (plp : ℕ) → (plp_at c.plps plp).id < 2 ^ 8 → matype2 c plp < 2 ^ 8
unfolding matype2
matype2_small c plp l = id_small (length c.plps == 1) (plp_at c.plps plp).id l

pub record IsGood (c : Config) (plp : ℕ) (h : Header) (len : ℕ) : Type 0 where
  pub fits : Fits h
  pub size : h.dfl ≡ 8 * len
  pub sync : IsPlace h.syncd h.dfl
  pub matype : h.matype1 ≡ matype1 c plp

good_none : (c : Config) (plp x len : ℕ) → (plp_at c.plps plp).id < 2 ^ 8 → len ≤ 6720
    → IsGood c plp (header_at c plp x len None) len
good_none c plp x len id short = record {
  fits = record {
    matype1 = matype_small c plp;
    matype2 = matype2_small c plp id;
    issy = omega arith;
    dfl = omega arith;
    syncd = omega arith;
  };
  size = refl;
  sync = inl refl;
  matype = refl;
}

good_some : (c : Config) (plp x len place slot : ℕ) → (plp_at c.plps plp).id < 2 ^ 8 → len ≤ 6720 → x ≤ place
    → place < x + len → IsGood c plp (header_at c plp x len (Some (place, slot))) len
good_some c plp x len place slot id short from below = record {
  fits = record {
    matype1 = matype_small c plp;
    matype2 = matype2_small c plp id;
    issy = omega arith;
    dfl = omega arith;
    syncd = omega arith;
  };
  size = refl;
  sync = inr (omega arith, omega arith);
  matype = refl;
}

good_up : (c : Config) (plp x y len n : ℕ) (slots : List ℕ) → (plp_at c.plps plp).id < 2 ^ 8 → y - x ≤ 6720
    → x ≤ len * n → IsGood c plp (header_at c plp x (y - x) (up_with len slots 0 n y)) (y - x)
good_up c plp x y len n slots id short from =
    elim (cases_lt (len * n) y) [
      | inl lt ↦
          rw (lt-ltb (len * n) y lt) (go lt (slice_get slots (n - 0)))
      | inr ge ↦
          rw (le-ltb (len * n) y ge) (good_none c plp x (y - x) id short)
    ]
  where
    go : len * n < y → (o : Option ℕ)
        → IsGood c plp (header_at c plp x (y - x) (option_map (λ (k : ℕ). (len * n, k)) o)) (y - x)
    go lt None = good_none c plp x (y - x) id short
    go lt (Some k) = good_some c plp x (y - x) (len * n) k id short from (omega arith)

-- A block.

module _ (c : Config) (plp : ℕ) (packet : ℕ → List ℕ) (m : ℕ) (law : S.Sending) (dnps : DnpFits)
    (is : S.IsGateway c plp packet) (id : (plp_at c.plps plp).id < 2 ^ 8) (spells : WrittenIsSpelled) where
  abbrev now : ℕ
  now = slots_by c plp (m * epoch_ticks c plp)

  abbrev keeps : ℕ → Bool
  keeps = plp_keeps c plp packet

  one : 1 ≤ up_bytes c plp
  one = S.one c plp packet now law is

  module _ (x y : ℕ) (from : sent_before (rates_of c plp (epoch_ticks c plp)) keeps m ≤ x) (some : x < y)
      (to : y ≤ sent (rates_of c plp (epoch_ticks c plp)) keeps m) (short : y - x ≤ 6720) where
    abbrev header : Header
    header = header_at c plp x (y - x) (with_place (up_bytes c plp) keeps (first_up (up_bytes c plp) keeps now x y))

    abbrev field : List ℕ
    field = data_field c plp packet now x y

    good : IsGood c plp header (y - x)
    good =
        rw (law.first (up_bytes c plp) keeps now x y one)
        (good_up c plp x y (up_bytes c plp) (div_ceil x (up_bytes c plp)) (kept_slots keeps now) id short
        (ceil_parts x (up_bytes c plp) one).0)

    size : length (bits_of field) ≡ 8 * (y - x)
    size =
        let s = S.size c plp packet now law is m x y from some to short (omega arith) in
        length-bits_of field ∙ ap (λ (n : ℕ). 8 * n) s

    small_field : Small field
    small_field =
        small_take (y - x) (drop x (plp_string c plp packet now)) (small_drop x (plp_string c plp packet now)
        (small_flat (user_packet (plp_at c.plps plp).delete packet)
        (small_packet dnps (plp_at c.plps plp).delete packet is.packets) (kept_slots keeps now)))

    describes : Describes header (bits_of field)
    describes =
        let g = good in
        let s = g.size in
        record { len = s ∙ sym size; bytes = omega arith; sync = g.sync }

    taken : IsTaken (plp_at c.plps plp).delete (block_bits c plp packet now x y) (told_block c plp packet now x y)
    taken = record {
      header = header;
      body = bits_of field;
      spelled = rw (← (append-nil (block_bits c plp packet now x y)))
          (spells header (bits_of field) (8 * block_bytes c plp) [] good.fits describes);
      stream = rw good.matype (matype_is c plp);
      block = ap (block_read header) (sym (bytes_of-bits_of field small_field));
    }

  zip_map : {A B : Type 0} (R : A → B → Type 0) (P : ℕ → Type 0) (f : ℕ → A) (g : ℕ → B)
      → ((k : ℕ) → P k → R (f k) (g k)) → (ks : List ℕ) → AllByRecursion P ks → AllZip R (map f ks) (map g ks)
  zip_map R P f g each [] h = tt
  zip_map R P f g each (k ∷ ks) h = (each k h.0, zip_map R P f g each ks h.1)

  -- the places of blocks are before the end
  places_in : (len x y n a : ℕ) → (x + a * len + n * len < y + len) ⊎ (n ≡ 0) → 1 ≤ len
      → AllByRecursion (λ from. (x ≤ from) × (from < y)) (map (λ i. x + i * len) (range_with_len a n))
  places_in len x y zero a h pos = tt
  places_in len x y (suc n) a h pos =
      ((omega arith, omega arith), places_in len x y n (a + 1) (inl (omega arith)) pos)

  pub blocks_taken : AllZip (IsTaken (plp_at c.plps plp).delete) (blocks_of c plp (epoch_ticks c plp) packet m)
      (told_blocks c plp packet m)
  blocks_taken =
      let x : ℕ = sent_before (rates_of c plp (epoch_ticks c plp)) keeps m in
      let y : ℕ = sent (rates_of c plp (epoch_ticks c plp)) keeps m in
      let len : ℕ = field_bytes c plp in
      let p = (ceil_parts (y - x) len (omega arith)).1 in
      let order : x ≤ y = (law.within (rates_of c plp (epoch_ticks c plp)) keeps m is.within.slot).0 in
      let q : div_ceil (y - x) len * len ≡ len * div_ceil (y - x) len = omega arith in
      let z : 0 * len ≡ 0 = omega arith in
      zip_map (IsTaken (plp_at c.plps plp).delete) (λ (from : ℕ). (x ≤ from) × (from < y))
      (λ from. block_bits c plp packet now from (min (from + len) y))
      (λ from. told_block c plp packet now from (min (from + len) y))
      (λ from h. let a = h.0 in taken from (min (from + len) y) a (omega arith) (omega arith) (omega arith))
      (block_places len x y) (places_in len x y (div_ceil (y - x) len) 0 (inl (omega arith)) (omega arith))
