-- What a gateway sends in its epochs, as items: the bytes of the stream from a place on. Its user packets are those
-- that stand whole in runs of epochs that are not lost.
use Rattle.std.proofs.Common.{◌≡◌, ℕ, suc, ◌+◌, ◌-◌, ◌*◌, ◌<◌, ◌≤◌, Bool, true, false, List, [], ◌∷◌, ◌++◌, length, map}
use Rattle.std.proofs.Common.{drop, get_or, min, Some, refl, ap, ◌∙◌, sym, arith, inl, inr, cond}
use Rattle.std.proofs.Common.{length-take, length-drop, length-append, zero, take, append-nil, append_assoc}
use Rattle.std.specs.Prelude.{if◌then◌else◌}
use Rattle.std.specs.Int.{div_ceil}
use Rattle.std.specs.List.{flat_map, AllByRecursion}
use Rattle.std.proofs.lemmas.List.{get_or-take, get_or-drop, get_or-append_right, length-map}
use Rattle.std.proofs.lemmas.Bool.{cases_lt, cases_eq, both_ways, le-leb, lt-ltb}
use Rattle.std.proofs.Math.Nat.{mul-le-mul_left, mul-le-mul_right}
use Rattle.plp_config.specs.Capacity.{up_bytes, field_bytes, capacity}
use Rattle.plp_config.specs.Plps.{plp_at}
use Rattle.plp_config.specs.SlotTime.{slots_by, epoch_ticks, InRange, slot_start}
use Rattle.plp_config.specs.Laws.{IscrFindsSlot, DelayOutlasts}
use Rattle.plp_config.specs.declared.config.Config.{Config}
use Rattle.null_delete.specs.Deletion.{kept_slots, dnp}
use Rattle.mode_adapt.specs.Queue.{Rates, sent, sent_before}
use Rattle.mode_adapt.specs.UserPackets.{keeps_of, user_packet}
use Rattle.mode_adapt.specs.Blocks.{rates_of, plp_keeps, plp_string, header_at, up_with, data_field, block_places}
use Rattle.mode_adapt.specs.Laws.{IsWithin, SentWithin, BeginLaw, EndLaw, FirstLaw}
use Rattle.plp_receiver.specs.declared.slot_rule.SlotRule.{SlotRule}
use Rattle.plp_receiver.specs.Sound.{IsSound}
use Rattle.plp_receiver.specs.Strings.{Item, Block, block_items, item_values}
use Rattle.plp_receiver.specs.SlotEpochs.{block_or_gap, epoch_items, epoch_with, lost_epoch, string_of}
use Rattle.plp_receiver.specs.LaterBlocks.{at}
use Rattle.network_laws.proofs.RegularLemmas.{IsRegular, IsBlock, block_regular, regular_join, at_front, at_back, here}
use Rattle.network_laws.proofs.RegularLemmas.{items_told, none_regular, AreWhole, up_of, Follow, whole_packets}
use Rattle.network_laws.proofs.RegularLemmas.{gap_parts}
use Rattle.plp_receiver.specs.Epochs.{slot_rule}
use Rattle.plp_receiver.specs.Taken.{block_read}
use Rattle.network_laws.proofs.GatewayLemmas.{IsSent, gateway_block, ceil_parts}
use Rattle.network_laws.proofs.KeptLemmas.{kept_slot, IsEven, kept_number, string_even, is_kept_slot, same_slot}
use Rattle.network_laws.proofs.KeptLemmas.{same_byte, kept_least}
use Rattle.network_laws.specs.ToldEpochs.{told_block, told_blocks, ArePackets, told_epoch, told_epochs}
use Rattle.std.proofs.lemmas.Grind.{same_number_lists}
use Rattle.plp_receiver.specs.Packets.{UserPacket, no_item, first_item, last_item, window, user_packets}
use Rattle.plp_receiver.specs.Readback.{counts, counts_by}
use Rattle.plp_config.specs.SlotTimes.{delay_of}
use Rattle.plp_receiver.specs.Times.{last_frame}
use Rattle.terms.proofs.AllLemmas.{all_append}
use Rattle.plp_receiver.proofs.PlaceLemmas.{first_is, last_is}
use Rattle.plp_receiver.proofs.TimeLemmas.{last_tick_is}
use Rattle.network_laws.proofs.CarriedLemmas.{range_all, Has, has_in_range}
use Rattle.network_laws.proofs.FeedEventLemmas.{one_before, one_behind}
use Rattle.network_laws.proofs.GatewayLemmas as E
use Rattle.network_laws.proofs.CarriedLemmas as C

-- What is said of each byte of a string with its place.
abbrev pub Each : (ℕ → Item → Type 0) → ℕ → List Item → Type 0
Each Q place z = (i : ℕ) → i < length z → Q (place + i) (at z i)

pub each_none : (Q : ℕ → Item → Type 0) (place : ℕ) → Each Q place []
each_none Q place i l = absurd (omega arith)

pub each_join : (Q : ℕ → Item → Type 0) (place : ℕ) (z y : List Item) → Each Q place z → Each Q (place + length z) y
    → Each Q place (z ++ y)
each_join Q place z y f g i l =
    elim (cases_lt i (length z)) [
      | inl lt ↦ rw (at_front z y i lt) (f i lt)
      | inr ge ↦
          let s : place + length z + (i - length z) ≡ place + i = omega arith in
          rw (at_back z y i ge) (rw (← s) (g (i - length z) (omega (arith, length-append z y))))
    ]

-- less than so many user packets' bytes are before a place
pub fewer : (len n bound : ℕ) → len * n < len * bound → n < bound
fewer len n bound l =
    elim (cases_lt n bound) [
      | inl lt ↦ lt
      | inr ge ↦ let q : len * bound ≤ len * n = mul-le-mul_left {m = bound} {n = n} len ge in absurd
          (omega arith)
    ]

-- a block tells the same of slots that are the same as far as it goes
pub moved : (r : SlotRule) (f g u v : ℕ → ℕ) (epoch place n bound : ℕ) (b : Block) → 1 ≤ r.up_len
    → ((k : ℕ) → k < bound → f k ≡ g k) → ((k : ℕ) → k < bound → u k ≡ v k)
    → place + length b.field ≤ r.up_len * bound → IsBlock r f u epoch place n b → IsBlock r g v epoch place n b
moved r f g u v epoch place n bound b one same equal fits is = record {
  least = is.least;
  close = is.close;
  none = is.none;
  some = is.some;
  issy = λ l. let t = is.issy l in
      (t.0, t.1, t.2 ∙ ap (λ (k : ℕ). Some k) (same n (fewer r.up_len n bound (omega (arith, fits)))));
  values = λ k i e l d.
      is.values k i e l d ∙ equal k (fewer r.up_len k bound (omega (arith, fits, one)));
}

-- What the laws of the crates below say of what is sent.
pub record Sending : Type 0 where
  pub iscr : IscrFindsSlot
  pub outlasts : DelayOutlasts
  pub within : SentWithin
  pub begins : BeginLaw
  pub ends : EndLaw
  pub first : FirstLaw

pub sending_by : IscrFindsSlot → DelayOutlasts → SentWithin → BeginLaw → EndLaw → FirstLaw → Sending
sending_by a b d e f g = record { iscr = a; outlasts = b; within = d; begins = e; ends = f; first = g }

-- What the plan and the packets give.
pub record IsGateway (c : Config) (plp : ℕ) (packet : ℕ → List ℕ) : Type 0 where
  pub sound : IsSound (slot_rule c plp)
  pub within : IsWithin (rates_of c plp (epoch_ticks c plp))
  pub fits : up_bytes c plp ≤ capacity c plp
  pub up : up_bytes c plp ≡ (if (plp_at c.plps plp).delete then 188 else 187)
  pub field : (869 ≤ field_bytes c plp) × (field_bytes c plp ≤ 6720)
  pub packets : ArePackets packet

up_size : (deletes : Bool) (packet : ℕ → List ℕ) (k : ℕ) → length (packet k) ≡ 188
    → length (user_packet deletes packet k)
    ≡ (if deletes then 188 else 187)
up_size true packet k e = length-append (drop 1 (packet k)) (dnp (keeps_of true packet) k ∷ [])
    ∙ omega (arith, length-drop 1 (packet k))
up_size false packet k e = let none : List ℕ = [] in length-append (drop 1 (packet k)) none
    ∙ omega (arith, length-drop 1 (packet k))

last_byte : (deletes : Bool) (packet : ℕ → List ℕ) (k len : ℕ) → length (packet k) ≡ 188
    → len ≡ (if deletes then 188 else 187) → deletes ≡ true
    → get_or (user_packet deletes packet k) (len - 1) 0 ≡ dnp (keeps_of deletes packet) k
last_byte false packet k len e l d = absurd (omega (arith, ap (λ (b : Bool). cond {A = ℕ} b 1 0) d))
last_byte true packet k len e l d =
    let z : len - 1 - 187 ≡ 0 = omega arith in
    get_or-append_right (drop 1 (packet k)) (dnp (keeps_of true packet) k ∷ []) 187 (len - 1) 0
    (omega (arith, length-drop 1 (packet k))) (omega arith)
    ∙ ap (λ (i : ℕ). get_or (dnp (keeps_of true packet) k ∷ []) i 0) z

value_at : (z : List Item) (j : ℕ) → get_or (item_values z) j 0 ≡ (at z j).value
value_at [] j = refl
value_at (x ∷ z) zero = refl
value_at (x ∷ z) (suc j) = value_at z j

module _ (c : Config) (plp : ℕ) (packet : ℕ → List ℕ) (end : ℕ) (law : Sending) (is : IsGateway c plp packet) where
  abbrev pub r : SlotRule
  r = slot_rule c plp

  abbrev pub rates : Rates
  rates = rates_of c plp (epoch_ticks c plp)

  abbrev pub keeps : ℕ → Bool
  keeps = plp_keeps c plp packet

  abbrev pub slots : ℕ → ℕ
  slots n = kept_slot keeps end n

  abbrev pub dnps : ℕ → ℕ
  dnps n = dnp keeps (kept_slot keeps end n)

  pub one : 1 ≤ up_bytes c plp
  one = omega arith

  pub size_of : (k : ℕ) → length (user_packet (plp_at c.plps plp).delete packet k) ≡ up_bytes c plp
  size_of k = up_size (plp_at c.plps plp).delete packet k (is.packets k).size ∙ sym is.up

  -- a byte at its place, in the epoch that carries it
  pub record IsByte (place : ℕ) (x : Item) : Type 0 where
    pub from : sent_before rates keeps x.epoch ≤ place
    pub below : place < sent rates keeps x.epoch
    pub value : x.value ≡ get_or (plp_string c plp packet end) place 0

  pub record AreBytes (place : ℕ) (z : List Item) : Type 0 where
    pub regular : IsRegular r slots dnps place z
    pub each : Each IsByte place z

  pub no_bytes : (place : ℕ) → AreBytes place []
  no_bytes place = record { regular = none_regular r slots dnps place; each = each_none IsByte place }

  pub bytes_join : (place : ℕ) (z y : List Item) → AreBytes place z → AreBytes (place + length z) y
      → AreBytes place (z ++ y)
  bytes_join place z y f g =
      record {
        regular = regular_join r slots dnps place z y f.regular g.regular;
        each = each_join IsByte place z y f.each g.each;
      }

  -- the place of a kept slot's user packet
  pub place_is : (at_end n : ℕ) → n < length (kept_slots keeps at_end)
      → up_bytes c plp * length (kept_slots keeps (kept_slot keeps at_end n)) ≡ up_bytes c plp * n
  place_is at_end n l = ap (λ (k : ℕ). up_bytes c plp * k) (kept_number keeps at_end n l).1

  module _ (m x y : ℕ) (from : sent_before rates keeps m ≤ x) (some : x < y) (to : y ≤ sent rates keeps m)
      (short : y - x ≤ 6720) (last : slots_by c plp (m * epoch_ticks c plp) ≤ end) where
    abbrev now : ℕ
    now = slots_by c plp (m * epoch_ticks c plp)

    abbrev kept : List ℕ
    kept = kept_slots keeps now

    abbrev field : List ℕ
    field = data_field c plp packet now x y

    even : IsEven (plp_at c.plps plp).delete packet (up_bytes c plp) now
    even = string_even (plp_at c.plps plp).delete packet (up_bytes c plp) now size_of

    within : y ≤ up_bytes c plp * length kept
    within = omega (arith, (law.within rates keeps m is.within.slot).1)

    pub size : length field ≡ y - x
    size = omega (
      arith,
      length-take (y - x) (drop x (plp_string c plp packet now)),
      length-drop x (plp_string c plp packet now),
      even.size,
      within,
    )

    byte_now : (i : ℕ) → i < y - x → get_or field i 0 ≡ get_or (plp_string c plp packet now) (x + i) 0
    byte_now i l = get_or-take (y - x) (drop x (plp_string c plp packet now)) i 0 l
        ∙ get_or-drop x (plp_string c plp packet now) i 0

    byte_is : (i : ℕ) → i < y - x → get_or field i 0 ≡ get_or (plp_string c plp packet end) (x + i) 0
    byte_is i l = byte_now i l ∙ sym (same_byte (plp_at c.plps plp).delete packet now end (x + i) last
        (omega (arith, even.size, within)))

    is_in : (n : ℕ) → up_bytes c plp * n < y → n < length kept
    is_in n l = fewer (up_bytes c plp) n (length kept) (omega (arith, within))

    range : (n : ℕ) → x ≤ up_bytes c plp * n → up_bytes c plp * n < y
        → InRange r.times.num r.times.den r.times.epoch m (get_or kept n 0)
    range n a b =
        let l = is_in n b in
        (law.begins rates keeps m (kept_slot keeps now n) is.within (is_kept_slot keeps now n l)).range
        (omega (arith, place_is now n l, from), omega (arith, place_is now n l))

    values : (k i : ℕ) → x + i + 1 ≡ up_bytes c plp * suc k → i < length field → (plp_at c.plps plp).delete ≡ true
        → get_or field i 0 ≡ dnp keeps (get_or kept k 0)
    values k i e l d =
        let p : x + i ≡ up_bytes c plp * k + (up_bytes c plp - 1) = omega (arith, one) in
        let lt : i < y - x = omega (arith, size) in
        let inside : k < length kept = is_in k (omega (arith, one)) in
        byte_now i lt
        ∙ ap (λ (j : ℕ). get_or (plp_string c plp packet now) j 0) p
        ∙ even.byte k (up_bytes c plp - 1) inside (omega (arith, one))
        ∙ last_byte (plp_at c.plps plp).delete packet (get_or kept k 0) (up_bytes c plp)
        (is.packets (get_or kept k 0)).size is.up d

    sent_is : IsSent r c plp kept (λ k. dnp keeps (get_or kept k 0)) m x y field
    sent_is = record {
      starts = λ k. refl;
      some = some;
      short = short;
      within = within;
      size = size;
      range = range;
      values = values;
    }

    block_is : block_read (header_at c plp x (y - x) (up_with (up_bytes c plp) kept 0 (div_ceil x (up_bytes c plp)) y))
        field
        ≡ told_block c plp packet now x y
    block_is = rw (← (law.first (up_bytes c plp) keeps now x y one))

    is_block : IsBlock r slots dnps m x (div_ceil x (up_bytes c plp)) (told_block c plp packet now x y)
    is_block =
        rw (← block_is)
        (moved r (λ n. get_or kept n 0) slots (λ k. dnp keeps (get_or kept k 0)) dnps m x (div_ceil x (up_bytes c plp))
        (length kept) _ one
        (λ k l. sym (same_slot keeps now end k last l)) (λ k l. ap (dnp keeps) (sym (same_slot keeps now end k last l)))
        (omega (arith, size, within))
        (gateway_block law.iscr r c plp kept (λ k. dnp keeps (get_or kept k 0)) m x y field is.sound sent_is))

    abbrev items : List Item
    items = block_items (up_bytes c plp) m (told_block c plp packet now x y)

    pub items_size : length items ≡ y - x
    items_size = (items_told (up_bytes c plp) m (told_block c plp packet now x y) field 0).0 ∙ size

    pub items_are : AreBytes x items
    items_are = record {
      regular = block_regular r slots dnps m x (div_ceil x (up_bytes c plp)) (told_block c plp packet now x y)
          is.sound is_block;
      each = λ i l.
          let lt : i < y - x = omega (arith, items_size) in
          let e = here r slots dnps m x (div_ceil x (up_bytes c plp)) (told_block c plp packet now x y)
          is.sound is_block i (omega (arith, size)) in
          rw e (record { from = omega (arith, from); below = omega arith; value = byte_is i lt });
    }

  gapless : (len m : ℕ) (block : ℕ → Block) (ks : List ℕ) → flat_map (block_or_gap len m) (map Some (map block ks))
      ≡ flat_map (λ k. block_items len m (block k)) ks
  gapless len m block [] = refl
  gapless len m block (k ∷ ks) = ap (λ (l : List Item). block_items len m (block k) ++ l) (gapless len m block ks)

  -- the items of an epoch
  abbrev pub own_items : ℕ → List Item
  own_items m = epoch_items (up_bytes c plp) m (epoch_with (map Some (told_blocks c plp packet m)))

  pub record AreOwn (m : ℕ) : Type 0 where
    pub size : length (own_items m) ≡ sent rates keeps m - sent_before rates keeps m
    pub bytes : AreBytes (sent_before rates keeps m) (own_items m)

  pub own_are : (m : ℕ) → slots_by c plp (m * epoch_ticks c plp) ≤ end → AreOwn m
  own_are m last =
      let x : ℕ = sent_before rates keeps m in
      let y : ℕ = sent rates keeps m in
      let len : ℕ = field_bytes c plp in
      let block : ℕ → Block =
      λ from. told_block c plp packet (slots_by c plp (m * epoch_ticks c plp)) from (min (from + len) y) in
      let order : x ≤ y = (law.within rates keeps m is.within.slot).0 in
      let joined = E.whole AreBytes no_bytes bytes_join (λ from. block_items (up_bytes c plp) m (block from)) len x y
      (omega arith) order
      (λ from a b. let low : from < min (from + len) y = omega arith in let high : min (from + len)
      y ≤ y = omega arith in
      let small : min (from + len) y - from ≤ 6720 = omega arith in (
        items_size m from (min (from + len) y) a low high small last,
        items_are m from (min (from + len) y) a low high small last,
      )) in
      let e = gapless (up_bytes c plp) m block (block_places len x y) in
      record { size = ap length e ∙ joined.0; bytes = rw e joined.1 }

  -- ---- the user packets that stand whole in runs of epochs that are not lost

  abbrev len : ℕ
  len = up_bytes c plp

  before_next : (m : ℕ) → sent_before rates keeps (m + 1) ≡ sent rates keeps m
  before_next m = C.before_next rates keeps m

  before_rises : (a b : ℕ) → a ≤ b → sent_before rates keeps a ≤ sent_before rates keeps b
  before_rises a b l = C.before_rises law.within rates keeps is.within.slot a b l

  pub within_end : (m : ℕ) → slots_by c plp (m * epoch_ticks c plp) ≤ end
      → sent_before rates keeps m ≤ len * length (kept_slots keeps end)
  within_end m l =
      let b : len * length (kept_slots keeps (slots_by c plp (m * epoch_ticks c plp))) ≤ len * length
      (kept_slots keeps end) =
      mul-le-mul_left len (kept_least keeps (slots_by c plp (m * epoch_ticks c plp)) end l) in
      omega (arith, law.within rates keeps m is.within.slot)

  -- of these epochs some are lost
  module _ (follow : Follow r slots dnps (length (kept_slots keeps end))) (lost : ℕ → Bool) (first count : ℕ)
      (covers : (m : ℕ) → m ≤ first + count → slots_by c plp (m * epoch_ticks c plp) ≤ end) where
    -- an epoch has nothing of user packet n
    abbrev pub Misses : ℕ → ℕ → Type 0
    Misses m n = C.Misses rates keeps m (len * n)

    pub record IsOwn (up : UserPacket) : Type 0 where
      pub n : ℕ
      pub inside : n < length (kept_slots keeps end)
      pub slot : up.slot ≡ slots n
      pub whole : (m : ℕ) → first ≤ m → m < first + count → lost m ≡ true → Misses m n
      pub bytes : item_values up.items ≡ user_packet (plp_at c.plps plp).delete packet (slots n)
      pub counted : counts r up ≡ true

    -- the epochs that are not lost and follow each other until epoch m have these bytes
    pub record IsRun (m place : ℕ) (z : List Item) : Type 0 where
      pub bytes : AreBytes place z
      pub reaches : place + length z ≡ sent_before rates keeps m
      pub past : (j : ℕ) → first ≤ j → j < m → lost j ≡ true → sent rates keeps j ≤ place

    module _ (m place : ℕ) (z : List Item) (to : m ≤ first + count) (run : IsRun m place z) where
      fits : place + length z ≤ len * length (kept_slots keeps end)
      fits = omega (arith, within_end m (covers m to))

      are : AreWhole r slots place (div_ceil place len) z
      are =
          let p = ceil_parts place len one in
          whole_packets r slots (dnps) place (div_ceil place len)
          (length (kept_slots keeps end)) z is.sound follow fits run.bytes.regular p.0 p.1

      module _ (n : ℕ) (from : place ≤ len * n) (inside_is : len * n + len ≤ place + length z) where
        abbrev i : ℕ
        i = len * n - place

        abbrev w : List Item
        w = window r z i

        inside : n < length (kept_slots keeps end)
        inside = fewer len n (length (kept_slots keeps end)) (omega (arith, fits, one))

        long : length w ≡ len
        long = omega (arith, length-take len (drop i z), length-drop i z, from)

        item_is : (j : ℕ) → j < len → at w j ≡ at z (i + j)
        item_is j l = get_or-take len (drop i z) j no_item l ∙ get_or-drop i z j no_item

        byte_at : (j : ℕ) → j < len → IsByte (len * n + j) (at z (i + j))
        byte_at j l =
            let e : place + (i + j) ≡ len * n + j = omega (arith, from) in
            rw (← e) (run.bytes.each (i + j) (omega (arith, from)))

        even_string : IsEven (plp_at c.plps plp).delete packet len end
        even_string = string_even (plp_at c.plps plp).delete packet len end (size_of)

        bytes : item_values w ≡ user_packet (plp_at c.plps plp).delete packet (slots n)
        bytes = same_number_lists (item_values w) (user_packet (plp_at c.plps plp).delete packet (slots n))
            (length-map w (λ (x : Item). x.value) ∙ long ∙ sym (size_of (slots n)))
            (λ j l. let lt : j < len = omega (arith, length-map w (λ (x : Item). x.value), long) in
            value_at w j ∙ ap (λ (x : Item). x.value) (item_is j lt) ∙ (byte_at j lt).value ∙ even_string.byte n j
            inside lt)

        on : keeps (slots n) ≡ true
        on = is_kept_slot keeps end n inside

        abbrev begun : ℕ
        begun = (at z (i + 0)).epoch

        abbrev ended : ℕ
        ended = (at z (i + (len - 1))).epoch

        in_range : InRange r.times.num r.times.den r.times.epoch begun (slots n)
        in_range =
            let b = byte_at 0 (omega (arith, one)) in
            (law.begins rates keeps begun (slots n) is.within on).range (
              omega (arith, place_is end n inside),
              omega (
                arith,
                place_is end n inside,
              ),
            )

        soon : ended ≤ begun + 1
        soon =
            let b = byte_at (len - 1) (omega (arith, one)) in
            elim (cases_lt ended (begun + 2)) [
              | inl lt ↦ omega arith
              | inr ge ↦
                  let s : begun + 2 ≡ suc (begun + 1) = omega arith in
                  let t = ap (sent_before rates keeps) s in
                  absurd (omega (
                    arith,
                    place_is end n inside,
                    law.ends rates keeps begun (slots n) is.within is.fits on in_range,
                    before_rises (begun + 2) ended ge,
                    one,
                  ))
            ]

        -- the slot is not given out yet when the last frame begins of the epoch in which the user packet ends
        early : last_frame r ended * r.ticks < slot_start r.times.num r.times.den (slots n) + delay_of r.times
        early =
            let d = law.outlasts r.times.num r.times.den r.times.epoch begun (slots n) (omega arith) (omega arith)
            in_range in
            let q : (ended + 1) * r.times.epoch ≤ (begun + 2) * r.times.epoch =
            mul-le-mul_right r.times.epoch (omega (arith, soon)) in
            omega (arith, last_tick_is r is.sound ended)

        len_is : len ≡ suc (len - 1)
        len_is = omega (arith, one)

        first_epoch : (first_item w).epoch ≡ begun
        first_epoch =
            let z_is : i + 0 ≡ i = omega arith in
            ap (λ (k : ℕ). (first_item (take k (drop i z))).epoch) len_is
            ∙ ap (λ (x : Item). x.epoch) (first_is z i (len - 1) ∙ sym (ap (at z) z_is))

        last_epoch : (last_item w).epoch ≡ ended
        last_epoch = ap (λ (k : ℕ). (last_item (take k (drop i z))).epoch) len_is
            ∙ ap (λ (x : Item). x.epoch) (last_is no_item z i (len - 1) (omega (arith, from, one)))

        count_is : counts r (up_of r slots place z n) ≡ true
        count_is =
            rw (first_epoch, last_epoch, le-leb _ _ in_range.0, lt-ltb _ _ in_range.1, lt-ltb _ _ early)
          where
            counts_of : ℕ → ℕ → Bool
            counts_of b e = counts_by r (delay_of r.times) (slots n) b e

        own : IsOwn (up_of r slots place z n)
        own = record {
          n = n;
          inside = inside;
          slot = refl;
          whole = λ j l k e. elim (cases_lt j m) [
            | inl lt ↦ inl (omega (arith, run.past j l lt e, from))
            | inr ge ↦ inr (omega (arith, before_rises m j ge))
          ];
          bytes = bytes;
          counted = count_is;
        }

      pub run_own : AllByRecursion IsOwn (user_packets r z)
      run_own =
          let a = are in
          rw a.packets (range_all IsOwn (up_of r slots place z) a.count (div_ceil place len) (λ k l h.
          let q : len * div_ceil place len ≤ len * k = mul-le-mul_left len l in
          own k (omega (arith, (ceil_parts place len one).0)) (a.inside k l h)))

      pub run_has : (n : ℕ) → place ≤ len * n → len * n + len ≤ sent_before rates keeps m
          → Has (slots n) (user_packets r z)
      run_has n from l =
          let a = are in
          let k : div_ceil place len ≤ n = elim (cases_lt n (div_ceil place len)) [
            | inl lt ↦
                let q : len * suc n ≤ len * div_ceil place len = mul-le-mul_left {m = suc n} {n = div_ceil place len}
                len lt in
                let s : len * suc n ≡ len * n + len = omega arith in
                absurd (omega (arith, (ceil_parts place len one).1, from))
            | inr ge ↦ ge
          ] in
          rw a.packets (has_in_range (up_of r slots place z) a.count (div_ceil place len) n k
          (a.all n k (omega arith)))

    -- the items of so many epochs from epoch m on
    abbrev pub rest_items : ℕ → ℕ → List Item
    rest_items m j = string_of len m (told_epochs c plp packet lost m j)

    pub rest_none : (m : ℕ) → rest_items m 0 ≡ []
    unfolding string_of
    rest_none m = refl

    rest_more : (m j : ℕ) → rest_items m (suc j) ≡ epoch_items len m (told_epoch c plp packet lost m)
        ++ rest_items (m + 1) j
    unfolding string_of
    rest_more m j = refl

    rest_by : (m j : ℕ) (b : Bool) → lost m ≡ b → rest_items m (suc j)
        ≡ epoch_items len m (cond b lost_epoch (epoch_with (map Some (told_blocks c plp packet m))))
        ++ rest_items (m + 1) j
    rest_by m j b e =
        rw (rest_more m j, e)

    pub record Gives (m j place : ℕ) (z : List Item) : Type 0 where
      pub all : AllByRecursion IsOwn (user_packets r (z ++ rest_items m j))
      pub has : (n : ℕ) → place ≤ len * n → len * n + len ≤ sent_before rates keeps (first + count)
          → ((i : ℕ) → m ≤ i → i < first + count → lost i ≡ true → Misses i n)
          → Has (slots n) (user_packets r (z ++ rest_items m j))

    pub gives : (j m place : ℕ) (z : List Item) → m + j ≡ first + count → IsRun m place z → Gives m j place z
    gives zero m place z e run =
        let here : m ≡ first + count = omega arith in
        let same : z ++ rest_items m 0 ≡ z = ap (λ (l : List Item). z ++ l) (rest_none m) ∙ append-nil z in
        record {
          all = rw same (run_own m place z (omega (arith, here)) run);
          has = λ n from l misses. rw same
              (run_has m place z (omega (arith, here)) run n from (let q = ap (sent_before rates keeps) here in
              omega arith));
        }
    gives (suc j) m place z e run = go (lost m) refl (λ p y next. gives j (m + 1) p y (omega arith) next)
      where
        go : (b : Bool) → lost m ≡ b → ((p : ℕ) (y : List Item) → IsRun (m + 1) p y → Gives (m + 1) j p y)
            → Gives m (suc j) place z
        go true on next =
            let to : m ≤ first + count = omega arith in
            let after : IsRun (m + 1) (sent rates keeps m) [] = record {
              bytes = no_bytes (sent rates keeps m);
              reaches = omega (arith, before_next m);
              past = λ i l h t.
                  let q = before_rises (i + 1) (m + 1) (omega arith) in
                  omega (arith, before_next i, before_next m);
            } in
            let g = next (sent rates keeps m) [] after in
            let parts : user_packets r (z ++ rest_items m (suc j)) ≡ user_packets r z ++ user_packets
            r (rest_items (m + 1) j) =
            rw (rest_by m j true on, gap_parts r z (rest_items (m + 1) j) m is.sound) in
            record {
              all = rw parts (all_append IsOwn (user_packets r z) (user_packets r (rest_items (m + 1) j))
                  (run_own m place z to run) g.all);
              has = λ n from l misses. rw parts (elim (misses m (omega arith) (omega arith) on) [
                | inl before ↦ one_behind (λ (up : UserPacket). up.slot ≡ slots n) (user_packets r z)
                    (user_packets r (rest_items (m + 1) j))
                    (g.has n before l (λ i a b t. misses i (omega arith) b t))
                | inr behind ↦ one_before (λ (up : UserPacket). up.slot ≡ slots n) (user_packets r z)
                    (user_packets r (rest_items (m + 1) j))
                    (run_has m place z to run n from behind)
              ]);
            }
        go false off next =
            let items = own_are m (covers m (omega arith)) in
            let y : List Item = z ++ own_items m in
            let t = run.reaches in
            let after : IsRun (m + 1) place y = record {
              bytes = bytes_join place z (own_items m) run.bytes
                  (rw t items.bytes);
              reaches = omega (
                arith,
                length-append z (own_items m),
                items.size,
                (law.within rates keeps m is.within.slot).0,
                before_next m,
              );
              past = λ i a b on. elim (cases_eq i m) [
                | inl same ↦ absurd (both_ways _ off (ap lost (sym same) ∙ on))
                | inr ne ↦ run.past i a (omega arith) on
              ];
            } in
            let g = next place y after in
            let same : z ++ rest_items m (suc j) ≡ y ++ rest_items (m + 1) j =
            rw (rest_by m j false off, ← (append_assoc z (own_items m) (rest_items (m + 1) j))) in
            record {
              all = rw same g.all;
              has = λ n from l misses. rw same (g.has n from l (λ i a b on. misses i (omega arith) b on));
            }
