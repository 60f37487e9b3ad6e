-- The packet of a slot, by the epochs of a gateway of which some are lost.
use Rattle.std.proofs.Common.{◌≡◌, ℕ, ◌+◌, ◌-◌, ◌*◌, ◌<◌, ◌≤◌, ◌==◌, ◌&&◌, Bool, true, false, List, [], length, Option}
use Rattle.std.proofs.Common.{refl, ap, ap₂, ◌∙◌, sym, arith, inl, inr, cond}
use Rattle.std.specs.Prelude.{not, option_map, unwrap_or, if◌then◌else◌}
use Rattle.std.specs.List.{range_with_len, list_any, find, filter}
use Rattle.std.proofs.lemmas.Bool.{cases_lt, cases_eq, both_ways, le-leb, lt-ltb, false_from_ne_true, eqb-true}
use Rattle.std.proofs.Math.Nat.{mul-le-mul_right}
use Rattle.ts_packet.specs.Null.{null_packet}
use Rattle.plp_config.specs.Capacity.{IsPlan, up_bytes}
use Rattle.plp_config.specs.Plps.{plp_at}
use Rattle.plp_config.specs.SlotTime.{num, den, slots_by, epoch_ticks, InRange}
use Rattle.plp_config.specs.Laws.{ReleasedOld, RangesPartition, CountRises, SoundTimes, FrameTicks, SpreadDividesFrames}
use Rattle.plp_config.specs.Laws.{FieldRange, UserPacketRange}
use Rattle.plp_config.specs.declared.config.Config.{Config}
use Rattle.null_delete.specs.Deletion.{kept_slots}
use Rattle.mode_adapt.specs.Queue.{Rates, sent, sent_before}
use Rattle.mode_adapt.specs.Blocks.{rates_of, plp_keeps}
use Rattle.plp_receiver.specs.declared.slot_rule.SlotRule.{SlotRule}
use Rattle.plp_receiver.specs.Sound.{IsSound}
use Rattle.plp_receiver.specs.Strings.{Item, item_values}
use Rattle.plp_receiver.specs.Packets.{UserPacket, packet_of, user_packets}
use Rattle.plp_receiver.specs.Readback.{counts, counted, slot_packet}
use Rattle.plp_receiver.proofs.PlaceLemmas.{all_map}
use Rattle.plp_receiver.specs.Epochs.{slot_rule}
use Rattle.network_laws.proofs.KeptLemmas.{kept_slot, KeptFollow, is_kept_slot, own_number}
use Rattle.record_laws.specs.Recover.{is_carried, is_touched, recovered}
use Rattle.network_laws.specs.ToldEpochs.{ArePackets}
use Rattle.network_laws.specs.RecoverLaws.{InterleavingIsEpoch, SlotRecovers}
use Rattle.network_laws.proofs.CarriedLemmas.{all_in_range, each_in_range, filter_all, all_filter, none_any, any_none}
use Rattle.network_laws.proofs.CarriedLemmas.{all_kept, Has, finds, finds_none, packet_back}
use Rattle.network_laws.proofs.CarriedLemmas as C
use Rattle.network_laws.proofs.SentLemmas as S

-- What the laws of the times say besides.
pub record Times : Type 0 where
  pub old : ReleasedOld
  pub partition : RangesPartition
  pub rises : CountRises

module _ (c : Config) (plp : ℕ) (packet : ℕ → List ℕ) (law : S.Sending) (times : Times) (follow : KeptFollow)
    (is : S.IsGateway c plp packet) (lost : ℕ → Bool) (first count : ℕ) where
  abbrev r : SlotRule
  r = slot_rule c plp

  abbrev rates : Rates
  rates = rates_of c plp (epoch_ticks c plp)

  abbrev keeps : ℕ → Bool
  keeps = plp_keeps c plp packet

  abbrev len : ℕ
  len = up_bytes c plp

  abbrev end : ℕ
  end = slots_by c plp ((first + count) * epoch_ticks c plp)

  abbrev slots : ℕ → ℕ
  slots n = kept_slot keeps end n

  abbrev missing : List ℕ
  missing = filter lost (range_with_len first count)

  one : 1 ≤ len
  one = S.one c plp packet end law is

  num_pos : 0 < num c
  num_pos = omega arith

  den_pos : 0 < den c plp
  den_pos = omega arith

  covers : (m : ℕ) → m ≤ first + count → slots_by c plp (m * epoch_ticks c plp) ≤ end
  covers m l = times.rises (num c) (den c plp) (m * epoch_ticks c plp) ((first + count) * epoch_ticks c plp) num_pos
      (mul-le-mul_right (epoch_ticks c plp) l)

  abbrev IsOwn : UserPacket → Type 0
  IsOwn up = S.IsOwn c plp packet end law is (follow r _ end) lost first count covers up

  abbrev z : List Item
  z = S.rest_items c plp packet end law is (follow r _ end) lost first count covers first count

  abbrev ups : List UserPacket
  ups = user_packets r z

  gives : S.Gives c plp packet end law is (follow r _ end) lost first count covers first count
      (sent_before rates keeps first) []
  gives =
      S.gives c plp packet end law is (follow r _ end) lost first count covers count first
      (sent_before rates keeps first)
      [] refl
      (record {
        bytes = S.no_bytes c plp packet end law is (sent_before rates keeps first);
        reaches = omega arith;
        past = λ j a b on. absurd (omega arith);
      })

  before_rises : (a b : ℕ) → a ≤ b → sent_before rates keeps a ≤ sent_before rates keeps b
  before_rises a b l = C.before_rises law.within rates keeps is.within.slot a b l

  before_next : (m : ℕ) → sent_before rates keeps (m + 1) ≡ sent rates keeps m
  before_next m = C.before_next rates keeps m

  counted_is : counted r z ≡ ups
  unfolding counted
  counted_is =
      all_kept (counts r) ups (all_map IsOwn (λ (up : UserPacket). counts r up ≡ true) (λ up own. own.counted)
      ups gives.all)

  abbrev shown : Option UserPacket → List ℕ
  shown found = unwrap_or (option_map (λ up. packet_of (item_values up.items)) found) null_packet

  module _ (k : ℕ) where
    found_is : slot_packet r z k ≡ shown (find (λ up. up.slot == k) ups)
    found_is = ap (λ (l : List UserPacket). shown (find (λ up. up.slot == k) l)) counted_is

    none_has : ((up : UserPacket) → IsOwn up → up.slot ≡ k → ⊥) → slot_packet r z k ≡ null_packet
    none_has never =
        rw (
          found_is,
          finds_none k ups (all_map IsOwn (λ (up : UserPacket). (up.slot == k) ≡ false)
              (λ up own. false_from_ne_true _ (λ (t : (up.slot == k) ≡ true). never up own (eqb-true up.slot k t))) ups
              gives.all),
        )

    one_has : Has k ups → slot_packet r z k ≡ packet k
    one_has has =
        let f = finds IsOwn k ups gives.all has in
        let own = f.holds in
        found_is
        ∙ ap shown f.is
        ∙ ap packet_of own.bytes
        ∙ packet_back (plp_at c.plps plp).delete packet (slots own.n) (is.packets (slots own.n)).size
        (is.packets (slots own.n)).sync
        ∙ ap packet (sym own.slot ∙ f.slot)

    abbrev n : ℕ
    n = length (kept_slots keeps k)

    is_whole : (up : UserPacket) → IsOwn up → up.slot ≡ k → is_touched rates keeps missing k ≡ false
    is_whole up own e =
        let place : len * n ≡ len * own.n = ap (λ (j : ℕ). len * length (kept_slots keeps j)) (sym e ∙ own.slot)
        ∙ S.place_is c plp packet end law is end own.n own.inside in
        let misses : (m : ℕ) → C.Misses rates keeps m (len * own.n) → C.Misses rates keeps m (len * n) =
        λ m t. rw place t in
        none_any (λ m. list_any (is_carried rates keeps m) (range_with_len (len * n) len)) missing
        (filter_all (λ (m : ℕ). list_any (is_carried rates keeps m) (range_with_len (len * n) len) ≡ false) lost
        (range_with_len first count)
        (all_in_range (λ (m : ℕ). lost m ≡ true → list_any (is_carried rates keeps m) (range_with_len (len * n) len)
        ≡ false)
        count first
        (λ m a b on. C.all_missed rates keeps m (len * n) (misses m (own.whole m a b on)))))

    module _ (on : keeps k ≡ true) (clear : is_touched rates keeps missing k ≡ false)
        (from : slots_by c plp ((first - 1) * epoch_ticks c plp) ≤ k)
        (below : k < slots_by c plp ((first + count - 2) * epoch_ticks c plp)) where
      -- a lost epoch carries none of its bytes
      not_carried : (m i : ℕ) → first ≤ m → m < first + count → lost m ≡ true → len * n ≤ i → i < len * n + len
          → sent_before rates keeps m ≤ i → i < sent rates keeps m → ⊥
      not_carried m i a b off x y p q =
          let each = all_filter (λ (j : ℕ). list_any (is_carried rates keeps j) (range_with_len (len * n) len) ≡ false)
          lost (range_with_len first count)
          (any_none (λ j. list_any (is_carried rates keeps j) (range_with_len (len * n) len)) missing clear) in
          let here = each_in_range (λ (j : ℕ). lost j ≡ true → list_any (is_carried rates keeps j)
          (range_with_len (len * n) len)
          ≡ false) count first each m a b off in
          let none = each_in_range (λ (j : ℕ). is_carried rates keeps m j ≡ false) len (len * n)
          (any_none (is_carried rates keeps m) (range_with_len (len * n) len) here) i x y in
          both_ways _ none (ap₂ (λ (s t : Bool). s && t) (le-leb _ _ p) (lt-ltb _ _ q))

      module _ (m : ℕ) (inside : InRange (num c) (den c plp) (epoch_ticks c plp) m k) where
        since : first ≤ m
        since = C.since times.rises (num c) (den c plp) (epoch_ticks c plp) m k num_pos inside first from

        until : m + 2 ≤ first + count
        until = C.until times.rises (num c) (den c plp) (epoch_ticks c plp) m k num_pos inside (first + count) below

        begins : (sent_before rates keeps m ≤ len * n) × (len * n < sent rates keeps m)
        begins = (law.begins rates keeps m k is.within on).begins inside

        ends : len * n + len ≤ sent rates keeps (m + 1)
        ends = law.ends rates keeps m k is.within is.fits on inside

        two : sent_before rates keeps (m + 2) ≡ sent rates keeps (m + 1)
        two = let e : m + 2 ≡ m + 1 + 1 = omega arith in ap (sent_before rates keeps) e ∙ before_next (m + 1)

        misses : (i : ℕ) → first ≤ i → i < first + count → lost i ≡ true → C.Misses rates keeps i (len * n)
        misses i a b off =
            elim (cases_lt i m) [
              | inl lt ↦ inl (let q = before_rises (i + 1) m (omega arith) in omega (arith, before_next i, begins))
              | inr ge ↦ elim (cases_eq i m) [
                | inl e ↦
                    let s = ap (sent_before rates keeps) e in
                    let t = ap (sent rates keeps) e in
                    absurd (not_carried i (len * n) a b off (omega arith) (omega (arith, one)) (omega (arith, begins))
                    (omega (arith, begins)))
                | inr ne ↦ elim (cases_lt (sent rates keeps m) (len * n + len)) [
                  | inl goes_on ↦ elim (cases_eq i (m + 1)) [
                    | inl next ↦
                        let s = ap (sent_before rates keeps) next ∙ before_next m in
                        let t = ap (sent rates keeps) next in
                        absurd (not_carried i (len * n + len - 1) a b off (omega (arith, one)) (omega (arith, one))
                        (omega arith) (omega (arith, ends, one)))
                    | inr later ↦ inr (let q = before_rises (m + 2) i (omega arith) in
                        omega (arith, two, ends))
                  ]
                  | inr ended ↦ inr (let q = before_rises (m + 1) i (omega arith) in omega (arith, before_next m))
                ]
              ]
            ]

        has_it : Has k ups
        has_it =
            let high = before_rises (m + 2) (first + count) (omega (arith, until)) in
            let cover = covers m (omega (arith, until)) in
            let own = own_number keeps end k on (omega arith) in
            rw (← own.1) (gives.has n (omega (arith, before_rises first m since, begins)) (omega (arith, two, ends))
            misses)

      has_one : Has k ups
      has_one =
          let p = times.partition (num c) (den c plp) (epoch_ticks c plp) k num_pos den_pos is.sound.times.least in
          has_it p.0 p.1.inside

    slot_is : slots_by c plp ((first - 1) * epoch_ticks c plp) ≤ k
        → k < slots_by c plp ((first + count - 2) * epoch_ticks c plp)
        → slot_packet r z k ≡ recovered c plp (epoch_ticks c plp) packet missing k
    slot_is from below = go (keeps k) refl (is_touched rates keeps missing k) refl
      where
        by_tests : (a t : Bool) → keeps k ≡ a → is_touched rates keeps missing k ≡ t
            → (if a && not t then packet k else null_packet) ≡ recovered c plp (epoch_ticks c plp) packet missing k
        by_tests a t e f = sym (ap₂ (λ (x y : Bool). cond {A = List ℕ} (x && not y) (packet k) null_packet) e f)

        go : (a : Bool) → keeps k ≡ a → (t : Bool) → is_touched rates keeps missing k ≡ t
            → slot_packet r z k ≡ recovered c plp (epoch_ticks c plp) packet missing k
        go true e false f = one_has (has_one e f from below) ∙ by_tests true false e f
        go true e true f = none_has (λ up own s. both_ways _ (is_whole up own s) f) ∙ by_tests true true e f
        go false e t f =
            none_has (λ up own s. both_ways _ e (ap keeps (sym s ∙ own.slot) ∙ is_kept_slot keeps end own.n own.inside))
            ∙ by_tests false t e f

up_is : (c : Config) (plp : ℕ) → up_bytes c plp ≡ (if (plp_at c.plps plp).delete then 188 else 187)
unfolding up_bytes
up_is c plp = refl

-- What the laws say of a plan besides.
pub record PlanLaws : Type 0 where
  pub epochs : InterleavingIsEpoch
  pub times : SoundTimes
  pub frame : FrameTicks
  pub spread : SpreadDividesFrames
  pub up : UserPacketRange
  pub field : FieldRange

pub plans_by : InterleavingIsEpoch → SoundTimes → FrameTicks → SpreadDividesFrames → UserPacketRange
    → FieldRange → PlanLaws
plans_by a b d e f g = record { epochs = a; times = b; frame = d; spread = e; up = f; field = g }

pub sound_is : PlanLaws → (c : Config) (plp : ℕ) → IsPlan c → plp < length c.plps → IsSound (slot_rule c plp)
sound_is laws c plp plan inside =
    let ticks = laws.frame c plan.rules in
    record {
      times = laws.times c plp plan.rules inside;
      frame = (omega arith, ticks.1);
      spread = (laws.spread c plp plan.rules inside).0;
      epoch = refl;
      up = laws.up c plp;
    }

pub gateway_is : PlanLaws → (c : Config) (plp : ℕ) (packet : ℕ → List ℕ) → IsPlan c → plp < length c.plps
    → ArePackets packet → S.IsGateway c plp packet
gateway_is laws c plp packet plan inside packets =
    let epoch = laws.epochs c plp plan inside in
    record {
      sound = sound_is laws c plp plan inside;
      within = epoch.within;
      fits = epoch.holds;
      up = up_is c plp;
      field = let f = laws.field c plp in (f.0, f.1);
      packets = packets;
    }

pub slot_recovers : S.Sending → Times → KeptFollow → PlanLaws → SlotRecovers
slot_recovers law times follow laws c plp packet lost first count k plan inside packets from below =
    slot_is c plp packet law times follow (gateway_is laws c plp packet plan inside packets) lost first
    count k from below
