-- The window shows what the assembler found.
use Rattle.std.proofs.Common.{◌≡◌, ℕ, ◌+◌, ◌-◌, ◌*◌, ◌^◌, ◌<◌, Bool, true, false, List, [], ◌∷◌, ◌++◌, take, Option}
use Rattle.std.proofs.Common.{Some, None, ap, ap₂, ◌∙◌, sym, subst, arith, inl, inr, append-nil}
use Rattle.std.specs.Prelude.{nat_lt, nat_le, if◌then◌else◌}
use Rattle.std.proofs.lemmas.List.{take-take}
use Rattle.std.proofs.lemmas.Bool.{cases_lt, lt-ltb, le-ltb, and_parts, ltb-true}
use Rattle.plp_config.specs.SlotTime.{slot_start}
use Rattle.plp_receiver.specs.declared.slot_rule.SlotRule.{SlotRule}
use Rattle.plp_receiver.specs.declared.assembler.Found.{Found}
use Rattle.plp_receiver.specs.Sound.{IsSound}
use Rattle.plp_receiver.specs.Strings.{Item, item_values}
use Rattle.plp_receiver.specs.Packets.{packet_of, UserPacket, user_packets}
use Rattle.plp_receiver.specs.Assembles.{Gains, IsFound}
use Rattle.plp_receiver.specs.Readback.{counts_by, counts}
use Rattle.plp_config.specs.SlotTimes.{over_by, delay_of}
use Rattle.plp_receiver.specs.Times.{last_frame}
use Rattle.ts_packet.specs.declared.sizes.TheConstants.{SIZE, SYNC}
use Rattle.plp_receiver.specs.Filling.{filled}
use Rattle.plp_receiver.specs.SlotsHold.{Shows}
use Rattle.plp_receiver.proofs.WindowLemmas.{nothing_found, not_counted, put_in, too_late, same_test}

module _ (r : SlotRule) (sound : IsSound r) (z piece : List Item) (epoch first end : ℕ) (slots : List (Option (List ℕ)))
    (shows : Shows r z first end slots) (held : List ℕ) where
  pub gain_none : Gains r z epoch piece held None → Shows r (z ++ piece) first end slots
  gain_none g = grind (arith, nothing_found, append-nil)

  module _ (found : Found) (delay : ℕ) (late : delay ≡ delay_of r.times) (near : over_by r.times found.epoch < 2 ^ 53)
      (g : Gains r z epoch piece held (Some found)) where
    abbrev up : UserPacket
    up = g.gives.0

    is : IsFound r epoch held found up
    is = g.gives.1

    gains : user_packets r (z ++ piece) ≡ user_packets r z ++ up ∷ []
    gains = g.packets ∙ ap (λ (l : List UserPacket). user_packets r z ++ l) g.gives.2

    same : counts_by r delay found.slot found.epoch epoch ≡ counts r up
    same = grind (arith, ap₂, is, same_test)

    pub gain_not : counts_by r delay found.slot found.epoch epoch ≡ false → Shows r (z ++ piece) first end slots
    gain_not e = not_counted r z (z ++ piece) up gains first end slots (sym same ∙ e) shows

    packet_is : packet_of held ≡ packet_of (item_values up.items)
    packet_is =
        let u = sound.up in
        ap (λ (l : List ℕ). SYNC ∷ l) (sym (take-take (SIZE - 1) r.up_len held (omega (arith, u)))
        ∙ ap (take (SIZE - 1)) is.bytes)

    pub gain_put : counts_by r delay found.slot found.epoch epoch ≡ true → (new : List (Option (List ℕ)))
        → new ≡ (if nat_lt found.slot first then slots else filled slots (found.slot - first) (packet_of held))
        → Shows r (z ++ piece) first end new
    gain_put e new n =
        let counted : counts r up ≡ true = sym same ∙ e in
        let below : found.slot < over_by r.times found.epoch =
        ltb-true _ _
        (and_parts (nat_lt found.slot (over_by r.times found.epoch))
        (nat_lt (last_frame r epoch * r.ticks) (slot_start r.times.num r.times.den found.slot + delay))
        (and_parts (nat_le (over_by r.times (found.epoch - 1)) found.slot) _ e).1).0 in
        let s = is.slot in
        let slot_is : found.slot ≡ up.slot = omega (arith, s, below, near) in
        elim (cases_lt found.slot first) [
          | inl lt ↦ rw (n, lt-ltb found.slot first lt)
              (too_late r z (z ++ piece) up gains first end slots counted (omega (arith, slot_is, lt)) shows)
          | inr ge ↦ rw (n, le-ltb found.slot first ge, slot_is, packet_is)
              (put_in r z (z ++ piece) up gains first end slots counted (omega (arith, slot_is, ge)) shows)
        ]

pub moved : (r : SlotRule) (z : List Item) (first end new_first new_end : ℕ) (slots : List (Option (List ℕ)))
    → new_first ≡ first
    → new_end ≡ end → Shows r z first end slots → Shows r z new_first new_end slots
moved r z first end new_first new_end slots e f h = rw (e, f) h

pub near_by : (q r : SlotRule) (epoch : ℕ) → q ≡ r → over_by q.times epoch < 2 ^ 53 → over_by r.times epoch < 2 ^ 53
near_by q r epoch e h = subst (λ (x : SlotRule). over_by x.times epoch < 2 ^ 53) e h

pub counts_as : (q r : SlotRule) (delay slot begun ended : ℕ) (c b : Bool) → q ≡ r
    → c ≡ counts_by q delay slot begun ended
    → c ≡ b → counts_by r delay slot begun ended ≡ b
counts_as q r delay slot begun ended c b e h f = sym (h ∙ ap (λ (x : SlotRule). counts_by x delay slot begun ended) e)
    ∙ f
