-- What a receiver stands for, record by record.
use Rattle.std.proofs.Common.{◌≡◌, ◌≢◌, ℕ, ◌+◌, ◌-◌, ◌%◌, ◌≤◌, ◌==◌, Bool, true, false, List, [], ◌∷◌, ◌++◌}
use Rattle.std.proofs.Common.{length, Option, refl, ap, sym, subst, ◌∙◌, arith, length-append, eq-eqb}
use Rattle.std.specs.Prelude.{nat_lt, if◌then◌else◌}
use Rattle.std.proofs.lemmas.Bool.{eqb-true, both_ways}
use Rattle.terms.proofs.CaseLemmas.{bool_cases}
use Rattle.plp_config.specs.declared.config.Config.{Config}
use Rattle.site_frame.specs.declared.reading.RecordView.{RecordView}
use Rattle.plp_receiver.specs.SlotEpochs.{Epoch, readback, held_slots}
use Rattle.plp_receiver.specs.SlotsStandFor as slots
use Rattle.plp_receiver.specs.declared.slots.PacketSlots.{PacketSlots}
use Rattle.plp_receiver.specs.declared.slot_rule.SlotRule.{SlotRule}
use Rattle.plp_receiver.specs.Laws.{ReadbackOnce}
use Rattle.plp_config.specs.Plps.{spread}
use Rattle.plp_receiver.specs.Parts.{Part}
use Rattle.plp_receiver.specs.StandsFor.{Stands, Fresh, slots_come}
use Rattle.plp_receiver.specs.Epochs.{part_of, slot_rule, Readback}
use Rattle.plp_receiver.specs.Holds.{Holds, seen, joined, Sees}
use Rattle.plp_receiver.specs.Taking.{EndsRecord}
use Rattle.plp_receiver.specs.declared.held.HeldBlocks.{HeldBlocks}
use Rattle.plp_receiver.proofs.EpochLemmas.{seen_begun, seen_on, seen_anew, begun_joined, told_on, told_more}
use Rattle.plp_receiver.proofs.EpochLemmas.{first_seen, none_told}

-- the frame that comes next, and the rule by which it counts
next_is : (p : PacketSlots) (r : SlotRule) (first count : ℕ) (told : List Epoch) (released : ℕ)
    → slots.PacketSlotsStandsFor p r first count told released → slots.frame_of p ≡ first + count
unfolding slots.PacketSlotsStandsFor
next_is p r first count told released s = s.number

rule_is : (p : PacketSlots) (r : SlotRule) (first count : ℕ) (told : List Epoch) (released : ℕ)
    → slots.PacketSlotsStandsFor p r first count told released → slots.rule_of p ≡ r
unfolding slots.PacketSlotsStandsFor
rule_is p r first count told released s = s.both.rule

pub record_came : (c : Config) (plp : ℕ) (old new : PacketSlots) (held mid new_held : HeldBlocks) (view : RecordView)
    (first : ℕ)
    (views : List RecordView) (released : ℕ) → 1 ≤ spread c.plps plp
    → Sees c plp (slots.frame_of old) (part_of c (slots.frame_of old) view) held mid
    → EndsRecord c plp mid new_held old new
    → Stands c plp old held first views released → Stands c plp new new_held first (views ++ view ∷ []) released
record_came c plp old new held mid new_held view first views released some sees ends s =
    bool_cases (slots.ends_epoch old) last inner
  where
    n : ℕ
    n = first + length views

    number : slots.frame_of old ≡ n
    number = next_is old (slot_rule c plp) first (length views) s.told released s.stands

    frames : old.window.rule.spread ≡ spread c.plps plp
    frames = ap (λ (r : SlotRule). r.spread) (rule_is old (slot_rule c plp) first (length views) s.told
        released s.stands)

    test : slots.ends_epoch old ≡ ((n + 1) % spread c.plps plp == 0)
    test = ap (λ (k : ℕ). (k + 1) % old.window.rule.spread == 0) number ∙ ap (λ (k : ℕ). (n + 1) % k == 0) frames

    parts : Option (List Part)
    parts = joined plp (seen c plp first views) (part_of c n view)

    holds : Holds c plp parts mid
    holds = subst (λ (k : ℕ). Sees c plp k (part_of c k view) held mid) number sees (seen c plp first views)
        (seen_begun c plp first views some) s.holds

    longer : length views + 1 ≡ length (views ++ view ∷ [])
    longer = omega (arith, length-append views (view ∷ []))

    last : slots.ends_epoch old ≡ true → Stands c plp new new_held first (views ++ view ∷ []) released
    last e =
        let z : (n + 1) % spread c.plps plp ≡ 0 = eqb-true ((n + 1) % spread c.plps plp) 0 (sym test ∙ e) in
        let t = ends.last e parts (begun_joined plp (seen c plp first views) (part_of c n view)) holds in
        record {
          told = s.told ++ t.told ∷ [];
          tells = told_more c plp first views view some s.told s.tells z t.told t.tells;
          stands = subst (λ (k : ℕ). slots.PacketSlotsStandsFor new (slot_rule c plp) first k (s.told ++ t.told ∷ [])
              released) longer
              (t.ends (slot_rule c plp) first (length views) s.told released s.stands);
          holds = subst (λ (o : Option (List Part)). Holds c plp o new_held)
              (sym (seen_anew c plp first views some view z)) tt;
        }

    inner : slots.ends_epoch old ≡ false → Stands c plp new new_held first (views ++ view ∷ []) released
    inner e =
        let ne : (n + 1) % spread c.plps plp ≢ 0 = λ (z : (n + 1) % spread c.plps plp ≡ 0).
        both_ways _ (sym test ∙ e) (eq-eqb ((n + 1) % spread c.plps plp) 0 z) in
        let g = ends.inner e in
        record {
          told = s.told;
          tells = told_on c plp first views view some s.told s.tells ne;
          stands = subst (λ (k : ℕ). slots.PacketSlotsStandsFor new (slot_rule c plp) first k s.told released) longer
              (g.0 (slot_rule c plp) first (length views) s.told released s.stands);
          holds = subst (λ (o : Option (List Part)). Holds c plp o new_held)
              (sym (seen_on c plp first views some view ne))
              (subst (Holds c plp parts) (sym g.1) holds);
        }

-- in the network of the receiver
pub came_in : (c d : Config) (plp q : ℕ) (new : PacketSlots) (held : HeldBlocks) (first : ℕ) (views : List RecordView)
    (released : ℕ) → d ≡ c → q ≡ plp → Stands c plp new held first views released
    → Stands d q new held first views released
came_in c d plp q new held first views released same_c same_p s = rw (same_c, same_p) s

pub begun : (c : Config) (plp : ℕ) (old new : PacketSlots) (h : HeldBlocks) (first : ℕ) → 1 ≤ spread c.plps plp
    → Fresh c plp old h
    → ((r : SlotRule) → slots.IsFresh old r → slots.PacketSlotsStandsFor new r first 0 [] 0)
    → Stands c plp new h first [] 0
begun c plp old new h first some f step = grind (arith, none_told, first_seen)

pub is_empty : (c : Config) (plp : ℕ) (old : PacketSlots) (h : HeldBlocks) → Fresh c plp old h
    → old.window.slots.items ≡ []
unfolding slots.IsFresh
is_empty c plp old h f = f.fresh.empty

-- ---- what is given out
-- none is due before a record came
none_due : (p : PacketSlots) (r : SlotRule) → slots.IsFresh p r → slots.due_of p ≡ 0
unfolding slots.IsFresh
none_due p r f = let none = ap length f.empty in let span = p.window.span in let known = p.window.known in
    omega (arith, none, span, known)

pub still_fresh : (c : Config) (plp : ℕ) (old new : PacketSlots) (h : HeldBlocks) → Fresh c plp old h → (result : Bool)
    → result ≡ nat_lt 0 (slots.due_of old) → (result ≡ false → new ≡ old) → Fresh c plp new h
still_fresh c plp old new h f result due same = grind (arith, none_due)

-- the packets that the slots show
pub given_back : (c : Config) (plp : ℕ) (p : PacketSlots) (h : HeldBlocks) (first : ℕ) (views : List RecordView)
    (released : ℕ)
    → (s : Stands c plp p h first views released)
    → Readback c plp first views (readback (slot_rule c plp) first (length views) s.told)
given_back c plp p h first views released s =
    record { told = s.told; tells = s.tells; packets_are = refl }

-- and no others
pub packets_are : ReadbackOnce → (c : Config) (plp : ℕ) (p : PacketSlots) (h : HeldBlocks) (first : ℕ)
    (views : List RecordView) (released : ℕ) (packets : List (List ℕ)) (s : Stands c plp p h first views released)
    → Readback c plp first views packets → readback (slot_rule c plp) first (length views) s.told ≡ packets
packets_are once c plp p h first views released packets s b =
    once c plp first views _ packets (given_back c plp p h first views released s) b

pub held_is : (c : Config) (plp : ℕ) (p : PacketSlots) (h : HeldBlocks) (first : ℕ) (views : List RecordView)
    (released held : ℕ) → Stands c plp p h first views released
    → ((r : SlotRule) (first count : ℕ) (epochs : List Epoch) (released : ℕ)
    → slots.PacketSlotsStandsFor p r first count epochs released
    → held ≡ held_slots r first count - released)
    → held ≡ slots_come c plp first (length views) - released
held_is c plp p h first views released held s answer = grind arith

pub released_or_not : (c : Config) (plp : ℕ) (old new : PacketSlots) (h : HeldBlocks) (first : ℕ)
    (views : List RecordView)
    (released : ℕ)
    (result : Bool) → Stands c plp old h first views released
    → ((r : SlotRule) (first count : ℕ) (epochs : List Epoch) (released : ℕ)
    → slots.PacketSlotsStandsFor old r first count epochs released
    → slots.PacketSlotsStandsFor new r first count epochs (if result then released + 1 else released))
    → Stands c plp new h first views (if result then released + 1 else released)
released_or_not c plp old new h first views released result s step = grind arith
