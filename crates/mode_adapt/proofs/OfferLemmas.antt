-- One packet more.
use Rattle.std.proofs.Common.{◌≡◌, ℕ, ◌+◌, ◌*◌, ◌<◌, ◌≤◌, Bool, true, false, cond, List, [], ◌∷◌, ◌++◌, Some, None}
use Rattle.std.proofs.Common.{length, take}
use Rattle.std.proofs.Common.{drop, refl, ap, sym, ◌∙◌, arith, length-append, length-drop, append-nil, inl, inr}
use Rattle.std.specs.Int.{div_ceil}
use Rattle.std.proofs.lemmas.Grind.{div_ceil_times}
use Rattle.std.proofs.lemmas.List.{get_or_append_left, get_or_push, get_or_past, take_all, take_at, drop-append-le}
use Rattle.std.proofs.lemmas.Bool.{cases_lt, cases_order}
use Rattle.std.proofs.Math.Nat.{mul-le-mul_right}
use Rattle.plp_config.specs.Capacity.{up_bytes, field_bytes}
use Rattle.plp_config.specs.Plps.{plp_at}
use Rattle.plp_config.specs.SlotTime.{num, slots_by, epoch_ticks}
use Rattle.plp_config.specs.Laws.{SlotLength}
use Rattle.plp_config.specs.declared.config.Config.{Config}
use Rattle.ts_packet.specs.Null.{null_packet}
use Rattle.null_delete.specs.Deletion.{dnp, kept_slots, packet_at}
use Rattle.null_delete.specs.Laws.{DecidedByThePast}
use Rattle.null_delete.specs.StandsFor.{DeleterStandsFor}
use Rattle.mode_adapt.specs.declared.chain.Chain.{Chain}
use Rattle.mode_adapt.specs.Blocks.{rates_of, plp_keeps, plp_string}
use Rattle.mode_adapt.specs.Queue.{sent_before}
use Rattle.mode_adapt.specs.StandsFor.{HoldsRest, Holds}
use Rattle.mode_adapt.specs.Steps.{Keeps}
use Rattle.mode_adapt.specs.UserPackets.{keeps_of, user_packet, up_string, up_place}
use Rattle.mode_adapt.proofs.KeptLemmas.{kept_more}
use Rattle.mode_adapt.proofs.PlaceLemmas.{string_more, length-string}
use Rattle.mode_adapt.proofs.SameLemmas.{Same, keeps_same, slots_same, up_same, before_same}

-- the packets with one more
pub at_before : (ps : List (List ℕ)) (x : List ℕ) → Same (packet_at (ps ++ x ∷ [])) (packet_at ps) (length ps)
at_before ps x = λ k lt. get_or_append_left ps (x ∷ []) null_packet k lt

at_last : (ps : List (List ℕ)) (x : List ℕ) → packet_at (ps ++ x ∷ []) (length ps) ≡ x
at_last ps x = get_or_push ps x null_packet (length ps) refl

whole_push : (ps : List (List ℕ)) (x : List ℕ) → ((k : ℕ) → length (packet_at ps k) ≡ 188) → length x ≡ 188 → (k : ℕ)
    → length (packet_at (ps ++ x ∷ []) k) ≡ 188
whole_push ps x whole here k =
    elim (cases_order k (length ps)) [
      | inl e ↦ ap length (ap (packet_at (ps ++ x ∷ [])) e ∙ at_last ps x) ∙ here
      | inr (inl lt) ↦ ap length (at_before ps x k lt) ∙ whole k
      | inr (inr gt) ↦ ap length (get_or_past (ps ++ x ∷ []) k null_packet (omega (arith, length-append ps (x ∷ []))))
    ]

-- the length of a user packet, and of the string
pub user_long : (c : Config) (plp : ℕ) (at : ℕ → List ℕ) → ((j : ℕ) → length (at j) ≡ 188) → (k : ℕ)
    → length (user_packet (plp_at c.plps plp).delete at k) ≡ up_bytes c plp
unfolding up_bytes
user_long c plp at whole k =
    elim (plp_at c.plps plp).delete as (λ d. length (drop 1 (at k) ++ cond d (dnp (keeps_of d at) k ∷ []) []) ≡ cond
    d 188 187) [
      | true ↦ omega (
        arith,
        length-append (drop 1 (at k)) (dnp (keeps_of true at) k ∷ []),
        length-drop
            1 (at k),
        whole k,
      )
      | false ↦ omega (arith, length-append (drop 1 (at k)) [], length-drop 1 (at k), whole k)
    ]

pub length-up : (c : Config) (plp : ℕ) (at : ℕ → List ℕ) (n : ℕ) → ((j : ℕ) → length (at j) ≡ 188)
    → length (plp_string c plp at n) ≡ up_place (up_bytes c plp) (plp_keeps c plp at) n
length-up c plp at n whole = length-string (user_packet (plp_at c.plps plp).delete at) (up_bytes c plp)
    (plp_keeps c plp at) n
    (user_long c plp at whole)

-- the strings after one packet more
pub up_push : DecidedByThePast → (d : Bool) (at to : ℕ → List ℕ) (n : ℕ) (b : Bool) → Same to at n → keeps_of d to n ≡ b
    → up_string d to (n + 1) ≡ up_string d at n ++ cond b (user_packet d to n) []
up_push past d at to n b h e =
    string_more (user_packet d to) (keeps_of d to) n
    ∙ ap (λ (l : List ℕ). l ++ cond (keeps_of d to n) (user_packet d to n) [])
    (up_same past d to at n h)
    ∙ ap (λ (c : Bool). up_string d at n ++ cond c (user_packet d to n) []) e

pub slots_push : DecidedByThePast → (d : Bool) (at to : ℕ → List ℕ) (n : ℕ) (b : Bool) → Same to at n
    → keeps_of d to n ≡ b
    → kept_slots (keeps_of d to) (n + 1) ≡ kept_slots (keeps_of d at) n ++ cond b (n ∷ []) []
slots_push past d at to n b h e =
    kept_more (keeps_of d to) n ∙ ap (λ (l : List ℕ). l ++ cond (keeps_of d to n) (n ∷ []) [])
    (slots_same _ _ n (keeps_same past d to at n h))
    ∙ ap (λ (c : Bool). kept_slots (keeps_of d at) n ++ cond c (n ∷ []) []) e

-- the user packets that begin before a place in the string are among all of them
pub few : (len s count : ℕ) → 1 ≤ len → s ≤ len * count → div_ceil s len ≤ count
few len s count one le =
    let bound = div_ceil_times s len one in
    elim (cases_lt count (div_ceil s len)) [
      | inl lt ↦ let h : (count + 1) * len ≤ div_ceil s len * len = mul-le-mul_right len (omega arith) in
          absurd (omega (arith, bound.1, h, le))
      | inr h ↦ h
    ]

-- What a packet adds, kept or not.
pub record Adds (chain new : Chain) (c : Config) (plp : ℕ) (ps : List (List ℕ)) (x : List ℕ) (b : Bool) : Type 0 where
  pub settings : new.settings ≡ chain.settings
  pub slot : new.slot ≡ chain.slot + 1
  pub deleter : DeleterStandsFor new.deleter (plp_at c.plps plp).delete (ps ++ x ∷ [])
  pub sent : new.sent ≡ chain.sent
  pub made : new.made ≡ chain.made
  pub pending : new.pending.items ≡ chain.pending.items
      ++ cond b (user_packet (plp_at c.plps plp).delete (packet_at (ps ++ x ∷ [])) (length ps)) []
  pub slots : new.slots.items ≡ chain.slots.items ++ cond b (length ps ∷ []) []

rest_added : DecidedByThePast → (chain new : Chain) (c : Config) (plp : ℕ) (ps : List (List ℕ)) (x : List ℕ) (b : Bool)
    → 1 ≤ up_bytes c plp
    → ((k : ℕ) → length (packet_at ps k) ≡ 188) → plp_keeps c plp (packet_at (ps ++ x ∷ [])) (length ps) ≡ b
    → HoldsRest chain c plp ps → Adds chain new c plp ps x b → HoldsRest new c plp (ps ++ x ∷ [])
rest_added past chain new c plp ps x b one whole keeps h a =
    let d : Bool = (plp_at c.plps plp).delete in
    let at : ℕ → List ℕ = packet_at ps in
    let to : ℕ → List ℕ = packet_at (ps ++ x ∷ []) in
    let n : ℕ = length ps in
    let q : ℕ = div_ceil chain.sent (up_bytes c plp) in
    let same = at_before ps x in
    let len : length (ps ++ x ∷ []) ≡ length ps + 1 = length-append ps (x ∷ []) in
    let up = up_push past d at to n b same keeps in
    let kept = slots_push past d at to n b same keeps in
    let within : q ≤ length (kept_slots (keeps_of d at) n) =
    few (up_bytes c plp) chain.sent (length (kept_slots (keeps_of d at) n)) one
    (omega (arith, h.behind, length-up c plp at n whole)) in
    record {
      pending = a.pending ∙ ap (λ (l : List ℕ). l ++ cond b (user_packet d to n) []) h.pending
          ∙ sym (drop-append-le chain.sent (up_string d at n) (cond b (user_packet d to n) []) h.behind)
          ∙ ap (drop chain.sent) (sym up)
          ∙ ap (λ (v : ℕ). drop v (up_string d to (n + 1))) (sym a.sent)
          ∙ ap (λ (v : ℕ). drop new.sent (up_string d to v)) (sym len);
      slots = a.slots ∙ ap (λ (l : List ℕ). l ++ cond b (n ∷ []) []) h.slots
          ∙ sym (drop-append-le q (kept_slots (keeps_of d at) n) (cond b (n ∷ []) []) within)
          ∙ ap (drop q) (sym kept)
          ∙ ap (λ (v : ℕ). drop (div_ceil v (up_bytes c plp)) (kept_slots (keeps_of d to) (n + 1))) (sym a.sent)
          ∙ ap (λ (v : ℕ). drop (div_ceil new.sent (up_bytes c plp)) (kept_slots (keeps_of d to) v)) (sym len);
      behind =
          let e = ap length up ∙ length-append (up_string d at n) (cond b (user_packet d to n) []) in
          rw len (omega (arith, e, h.behind, a.sent));
    }

pub added : DecidedByThePast → SlotLength → (chain new : Chain) (c : Config) (plp : ℕ) (ps : List (List ℕ))
    (m : ℕ) (x : List ℕ)
    (b : Bool) → 1 ≤ up_bytes c plp
    → Holds chain c plp ps m → length x ≡ 188 → length ps < slots_by c plp (m * epoch_ticks c plp)
    → plp_keeps c plp (packet_at (ps ++ x ∷ [])) (length ps) ≡ b → Adds chain new c plp ps x b
    → Holds new c plp (ps ++ x ∷ []) m
added past lengths chain new c plp ps m x b one h long room keeps a =
    let same = at_before ps x in
    let len : length (ps ++ x ∷ []) ≡ length ps + 1 = length-append ps (x ∷ []) in
    let slot = lengths c plp h.plan.rules h.place in
    let pos : 1 ≤ num c = omega (arith, slot.0, slot.2) in
    record {
      plan = h.plan;
      place = h.place;
      settings = rw a.settings h.settings;
      slot = a.slot ∙ ap (λ (v : ℕ). v + 1) h.slot ∙ sym len;
      deleter = a.deleter;
      whole = whole_push ps x h.whole long;
      sent = a.sent ∙ h.sent ∙ ap (λ (v : ℕ). v + chain.made * field_bytes c plp)
          (sym (before_same (rates_of c plp (epoch_ticks c plp)) (plp_keeps c plp (packet_at (ps ++ x ∷ [])))
          (plp_keeps c plp (packet_at ps)) m (length ps) pos h.from
          (keeps_same past (plp_at c.plps plp).delete _ _ (length ps) same)))
          ∙ ap (λ (v : ℕ). sent_before (rates_of c plp (epoch_ticks c plp)) (plp_keeps c plp (packet_at (ps ++ x ∷ [])))
          m + v
          * field_bytes c plp) (sym a.made);
      few = rw (a.made, a.settings) h.few;
      rest = rest_added past chain new c plp ps x b one h.whole keeps h.rest a;
      from = omega (arith, h.from, len);
      to = omega (arith, room, len);
    }

-- what a deleter's answer says
pub is_deleted : (b : Bool) (d : ℕ) → None ≡ cond b (Some d) None → b ≡ false
is_deleted true d e = cc
is_deleted false d e = refl

pub record IsAnswer (b : Bool) (d v : ℕ) : Type 0 where
  pub kept : b ≡ true
  pub dnp : v ≡ d

pub is_answer : (b : Bool) (d v : ℕ) → Some v ≡ cond b (Some d) None → IsAnswer b d v
is_answer true d v e = record { kept = refl; dnp = cc }
is_answer false d v e = cc

pub skipped : (chain new : Chain) (c : Config) (plp : ℕ) (ps : List (List ℕ)) (x : List ℕ)
    → new.settings ≡ chain.settings
    → new.slot ≡ chain.slot + 1
    → DeleterStandsFor new.deleter (plp_at c.plps plp).delete (ps ++ x ∷ []) → new.sent ≡ chain.sent
    → new.made ≡ chain.made
    → new.pending.items ≡ chain.pending.items → new.slots.items ≡ chain.slots.items → Adds chain new c plp ps x false
skipped chain new c plp ps x e0 e1 e2 e3 em e4 e5 =
    record {
      settings = e0;
      slot = e1;
      deleter = e2;
      sent = e3;
      made = em;
      pending = e4 ∙ sym (append-nil chain.pending.items);
      slots = e5 ∙ sym (append-nil chain.slots.items);
    }

-- the bytes of a user packet
kept_bytes : (c : Config) (plp : ℕ) (x : List ℕ) (g : ℕ) → length x ≡ 188
    → take (up_bytes c plp) (drop 1 x ++ g ∷ []) ≡ drop 1 x
    ++ cond (plp_at c.plps plp).delete (g ∷ []) []
unfolding up_bytes
kept_bytes c plp x g e =
    elim (plp_at c.plps plp).delete as (λ d. take (cond d 188 187) (drop 1 x ++ g ∷ []) ≡ drop 1 x
    ++ cond d (g ∷ []) []) [
      | true ↦ take_all 188 (drop 1 x ++ g ∷ []) (omega (arith, length-append (drop 1 x) (g ∷ []), length-drop 1 x))
      | false ↦ take_at (drop 1 x) (g ∷ []) 187 (omega (arith, length-drop 1 x)) ∙ sym (append-nil (drop 1 x))
    ]

-- a packet that is kept: mid is the chain before, but for its deleter and its memory
pub kept_on : (chain mid new : Chain) (c : Config) (plp : ℕ) (ps : List (List ℕ)) (m : ℕ) (x : List ℕ) (g : ℕ)
    → Holds chain c plp ps m → length x ≡ 188
    → mid.settings ≡ chain.settings → mid.slot ≡ chain.slot → mid.sent ≡ chain.sent → mid.made ≡ chain.made
    → mid.pending.items ≡ chain.pending.items → mid.slots.items ≡ chain.slots.items
    → DeleterStandsFor mid.deleter (plp_at c.plps plp).delete (ps ++ x ∷ [])
    → g ≡ dnp (plp_keeps c plp (packet_at (ps ++ x ∷ []))) (length ps)
    → Keeps mid new x g → Adds chain new c plp ps x true
kept_on chain mid new c plp ps m x g h long e0 e1 e2 em e3 e4 stands is k =
    let d : Bool = (plp_at c.plps plp).delete in
    let up : mid.settings.up_bytes ≡ up_bytes c plp = ap (λ s. s.up_bytes) e0 ∙ h.settings.up in
    record {
      settings = k.settings ∙ e0;
      slot = k.slot ∙ ap (λ (v : ℕ). v + 1) e1;
      deleter = rw k.deleter stands;
      sent = k.sent ∙ e2;
      made = k.made ∙ em;
      pending = k.pending ∙ ap (λ (l : List ℕ). l ++ take mid.settings.up_bytes (drop 1 x ++ g ∷ [])) e3
          ∙ ap (λ (l : List ℕ). chain.pending.items ++ l)
          (ap (λ (v : ℕ). take v (drop 1 x ++ g ∷ [])) up
          ∙ kept_bytes c plp x g long
          ∙ ap (λ (v : ℕ). drop 1 x ++ cond d (v ∷ []) []) is
          ∙ ap (λ (l : List ℕ). drop 1 l ++ cond d (dnp (plp_keeps c plp (packet_at (ps ++ x ∷ []))) (length ps) ∷ [])
          [])
          (sym (at_last ps x)));
      slots = k.slots ∙ ap (λ (l : List ℕ). l ++ mid.slot ∷ []) e4 ∙ ap (λ (v : ℕ). chain.slots.items ++ v ∷ []) (e1
          ∙ h.slot);
    }
