-- The end of a frame.
use Rattle.std.proofs.Common.{◌≡◌, ℕ, ◌+◌, ◌-◌, ◌*◌, ◌≤◌, Bool, List, [], ◌∷◌, Option, Some, None, length, take, drop}
use Rattle.std.proofs.Common.{map, refl}
use Rattle.std.proofs.Common.{ap, sym, ◌∙◌, arith, add-one, length-drop}
use Rattle.std.specs.Int.{div_ceil}
use Rattle.std.proofs.lemmas.List.{drop-drop}
use Rattle.terms.specs.Bits.{bits_of}
use Rattle.bb_frame.specs.BasebandFrame.{frame_bits}
use Rattle.bb_frame.specs.declared.header.Header.{Header}
use Rattle.plp_config.specs.Capacity.{block_bytes, field_bytes, up_bytes}
use Rattle.plp_config.specs.SlotTime.{num, slots_by, epoch_ticks}
use Rattle.plp_config.specs.Laws.{SlotLength, FieldRange}
use Rattle.plp_config.specs.declared.config.Config.{Config}
use Rattle.null_delete.specs.Deletion.{kept_slots, packet_at}
use Rattle.mode_adapt.specs.declared.chain.Chain.{Chain}
use Rattle.mode_adapt.specs.declared.block_header.Settings.{Settings}
use Rattle.mode_adapt.specs.Blocks.{rates_of, plp_keeps, plp_string, first_up, with_place, up_with, header_at}
use Rattle.mode_adapt.specs.Blocks.{block_bits}
use Rattle.mode_adapt.specs.Pieces.{header_by, first_in, piece_of}
use Rattle.mode_adapt.specs.Queue.{arrived, sent, sent_before}
use Rattle.mode_adapt.specs.Settings.{AreSettings}
use Rattle.mode_adapt.specs.StandsFor.{HoldsRest, Holds}
use Rattle.mode_adapt.specs.Steps.{Sends}
use Rattle.mode_adapt.proofs.FirstLemmas.{first_of_rest, number_le}
use Rattle.mode_adapt.proofs.OfferLemmas.{length-up}

-- the header by settings is that of the configuration
header_same : (s : Settings) (c : Config) (plp x len : ℕ) (up : Option (ℕ × ℕ)) → AreSettings s c plp
    → header_by s x len up
    ≡ header_at c plp x len up
header_same s c plp x len None a = rw (a.matype1, a.matype2) refl
header_same s c plp x len (Some up) a = rw (a.matype1, a.matype2, a.times) refl

-- a frame by equal parts
pub frame_same : (h g : Header) (a b : List Bool) (m n : ℕ) → h ≡ g → a ≡ b → m ≡ n
    → frame_bits h a m ≡ frame_bits g b n
frame_same h g a b m n e f k = rw (e, f, k) refl

-- the block of what waits is that of the string
pub block_here : FieldRange → (chain : Chain) (c : Config) (plp : ℕ) (ps : List (List ℕ)) (count : ℕ)
    → 1 ≤ up_bytes c plp
    → AreSettings chain.settings c plp → HoldsRest chain c plp ps
    → piece_of chain count ≡ block_bits c plp (packet_at ps) (length ps) chain.sent (chain.sent + count)
block_here fields chain c plp ps count one a h =
    let keeps : ℕ → Bool = plp_keeps c plp (packet_at ps) in
    let span : count ≡ chain.sent + count - chain.sent = omega arith in
    let first : first_in chain count ≡ with_place (up_bytes c plp) keeps
    (first_up (up_bytes c plp) keeps (length ps) chain.sent (chain.sent + count)) =
    ap (λ (v : ℕ). up_with v chain.slots.items (div_ceil chain.sent v) (div_ceil chain.sent v) (chain.sent + count))
    a.up
    ∙ ap (λ (l : List ℕ). up_with (up_bytes c plp) l (div_ceil chain.sent (up_bytes c plp))
    (div_ceil chain.sent (up_bytes c plp))
    (chain.sent + count)) h.slots
    ∙ first_of_rest (up_bytes c plp) keeps chain.sent chain.sent (chain.sent + count) (length ps) one (omega arith) in
    let bytes : take count chain.pending.items ≡ take (chain.sent + count - chain.sent)
    (drop chain.sent (plp_string c plp (packet_at ps) (length ps))) =
    ap (take count) h.pending ∙ ap (λ (v : ℕ). take v (drop chain.sent (plp_string c plp (packet_at ps) (length ps))))
    span in
    let size : 8 * (chain.settings.field_bytes + 10) ≡ 8 * block_bytes c plp = omega
    (arith, a.field, (fields c plp).2) in
    frame_same _ _ _ _ _ _
    (header_same chain.settings c plp chain.sent count (first_in chain count) a
    ∙ ap (header_at c plp chain.sent count) first
    ∙ ap (λ (v : ℕ).
    header_at c plp chain.sent v
    (with_place (up_bytes c plp) keeps (first_up (up_bytes c plp) keeps (length ps) chain.sent (chain.sent + count))))
    span)
    (ap bits_of bytes) size

pub map_both : {A B C : Type 0} (f : A → C) (g : B → C) (h : A → B) → ((a : A) → f a ≡ g (h a)) → (xs : List A)
    → map f xs ≡ map g (map h xs)
map_both f g h each [] = refl
map_both f g h each (x ∷ xs) = rw (each x, map_both f g h each xs) refl

-- all bytes that have arrived stand in the string
pub all_came : (c : Config) (plp : ℕ) (ps : List (List ℕ)) (m : ℕ) → ((k : ℕ) → length (packet_at ps k) ≡ 188)
    → length ps ≡ slots_by c plp (m * epoch_ticks c plp)
    → arrived (rates_of c plp (epoch_ticks c plp)) (plp_keeps c plp (packet_at ps)) m
    ≡ length (plp_string c plp (packet_at ps) (length ps))
all_came c plp ps m whole due =
    ap (λ (v : ℕ). up_bytes c plp * length (kept_slots (plp_keeps c plp (packet_at ps)) v)) (sym due)
    ∙ sym (length-up c plp (packet_at ps) (length ps) whole)

pub num_pos : SlotLength → (chain : Chain) (c : Config) (plp : ℕ) (ps : List (List ℕ)) (m : ℕ) → Holds chain c plp ps m
    → 1 ≤ num c
num_pos lengths chain c plp ps m h = let slot = lengths c plp h.plan.rules h.place in omega (arith, slot.0, slot.2)

-- how much waits
pub waits : (chain : Chain) (c : Config) (plp : ℕ) (ps : List (List ℕ)) → HoldsRest chain c plp ps
    → length chain.pending.items
    ≡ length (plp_string c plp (packet_at ps) (length ps)) - chain.sent
waits chain c plp ps h = ap length h.pending ∙ length-drop chain.sent (plp_string c plp (packet_at ps) (length ps))

pub rest_sent : (chain new : Chain) (c : Config) (plp : ℕ) (ps : List (List ℕ)) (count : ℕ) → 1 ≤ up_bytes c plp
    → AreSettings chain.settings c plp → count ≤ length chain.pending.items
    → HoldsRest chain c plp ps → Sends chain new count → HoldsRest new c plp ps
rest_sent chain new c plp ps count one a le h k =
    let kept : List ℕ = kept_slots (plp_keeps c plp (packet_at ps)) (length ps) in
    let len : ℕ = up_bytes c plp in
    let sum : div_ceil chain.sent len + (div_ceil (chain.sent + count) len - div_ceil chain.sent len)
    ≡ div_ceil (chain.sent + count) len =
    omega (arith, number_le (up_bytes c plp) chain.sent (chain.sent + count) one (omega arith)) in
    record {
      pending = k.pending ∙ ap (drop count) h.pending
          ∙ drop-drop count chain.sent (plp_string c plp (packet_at ps) (length ps))
          ∙ ap (λ (v : ℕ). drop v (plp_string c plp (packet_at ps) (length ps))) (sym k.sent);
      slots = k.slots ∙ ap (λ (v : ℕ). drop (div_ceil (chain.sent + count) v - div_ceil chain.sent v) chain.slots.items)
          a.up
          ∙ ap (drop (div_ceil (chain.sent + count) len - div_ceil chain.sent len)) h.slots
          ∙ drop-drop (div_ceil (chain.sent + count) len - div_ceil chain.sent len) (div_ceil chain.sent len) kept
          ∙ ap (λ (v : ℕ). drop v kept) sum
          ∙ ap (λ (v : ℕ). drop (div_ceil v len) kept) (sym k.sent);
      behind = omega (arith, k.sent, le, waits chain c plp ps h, h.behind);
    }

no_more : (a b : ℕ) → a + 0 * b ≡ a
no_more a b = omega arith

-- after the cut of frame m, what has arrived by then and is not sent waits
pub left_over : (chain : Chain) (c : Config) (plp : ℕ) (ps : List (List ℕ)) (m : ℕ) → Holds chain c plp ps (m + 1)
    → chain.made ≡ 0 → length ps ≡ slots_by c plp (m * epoch_ticks c plp)
    → length chain.pending.items ≡ arrived (rates_of c plp (epoch_ticks c plp)) (plp_keeps c plp (packet_at ps)) m
    - sent (rates_of c plp (epoch_ticks c plp)) (plp_keeps c plp (packet_at ps)) m
left_over chain c plp ps m h none due =
    let is : chain.sent ≡ sent (rates_of c plp (epoch_ticks c plp)) (plp_keeps c plp (packet_at ps)) m =
    h.sent ∙ ap (λ (v : ℕ). sent_before (rates_of c plp (epoch_ticks c plp)) (plp_keeps c plp (packet_at ps))
    (m + 1) + v
    * field_bytes c plp) none ∙ no_more _ _ ∙ ap
    (sent_before (rates_of c plp (epoch_ticks c plp)) (plp_keeps c plp (packet_at ps)))
    (add-one m) in
    waits chain c plp ps h.rest
    ∙ ap (λ (v : ℕ). v - chain.sent) (sym (all_came c plp ps m h.whole due))
    ∙ ap (λ (v : ℕ). arrived (rates_of c plp (epoch_ticks c plp)) (plp_keeps c plp (packet_at ps)) m - v) is
