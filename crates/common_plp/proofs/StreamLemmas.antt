-- The streams of a group, slot by slot: their first slots, and what goes in a slot.
use Rattle.std.proofs.Common.{◌≡◌, ℕ, zero, suc, ◌<◌, ◌≤◌, min, Bool, true, false, List, [], ◌∷◌, length, map, take}
use Rattle.std.proofs.Common.{None, refl, ap, ap₂, sym, ◌∙◌, arith, ⊎_elim, length-take}
use Rattle.std.specs.Prelude.{slice_get, is_some, if◌then◌else◌}
use Rattle.std.specs.List.{range_with_len}
use Rattle.std.proofs.Math.ListN.{get_or-eq_default}
use Rattle.std.proofs.lemmas.Bool.{cases_lt}
use Rattle.std.proofs.lemmas.List.{get_or-take, take_min}
use Rattle.std.proofs.lemmas.List.FromFn.{length-map-range_with_len, take-map-range_with_len, get_or-map-range_with_len}
use Rattle.std.proofs.lemmas.Option.{slice_get_past}
use Rattle.terms.proofs.RangeLemmas.{map_same}
use Rattle.ts_packet.specs.Null.{null_packet}
use Rattle.null_delete.specs.Deletion.{packet_at}
use Rattle.common_plp.specs.Shared.{shared_packet, common_packet, own_packet}
use Rattle.common_plp.specs.Split.{slot_of, longest, common_stream, own_stream}

-- ---- the first slots

slot_cut : (stream : List (List ℕ)) (n k : ℕ) → k < n → slice_get (take n stream) k ≡ slice_get stream k
slot_cut stream zero k h = absurd (omega (arith, h))
slot_cut [] (suc n) k h = refl
slot_cut (p ∷ ps) (suc n) zero h = refl
slot_cut (p ∷ ps) (suc n) (suc k) h = slot_cut ps n k (omega (arith, h))

slots_cut : (streams : List (List (List ℕ))) (n k : ℕ) → k < n → slot_of (map (take n) streams) k ≡ slot_of streams k
slots_cut [] n k h = refl
slots_cut (stream ∷ streams) n k h = ap₂ (λ x l. x ∷ l) (slot_cut stream n k h) (slots_cut streams n k h)

longest_cut : (streams : List (List (List ℕ))) (n : ℕ) → longest (map (take n) streams) ≡ min n (longest streams)
longest_cut [] n = omega arith
longest_cut (stream ∷ streams) n = omega (arith, length-take n stream, longest_cut streams n)

-- of what is made of each slot
made_cut : (f : ℕ → List ℕ) (n m : ℕ) → take n (map f (range_with_len 0 m)) ≡ map f (range_with_len 0 (min n m))
made_cut f n m =
    sym (take_min n (map f (range_with_len 0 m)))
    ∙ ap (λ (k : ℕ). take (min n k) (map f (range_with_len 0 m))) (length-map-range_with_len f 0 m)
    ∙ take-map-range_with_len f 0 m (min n m) (omega arith)

pub common_front : (streams : List (List (List ℕ))) (n : ℕ) → take n (common_stream streams) ≡ common_stream
    (map (take n) streams)
common_front streams n =
    let was : ℕ → List ℕ = λ k. common_packet (slot_of streams k) in
    let is : ℕ → List ℕ = λ k. common_packet (slot_of (map (take n) streams) k) in
    let count : ℕ = min n (longest streams) in
    made_cut was n (longest streams)
    ∙ map_same was is 0 count (λ k from to. let below : k < n = omega (arith, to) in ap common_packet
    (sym (slots_cut streams n k below)))
    ∙ ap (λ (m : ℕ). map is (range_with_len 0 m)) (sym (longest_cut streams n))

pub own_front : (streams : List (List (List ℕ))) (input : List (List ℕ)) (n : ℕ)
    → take n (own_stream streams input) ≡ own_stream (map (take n) streams) (take n input)
own_front streams input n =
    let was : ℕ → List ℕ = λ k. own_packet (slot_of streams k) (packet_at input k) in
    let is : ℕ → List ℕ = λ k. own_packet (slot_of (map (take n) streams) k) (packet_at (take n input) k) in
    let count : ℕ = min n (length input) in
    made_cut was n (length input)
    ∙ map_same was is 0 count (λ k from to. let below : k < n = omega (arith, to) in
    ap₂ own_packet (sym (slots_cut streams n k below)) (sym (get_or-take n input k null_packet below)))
    ∙ ap (λ (m : ℕ). map is (range_with_len 0 m)) (sym (length-take n input))

-- ---- one slot

-- nothing is shared behind the end of the longest stream
none_shared : (streams : List (List (List ℕ))) (k : ℕ) → longest streams ≤ k → shared_packet (slot_of streams k) ≡ None
none_shared [] k past = refl
none_shared (stream ∷ streams) k past = rw (slice_get_past stream k (omega (arith, past))) refl

-- what is made of each slot has null packets behind its end, if what is made there is one
made_at : (f : ℕ → List ℕ) (m k : ℕ) → (m ≤ k → f k ≡ null_packet) → packet_at (map f (range_with_len 0 m)) k ≡ f k
made_at f m k past = ⊎_elim (λ (lt : k < m). get_or-map-range_with_len f 0 m k k null_packet lt (omega arith))
    (λ (le : m ≤ k). get_or-eq_default (map f (range_with_len 0 m)) null_packet
    (omega (arith, le, length-map-range_with_len f 0 m))
    ∙ sym (past le)) (cases_lt k m)

pub common_at : (streams : List (List (List ℕ))) (k : ℕ) → packet_at (common_stream streams) k ≡ common_packet
    (slot_of streams k)
common_at streams k =
    made_at (λ k. common_packet (slot_of streams k)) (longest streams) k (λ past. rw (none_shared streams k past) refl)

pub same_null : (b : Bool) → (if b then null_packet else null_packet) ≡ null_packet
same_null true = refl
same_null false = refl

pub own_at : (streams : List (List (List ℕ))) (input : List (List ℕ)) (k : ℕ)
    → packet_at (own_stream streams input) k ≡ own_packet (slot_of streams k) (packet_at input k)
own_at streams input k =
    made_at (λ k. own_packet (slot_of streams k) (packet_at input k)) (length input) k
    (λ past. let none : packet_at input k ≡ null_packet = get_or-eq_default input null_packet past in
    ap (own_packet (slot_of streams k)) none ∙ same_null (is_some (shared_packet (slot_of streams k))))
