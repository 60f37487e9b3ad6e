-- What was placed makes a group.
use Rattle.std.proofs.Common.{◌≡◌, ℕ, ◌+◌, ◌-◌, ◌<◌, ◌&&◌, Bool, true, false, List, [], ◌∷◌, ◌++◌, length, take, Some}
use Rattle.std.proofs.Common.{None, is_some, refl, ap, ap₂, sym, subst, ◌∙◌, ⊎_elim, arith}
use Rattle.std.specs.Prelude.{nat_lt, slice_index, slice_index_or, if◌then◌else◌}
use Rattle.std.specs.List.{flat_map, list_all, range_with_len}
use Rattle.std.proofs.lemmas.Bool.{cases_order, lt-ltb, false≢true, true≢false}
use Rattle.std.proofs.lemmas.List.{length-append}
use Rattle.terms.proofs.RangeLemmas.{map_same, flat_same, alls_same}
use Rattle.linked_pool.specs.Pool.{list_at}
use Rattle.plp_config.specs.Places.{places}
use Rattle.plp_config.specs.declared.config.Config.{Config}
use Rattle.t2mi_packet.specs.declared.packet.Body.{Body}
use Rattle.frame_groups.specs.Groups.{Group}
use Rattle.open_group.specs.Holds.{Holds}
use Rattle.frame_weave.proofs.SignalLemmas.{has_parts}
use Rattle.frame_weave.proofs.SlotLemmas.{with_true}
use Rattle.frame_weave.proofs.SumLemmas.{start_more, not_all_below}
use Rattle.frame_weave.proofs.WeaveLemmas.{made_group, some_front}
use Rattle.frame_weave.specs.Made.{HoldsMade, slot_bodies, all_bodies}
use Rattle.frame_weave.specs.Placed.{Placed, blocks_at, block_at, are_alike, is_one}
use Rattle.frame_weave.specs.Places.{start_of, place_count, has_room}
use Rattle.frame_weave.specs.Slots.{IsLaid, HoldsPlaced, AreSized}
use Rattle.frame_weave.specs.Weaves.{State, TakesFirst}
use Rattle.frame_weave.specs.Woven.{same_dynamic, counts_by, placed_by, placed_of, block_body, plp_bodies, front_bodies}
use Rattle.frame_weave.specs.Woven.{woven_bodies, group_with, is_whole, woven_by}
use Rattle.frame_weave.specs.declared.made.MadeGroup.{MadeGroup}
use Rattle.frame_weave.specs.declared.slots.Slots.{Slots}

-- the first of some blocks
take_some : (blocks : List (List ℕ)) → nat_lt 0 (length (take 1 blocks)) ≡ nat_lt 0 (length blocks)
take_some [] = refl
take_some (b ∷ more) = sym (lt-ltb 0 (length (b ∷ more)) (omega arith))

take_first : (blocks : List (List ℕ)) → slice_index_or (take 1 blocks) 0 [] ≡ slice_index_or blocks 0 []
take_first [] = refl
take_first (b ∷ more) = refl

unlike_some : (blocks : List (List ℕ)) → are_alike blocks ≡ false → 0 < length (take 1 blocks)
unlike_some [] e = absurd (true≢false e)
unlike_some (b ∷ more) e = omega arith

and_false : (t : Bool) → (t && false) ≡ false
and_false true = refl
and_false false = refl

-- at each place a block stands, and no other one
full_is : (c : Config) (counts : List ℕ) (slots : Slots) (placed : List Placed) → HoldsPlaced slots placed
    → AreSized c counts slots.pool
    → (slots.alike && list_all (λ k. nat_lt 0 (length (list_at slots.pool k)))
    (range_with_len 0 (place_count c counts)))
    ≡ list_all (λ k. is_one (blocks_at placed k)) (range_with_len 0 (place_count c counts))
full_is c counts slots placed h sized = go slots.alike refl
  where
    full : Bool
    full = list_all (λ k. nat_lt 0 (length (list_at slots.pool k))) (range_with_len 0 (place_count c counts))

    go : (t : Bool) → slots.alike ≡ t
        → (slots.alike && full) ≡ list_all (λ k. is_one (blocks_at placed k)) (range_with_len 0 (place_count c counts))
    go true e =
        ap (λ (t : Bool). t && full) e
        ∙ alls_same (λ k. nat_lt 0 (length (list_at slots.pool k))) (λ k. is_one (blocks_at placed k))
        0 (place_count c counts)
        (λ k low high.
        ap (λ (l : List (List ℕ)). nat_lt 0 (length l)) (h.first k)
        ∙ take_some (blocks_at placed k) ∙ with_true (nat_lt 0 (length (blocks_at placed k)))
        ∙ ap (λ (t : Bool). nat_lt 0 (length (blocks_at placed k)) && t) (sym (h.same e k)))
    go false e =
        let there = h.other e in
        let k : ℕ = there.0 in
        let some = unlike_some (blocks_at placed k) there.1 in
        let held = ap length (h.first k) in
        let inside : k < place_count c counts =
        ⊎_elim (λ (s : k ≡ place_count c counts).
        let none = ap length (sized.none k (omega (arith, s))) in absurd (omega (arith, none, held, some)))
        (⊎_elim (λ (l : k < place_count c counts). l)
        (λ (l : place_count c counts < k).
        let none = ap length (sized.none k (omega (arith, l))) in absurd (omega (arith, none, held, some))))
        (cases_order k (place_count c counts)) in
        ap (λ (t : Bool). t && full) e
        ∙ sym (not_all_below (λ k. is_one (blocks_at placed k)) (place_count c counts) k inside
        (ap (λ (t : Bool). nat_lt 0 (length (blocks_at placed k)) && t) there.1
        ∙ and_false (nat_lt 0 (length (blocks_at placed k)))))

all_five : (a r x f : Bool) → (true && a && r && x && f) ≡ (a && (r && (x && f)))
all_five true true x f = refl
all_five true false x f = refl
all_five false r x f = refl

some_if : {A : Type 0} (b : Bool) (x : A) → is_some (if b then Some x else None) ≡ b
some_if true x = refl
some_if false x = refl

-- it is told whether they make one
pub woven_told : (c : Config) (n : ℕ) (s : State) (sig gs : List Group) → TakesFirst c s n sig
    → HoldsPlaced s.slots (placed_of c n sig gs)
    → (s.is_taken && s.agree && s.layout.is_room && s.slots.alike
    && list_all (λ place. nat_lt 0 (length (list_at s.slots.pool place)))
    (range_with_len 0 (slice_index_or s.layout.starts.items (length c.plps) 0)))
    ≡ is_some (woven_by c n sig gs)
woven_told c n s [] gs first blocks =
    ap (λ (t : Bool). t && s.agree && s.layout.is_room && s.slots.alike
    && list_all (λ place. nat_lt 0 (length (list_at s.slots.pool place)))
    (range_with_len 0 (slice_index_or s.layout.starts.items (length c.plps) 0))) first.0
woven_told c n s (t ∷ more) gs first blocks =
    let counts = counts_by c n t in
    let placed = placed_by c n t gs in
    let g = first.signalled in
    let agree = list_all (same_dynamic t) more in
    let full : ℕ → Bool = λ count. list_all (λ place. nat_lt 0 (length (list_at s.slots.pool place)))
    (range_with_len 0 count) in
    let count = slice_index_or s.layout.starts.items (length c.plps) 0 in
    ap (λ (b : Bool). b && s.agree && s.layout.is_room && s.slots.alike && full count) g.taken
    ∙ ap (λ (b : Bool). true && b && s.layout.is_room && s.slots.alike && full count) first.agree
    ∙ ap (λ (b : Bool). true && agree && b && s.slots.alike && full count) g.laid.room
    ∙ ap (λ (k : ℕ). true && agree && has_room c counts && s.slots.alike && full k)
    (g.laid.starts (length c.plps) (omega arith))
    ∙ all_five agree (has_room c counts) s.slots.alike (full (place_count c counts))
    ∙ ap (λ (b : Bool). agree && (has_room c counts && b)) (full_is c counts s.slots placed blocks first.sized)
    ∙ sym (some_if (agree && is_whole c n t placed) (group_with c n (woven_bodies c n t placed)))

-- the blocks at their places are those of the frame
all_blocks : (c : Config) (n : ℕ) (counts : List ℕ) (s : State) (placed : List Placed) → IsLaid c counts s.layout
    → HoldsPlaced s.slots placed → all_bodies c n s.slots.pool s.layout.starts.items (length c.plps)
    ≡ flat_map (plp_bodies c n counts placed) (places c)
all_blocks c n counts s placed laid h =
    let starts = s.layout.starts.items in
    let pool = s.slots.pool in
    flat_same (λ plp. slot_bodies c n pool plp (slice_index starts plp) (slice_index starts (plp + 1)
    - slice_index starts plp))
    (plp_bodies c n counts placed) 0 (length c.plps)
    (λ plp low high.
    let start = laid.starts plp (omega (arith, high)) in
    let end = laid.starts (plp + 1) (omega (arith, high)) in
    let more = start_more counts plp in
    ap₂ (λ (a m : ℕ). slot_bodies c n pool plp a m) start (omega (arith, start, end, more))
    ∙ map_same (λ k. block_body c n plp (slice_index_or (list_at pool k) 0 []))
    (λ k. block_body c n plp (block_at placed k))
    (start_of counts plp) (slice_index counts plp)
    (λ k from to. ap (block_body c n plp)
    (ap (λ (l : List (List ℕ)). slice_index_or l 0 []) (h.first k) ∙ take_first (blocks_at placed k))))

if_some : {A : Type 0} (b : Bool) (x y : A) → (if b then Some x else None) ≡ Some y → Some x ≡ Some y
if_some true x y e = e
if_some false x y e = absurd (false≢true (ap is_some e))

-- and the group is made of them
pub woven_made : (c : Config) (n : ℕ) (s : State) (made : MadeGroup) (sig gs : List Group) (g : Group)
    → TakesFirst c s n sig
    → HoldsPlaced s.slots (placed_of c n sig gs) → woven_by c n sig gs ≡ Some g
    → ((bodies : List Body) → HoldsMade c n s.made bodies
    → HoldsMade c n made (bodies ++ all_bodies c n s.slots.pool s.layout.starts.items (length c.plps)))
    → Holds made.group [] (Some g)
woven_made c n s made [] gs g first blocks is pushed = absurd (false≢true (ap is_some is))
woven_made c n s made (t ∷ more) gs g first blocks is pushed =
    let counts = counts_by c n t in
    let placed = placed_by c n t gs in
    let front = front_bodies c n t in
    let back = flat_map (plp_bodies c n counts placed) (places c) in
    let l1 = has_parts c n t.packets first.signalled.has in
    let some = some_front c n t l1.0 l1.1 in
    let size = length-append front back in
    let held = subst (λ (l : List Body). HoldsMade c n made (front ++ l))
    (all_blocks c n counts s placed first.signalled.laid blocks) (pushed front first.signalled.front) in
    subst (Holds made.group [])
    (if_some (list_all (same_dynamic t) more && is_whole c n t placed) (group_with c n (woven_bodies c n t placed))
    g is)
    (made_group c n made.is_begun made.group (front ++ back) (omega (arith, some, size)) held)
