-- What came of a frame stands where it stood in it.
use Rattle.std.proofs.Common.{◌≡◌, ℕ, ◌+◌, ◌%◌, ◌<◌, ◌≤◌, ◌&&◌, Bool, true, List, [], ◌∷◌, ◌++◌, map, length, max}
use Rattle.std.proofs.Common.{filter, get_or, refl, ap, ap₂, sym, subst, ◌∙◌, arith}
use Rattle.std.specs.Prelude.{bytes_eq, slice_index_or, if◌then◌else◌}
use Rattle.std.specs.List.{All, list_all}
use Rattle.std.proofs.lemmas.Bool.{lt-ltb, eqb-true}
use Rattle.std.proofs.lemmas.List.Elements.{All-filter, All-map, All-tail, filter_passes}
use Rattle.std.proofs.lemmas.Slice.Eq.{bytes_eq-Decides}
use Rattle.frame_weave.proofs.SlotLemmas.{at}
use Rattle.frame_weave.specs.Laws.{Stood, StoodBehind, AllStood, IsOfFrame}
use Rattle.frame_weave.specs.Placed.{Placed, next_place, place_of, has_place, one_placed, first_behind, placed_from}
use Rattle.frame_weave.specs.Placed.{stands_at, blocks_at, are_alike}
use Rattle.frame_weave.specs.Places.{start_of}

-- packet_count tells the place if it is near
next_is : (origin first place : ℕ) → first ≤ place → place < first + 256
    → next_place origin ((origin + place) % 256) first ≡ place
next_is origin first place low near = omega (arith, low, near)

pub stood_placed : (counts : List ℕ) (origin first : ℕ) (came : List Stood) → AllStood counts origin first came
    → placed_from counts origin first (map (λ s. s.block) came) ≡ map
    (λ s. record { place = s.place; bytes = s.block.bytes }) came
stood_placed counts origin first [] h = refl
stood_placed counts origin first (s ∷ more) h =
    let b : StoodBehind counts origin first s = h.0 in
    let start = start_of counts s.block.plp in
    let bytes = s.block.bytes in
    let place : place_of counts origin first s.block ≡ s.place = ap (λ (n : ℕ). next_place origin n (max first start))
    b.count
    ∙ next_is origin (max first start) s.place b.low b.near in
    let has : has_place counts origin first s.block ≡ true =
    lt-ltb (place_of counts origin first s.block) (start_of counts (s.block.plp + 1))
    (subst (λ (k : ℕ). k < start_of counts (s.block.plp + 1)) (sym place) b.high) in
    let one : one_placed counts origin first s.block ≡ at s.place bytes ∷ [] =
    ap (λ (t : Bool). if t then at (place_of counts origin first s.block) bytes ∷ [] else []) has
    ∙ ap (λ (k : ℕ). at k bytes ∷ []) place in
    let behind : first_behind counts origin first s.block ≡ s.place + 1 =
    ap (λ (t : Bool). if t then place_of counts origin first s.block + 1 else first) has
    ∙ ap (λ (k : ℕ). k + 1) place in
    ap₂ (λ (l : List Placed) (k : ℕ). l ++ placed_from counts origin k (map (λ s. s.block) more)) one behind
    ∙ ap (λ (l : List Placed). at s.place bytes ∷ l) (stood_placed counts origin (s.place + 1) more h.1)

-- all blocks at a place are one
all_one : (bytes_of : ℕ → List ℕ) (placed : List Placed) (k : ℕ) → All (λ (p : Placed). p.bytes ≡ bytes_of p.place)
    placed
    → All (λ (b : List ℕ). b ≡ bytes_of k) (blocks_at placed k)
all_one bytes_of placed k h =
    All-map (λ (b : List ℕ). b ≡ bytes_of k) (λ (p : Placed). p.bytes) (filter (stands_at k) placed)
    (λ i d l.
    All-filter (stands_at k) (λ (p : Placed). p.bytes ≡ bytes_of p.place) placed h i d l
    ∙ ap bytes_of (eqb-true (get_or (filter (stands_at k) placed) i d).place k
    (filter_passes (stands_at k) placed i d l)))

same_as : (b x : List ℕ) (more : List (List ℕ)) → b ≡ x → All (λ (y : List ℕ). y ≡ x) more
    → list_all (bytes_eq b) more ≡ true
same_as b x [] e h = refl
same_as b x (y ∷ more) e h = ap (λ (t : Bool). t && list_all (bytes_eq b) more)
    ((bytes_eq-Decides b y).1 (e ∙ sym (h 0 [] (omega arith))))
    ∙ same_as b x more e (All-tail (λ (y : List ℕ). y ≡ x) y more h)

one_alike : (x : List ℕ) (blocks : List (List ℕ)) → All (λ (b : List ℕ). b ≡ x) blocks → are_alike blocks ≡ true
one_alike x [] h = refl
one_alike x (b ∷ more) h = same_as b x more (h 0 [] (omega arith)) (All-tail (λ (y : List ℕ). y ≡ x) b more h)

one_first : (x : List ℕ) (blocks : List (List ℕ)) → All (λ (b : List ℕ). b ≡ x) blocks → 0 < length blocks
    → slice_index_or blocks 0 [] ≡ x
one_first x [] h some = absurd (omega (arith, some))
one_first x (b ∷ more) h some = h 0 [] (omega arith)

pub of_frame : (bytes_of : ℕ → List ℕ) (placed : List Placed) (place : ℕ)
    → All (λ (p : Placed). p.bytes ≡ bytes_of p.place) placed → IsOfFrame bytes_of placed place
of_frame bytes_of placed place h =
    let all = all_one bytes_of placed place h in
    record {
      alike = one_alike (bytes_of place) (blocks_at placed place) all;
      first = one_first (bytes_of place) (blocks_at placed place) all;
    }
