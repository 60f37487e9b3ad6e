-- What the finite map of the pairs has at an address.
use Rattle.std.proofs.Common.{◌≡◌, ℕ, zero, suc, ◌+◌, ◌<◌, ◌≤◌, ◌⊎◌, ⊎_elim, inl, inr, Bool, true, false, cond, List}
use Rattle.std.proofs.Common.{[], ◌∷◌}
use Rattle.std.proofs.Common.{◌++◌, ◌/◌, Option, Some, None, length, map, filter, eq-eqb, refl, ap, sym, ◌∙◌, subst}
use Rattle.std.proofs.Common.{arith}
use Rattle.std.specs.Prelude.{slice_index, IfNone, IfSome}
use Rattle.std.specs.Cmp.{nat_cmp_total}
use Rattle.std.specs.FinMap.{find, get, get-from_entries}
use Rattle.std.specs.List.{flat_map, range_with_len}
use Rattle.std.specs.Ordering.{nat_cmp, is_eq}
use Rattle.std.proofs.lemmas.Bool.{cases_eq, cases_lt, eqb-true}
use Rattle.plp_config.specs.Capacity.{block_cells}
use Rattle.plp_config.specs.declared.config.Config.{Config}
use Rattle.scheduler.specs.Shape.{FrameShape, cells_of}
use Rattle.cell_map.specs.Address.{IsCarried, position_of, part_of, address_of}
use Rattle.cell_map.specs.CellMap.{Passes, ordinal_of, pair_of, is_carried, block_pairs, plp_pairs, pairs, cell_map}
use Rattle.cell_map.specs.Laws.{StandsAt, MapHasEachCell, MapHasOnlyCells, DummyHasNoCell}
use Rattle.cell_map.specs.declared.places.Cell.{Cell}
use Rattle.terms.proofs.CaseLemmas.{bool_cases}

abbrev Entries : Type 0
Entries = List (ℕ × Cell)

-- each entry is so
Each : (ℕ × Cell → Type 0) → Entries → Type 0
Each P [] = Unit {0}
Each P (e ∷ es) = P e × Each P es

-- one entry has this key
Has : ℕ → Entries → Type 0
Has key [] = ⊥
Has key (e ∷ es) = (e.0 ≡ key) ⊎ Has key es

each-append : (P : ℕ × Cell → Type 0) (xs ys : Entries) → Each P xs → Each P ys → Each P (xs ++ ys)
unfolding Each
each-append P [] ys a b = b
each-append P (x ∷ xs) ys a b = (a.0, each-append P xs ys a.1 b)

has-left : (key : ℕ) (xs ys : Entries) → Has key xs → Has key (xs ++ ys)
unfolding Has
has-left key [] ys h = absurd h
has-left key (x ∷ xs) ys h = ⊎_elim (λ (a : x.0 ≡ key). inl a) (λ (b : Has key xs). inr (has-left key xs ys b)) h

has-right : (key : ℕ) (xs ys : Entries) → Has key ys → Has key (xs ++ ys)
unfolding Has
has-right key [] ys h = h
has-right key (x ∷ xs) ys h = inr (has-right key xs ys h)

each-flat : (P : ℕ × Cell → Type 0) (f : ℕ → Entries) (s n : ℕ) → ((i : ℕ) → s ≤ i → i < s + n → Each P (f i))
    → Each P (flat_map f (range_with_len s n))
unfolding Each
each-flat P f s zero h = tt
each-flat P f s (suc n) h =
    each-append P (f s) (flat_map f (range_with_len (s + 1) n)) (h s (omega arith) (omega arith))
    (each-flat P f (s + 1) n (λ i a b. h i (omega arith) (omega arith)))

has-flat : (key : ℕ) (f : ℕ → Entries) (s n i : ℕ) → s ≤ i → i < s + n → Has key (f i)
    → Has key (flat_map f (range_with_len s n))
has-flat key f s zero i a b h = absurd (omega arith)
has-flat key f s (suc n) i a b h =
    elim (cases_eq s i) [
      | inl same ↦ has-left key (f s) (flat_map f (range_with_len (s + 1) n))
          (subst (λ (k : ℕ). Has key (f k)) (sym same) h)
      | inr differ ↦ has-right key (f s) (flat_map f (range_with_len (s + 1) n))
          (has-flat key f (s + 1) n i (omega arith) (omega arith) h)
    ]

-- the same of the numbers that pass a test
each-map : (P : ℕ × Cell → Type 0) (f : ℕ → ℕ × Cell) (test : ℕ → Bool) (s n : ℕ)
    → ((i : ℕ) → s ≤ i → i < s + n → test i ≡ true → P (f i)) → Each P (map f (filter test (range_with_len s n)))
unfolding Each
each-map P f test s zero h = tt
each-map P f test s (suc n) h =
    let rest : Each P (map f (filter test (range_with_len (s + 1) n))) =
    each-map P f test (s + 1) n (λ i a b. h i (omega arith) (omega arith)) in
    bool_cases (test s)
    (λ t. subst (λ (b : Bool). Each P (map f (cond b (s ∷ filter test (range_with_len (s + 1) n))
    (filter test (range_with_len (s + 1) n))))) (sym t) (h s (omega arith) (omega arith) t, rest))
    (λ t. subst (λ (b : Bool). Each P (map f (cond b (s ∷ filter test (range_with_len (s + 1) n))
    (filter test (range_with_len (s + 1) n))))) (sym t) rest)

has-map : (key : ℕ) (f : ℕ → ℕ × Cell) (test : ℕ → Bool) (s n i : ℕ) → s ≤ i → i < s + n → test i ≡ true → (f i).0 ≡ key
    → Has key (map f (filter test (range_with_len s n)))
unfolding Has
has-map key f test s zero i a b p h = absurd (omega arith)
has-map key f test s (suc n) i a b p h =
    elim (cases_eq s i) [
      | inl same ↦
          let here : test s ≡ true = ap test same ∙ p in
          subst (λ (b : Bool). Has key (map f (cond b (s ∷ filter test (range_with_len (s + 1) n))
          (filter test (range_with_len (s + 1) n))))) (sym here) (inl (subst (λ (k : ℕ). (f k).0 ≡ key) (sym same) h))
      | inr differ ↦
          let rest : Has key (map f (filter test (range_with_len (s + 1) n))) =
          has-map key f test (s + 1) n i (omega arith) (omega arith) p h in
          bool_cases (test s)
          (λ t. subst (λ (b : Bool). Has key (map f (cond b (s ∷ filter test (range_with_len (s + 1) n))
          (filter test (range_with_len (s + 1) n))))) (sym t) (inr rest))
          (λ t. subst (λ (b : Bool). Has key (map f (cond b (s ∷ filter test (range_with_len (s + 1) n))
          (filter test (range_with_len (s + 1) n))))) (sym t) rest)
    ]

-- what holds of each cell that the frame carries holds of each pair
each-pair : (c : Config) (shape : FrameShape) (frame : ℕ) (P : ℕ × Cell → Type 0)
    → ((plp block cell : ℕ) → IsCarried c shape frame plp block cell → P (pair_of c shape frame plp block cell))
    → Each P (pairs c shape frame)
each-pair c shape frame P h =
    each-flat P (plp_pairs c shape frame) 0 (length c.plps)
    (λ plp _ configured. each-flat P (block_pairs c shape frame plp) 0 (slice_index shape.counts plp)
    (λ block _ sent. each-map P (pair_of c shape frame plp block) (is_carried c shape frame plp block)
    0 (block_cells c plp)
    (λ cell _ within carried.
    h plp block cell
    (record {
      there = record {
        configured = omega (arith, configured);
        sent = omega (arith, sent);
        within = omega
            (arith, within);
      };
      carried = eqb-true (position_of c shape plp block cell / cells_of c shape.counts plp) (part_of c frame plp)
          carried;
    }))))

-- each cell that it carries is in a pair
has-pair : (c : Config) (shape : FrameShape) (frame plp block cell : ℕ) → IsCarried c shape frame plp block cell
    → Has (address_of c shape frame plp block cell) (pairs c shape frame)
has-pair c shape frame plp block cell it =
    has-flat (address_of c shape frame plp block cell) (plp_pairs c shape frame) 0 (length c.plps) plp (omega arith)
    (omega (arith, it.there.configured))
    (has-flat (address_of c shape frame plp block cell) (block_pairs c shape frame plp) 0 (slice_index shape.counts plp)
    block
    (omega arith) (omega (arith, it.there.sent))
    (has-map (address_of c shape frame plp block cell) (pair_of c shape frame plp block)
    (is_carried c shape frame plp block) 0
    (block_cells c plp) cell (omega arith) (omega (arith, it.there.within))
    (eq-eqb (position_of c shape plp block cell / cells_of c shape.counts plp) (part_of c frame plp) it.carried) refl))

-- a test of keys
keys_equal : (a b : ℕ) → is_eq (nat_cmp a b) ≡ true → a ≡ b
keys_equal a b h = grind (arith, cases_eq, cases_lt)

keys_differ : (a b : ℕ) → is_eq (nat_cmp a b) ≡ false → ¬ (b ≡ a)
keys_differ a b h e = grind arith

find-none : (key : ℕ) (es : Entries) → Each (λ e. ¬ (e.0 ≡ key)) es → find nat_cmp key es ≡ None
unfolding Each
find-none key [] h = refl
find-none key (e ∷ es) h =
    bool_cases (is_eq (nat_cmp key e.0))
    (λ t. absurd (h.0 (sym (keys_equal key e.0 t))))
    (λ t. ap (λ (b : Bool). cond b (Some e.1) (find nat_cmp key es)) t ∙ find-none key es h.1)

find-some : (key : ℕ) (v : Cell) (es : Entries) → Each (λ e. e.0 ≡ key → e.1 ≡ v) es → Has key es
    → find nat_cmp key es ≡ Some v
unfolding Each Has
find-some key v [] h has = absurd has
find-some key v (e ∷ es) h has =
    bool_cases (is_eq (nat_cmp key e.0))
    (λ t. ap (λ (b : Bool). cond b (Some e.1) (find nat_cmp key es)) t
    ∙ ap (λ (x : Cell). Some x) (h.0 (sym (keys_equal key e.0 t))))
    (λ t. ap (λ (b : Bool). cond b (Some e.1) (find nat_cmp key es)) t
    ∙ find-some key v es h.1 (⊎_elim (λ (a : e.0 ≡ key). absurd (keys_differ key e.0 t a)) (λ (b : Has key es). b) has))

-- the cell found at an address is the map's
pub get-found : (c : Config) (shape : FrameShape) (frame address : ℕ) (v : Cell) → Passes c shape
    → StandsAt c shape frame address v
    → get (cell_map c shape frame) address ≡ Some v
unfolding cell_map
get-found c shape frame address v passes found =
    let only : (plp block cell : ℕ) → IsCarried c shape frame plp block cell
    → address_of c shape frame plp block cell ≡ address
    → record { ordinal = ordinal_of shape plp block; cell = cell } ≡ v =
    λ plp block cell there here.
    let same = passes.apart frame plp block cell found.plp found.block v.cell there found.there (here
    ∙ sym found.value) in
    ap (λ (j : ℕ). record { ordinal = ordinal_of shape j block; cell = cell }) same.0
    ∙ ap (λ (b : ℕ). record { ordinal = ordinal_of shape found.plp b; cell = cell }) same.1
    ∙ ap (λ (q : ℕ). record { ordinal = ordinal_of shape found.plp found.block; cell = q }) same.2
    ∙ ap (λ (n : ℕ). record { ordinal = n; cell = v.cell }) (sym found.ordinal) in
    get-from_entries nat_cmp_total (pairs c shape frame) address
    ∙ find-some address v (pairs c shape frame)
    (each-pair c shape frame (λ e. e.0 ≡ address → e.1 ≡ v) only)
    (subst (λ (a : ℕ). Has a (pairs c shape frame)) found.value (has-pair c shape frame found.plp found.block
    v.cell found.there))

-- if no cell has the address the map has none
pub get-none : (c : Config) (shape : FrameShape) (frame address : ℕ)
    → ((plp block cell : ℕ) → IsCarried c shape frame plp block cell
    → ¬ (address_of c shape frame plp block cell ≡ address))
    → get (cell_map c shape frame) address ≡ None
unfolding cell_map
get-none c shape frame address none =
    get-from_entries nat_cmp_total (pairs c shape frame) address
    ∙ find-none address (pairs c shape frame) (each-pair c shape frame (λ e. ¬ (e.0 ≡ address)) none)

-- what was found, or not, is what the map has
pub get-is : (c : Config) (shape : FrameShape) (frame address : ℕ) (answer : Option Cell) → Passes c shape
    → IfNone answer ((plp block cell : ℕ) → IsCarried c shape frame plp block cell
    → ¬ (address_of c shape frame plp block cell
    ≡ address))
    → IfSome answer (StandsAt c shape frame address) → answer ≡ get (cell_map c shape frame) address
get-is c shape frame address None passes none some = sym (get-none c shape frame address none)
get-is c shape frame address (Some v) passes none some = sym (get-found c shape frame address v passes some)

-- what is found is one of the pairs
find-each : (P : ℕ × Cell → Type 0) (key : ℕ) (v : Cell) (es : Entries) → Each P es → find nat_cmp key es ≡ Some v
    → P (key, v)
unfolding Each
find-each P key v [] h is = absurd (let never : None ≡ Some v = is in cc)
find-each P key v (e ∷ es) h is =
    bool_cases (is_eq (nat_cmp key e.0))
    (λ t. let found : Some e.1 ≡ Some v = sym (ap (λ (b : Bool). cond b (Some e.1) (find nat_cmp key es)) t) ∙ is in
    let same : e.1 ≡ v = cc in
    subst (λ (k : ℕ). P (k, v)) (sym (keys_equal key e.0 t)) (subst (λ (w : Cell). P (e.0, w)) same h.0))
    (λ t. find-each P key v es h.1 (sym (ap (λ (b : Bool). cond b (Some e.1) (find nat_cmp key es)) t) ∙ is))

pub map_has_each : MapHasEachCell
map_has_each c shape frame plp block cell passes there = search (arith, get-found)

pub map_has_only : MapHasOnlyCells
unfolding cell_map
map_has_only c shape frame address found is =
    find-each (λ e. StandsAt c shape frame e.0 e.1) address found (pairs c shape frame)
    (each-pair c shape frame (λ e. StandsAt c shape frame e.0 e.1)
    (λ plp block cell there. record { plp = plp; block = block; there = there; value = refl; ordinal = refl }))
    (sym (get-from_entries nat_cmp_total (pairs c shape frame) address) ∙ is)

pub dummy_has_none : DummyHasNoCell
dummy_has_none c shape frame address passes = grind (arith, map_has_each, get-none)
