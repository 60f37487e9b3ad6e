-- One block more is placed.
use Rattle.std.proofs.Common.{◌≡◌, ◌≢◌, ℕ, ◌+◌, ◌<◌, ◌≤◌, ◌&&◌, ◌⊎◌, Bool, true, false, List, [], ◌∷◌, ◌++◌, map}
use Rattle.std.proofs.Common.{length, take, filter, refl, ap, sym, subst, ◌∙◌, ⊎_elim, arith, append-nil}
use Rattle.std.specs.Prelude.{bytes_eq, slice_index_or, cond}
use Rattle.std.specs.List.{list_all}
use Rattle.std.proofs.lemmas.Bool.{cases_eq, eq-eqb, ne_eqb, and_left, and_right, and_cases, and_from, and_parts}
use Rattle.std.proofs.lemmas.List.{map-append, get_or-set_same, get_or-set_other, length-set}
use Rattle.std.proofs.lemmas.List.Elements.{filter-append}
use Rattle.std.proofs.lemmas.List.Folds.{list_all-append}
use Rattle.std.proofs.lemmas.List.Sums.{sum_by-cons, sum_by-set}
use Rattle.linked_pool.specs.Pool.{State, list_at, chunks_of, chunks_for, appended, IsWhole}
use Rattle.plp_config.specs.Capacity.{block_bytes}
use Rattle.plp_config.specs.declared.config.Config.{Config}
use Rattle.frame_weave.proofs.SumLemmas.{start_least, one_plp, places_few, all_room}
use Rattle.frame_weave.specs.Placed.{Placed, stands_at, blocks_at, are_alike}
use Rattle.frame_weave.specs.Places.{start_of, place_count, has_room}
use Rattle.frame_weave.specs.Slots.{HoldsPlaced, AreSized, Puts, Fills}
use Rattle.frame_weave.specs.declared.slots.Slots.{Slots}

abbrev pub at : ℕ → List ℕ → Placed
at place bytes = record { place = place; bytes = bytes }

-- the blocks at a place, with one more there or elsewhere
blocks_more : (placed : List Placed) (p : Placed) (k : ℕ) → blocks_at (placed ++ p ∷ []) k
    ≡ blocks_at placed k ++ map (λ (p : Placed). p.bytes) (filter (stands_at k) (p ∷ []))
blocks_more placed p k =
    ap (map (λ (p : Placed). p.bytes)) (filter-append (stands_at k) placed (p ∷ []))
    ∙ map-append (λ (p : Placed). p.bytes) (filter (stands_at k) placed) (filter (stands_at k) (p ∷ []))

pub more_here : (placed : List Placed) (place : ℕ) (bytes : List ℕ) → blocks_at (placed ++ at place bytes ∷ []) place
    ≡ blocks_at placed place ++ bytes ∷ []
more_here placed place bytes =
    blocks_more placed (at place bytes) place
    ∙ ap (λ (t : Bool). blocks_at placed place ++ map (λ (p : Placed). p.bytes) (cond t (at place bytes ∷ []) []))
    (eq-eqb place place refl)

pub more_elsewhere : (placed : List Placed) (place k : ℕ) (bytes : List ℕ) → k ≢ place
    → blocks_at (placed ++ at place bytes ∷ []) k ≡ blocks_at placed k
more_elsewhere placed place k bytes ne =
    blocks_more placed (at place bytes) k
    ∙ ap (λ (t : Bool). blocks_at placed k ++ map (λ (p : Placed). p.bytes) (cond t (at place bytes ∷ []) []))
    (ne_eqb place k (λ e. ne (sym e)))
    ∙ append-nil (blocks_at placed k)

-- a test and one that holds
pub with_true : (t : Bool) → t ≡ (t && true)
with_true true = refl
with_true false = refl

-- whether one more is the same as the first
abbrev fits_first : List (List ℕ) → List ℕ → Bool
fits_first [] x = true
fits_first (b ∷ more) x = bytes_eq b x

alike_more : (blocks : List (List ℕ)) (x : List ℕ)
    → are_alike (blocks ++ x ∷ []) ≡ (are_alike blocks && fits_first blocks x)
alike_more [] x = refl
alike_more (b ∷ more) x = list_all-append (bytes_eq b) more (x ∷ [])
    ∙ ap (λ (t : Bool). list_all (bytes_eq b) more && t) (sym (with_true (bytes_eq b x)))

-- the first of the blocks at a place stays the first
take_more : (blocks : List (List ℕ)) (x : List ℕ) → 0 < length blocks → take 1 (blocks ++ x ∷ []) ≡ take 1 blocks
take_more [] x some = absurd (omega (arith, some))
take_more (b ∷ more) x some = refl

-- what is held with one block more, if it is told whether this is the same as the first
told_more : (old new : Slots) (placed : List Placed) (place : ℕ) (bytes : List ℕ)
    → ((k : ℕ) → list_at new.pool k ≡ take 1 (blocks_at (placed ++ at place bytes ∷ []) k))
    → new.alike ≡ (old.alike && fits_first (blocks_at placed place) bytes) → HoldsPlaced old placed
    → HoldsPlaced new (placed ++ at place bytes ∷ [])
told_more old new placed place bytes first told h =
    let here = ap are_alike (more_here placed place bytes) ∙ alike_more (blocks_at placed place) bytes in
    record {
      first = first;
      same = λ e k.
          let two = and_parts old.alike (fits_first (blocks_at placed place) bytes) (sym told ∙ e) in
          ⊎_elim
          (λ (s : k ≡ place).
          subst (λ (j : ℕ). are_alike (blocks_at (placed ++ at place bytes ∷ []) j) ≡ true) (sym s)
          (here ∙ and_from (are_alike (blocks_at placed place)) (fits_first (blocks_at placed place) bytes)
          (h.same two.0 place) two.1))
          (λ (ne : k ≡ place → ⊥). ap are_alike (more_elsewhere placed place k bytes ne) ∙ h.same two.0 k)
          (cases_eq k place);
      other = λ e.
          ⊎_elim
          (λ (o : old.alike ≡ false).
          let there = h.other o in
          ⊎_elim
          (λ (s : there.0 ≡ place). (
            place,
            here
                ∙ and_left (are_alike (blocks_at placed place)) (fits_first (blocks_at placed place) bytes)
                (subst (λ (j : ℕ). are_alike (blocks_at placed j) ≡ false) s there.1),
          ))
          (λ (ne : there.0 ≡ place → ⊥).
          (there.0, ap are_alike (more_elsewhere placed place there.0 bytes ne) ∙ there.1))
          (cases_eq there.0 place))
          (λ (o : fits_first (blocks_at placed place) bytes ≡ false).
          (place, here ∙ and_right (are_alike (blocks_at placed place)) (fits_first (blocks_at placed place) bytes) o))
          (and_cases old.alike (fits_first (blocks_at placed place) bytes) (sym told ∙ e));
    }

-- a block at a place of its PLP
module _ (c : Config) (counts : List ℕ) (plp place : ℕ) (bytes : List ℕ) (inside : plp < length c.plps)
    (low : start_of counts plp ≤ place) (high : place < start_of counts (plp + 1))
    (len : length bytes ≡ block_bytes c plp)
    (room : has_room c counts ≡ true) where
  within : place < place_count c counts
  within = let rises = start_least counts (plp + 1) (length c.plps) (omega (arith, inside)) in omega
      (arith, rises, high)

  -- there is no other yet
  module _ (old : State) (none : list_at old place ≡ []) (sized : AreSized c counts old) (whole : IsWhole old) where
    there : place < length old.lists
    there = let few = places_few c counts room in let lists = sized.lists in let l = within in omega
        (arith, few, lists, l)

    here_is : list_at (appended old place bytes) place ≡ bytes ∷ []
    here_is = get_or-set_same old.lists place (list_at old place ++ bytes ∷ []) [] there
        ∙ ap (λ (l : List (List ℕ)). l ++ bytes ∷ []) none

    elsewhere_is : (k : ℕ) → k ≢ place → list_at (appended old place bytes) k ≡ list_at old k
    elsewhere_is k ne = get_or-set_other old.lists place k (list_at old place ++ bytes ∷ []) [] ne

    one_chunks : chunks_of (bytes ∷ []) ≡ chunks_for (block_bytes c plp)
    one_chunks = let sum = sum_by-cons (λ (b : List ℕ). chunks_for (length b)) bytes [] in
        let size = ap chunks_for len in omega (arith, sum, size)

    sized_more : AreSized c counts (appended old place bytes)
    sized_more = record {
      each = λ q within k from to.
          ⊎_elim
          (λ (e : k ≡ place).
          let same : q ≡ plp = one_plp counts q plp place (subst (λ (j : ℕ). start_of counts q ≤ j) e from)
          (subst (λ (j : ℕ). j < start_of counts (q + 1)) e to) low high in
          let held = ap chunks_of (ap (list_at (appended old place bytes)) e ∙ here_is) in
          let size = one_chunks in
          let both = ap (λ (j : ℕ). chunks_for (block_bytes c j)) same in
          omega (arith, held, size, both))
          (λ (ne : k ≡ place → ⊥).
          let held = ap chunks_of (elsewhere_is k ne) in let before = sized.each q within k from to in
          omega (arith, held, before))
          (cases_eq k place);
      none = λ k behind. elsewhere_is k (λ e. let l = within in absurd (omega (arith, l, e, behind)))
          ∙ sized.none k behind;
      opened = sized.opened;
      lists = length-set old.lists place (list_at old place ++ bytes ∷ []) ∙ sized.lists;
    }

    pub is_spare : chunks_for (length bytes) ≤ old.spare
    is_spare =
        let all = all_room c counts (appended old place bytes) sized_more room in
        let set = sum_by-set chunks_of old.lists place (list_at old place ++ bytes ∷ []) [] there in
        let before = ap chunks_of none in
        let now = ap (λ (l : List (List ℕ)). chunks_of (l ++ bytes ∷ [])) none in
        let sum = sum_by-cons (λ (b : List ℕ). chunks_for (length b)) bytes [] in
        let opened = sized.opened in
        omega (arith, all, set, before, now, sum, opened, whole)

  pub filled : (old new : Slots) (placed : List Placed) → Puts old new place bytes → Fills c counts old placed
      → Fills c counts new (placed ++ at place bytes ∷ [])
  filled old new placed puts fills = go (blocks_at placed place) refl
    where
      go : (blocks : List (List ℕ)) → blocks_at placed place ≡ blocks
          → Fills c counts new (placed ++ at place bytes ∷ [])
      go [] is =
          let none : list_at old.pool place ≡ [] = fills.holds.first place ∙ ap (take 1) is in
          let put = puts.first none (there old.pool none fills.sized puts.whole)
          (is_spare old.pool none fills.sized puts.whole) in
          record {
            sized = subst (AreSized c counts) (sym put.0) (sized_more old.pool none fills.sized puts.whole);
            holds = told_more old new placed place bytes
                (λ k.
                ap (λ (s : State). list_at s k) put.0
                ∙ ⊎_elim
                (λ (e : k ≡ place).
                ap (list_at (appended old.pool place bytes)) e
                ∙ here_is old.pool none fills.sized puts.whole
                ∙ ap (take 1) (sym (ap (blocks_at (placed ++ at place bytes ∷ [])) e
                ∙ more_here placed place bytes ∙ ap (λ (l : List (List ℕ)). l ++ bytes ∷ []) is)))
                (λ (ne : k ≡ place → ⊥).
                elsewhere_is old.pool none fills.sized puts.whole k ne ∙ fills.holds.first k
                ∙ ap (take 1) (sym (more_elsewhere placed place k bytes ne)))
                (cases_eq k place))
                (put.1 ∙ with_true old.alike ∙ ap (λ (l : List (List ℕ)). old.alike && fits_first l bytes) (sym is))
                fills.holds;
          }
      go (b ∷ more) is =
          let held : list_at old.pool place ≡ b ∷ [] = fills.holds.first place ∙ ap (take 1) is in
          let put = puts.other (let size = ap length held in omega (arith, size)) in
          record {
            sized = subst (AreSized c counts) (sym put.0) fills.sized;
            holds = told_more old new placed place bytes
                (λ k.
                ap (λ (s : State). list_at s k) put.0 ∙ fills.holds.first k
                ∙ ⊎_elim
                (λ (e : k ≡ place).
                sym (ap (λ (j : ℕ). take 1 (blocks_at (placed ++ at place bytes ∷ []) j)) e
                ∙ ap (take 1) (more_here placed place bytes)
                ∙ take_more (blocks_at placed place) bytes (let size = ap length is in omega (arith, size))
                ∙ ap (λ (j : ℕ). take 1 (blocks_at placed j)) (sym e)))
                (λ (ne : k ≡ place → ⊥). ap (take 1) (sym (more_elsewhere placed place k bytes ne)))
                (cases_eq k place))
                (put.1
                ∙ ap (λ (l : List (List ℕ)). old.alike && bytes_eq (slice_index_or l 0 []) bytes) held
                ∙ ap (λ (l : List (List ℕ)). old.alike && fits_first l bytes) (sym is))
                fills.holds;
          }
