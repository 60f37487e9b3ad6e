-- One block more.
use Rattle.std.proofs.Common.{◌≡◌, ◌≢◌, ℕ, zero, suc, ◌+◌, ◌*◌, ◌<◌, ◌≤◌, ◌==◌, ◌&&◌, Bool, true, false, List, [], ◌∷◌}
use Rattle.std.proofs.Common.{◌++◌, map, length, get_or, set, sum_by, Option, Some, None, refl, ap, sym, subst, ◌∙◌}
use Rattle.std.proofs.Common.{⊎_elim, arith, append-nil}
use Rattle.std.specs.Prelude.{slice_index, slice_index_or, slice_set, if◌then◌else◌, cond}
use Rattle.std.specs.List.{range_with_len, list_any, filter, cons_option}
use Rattle.std.proofs.lemmas.Bool.{cases_eq, eq-eqb, ne_eqb}
use Rattle.std.proofs.lemmas.List.{get_or-set_same, get_or-set_other, map-append}
use Rattle.std.proofs.lemmas.List.Elements.{filter_map-append, filter-append}
use Rattle.std.proofs.lemmas.List.Folds.{list_any_at, list_any_none}
use Rattle.std.proofs.lemmas.List.FromFn.{length-range_with_len, get_or-range_with_len}
use Rattle.std.proofs.lemmas.List.Sums.{sum_by-cons}
use Rattle.terms.proofs.RangeLemmas.{sums_same}
use Rattle.frame_groups.proofs.TallyLemmas.{at_place}
use Rattle.linked_pool.specs.Pool.{State, list_at, chunks_for, appended}
use Rattle.plp_config.specs.Capacity.{block_bytes}
use Rattle.plp_config.specs.Places.{places, IsPlace, HasNoPlace}
use Rattle.plp_config.specs.Plps.{plp_at}
use Rattle.plp_config.specs.declared.config.Config.{Config}
use Rattle.t2mi_packet.specs.declared.packet.Body.{Body}
use Rattle.t2mi_packet.specs.declared.packet.Body.TheVariants.{Block}
use Rattle.t2mi_packet.specs.declared.packet.Packet.{Packet}
use Rattle.frame_groups.specs.Carried.{body_block, has_length, blocks_of, right_blocks}
use Rattle.frame_groups.specs.Tally.{Tally, tally_with, tally_need}
use Rattle.frame_groups.specs.Tests.{body_known, is_known, greatest, capped}
use Rattle.open_group.specs.HoldsBlocks.{HoldsCounts, HoldsLists, Held, held_of}
use Rattle.open_group.specs.Sent.{held_bytes}
use Rattle.open_group.specs.declared.blocks.HeldBlocks.{HeldBlocks}

-- one place of a sum has more
sum_more : (f g : ℕ → ℕ) (k more a n : ℕ) → ((j : ℕ) → j < a + n → j ≢ k → g j ≡ f j) → g k ≡ f k + more
    → a ≤ k → k < a + n
    → sum_by g (range_with_len a n) ≡ sum_by f (range_with_len a n) + more
sum_more f g k more a zero h own low high = absurd (omega arith)
sum_more f g k more a (suc n) h own low high =
    let x = sum_by-cons f a (range_with_len (a + 1) n) in
    let y = sum_by-cons g a (range_with_len (a + 1) n) in
    ⊎_elim
    (λ (e : a ≡ k).
    let one : g a ≡ f a + more = subst (λ (j : ℕ). g j ≡ f j + more) (sym e) own in
    let rest = sums_same g f (a + 1) n (λ j from to. h j (omega arith) (λ (s : j ≡ k). omega arith)) in
    omega (arith, x, y, one, rest))
    (λ (ne : a ≡ k → ⊥).
    let one = h a (omega arith) ne in
    let rest = sum_more f g k more (a + 1) n (λ j inside other. h j (omega arith) other) own (omega (arith, ne))
    (omega arith) in
    omega (arith, x, y, one, rest))
    (cases_eq a k)

-- numbers as they are held
capped_more : (held a b : ℕ) → held ≡ capped a → capped (held + b) ≡ capped (a + b)
capped_more held a b e = omega arith

right_more : (c : Config) (packets : List Packet) (p : Packet) (plp : ℕ) → right_blocks c plp (packets ++ p ∷ [])
    ≡ right_blocks c plp packets ++ right_blocks c plp (p ∷ [])
right_more c packets p plp =
    ap (filter (has_length c plp)) (filter_map-append (λ (p : Packet). body_block (plp_at c.plps plp).id p.body)
    packets (p ∷ []))
    ∙ filter-append (has_length c plp) (blocks_of c plp packets) (blocks_of c plp (p ∷ []))

-- the numbers with one packet more
counts_added : (c : Config) (old new : HeldBlocks) (t : Tally) (p : Packet) → HoldsCounts c old t
    → ((plp : ℕ) → plp < length c.plps → slice_index new.counts.items plp
    ≡ capped (slice_index old.counts.items plp + length (blocks_of c plp (p ∷ []))))
    → ((plp : ℕ) → plp < length c.plps → slice_index new.rights.items plp
    ≡ capped (slice_index old.rights.items plp + length (right_blocks c plp (p ∷ []))))
    → new.need ≡ capped (tally_need c (tally_with c t p)) → new.known ≡ (old.known && is_known c p)
    → HoldsCounts c new (tally_with c t p)
counts_added c old new t p h counts rights need known = record {
  counts = λ plp inside.
      counts plp inside
      ∙ capped_more (slice_index old.counts.items plp) (slice_index t.blocks plp) (length (blocks_of c plp (p ∷ [])))
      (h.counts plp inside)
      ∙ ap capped (sym (at_place c (λ plp. slice_index t.blocks plp + length (blocks_of c plp (p ∷ []))) plp inside));
  rights = λ plp inside.
      rights plp inside
      ∙ capped_more (slice_index old.rights.items plp) (slice_index t.right plp) (length (right_blocks c plp (p ∷ [])))
      (h.rights plp inside)
      ∙ ap capped (sym (at_place c (λ plp. slice_index t.right plp + length (right_blocks c plp (p ∷ []))) plp inside));
  need = need;
  known = known ∙ ap (λ (b : Bool). b && is_known c p) h.known;
}

-- the blocks that a packet adds to the right ones of a PLP, and the chunks that they need
abbrev added : Config → Packet → ℕ → ℕ
added c p plp = length (right_blocks c plp (p ∷ []))

abbrev right_at : Config → Tally → Packet → ℕ → ℕ
right_at c t p plp = slice_index (map (λ plp. slice_index t.right plp + added c p plp) (places c)) plp

times_more : (a w : ℕ) → (a + 1) * w ≡ a * w + w
times_more a w = omega arith

right_same : (c : Config) (t : Tally) (p : Packet) (plp : ℕ) → plp < length c.plps → added c p plp ≡ 0
    → right_at c t p plp
    ≡ slice_index t.right plp
right_same c t p plp inside none = let e = at_place c (λ plp. slice_index t.right plp + added c p plp) plp inside in
    omega (arith, e, none)

need_same : (c : Config) (t : Tally) (p : Packet) → ((plp : ℕ) → plp < length c.plps → added c p plp ≡ 0)
    → tally_need c (tally_with c t p) ≡ tally_need c t
need_same c t p none =
    sums_same (λ plp. right_at c t p plp * chunks_for (block_bytes c plp))
    (λ plp. slice_index t.right plp * chunks_for (block_bytes c plp)) 0 (length c.plps)
    (λ plp low high. ap (λ (n : ℕ). n * chunks_for (block_bytes c plp))
    (right_same c t p plp (omega arith) (none plp (omega arith))))

need_more : (c : Config) (t : Tally) (p : Packet) (k : ℕ) → k < length c.plps → added c p k ≡ 1
    → ((plp : ℕ) → plp < length c.plps → plp ≢ k → added c p plp ≡ 0)
    → tally_need c (tally_with c t p) ≡ tally_need c t + chunks_for (block_bytes c k)
need_more c t p k inside one none =
    let own : right_at c t p k ≡ slice_index t.right k + 1 = let e =
    at_place c (λ plp. slice_index t.right plp + added c p plp) k inside in omega (arith, e, one) in
    sum_more (λ plp. slice_index t.right plp * chunks_for (block_bytes c plp))
    (λ plp. right_at c t p plp * chunks_for (block_bytes c plp)) k (chunks_for (block_bytes c k)) 0 (length c.plps)
    (λ plp high other. ap (λ (n : ℕ). n * chunks_for (block_bytes c plp))
    (right_same c t p plp (omega arith) (none plp (omega arith) other)))
    (ap (λ (n : ℕ). n * chunks_for (block_bytes c k)) own ∙ times_more (slice_index t.right k)
    (chunks_for (block_bytes c k)))
    (omega arith) (omega (arith, inside))

-- the lists with one packet more
lists_same : (c : Config) (old new : HeldBlocks) (packets : List Packet) (p : Packet)
    → ((plp : ℕ) → plp < length c.plps → right_blocks c plp (p ∷ []) ≡ [])
    → new.need ≡ old.need → new.chunks ≡ old.chunks → new.pool ≡ old.pool → HoldsLists c old packets
    → HoldsLists c new (packets ++ p ∷ [])
lists_same c old new packets p none need chunks pool h few plp inside =
    ap (λ (s : State). list_at s plp) pool ∙ h (omega (arith, few, need, chunks)) plp inside
    ∙ ap (map held_bytes) (sym (append-nil (right_blocks c plp packets))
    ∙ ap (λ (l : List (List Bool)). right_blocks c plp packets ++ l) (sym (none plp inside))
    ∙ sym (right_more c packets p plp))

one_true : (b : Bool) → b ≡ (b && true)
one_true true = refl
one_true false = refl

-- a block with its length was counted twice, and kept if there was room
abbrev pub Counted : HeldBlocks → HeldBlocks → ℕ → ℕ → Type 0
Counted old new k chunks = held_of new ≡ record (held_of old) {
  pool = new.pool;
  counts = slice_set old.counts.items k (capped (slice_index old.counts.items k + 1));
  rights = slice_set old.rights.items k (capped (slice_index old.rights.items k + 1));
  need = capped (old.need + chunks);
}

pub kept_right : (old one two new : HeldBlocks) (k chunks size : ℕ)
    → held_of one
    ≡ record (held_of old) { counts = slice_set old.counts.items k (capped (slice_index old.counts.items k + 1)) }
    → held_of two
    ≡ record (held_of one) { rights = slice_set one.rights.items k (capped (slice_index one.rights.items k + 1)) }
    → held_of new ≡ record (held_of two) { pool = new.pool; need = capped (two.need + chunks) }
    → chunks ≡ size → Counted old new k size
kept_right old one two new k chunks size first second kept same =
    kept
    ∙ ap (λ (b : Held). record b { pool = new.pool; need = capped (b.need + chunks) })
    (second
    ∙ ap (λ (b : Held). record b { rights = slice_set b.rights k (capped (slice_index b.rights k + 1)) }) first)
    ∙ ap (λ (n : ℕ). record (held_of old) {
      pool = new.pool;
      counts = slice_set old.counts.items k (capped (slice_index old.counts.items k + 1));
      rights = slice_set old.rights.items k (capped (slice_index old.rights.items k + 1));
      need = capped (old.need + n);
    }) same

-- packets without a block
module _ (c : Config) (p : Packet) (none : (id : ℕ) → body_block id p.body ≡ None) where
  none_here : (plp : ℕ) → blocks_of c plp (p ∷ []) ≡ []
  none_here plp = ap (λ (o : Option (List Bool)). cons_option o []) (none (plp_at c.plps plp).id)

  none_right : (plp : ℕ) → right_blocks c plp (p ∷ []) ≡ []
  none_right plp = ap (filter (has_length c plp)) (none_here plp)

  pub others_counted : (held : HeldBlocks) (t : Tally) → body_known c p.body ≡ true → HoldsCounts c held t
      → HoldsCounts c held (tally_with c t p)
  others_counted held t known h =
      counts_added c held held t p h
      (λ plp inside. let e = ap length (none_here plp) in let n = h.counts plp inside in omega (arith, e, n))
      (λ plp inside. let e = ap length (none_right plp) in let n = h.rights plp inside in omega (arith, e, n))
      (h.need ∙ ap capped (sym (need_same c t p (λ plp inside. ap length (none_right plp)))))
      (one_true held.known ∙ ap (λ (b : Bool). held.known && b) (sym known))

  pub others_listed : (held : HeldBlocks) (packets : List Packet) → HoldsLists c held packets
      → HoldsLists c held (packets ++ p ∷ [])
  others_listed held packets h = lists_same c held held packets p (λ plp inside. none_right plp) refl refl refl h

-- a block
module _ (c : Config) (p : Packet) (frame_idx id : ℕ) (first : Bool) (bits : List Bool)
    (is : p.body ≡ Block frame_idx id first bits) where
  here : (plp : ℕ) → blocks_of c plp (p ∷ []) ≡ cons_option (if id == (plp_at c.plps plp).id then Some bits else None)
      []
  here plp = ap (λ (b : Body). cons_option (body_block (plp_at c.plps plp).id b) []) is

  own_here : (plp : ℕ) → (plp_at c.plps plp).id ≡ id → blocks_of c plp (p ∷ []) ≡ bits ∷ []
  own_here plp own = here plp ∙ ap (λ (t : Bool). cons_option (if t then Some bits else None) [])
      (eq-eqb id (plp_at c.plps plp).id (sym own))

  other_here : (plp : ℕ) → (plp_at c.plps plp).id ≢ id → blocks_of c plp (p ∷ []) ≡ []
  other_here plp other = here plp ∙ ap (λ (t : Bool). cons_option (if t then Some bits else None) [])
      (ne_eqb id (plp_at c.plps plp).id (λ e. other (sym e)))

  known_is : is_known c p ≡ list_any (λ plp. (id == (plp_at c.plps plp).id) && has_length c plp bits) (places c)
  known_is = ap (body_known c) is

  -- what it is known by, at each place
  abbrev is_of : ℕ → Bool
  is_of plp = (id == (plp_at c.plps plp).id) && has_length c plp bits

  other_of : (plp : ℕ) → (plp_at c.plps plp).id ≢ id → is_of plp ≡ false
  other_of plp other = ap (λ (t : Bool). t && has_length c plp bits) (ne_eqb id (plp_at c.plps plp).id
      (λ e. other (sym e)))

  own_of : (plp : ℕ) → (plp_at c.plps plp).id ≡ id → is_of plp ≡ has_length c plp bits
  own_of plp own = ap (λ (t : Bool). t && has_length c plp bits) (eq-eqb id (plp_at c.plps plp).id (sym own))

  place_there : (k d : ℕ) → k < length (places c) → (get_or (places c) k d ≡ k) × (k < length c.plps)
  place_there k d l =
      let inside : k < length c.plps = let n = length-range_with_len 0 (length c.plps) in omega (arith, n, l) in
      let e = get_or-range_with_len 0 (length c.plps) k d inside in
      (omega (arith, e), inside)

  unknown : ((plp : ℕ) → plp < length c.plps → is_of plp ≡ false) → is_known c p ≡ false
  unknown none = known_is ∙ list_any_none is_of (places c) (λ k d l. let at = place_there k d l in
      subst (λ (j : ℕ). is_of j ≡ false) (sym at.0) (none k at.1))

  not_known : (t : Bool) → is_known c p ≡ false → false ≡ (t && is_known c p)
  not_known t e = ap (λ (b : Bool). b) (and_false t) ∙ ap (λ (b : Bool). t && b) (sym e)
    where
      and_false : (t : Bool) → false ≡ (t && false)
      and_false true = refl
      and_false false = refl

  -- of no PLP
  module _ (none : HasNoPlace c id) where
    stray_right : (plp : ℕ) → plp < length c.plps → right_blocks c plp (p ∷ []) ≡ []
    stray_right plp inside = ap (filter (has_length c plp)) (other_here plp (none plp inside))

    pub stray_counted : (old new : HeldBlocks) (t : Tally) → new.counts.items ≡ old.counts.items
        → new.rights.items ≡ old.rights.items → new.need ≡ old.need
        → new.known ≡ false → HoldsCounts c old t → HoldsCounts c new (tally_with c t p)
    stray_counted old new t counts rights need known h =
        counts_added c old new t p h
        (λ plp inside. let e = ap length (other_here plp (none plp inside)) in let n = h.counts plp inside in
        let s = ap (λ (l : List ℕ). slice_index l plp) counts in omega (arith, e, n, s))
        (λ plp inside. let e = ap length (stray_right plp inside) in let n = h.rights plp inside in
        let s = ap (λ (l : List ℕ). slice_index l plp) rights in omega (arith, e, n, s))
        (need ∙ h.need ∙ ap capped (sym (need_same c t p (λ plp inside. ap length (stray_right plp inside)))))
        (known ∙ not_known old.known (unknown (λ plp inside. other_of plp (none plp inside))))

    pub stray_listed : (old new : HeldBlocks) (packets : List Packet) → new.need ≡ old.need → new.chunks ≡ old.chunks
        → new.pool ≡ old.pool → HoldsLists c old packets → HoldsLists c new (packets ++ p ∷ [])
    stray_listed old new packets = lists_same c old new packets p stray_right

  -- of the PLP at a place
  module _ (k : ℕ) (at : IsPlace c id k) where
    counted : (old new : HeldBlocks) → length old.counts.items ≡ length c.plps
        → new.counts.items ≡ slice_set old.counts.items k (capped (slice_index old.counts.items k + 1))
        → (plp : ℕ) → plp < length c.plps → slice_index old.counts.items plp ≤ greatest
        → slice_index new.counts.items plp
        ≡ capped (slice_index old.counts.items plp + length (blocks_of c plp (p ∷ [])))
    counted old new size set plp inside most =
        let moved = ap (λ (l : List ℕ). slice_index l plp) set in
        ⊎_elim
        (λ (e : plp ≡ k).
        let own = ap length (own_here plp (ap (λ (j : ℕ). (plp_at c.plps j).id) e ∙ at.own)) in
        let same = get_or-set_same old.counts.items plp (capped (slice_index old.counts.items plp + 1)) 0
        (omega (arith, inside, size)) in
        let there : slice_index new.counts.items plp
        ≡ slice_index (slice_set old.counts.items plp (capped (slice_index old.counts.items plp + 1))) plp =
        moved ∙ ap (λ (j : ℕ). slice_index (slice_set old.counts.items j (capped (slice_index old.counts.items j + 1)))
        plp)
        (sym e) in
        omega (arith, own, same, there))
        (λ (ne : plp ≡ k → ⊥).
        let other = ap length (other_here plp (at.others plp inside ne)) in
        let same = get_or-set_other old.counts.items k plp (capped (slice_index old.counts.items k + 1)) 0 ne in
        omega (arith, other, same, moved, most))
        (cases_eq plp k)

    -- with another length
    module _ (wrong : length bits ≢ 8 * block_bytes c k) where
      wrong_right : (plp : ℕ) → plp < length c.plps → right_blocks c plp (p ∷ []) ≡ []
      wrong_right plp inside =
          ⊎_elim
          (λ (e : plp ≡ k).
          ap (filter (has_length c plp)) (own_here plp (ap (λ (j : ℕ). (plp_at c.plps j).id) e ∙ at.own))
          ∙ ap (λ (t : Bool). cond t (bits ∷ []) []) (ap (λ (j : ℕ). has_length c j bits) e
          ∙ ne_eqb (length bits) (8 * block_bytes c k) wrong))
          (λ (ne : plp ≡ k → ⊥). ap (filter (has_length c plp)) (other_here plp (at.others plp inside ne)))
          (cases_eq plp k)

      wrong_of : (plp : ℕ) → plp < length c.plps → is_of plp ≡ false
      wrong_of plp inside =
          ⊎_elim
          (λ (e : plp ≡ k). own_of plp (ap (λ (j : ℕ). (plp_at c.plps j).id) e ∙ at.own)
          ∙ ap (λ (j : ℕ). has_length c j bits) e
          ∙ ne_eqb (length bits) (8 * block_bytes c k) wrong)
          (λ (ne : plp ≡ k → ⊥). other_of plp (at.others plp inside ne)) (cases_eq plp k)

      pub wrong_counted : (old new : HeldBlocks) (t : Tally) → length old.counts.items ≡ length c.plps
          → new.counts.items ≡ slice_set old.counts.items k (capped (slice_index old.counts.items k + 1))
          → new.rights.items ≡ old.rights.items
          → new.need ≡ old.need → new.known ≡ false → HoldsCounts c old t → HoldsCounts c new (tally_with c t p)
      wrong_counted old new t size set rights need known h =
          counts_added c old new t p h
          (λ plp inside. counted old new size set plp inside (let n = h.counts plp inside in omega (arith, n)))
          (λ plp inside. let e = ap length (wrong_right plp inside) in let n = h.rights plp inside in
          let s = ap (λ (l : List ℕ). slice_index l plp) rights in omega (arith, e, n, s))
          (need ∙ h.need ∙ ap capped (sym (need_same c t p (λ plp inside. ap length (wrong_right plp inside)))))
          (known ∙ not_known old.known (unknown wrong_of))

      pub wrong_listed : (old new : HeldBlocks) (packets : List Packet) → new.need ≡ old.need → new.chunks ≡ old.chunks
          → new.pool ≡ old.pool → HoldsLists c old packets → HoldsLists c new (packets ++ p ∷ [])
      wrong_listed old new packets = lists_same c old new packets p wrong_right

    -- with its length
    module _ (right : length bits ≡ 8 * block_bytes c k) where
      own_right : right_blocks c k (p ∷ []) ≡ bits ∷ []
      own_right = ap (filter (has_length c k)) (own_here k at.own) ∙ ap (λ (t : Bool). cond t (bits ∷ []) [])
          (eq-eqb (length bits) (8 * block_bytes c k) right)

      other_right : (plp : ℕ) → plp < length c.plps → plp ≢ k → right_blocks c plp (p ∷ []) ≡ []
      other_right plp inside ne = ap (filter (has_length c plp)) (other_here plp (at.others plp inside ne))

      right_known : is_known c p ≡ true
      right_known =
          let size = length-range_with_len 0 (length c.plps) in
          let inside : k < length (places c) = let l = at.inside in omega (arith, size, l) in
          let there = place_there k 0 inside in
          known_is
          ∙ list_any_at is_of (places c) k 0 inside
          (subst (λ (j : ℕ). is_of j ≡ true) (sym there.0) (own_of k at.own
          ∙ eq-eqb (length bits) (8 * block_bytes c k) right))

      -- one more of a PLP is right
      righted : (old new : HeldBlocks) → length old.rights.items ≡ length c.plps
          → new.rights.items ≡ slice_set old.rights.items k (capped (slice_index old.rights.items k + 1))
          → (plp : ℕ) → plp < length c.plps → slice_index old.rights.items plp ≤ greatest
          → slice_index new.rights.items plp
          ≡ capped (slice_index old.rights.items plp + length (right_blocks c plp (p ∷ [])))
      righted old new size set plp inside most =
          let moved = ap (λ (l : List ℕ). slice_index l plp) set in
          ⊎_elim
          (λ (e : plp ≡ k).
          let own = ap (λ (j : ℕ). length (right_blocks c j (p ∷ []))) e ∙ ap length own_right in
          let same = get_or-set_same old.rights.items plp (capped (slice_index old.rights.items plp + 1)) 0
          (omega (arith, inside, size)) in
          let there : slice_index new.rights.items plp
          ≡ slice_index (slice_set old.rights.items plp (capped (slice_index old.rights.items plp + 1))) plp =
          moved ∙ ap (λ (j : ℕ). slice_index (slice_set old.rights.items j
          (capped (slice_index old.rights.items j + 1))) plp)
          (sym e) in
          omega (arith, own, same, there))
          (λ (ne : plp ≡ k → ⊥).
          let other = ap length (other_right plp inside ne) in
          let same = get_or-set_other old.rights.items k plp (capped (slice_index old.rights.items k + 1)) 0 ne in
          omega (arith, other, same, moved, most))
          (cases_eq plp k)

      pub right_counted : (old new : HeldBlocks) (t : Tally) → length old.counts.items ≡ length c.plps
          → length old.rights.items ≡ length c.plps → Counted old new k (chunks_for (block_bytes c k))
          → HoldsCounts c old t
          → HoldsCounts c new (tally_with c t p)
      right_counted old new t size rows e h =
          let set = ap (λ (b : Held). b.counts) e in
          let row = ap (λ (b : Held). b.rights) e in
          let need = ap (λ (b : Held). b.need) e in
          let known = ap (λ (b : Held). b.known) e in
          counts_added c old new t p h
          (λ plp inside. counted old new size set plp inside (let n = h.counts plp inside in omega (arith, n)))
          (λ plp inside. righted old new rows row plp inside (let n = h.rights plp inside in omega (arith, n)))
          (need ∙ capped_more old.need (tally_need c t) (chunks_for (block_bytes c k)) h.need
          ∙ ap capped
          (sym (need_more c t p k at.inside (ap length own_right) (λ plp inside ne. ap length
          (other_right plp inside ne)))))
          (known ∙ one_true old.known ∙ ap (λ (b : Bool). old.known && b) (sym right_known))

      pub right_listed : (old new : HeldBlocks) (packets : List Packet) → length old.pool.lists ≡ length c.plps
          → Counted old new k (chunks_for (block_bytes c k)) → old.need ≤ greatest
          → (new.need ≤ old.chunks → new.pool ≡ appended old.pool k (held_bytes bits)) → HoldsLists c old packets
          → HoldsLists c new (packets ++ p ∷ [])
      right_listed old new packets size e most pool h few plp inside =
          let need = ap (λ (b : Held). b.need) e in
          let chunks = ap (λ (b : Held). b.chunks) e in
          let grown : List (List ℕ) = list_at old.pool k ++ held_bytes bits ∷ [] in
          let before = h (omega (arith, few, need, most, chunks)) plp inside in
          let now = ap (λ (s : State). list_at s plp) (pool (omega (arith, few, chunks))) in
          ⊎_elim
          (λ (e : plp ≡ k).
          let front : list_at old.pool k ≡ map held_bytes (right_blocks c plp packets) = ap (list_at old.pool) (sym e)
          ∙ before in
          now
          ∙ ap (λ (j : ℕ). slice_index_or (slice_set old.pool.lists k grown) j []) e
          ∙ get_or-set_same old.pool.lists k grown [] (let l = at.inside in omega (arith, size, l))
          ∙ ap (λ (l : List (List ℕ)). l ++ held_bytes bits ∷ []) front
          ∙ sym (map-append held_bytes (right_blocks c plp packets) (bits ∷ []))
          ∙ ap (λ (l : List (List Bool)). map held_bytes (right_blocks c plp packets ++ l))
          (sym own_right ∙ ap (λ (j : ℕ). right_blocks c j (p ∷ [])) (sym e))
          ∙ ap (map held_bytes) (sym (right_more c packets p plp)))
          (λ (ne : plp ≡ k → ⊥).
          now ∙ get_or-set_other old.pool.lists k plp grown [] ne ∙ before
          ∙ ap (map held_bytes) (sym (append-nil (right_blocks c plp packets))
          ∙ ap (λ (l : List (List Bool)). right_blocks c plp packets ++ l) (sym (other_right plp inside ne))
          ∙ sym (right_more c packets p plp)))
          (cases_eq plp k)
