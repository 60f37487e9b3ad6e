-- One packet more is marked.
use Rattle.std.proofs.Common.{◌≡◌, ◌≢◌, ℕ, zero, suc, ◌+◌, ◌*◌, ◌<◌, ◌≤◌, Bool, true, false, List, [], ◌∷◌, ◌++◌, map}
use Rattle.std.proofs.Common.{length, sum_by, Option, Some, None, refl, ap, sym, subst, ◌∙◌, ⊎_elim, arith, append-nil}
use Rattle.std.specs.Prelude.{nat_lt, slice_get, slice_index_or, if◌then◌else◌, cond}
use Rattle.std.specs.List.{range_with_len, filter, filter_map, flat_map, cons_option}
use Rattle.std.proofs.lemmas.Bool.{cases_eq, eq-eqb, ne_eqb, leb-true, le-leb, lt-ltb, cond-true}
use Rattle.std.proofs.lemmas.List.{map-append, length-map, length-append}
use Rattle.std.proofs.lemmas.Grind.{flat_map-append}
use Rattle.std.proofs.Math.ListN.{get_or-append}
use Rattle.std.proofs.Math.Seq.{get_or-append_seam}
use Rattle.std.proofs.lemmas.List.Concat.{flat_map-cons, length-flat_map}
use Rattle.std.specs.Option.{option_or}
use Rattle.terms.proofs.BitLemmas.{length-bytes_of}
use Rattle.open_group.specs.Shown.{AreBlocks}
use Rattle.std.proofs.lemmas.List.Elements.{filter_map-append, filter-append}
use Rattle.std.proofs.lemmas.List.Sums.{sum_by-cons}
use Rattle.linked_pool.specs.Pool.{chunks_for}
use Rattle.plp_config.specs.Capacity.{block_bytes}
use Rattle.plp_config.specs.Places.{places, IsPlace, HasNoPlace}
use Rattle.plp_config.specs.Plps.{plp_at}
use Rattle.plp_config.specs.declared.config.Config.{Config}
use Rattle.t2mi_packet.specs.declared.packet.Body.{Body}
use Rattle.t2mi_packet.specs.declared.packet.Body.TheVariants.{Block}
use Rattle.t2mi_packet.specs.declared.packet.Packet.{Packet}
use Rattle.frame_groups.specs.Carried.{body_block, has_length, blocks_of, right_blocks}
use Rattle.frame_groups.specs.Tests.{pool_need, pool_chunks}
use Rattle.open_group.specs.Sent.{held_bytes}
use Rattle.open_group.specs.Signals.{fits_pool}
use Rattle.frame_weave.specs.Holds.{no_mark, no_block, Marks, AreMarks, HoldsMarks}
use Rattle.frame_weave.specs.Marked.{MarkedBlock, marked_block, packet_blocks, marked_blocks, l1_count, first_count}
use Rattle.frame_weave.specs.declared.marks.HeldMarks.{HeldMarks}
use Rattle.frame_weave.specs.declared.marks.Mark.{Mark}

-- sums over places
sums_added : (f g h : ℕ → ℕ) (a n : ℕ) → ((k : ℕ) → h k ≡ f k + g k)
    → sum_by h (range_with_len a n) ≡ sum_by f (range_with_len a n) + sum_by g (range_with_len a n)
sums_added f g h a zero each = refl
sums_added f g h a (suc n) each =
    let x = sum_by-cons f a (range_with_len (a + 1) n) in
    let y = sum_by-cons g a (range_with_len (a + 1) n) in
    let z = sum_by-cons h a (range_with_len (a + 1) n) in
    let one = each a in
    let rest = sums_added f g h (a + 1) n each in
    omega (arith, x, y, z, one, rest)

sums_most : (f g : ℕ → ℕ) (a n : ℕ) → ((k : ℕ) → f k ≤ g k) → sum_by f (range_with_len a n) ≤ sum_by
    g (range_with_len a n)
sums_most f g a zero each = omega arith
sums_most f g a (suc n) each =
    let x = sum_by-cons f a (range_with_len (a + 1) n) in
    let y = sum_by-cons g a (range_with_len (a + 1) n) in
    let one = each a in
    let rest = sums_most f g (a + 1) n each in
    omega (arith, x, y, one, rest)

times_more : (a b w : ℕ) → (a + b) * w ≡ a * w + b * w
times_more a b w = omega arith

pub times_most : (a w : ℕ) → 1 ≤ w → a ≤ a * w
times_most a zero least = absurd (omega (arith, least))
times_most a (suc w) least = omega arith

-- the right blocks, and the chunks that they need
pub right_more : (c : Config) (packets more : List Packet) (plp : ℕ) → right_blocks c plp (packets ++ more)
    ≡ right_blocks c plp packets ++ right_blocks c plp more
right_more c packets more plp =
    ap (filter (has_length c plp)) (filter_map-append (λ (p : Packet). body_block (plp_at c.plps plp).id p.body)
    packets more)
    ∙ filter-append (has_length c plp) (blocks_of c plp packets) (blocks_of c plp more)

abbrev need_of : Config → List Packet → ℕ → ℕ
need_of c packets plp = length (right_blocks c plp packets) * chunks_for (block_bytes c plp)

need_more : (c : Config) (packets more : List Packet) → pool_need c (packets ++ more) ≡ pool_need c packets + pool_need
    c more
need_more c packets more =
    sums_added (need_of c packets) (need_of c more) (need_of c (packets ++ more)) 0 (length c.plps)
    (λ plp.
    ap (λ (n : ℕ). n * chunks_for (block_bytes c plp))
    (ap length (right_more c packets more plp) ∙ length-append (right_blocks c plp packets) (right_blocks c plp more))
    ∙ times_more (length (right_blocks c plp packets)) (length (right_blocks c plp more))
    (chunks_for (block_bytes c plp)))

-- what has room with more has room without
pub fits_before : (c : Config) (packets more : List Packet) → fits_pool c (packets ++ more) ≡ true
    → fits_pool c packets ≡ true
fits_before c packets more fits =
    let all = leb-true (pool_need c (packets ++ more)) (pool_chunks c) fits in
    let sum = need_more c packets more in
    le-leb (pool_need c packets) (pool_chunks c) (omega (arith, all, sum))

-- no more blocks are marked than the chunks that they need
one_few : (c : Config) (p : Packet) → length (packet_blocks c p) ≤ pool_need c (p ∷ [])
one_few c p =
    let all = length-flat_map (λ plp. map (marked_block p.packet_count plp) (right_blocks c plp (p ∷ []))) (places c) in
    let most = sums_most (λ plp. length (map (marked_block p.packet_count plp) (right_blocks c plp (p ∷ []))))
    (need_of c (p ∷ [])) 0 (length c.plps)
    (λ plp.
    let size = length-map (right_blocks c plp (p ∷ [])) (marked_block p.packet_count plp) in
    let times = times_most (length (right_blocks c plp (p ∷ []))) (chunks_for (block_bytes c plp)) (omega arith) in
    omega (arith, size, times)) in
    omega (arith, all, most)

pub few : (c : Config) (packets : List Packet) → length (marked_blocks c packets) ≤ pool_need c packets
few c [] = omega arith
few c (p ∷ packets) =
    let size = ap length (flat_map-cons (packet_blocks c) p packets)
    ∙ length-append (packet_blocks c p) (marked_blocks c packets) in
    let one = one_few c p in
    let rest = few c packets in
    let sum = need_more c (p ∷ []) packets in
    omega (arith, size, one, rest, sum)

pub need_grown : (c : Config) (packets : List Packet) (p : Packet) → pool_need c (packets ++ p ∷ [])
    ≡ pool_need c packets + pool_need c (p ∷ [])
need_grown c packets p = need_more c packets (p ∷ [])

-- of pieces over places all are empty, or all but one
flat_none : {A : Type 0} (g : ℕ → List A) (a n : ℕ) → ((k : ℕ) → a ≤ k → k < a + n → g k ≡ [])
    → flat_map g (range_with_len a n) ≡ []
flat_none {A = A} g a zero none = refl
flat_none {A = A} g a (suc n) none =
    flat_map-cons g a (range_with_len (a + 1) n)
    ∙ ap (λ (l : List A). l ++ flat_map g (range_with_len (a + 1) n)) (none a (omega arith) (omega arith))
    ∙ flat_none g (a + 1) n (λ k low high. none k (omega arith) (omega arith))

flat_one : {A : Type 0} (g : ℕ → List A) (k : ℕ) (x : A) (a n : ℕ) → g k ≡ x ∷ []
    → ((j : ℕ) → j < a + n → j ≢ k → g j ≡ []) → a ≤ k → k < a + n → flat_map g (range_with_len a n) ≡ x ∷ []
flat_one {A = A} g k x a zero own others low high = absurd (omega arith)
flat_one {A = A} g k x a (suc n) own others low high =
    let all = flat_map-cons g a (range_with_len (a + 1) n) in
    ⊎_elim
    (λ (e : a ≡ k).
    all
    ∙ ap (λ (l : List A). l ++ flat_map g (range_with_len (a + 1) n)) (ap g e ∙ own)
    ∙ ap (λ (l : List A). x ∷ l)
    (flat_none g (a + 1) n (λ j from to. others j (omega arith) (λ (s : j ≡ k). omega arith))))
    (λ (ne : a ≡ k → ⊥).
    all
    ∙ ap (λ (l : List A). l ++ flat_map g (range_with_len (a + 1) n)) (others a (omega arith) ne)
    ∙ flat_one g k x (a + 1) n own (λ j inside other. others j (omega arith) other) (omega (arith, ne)) (omega arith))
    (cases_eq a k)

-- a mark stays one when more packets come
stays_marked : (c : Config) (packets more : List Packet) (mark : Mark) (block : MarkedBlock)
    → Marks c packets mark block
    → Marks c (packets ++ more) mark block
stays_marked c packets more mark block m =
    let grown = right_more c packets more block.plp in
    let old = right_blocks c block.plp packets in
    let new = right_blocks c block.plp more in
    let there = m.there in
    record {
      plp = m.plp;
      count = m.count;
      inside = m.inside;
      there = let size = ap length grown in let sum = length-append old new in omega (arith, there, size, sum);
      bytes = ap (λ (l : List (List Bool)). slice_index_or (map held_bytes l) mark.place []) grown
          ∙ ap (λ (l : List (List ℕ)). slice_index_or l mark.place []) (map-append held_bytes old new)
          ∙ get_or-append (map held_bytes old) (map held_bytes new) [] mark.place
          (let size = length-map old held_bytes in omega (arith, there, size))
          ∙ m.bytes;
      len = m.len;
    }

grown_marks : (c : Config) (packets : List Packet) (p : Packet) → marked_blocks c (packets ++ p ∷ [])
    ≡ marked_blocks c packets ++ packet_blocks c p
grown_marks c packets p =
    flat_map-append (packet_blocks c) packets (p ∷ [])
    ∙ ap (λ (l : List MarkedBlock). marked_blocks c packets ++ l)
    (flat_map-cons (packet_blocks c) p [] ∙ append-nil (packet_blocks c p))

-- a packet that brings no right block
pub none_marked : (c : Config) (packets : List Packet) (p : Packet) (marks : List Mark)
    → ((plp : ℕ) → plp < length c.plps → right_blocks c plp (p ∷ []) ≡ [])
    → AreMarks c packets marks (marked_blocks c packets) → AreMarks c (packets ++ p ∷ []) marks
    (marked_blocks c (packets ++ p ∷ []))
none_marked c packets p marks none h =
    subst (AreMarks c (packets ++ p ∷ []) marks)
    (sym (grown_marks c packets p
    ∙ ap (λ (l : List MarkedBlock). marked_blocks c packets ++ l)
    (flat_none (λ plp. map (marked_block p.packet_count plp) (right_blocks c plp (p ∷ []))) 0 (length c.plps)
    (λ plp low high. ap (map (marked_block p.packet_count plp)) (none plp (omega arith))))
    ∙ append-nil (marked_blocks c packets)))
    (record {
      len = h.len;
      each = λ i inside. stays_marked c packets (p ∷ []) (slice_index_or marks i no_mark)
          (slice_index_or (marked_blocks c packets) i no_block) (h.each i inside);
    })

-- one more stands at the end
one_marked : (c : Config) (packets : List Packet) (p : Packet) (marks : List Mark) (blocks : List MarkedBlock)
    (mark : Mark)
    (block : MarkedBlock) → AreMarks c packets marks blocks → Marks c (packets ++ p ∷ []) mark block
    → AreMarks c (packets ++ p ∷ []) (marks ++ mark ∷ []) (blocks ++ block ∷ [])
one_marked c packets p marks blocks mark block h m =
    let size = h.len in
    let more = length-append marks (mark ∷ []) in
    let blocks_more = length-append blocks (block ∷ []) in
    record {
      len = omega (arith, size, more, blocks_more);
      each = λ i inside.
          ⊎_elim
          (λ (e : i ≡ length blocks).
          let front : slice_index_or (marks ++ mark ∷ []) i no_mark ≡ mark =
          ap (λ (k : ℕ). slice_index_or (marks ++ mark ∷ []) k no_mark) (e ∙ sym size)
          ∙ get_or-append_seam marks mark [] no_mark in
          let back : slice_index_or (blocks ++ block ∷ []) i no_block ≡ block =
          ap (λ (k : ℕ). slice_index_or (blocks ++ block ∷ []) k no_block) e
          ∙ get_or-append_seam blocks block [] no_block in
          subst (λ (x : Mark). Marks c (packets ++ p ∷ []) x (slice_index_or (blocks ++ block ∷ []) i no_block))
          (sym front)
          (subst (λ (y : MarkedBlock). Marks c (packets ++ p ∷ []) mark y) (sym back) m))
          (λ (ne : i ≡ length blocks → ⊥).
          let before : i < length blocks = omega (arith, inside, blocks_more, ne) in
          subst (λ (x : Mark). Marks c (packets ++ p ∷ []) x (slice_index_or (blocks ++ block ∷ []) i no_block))
          (sym (get_or-append marks (mark ∷ []) no_mark i (omega (arith, before, size))))
          (subst (λ (y : MarkedBlock). Marks c (packets ++ p ∷ []) (slice_index_or marks i no_mark) y)
          (sym (get_or-append blocks (block ∷ []) no_block i before))
          (stays_marked c packets (p ∷ []) (slice_index_or marks i no_mark) (slice_index_or blocks i no_block)
          (h.each i before))))
          (cases_eq i (length blocks));
    }

-- the first L1-current
origin_more : (packets : List Packet) (p : Packet) → first_count (packets ++ p ∷ [])
    ≡ option_or (first_count packets) (l1_count p.packet_count p.body)
origin_more packets p =
    ap (λ (l : List ℕ). slice_get l 0)
    (filter_map-append (λ (q : Packet). l1_count q.packet_count q.body) packets (p ∷ []))
    ∙ front (filter_map (λ q. l1_count q.packet_count q.body) packets) (l1_count p.packet_count p.body)
  where
    front : (l : List ℕ) (o : Option ℕ) → slice_get (l ++ cons_option o []) 0 ≡ option_or (slice_get l 0) o
    front [] None = refl
    front [] (Some x) = refl
    front (y ∷ l) o = refl

-- no block of the packet is marked
pub stays_held : (c : Config) (packets : List Packet) (p : Packet) (old new : HeldMarks)
    → ((plp : ℕ) → plp < length c.plps → right_blocks c plp (p ∷ []) ≡ []) → new.marks.items ≡ old.marks.items
    → new.origin ≡ option_or old.origin (l1_count p.packet_count p.body) → HoldsMarks c old packets
    → HoldsMarks c new (packets ++ p ∷ [])
stays_held c packets p old new none marks origin h = record {
  marks = λ fits. subst (λ (l : List Mark). AreMarks c (packets ++ p ∷ []) l (marked_blocks c (packets ++ p ∷ [])))
      (sym marks)
      (none_marked c packets p old.marks.items none (h.marks (fits_before c packets (p ∷ []) fits)));
  origin = origin ∙ ap (λ (o : Option ℕ). option_or o (l1_count p.packet_count p.body)) h.origin
      ∙ sym (origin_more packets p);
}

pub or_none : (o : Option ℕ) → o ≡ option_or o None
or_none None = refl
or_none (Some x) = refl

-- packets without a block
pub other_held : (c : Config) (packets : List Packet) (p : Packet) (old new : HeldMarks)
    → ((id : ℕ) → body_block id p.body ≡ None) → new.marks.items ≡ old.marks.items
    → new.origin ≡ option_or old.origin (l1_count p.packet_count p.body) → HoldsMarks c old packets
    → HoldsMarks c new (packets ++ p ∷ [])
other_held c packets p old new none =
    stays_held c packets p old new
    (λ plp inside. ap (λ (o : Option (List Bool)). filter (has_length c plp) (cons_option o []))
    (none (plp_at c.plps plp).id))

-- a block
module _ (c : Config) (packets : List Packet) (p : Packet) (frame_idx id : ℕ) (first : Bool) (bits : List Bool)
    (is : p.body ≡ Block frame_idx id first bits) where
  no_l1 : l1_count p.packet_count p.body ≡ None
  no_l1 = ap (l1_count p.packet_count) is

  own_here : (plp : ℕ) → (plp_at c.plps plp).id ≡ id → blocks_of c plp (p ∷ []) ≡ bits ∷ []
  own_here plp own = ap (λ (b : Body). cons_option (body_block (plp_at c.plps plp).id b) []) is
      ∙ ap (λ (t : Bool). cons_option (if t then Some bits else None) []) (eq-eqb id (plp_at c.plps plp).id (sym own))

  other_right : (plp : ℕ) → (plp_at c.plps plp).id ≢ id → right_blocks c plp (p ∷ []) ≡ []
  other_right plp other =
      ap (filter (has_length c plp))
      (ap (λ (b : Body). cons_option (body_block (plp_at c.plps plp).id b) []) is
      ∙ ap (λ (t : Bool). cons_option (if t then Some bits else None) [])
      (ne_eqb id (plp_at c.plps plp).id (λ e. other (sym e))))

  -- of no PLP
  pub stray_held : (old : HeldMarks) → HasNoPlace c id → HoldsMarks c old packets → HoldsMarks c old (packets ++ p ∷ [])
  stray_held old none =
      stays_held c packets p old old (λ plp inside. other_right plp (none plp inside)) refl
      (or_none old.origin ∙ ap (option_or old.origin) (sym no_l1))

  module _ (k : ℕ) (at : IsPlace c id k) where
    right_here : (t : Bool) → has_length c k bits ≡ t → right_blocks c k (p ∷ []) ≡ (if t then bits ∷ [] else [])
    right_here t e = ap (filter (has_length c k)) (own_here k at.own) ∙ ap (λ (t : Bool). cond t (bits ∷ []) []) e

    -- with another length
    pub wrong_held : (old : HeldMarks) → length bits ≢ 8 * block_bytes c k → HoldsMarks c old packets
        → HoldsMarks c old (packets ++ p ∷ [])
    wrong_held old wrong =
        stays_held c packets p old old
        (λ plp inside.
        ⊎_elim
        (λ (e : plp ≡ k). ap (λ (j : ℕ). right_blocks c j (p ∷ [])) e
        ∙ right_here false (ne_eqb (length bits) (8 * block_bytes c k) wrong))
        (λ (ne : plp ≡ k → ⊥). other_right plp (at.others plp inside ne)) (cases_eq plp k))
        refl (or_none old.origin ∙ ap (option_or old.origin) (sym no_l1))

    -- with its length
    module _ (right : length bits ≡ 8 * block_bytes c k) where
      own_right : right_blocks c k (p ∷ []) ≡ bits ∷ []
      own_right = right_here true (eq-eqb (length bits) (8 * block_bytes c k) right)

      block_here : packet_blocks c p ≡ marked_block p.packet_count k bits ∷ []
      block_here =
          flat_one (λ plp. map (marked_block p.packet_count plp) (right_blocks c plp (p ∷ []))) k
          (marked_block p.packet_count k bits) 0 (length c.plps) (ap (map (marked_block p.packet_count k)) own_right)
          (λ plp inside ne. ap (map (marked_block p.packet_count plp))
          (other_right plp (at.others plp (omega (arith, inside)) ne)))
          (omega arith) (let l = at.inside in omega (arith, l))

      own_mark : (mark : Mark) → mark.plp ≡ k → mark.count ≡ p.packet_count
          → mark.place ≡ length (right_blocks c k packets)
          → Marks c (packets ++ p ∷ []) mark (marked_block p.packet_count k bits)
      own_mark mark plp count place =
          let grown = right_more c packets (p ∷ []) k ∙ ap (λ (l : List (List Bool)). right_blocks c k packets ++ l)
          own_right in
          record {
            plp = plp;
            count = count;
            inside = at.inside;
            there = let size = ap length grown in let sum = length-append (right_blocks c k packets) (bits ∷ []) in
                omega (arith, place, size, sum);
            bytes = ap (λ (l : List (List Bool)). slice_index_or (map held_bytes l) mark.place []) grown
                ∙ ap (λ (l : List (List ℕ)). slice_index_or l mark.place [])
                (map-append held_bytes (right_blocks c k packets) (bits ∷ []))
                ∙ ap (λ (n : ℕ). slice_index_or (map held_bytes (right_blocks c k packets) ++ held_bytes bits ∷ [])
                n [])
                (place ∙ sym (length-map (right_blocks c k packets) held_bytes))
                ∙ get_or-append_seam (map held_bytes (right_blocks c k packets)) (held_bytes bits) [] [];
            len = let size = length-bytes_of bits in omega (arith, size, right);
          }

      pub right_held : (old new : HeldMarks) (mark : Mark) (most : ℕ) → most ≡ pool_chunks c
          → new.marks.items
          ≡ (if nat_lt (length old.marks.items) most then old.marks.items ++ mark ∷ [] else old.marks.items)
          → new.origin ≡ old.origin → mark.plp ≡ k → mark.count ≡ p.packet_count
          → (fits_pool c (packets ++ p ∷ []) ≡ true → mark.place ≡ length (right_blocks c k packets))
          → HoldsMarks c old packets → HoldsMarks c new (packets ++ p ∷ [])
      right_held old new mark most chunks pushed origin plp count place h = record {
        marks = λ fits.
            let before = h.marks (fits_before c packets (p ∷ []) fits) in
            let size = before.len in
            let all = few c packets in
            let need = need_grown c packets p in
            let one = one_few c p in
            let here = ap length block_here in
            let within = leb-true (pool_need c (packets ++ p ∷ [])) (pool_chunks c) fits in
            let room : length old.marks.items < most = omega (arith, size, all, need, one, here, within, chunks) in
            let items : new.marks.items ≡ old.marks.items ++ mark ∷ [] = pushed
            ∙ cond-true (nat_lt (length old.marks.items) most) (old.marks.items ++ mark ∷ []) old.marks.items
            (lt-ltb (length old.marks.items) most room) in
            subst (λ (l : List Mark). AreMarks c (packets ++ p ∷ []) l (marked_blocks c (packets ++ p ∷ [])))
            (sym items)
            (subst (AreMarks c (packets ++ p ∷ []) (old.marks.items ++ mark ∷ []))
            (sym (grown_marks c packets p ∙ ap (λ (l : List MarkedBlock). marked_blocks c packets ++ l) block_here))
            (one_marked c packets p old.marks.items (marked_blocks c packets) mark (marked_block p.packet_count k bits)
            before
            (own_mark mark plp count (place fits))));
        origin = origin ∙ h.origin ∙ or_none (first_count packets)
            ∙ ap (option_or (first_count packets)) (sym no_l1) ∙ sym (origin_more packets p);
      }

      -- as many blocks of the PLP were there as stand before the last one
      pub last_place : (lists : List (List (List ℕ))) → AreBlocks c (packets ++ p ∷ []) lists
          → length (slice_index_or lists k []) ≡ length (right_blocks c k packets) + 1
      last_place lists blocks =
          let there = ap length (blocks k at.inside) in
          let size = length-map (right_blocks c k (packets ++ p ∷ [])) held_bytes in
          let grown = ap length (right_more c packets (p ∷ []) k) in
          let sum = length-append (right_blocks c k packets) (right_blocks c k (p ∷ [])) in
          let one = ap length own_right in
          omega (arith, there, size, grown, sum, one)

-- nothing is marked of no packets
pub none_held : (c : Config) (held : HeldMarks) → held.marks.items ≡ [] → held.origin ≡ None → HoldsMarks c held []
none_held c held marks origin = record {
  marks = λ fits. record { len = ap length marks; each = λ i inside. absurd (omega (arith, inside)) };
  origin = origin;
}
