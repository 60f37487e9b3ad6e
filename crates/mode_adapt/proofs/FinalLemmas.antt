-- A block whose bytes have all arrived is final, and the blocks that were put stay what they are.
use Rattle.std.proofs.Common.{◌≡◌, ℕ, zero, suc, ◌+◌, ◌-◌, ◌*◌, ◌/◌, ◌<◌, ◌≤◌, Bool, cond, List, [], ◌∷◌, ◌++◌, Some}
use Rattle.std.proofs.Common.{length, take, drop, map, min, refl, ap, sym, subst, ◌∙◌, arith}
use Rattle.std.proofs.Common.{add-one, length-append, inl, inr}
use Rattle.std.specs.Prelude.{nat_lt, slice_get}
use Rattle.std.specs.List.{range_with_len}
use Rattle.std.specs.Int.{div_ceil}
use Rattle.std.specs.Option.{option_map}
use Rattle.std.proofs.lemmas.Bool.{cases_lt, cases_Bool, ltb-true}
use Rattle.std.proofs.lemmas.Nat.{div-mul-add, le-div}
use Rattle.std.proofs.lemmas.Option.{slice_get-get_or}
use Rattle.std.proofs.lemmas.List.{get_or_append_left}
use Rattle.std.proofs.lemmas.List.FromFn.{map-range_with_len_more}
use Rattle.std.proofs.Math.Nat.{mul-le-mul_left, mul-le-mul_right}
use Rattle.terms.specs.Bits.{bits_of}
use Rattle.plp_config.specs.Capacity.{up_bytes, field_bytes, capacity}
use Rattle.plp_config.specs.Plps.{plp_at}
use Rattle.plp_config.specs.SlotTime.{slots_by, epoch_ticks}
use Rattle.plp_config.specs.Laws.{SlotLength, FieldRange, UserPacketRange}
use Rattle.plp_config.specs.declared.config.Config.{Config}
use Rattle.null_delete.specs.Deletion.{kept_slots, packet_at}
use Rattle.null_delete.specs.Laws.{DecidedByThePast}
use Rattle.mode_adapt.specs.declared.chain.Chain.{Chain}
use Rattle.mode_adapt.specs.Blocks.{rates_of, plp_keeps, plp_string, first_up, with_place, up_with, data_field}
use Rattle.mode_adapt.specs.Blocks.{block_bits}
use Rattle.mode_adapt.specs.Events.{Event, Offered, Cut, offered, cuts}
use Rattle.mode_adapt.specs.Laws.{WithinLaw, BacklogLaw}
use Rattle.mode_adapt.specs.Pieces.{piece_of}
use Rattle.mode_adapt.specs.Queue.{arrived, sent_before}
use Rattle.mode_adapt.specs.StandsFor.{Holds, full_blocks, early_blocks, IsPartial}
use Rattle.mode_adapt.specs.Steps.{HasSpace, IsFull, Puts}
use Rattle.mode_adapt.proofs.KeptLemmas.{kept_le}
use Rattle.mode_adapt.proofs.SentLemmas.{sent_now}
use Rattle.mode_adapt.proofs.PlaceLemmas.{in_front}
use Rattle.mode_adapt.proofs.SameLemmas.{Same, keeps_same, before_same}
use Rattle.mode_adapt.proofs.FirstLemmas.{first_law}
use Rattle.mode_adapt.proofs.OfferLemmas.{Adds, length-up, at_before, up_push, slots_push}
use Rattle.mode_adapt.proofs.SendLemmas.{block_here, num_pos, waits, rest_sent}
use Rattle.mode_adapt.proofs.EventLemmas.{offered_push, cuts_stay, offered_stay, cuts_push}

-- what is sent before the frame
abbrev pub before : Config → ℕ → List (List ℕ) → ℕ → ℕ
before c plp ps m = sent_before (rates_of c plp (epoch_ticks c plp)) (plp_keeps c plp (packet_at ps)) m

-- The blocks are those that were put.
abbrev pub Has : Chain → Config → ℕ → List (List ℕ) → ℕ → List (List Bool) → Type 0
Has chain c plp ps m blocks = blocks ≡ full_blocks c plp (packet_at ps) (length ps) (before c plp ps m) chain.made

-- what was made fills so many data fields
abbrev early_of : Config → ℕ → List (List ℕ) → ℕ → List (List Bool)
early_of c plp ps m =
    full_blocks c plp (packet_at ps) (length ps) (before c plp ps m)
    (min (plp_at c.plps plp).blocks
    ((length (plp_string c plp (packet_at ps) (length ps)) - before c plp ps m) / field_bytes c plp))

made_count : (made most b w : ℕ) → made ≤ most → (made < most → w < b) → 1 ≤ b → made ≡ min most ((made * b + w) / b)
made_count made most b w le short one =
    elim (cases_lt made most) [
      | inl lt ↦ let e = div-mul-add made b w (short lt) in omega (arith, e)
      | inr ge ↦ let e = le-div made (made * b + w) b one (omega arith) in omega (arith, e)
    ]

-- as many as the chain counts
pub made_is : FieldRange → (chain : Chain) (c : Config) (plp : ℕ) (ps : List (List ℕ)) (m : ℕ) → Holds chain c plp ps m
    → IsPartial chain
    → chain.made ≡ min (plp_at c.plps plp).blocks
    ((length (plp_string c plp (packet_at ps) (length ps)) - before c plp ps m) / field_bytes c plp)
made_is fields chain c plp ps m h p =
    let b : ℕ = field_bytes c plp in
    let w : ℕ = length chain.pending.items in
    let few = h.few in
    let blocks = h.settings.blocks in
    let field = h.settings.field in
    let sum : length (plp_string c plp (packet_at ps) (length ps)) - before c plp ps m ≡ chain.made * b + w =
    omega (arith, h.sent, h.rest.behind, waits chain c plp ps h.rest) in
    let n = made_count chain.made (plp_at c.plps plp).blocks b w (omega (arith, few, blocks))
    (λ lt. let s = p (omega (arith, lt, blocks)) in omega (arith, s, field))
    (let f = (fields c plp).0 in omega (arith, f)) in
    n ∙ ap (λ (v : ℕ). min (plp_at c.plps plp).blocks (v / b)) (sym sum)

pub early_is : FieldRange → (chain : Chain) (c : Config) (plp : ℕ) (events : List Event)
    → Holds chain c plp (offered events) (cuts events) → IsPartial chain
    → early_blocks c plp events ≡ full_blocks c plp (packet_at (offered events)) (length (offered events))
    (before c plp (offered events) (cuts events)) chain.made
early_is fields chain c plp events h p =
    ap (full_blocks c plp (packet_at (offered events)) (length (offered events))
    (before c plp (offered events) (cuts events)))
    (sym (made_is fields chain c plp (offered events) (cuts events) h p))

pub early_offered : FieldRange → (chain : Chain) (c : Config) (plp : ℕ) (events : List Event) (x : List ℕ)
    → Holds chain c plp (offered events ++ x ∷ []) (cuts events) → IsPartial chain
    → early_blocks c plp (events ++ Offered x ∷ []) ≡ full_blocks c plp (packet_at (offered events ++ x ∷ []))
    (length (offered events ++ x ∷ [])) (before c plp (offered events ++ x ∷ []) (cuts events)) chain.made
early_offered fields chain c plp events x h p =
    ap (λ (ps : List (List ℕ)). early_of c plp ps (cuts (events ++ Offered x ∷ []))) (offered_push events x)
    ∙ ap (early_of c plp (offered events ++ x ∷ [])) (cuts_stay events x)
    ∙ ap (full_blocks c plp (packet_at (offered events ++ x ∷ [])) (length (offered events ++ x ∷ []))
    (before c plp (offered events ++ x ∷ []) (cuts events)))
    (sym (made_is fields chain c plp (offered events ++ x ∷ []) (cuts events) h p))

pub early_cut : FieldRange → (chain : Chain) (c : Config) (plp : ℕ) (events : List Event)
    → Holds chain c plp (offered events) (cuts events + 1) → IsPartial chain → chain.made ≡ 0
    → early_blocks c plp (events ++ Cut ∷ []) ≡ []
early_cut fields chain c plp events h p none =
    ap (λ (ps : List (List ℕ)). early_of c plp ps (cuts (events ++ Cut ∷ []))) (offered_stay events)
    ∙ ap (early_of c plp (offered events)) (cuts_push events)
    ∙ ap (full_blocks c plp (packet_at (offered events)) (length (offered events))
    (before c plp (offered events) (cuts events + 1)))
    (sym (made_is fields chain c plp (offered events) (cuts events + 1) h p) ∙ none)

-- what waits after so many blocks is less than a user packet
rest_small : (whole arrived now before cap l w s made b : ℕ) → whole ≤ arrived → now ≡ min arrived (before + cap)
    → arrived - now < l → s ≡ before + made * b → made * b ≡ cap → w ≡ whole - s → w < l
rest_small whole arrived now before cap l w s made b e0 e1 e2 e3 e4 e5 = omega arith

-- Less than a data field waits.
pub all_short : SlotLength → FieldRange → UserPacketRange → WithinLaw → BacklogLaw
    → (chain : Chain) (c : Config) (plp : ℕ) (ps : List (List ℕ)) (m : ℕ) → Holds chain c plp ps m → IsPartial chain
    → length chain.pending.items < field_bytes c plp
all_short lengths fields ups within backlog chain c plp ps m h p =
    let field = h.settings.field in
    let few = h.few in
    let up = ups c plp in
    let range = fields c plp in
    elim (cases_lt chain.made chain.settings.blocks) [
      | inl lt ↦ let s = p lt in omega (arith, s, field)
      | inr ge ↦
          let keeps : ℕ → Bool = plp_keeps c plp (packet_at ps) in
          let pos = num_pos lengths chain c plp ps m h in
          let same : chain.made ≡ chain.settings.blocks = omega (arith, ge, few) in
          let cap : chain.made * field_bytes c plp ≡ capacity c plp = ap (λ (v : ℕ). v * field_bytes c plp) same
          ∙ ap (λ (v : ℕ). chain.settings.blocks * v) (sym field) ∙ h.settings.most in
          let came : up_bytes c plp * length (kept_slots keeps (length ps))
          ≤ arrived (rates_of c plp (epoch_ticks c plp)) keeps m =
          mul-le-mul_left (up_bytes c plp) (kept_le keeps (length ps) (slots_by c plp (m * epoch_ticks c plp)) h.to) in
          let whole : length (plp_string c plp (packet_at ps) (length ps))
          ≤ arrived (rates_of c plp (epoch_ticks c plp)) keeps m =
          rw (length-up c plp (packet_at ps) (length ps) h.whole) came in
          let back = backlog (rates_of c plp (epoch_ticks c plp)) keeps m (within c plp h.plan h.place).0 in
          let small = rest_small _ _ _ (before c plp ps m) (capacity c plp) (up_bytes c plp)
          (length chain.pending.items) chain.sent chain.made (field_bytes c plp) whole
          (sent_now (rates_of c plp (epoch_ticks c plp)) keeps m pos) back h.sent cap (waits chain c plp ps h.rest) in
          omega (arith, small, up.1, range.0)
    ]

-- There is room for a user packet.
pub has_space : SlotLength → FieldRange → UserPacketRange → WithinLaw → BacklogLaw
    → (chain : Chain) (c : Config) (plp : ℕ) (ps : List (List ℕ)) (m : ℕ) → Holds chain c plp ps m → IsPartial chain
    → HasSpace chain
has_space lengths fields ups within backlog chain c plp ps m h p =
    let short = all_short lengths fields ups within backlog chain c plp ps m h p in
    let field = h.settings.field in
    omega (arith, short, field)

-- a slot more does not matter to a user packet that begins early enough
got_left : (xs ys : List ℕ) (i : ℕ) → i < length xs → slice_get xs i ≡ slice_get (xs ++ ys) i
got_left xs ys i lt =
    slice_get-get_or xs i 0 lt ∙ ap Some (sym (get_or_append_left xs ys 0 i lt))
    ∙ sym (slice_get-get_or (xs ++ ys) i 0 (omega (arith, lt, length-append xs ys)))

up_more : (len : ℕ) (slots more : List ℕ) (i y : ℕ) → (len * i < y → i < length slots) → up_with len slots 0 i y
    ≡ up_with len (slots ++ more) 0 i y
up_more len slots more i y within =
    let back : i - 0 ≡ i = omega arith in
    elim (cases_Bool (nat_lt (len * i) y)) [
      | inl e ↦ rw e (ap (option_map (λ k. (len * i, k)))
          (rw back (got_left slots more i (within (ltb-true (len * i) y e)))))
      | inr e ↦ rw e refl
    ]

below_count : (len i y k : ℕ) → len * i < y → y ≤ len * k → i < k
below_count len i y k a b =
    elim (cases_lt i k) [
      | inl lt ↦ lt
      | inr ge ↦ let h : len * k ≤ len * i = mul-le-mul_left len ge in absurd (omega (arith, h, a, b))
    ]

-- A block whose bytes have all arrived is final.
block_later : DecidedByThePast → (c : Config) (plp : ℕ) (at to : ℕ → List ℕ) (n x y : ℕ) (b : Bool) → 1 ≤ up_bytes c plp
    → ((k : ℕ) → length (at k) ≡ 188) → Same to at n → plp_keeps c plp to n ≡ b
    → x ≤ y → y ≤ length (plp_string c plp at n) → block_bits c plp at n x y ≡ block_bits c plp to (n + 1) x y
block_later past c plp at to n x y b one whole same on le inside =
    let len : ℕ = up_bytes c plp in
    let was : List ℕ = kept_slots (plp_keeps c plp at) n in
    let kept = slots_push past (plp_at c.plps plp).delete at to n b same on in
    let string = up_push past (plp_at c.plps plp).delete at to n b same on in
    let size = length-up c plp at n whole in
    let first : with_place len (plp_keeps c plp at) (first_up len (plp_keeps c plp at) n x y)
    ≡ with_place len (plp_keeps c plp to) (first_up len (plp_keeps c plp to) (n + 1) x y) =
    first_law len (plp_keeps c plp at) n x y one
    ∙ up_more len was (cond b (n ∷ []) []) (div_ceil x len) y
    (λ lt. below_count len (div_ceil x len) y (length was) lt (omega (arith, inside, size)))
    ∙ ap (λ (l : List ℕ). up_with len l 0 (div_ceil x len) y) (sym kept)
    ∙ sym (first_law len (plp_keeps c plp to) (n + 1) x y one) in
    let bytes : data_field c plp at n x y ≡ data_field c plp to (n + 1) x y =
    sym (ap (λ (l : List ℕ). take (y - x) (drop x l)) string ∙ in_front (plp_string c plp at n) _ x (y - x)
    (omega (arith, le, inside))) in
    rw (first, bytes) refl

-- equal at each place below n
pub range_same : (f g : ℕ → List Bool) (n : ℕ) → ((i : ℕ) → i < n → f i ≡ g i) → map f (range_with_len 0 n)
    ≡ map g (range_with_len 0 n)
range_same f g zero h = refl
range_same f g (suc n) h =
    subst (λ k. map f (range_with_len 0 k) ≡ map g (range_with_len 0 k)) (add-one n)
    (map-range_with_len_more f 0 n n (omega arith)
    ∙ ap (λ (l : List (List Bool)). l ++ f n ∷ []) (range_same f g n (λ i lt. h i (omega arith)))
    ∙ ap (λ (v : List Bool). map g (range_with_len 0 n) ++ v ∷ []) (h n (omega arith))
    ∙ sym (map-range_with_len_more g 0 n n (omega arith)))

pub place_within : (x i b made s : ℕ) → i < made → x + made * b ≤ s → x + i * b + b ≤ s
place_within x i b made s lt le = let h : (i + 1) * b ≤ made * b = mul-le-mul_right b (omega arith) in
    omega (arith, h, le)

-- the blocks that were put stay what they are
pub has_added : DecidedByThePast → SlotLength → UserPacketRange → (chain new : Chain) (c : Config) (plp : ℕ)
    (ps : List (List ℕ))
    (m : ℕ) (x : List ℕ) (b : Bool) (blocks : List (List Bool)) → Holds chain c plp ps m
    → plp_keeps c plp (packet_at (ps ++ x ∷ [])) (length ps) ≡ b → Adds chain new c plp ps x b
    → Has chain c plp ps m blocks
    → Has new c plp (ps ++ x ∷ []) m blocks
has_added past lengths ups chain new c plp ps m x b blocks h on a has =
    let at : ℕ → List ℕ = packet_at ps in
    let to : ℕ → List ℕ = packet_at (ps ++ x ∷ []) in
    let same = at_before ps x in
    let up = ups c plp in
    let one : 1 ≤ up_bytes c plp = omega (arith, up.0) in
    let pos = num_pos lengths chain c plp ps m h in
    let len : length (ps ++ x ∷ []) ≡ length ps + 1 = length-append ps (x ∷ []) in
    let start : before c plp (ps ++ x ∷ []) m ≡ before c plp ps m =
    before_same (rates_of c plp (epoch_ticks c plp)) (plp_keeps c plp to) (plp_keeps c plp at) m (length ps) pos h.from
    (keeps_same past (plp_at c.plps plp).delete _ _ (length ps) same) in
    let inside : before c plp ps m + chain.made * field_bytes c plp ≤ length (plp_string c plp at (length ps)) =
    omega (arith, h.sent, h.rest.behind) in
    has
    ∙ range_same _ _ chain.made (λ i lt. block_later past c plp at to (length ps)
    (before c plp ps m + i * field_bytes c plp)
    (before c plp ps m + i * field_bytes c plp + field_bytes c plp) b one h.whole same on (omega arith)
    (place_within (before c plp ps m) i (field_bytes c plp) chain.made (length (plp_string c plp at (length ps)))
    lt inside))
    ∙ ap (λ (v : ℕ). full_blocks c plp to v (before c plp ps m) chain.made) (sym len)
    ∙ ap (λ (v : ℕ). full_blocks c plp to (length (ps ++ x ∷ [])) v chain.made) (sym start)
    ∙ ap (full_blocks c plp to (length (ps ++ x ∷ [])) (before c plp (ps ++ x ∷ []) m)) (sym a.made)

-- the block of the first bytes
pub piece_is : FieldRange → UserPacketRange → (chain : Chain) (c : Config) (plp : ℕ) (ps : List (List ℕ)) (m count : ℕ)
    → Holds chain c plp ps m
    → piece_of chain count ≡ block_bits c plp (packet_at ps) (length ps) (before c plp ps m + chain.made
    * field_bytes c plp)
    (before c plp ps m + chain.made * field_bytes c plp + count)
piece_is fields ups chain c plp ps m count h =
    let up = ups c plp in
    block_here fields chain c plp ps count (omega (arith, up.0)) h.settings h.rest
    ∙ ap (λ (v : ℕ). block_bits c plp (packet_at ps) (length ps) v (v + count)) h.sent

-- one full block more
pub has_put : FieldRange → UserPacketRange → (chain new : Chain) (c : Config) (plp : ℕ) (ps : List (List ℕ)) (m : ℕ)
    (was is : List (List ℕ)) → Holds chain c plp ps m
    → Puts chain new chain.settings.field_bytes was is → Has chain c plp ps m (map bits_of was)
    → Has new c plp ps m (map bits_of is)
has_put fields ups chain new c plp ps m was is h k has =
    let f : ℕ → List Bool = λ (i : ℕ). block_bits c plp (packet_at ps) (length ps)
    (before c plp ps m + i * field_bytes c plp)
    (before c plp ps m + i * field_bytes c plp + field_bytes c plp) in
    k.list
    ∙ ap (λ (l : List (List Bool)). l ++ piece_of chain chain.settings.field_bytes ∷ []) has
    ∙ ap (λ (v : List Bool). map f (range_with_len 0 chain.made) ++ v ∷ [])
    (piece_is fields ups chain c plp ps m chain.settings.field_bytes h
    ∙ ap (λ (v : ℕ). block_bits c plp (packet_at ps) (length ps) (before c plp ps m + chain.made * field_bytes c plp)
    (before c plp ps m + chain.made * field_bytes c plp + v)) h.settings.field)
    ∙ sym (map-range_with_len_more f 0 chain.made chain.made (omega arith))
    ∙ ap (λ (n : ℕ). map f (range_with_len 0 n)) (sym k.sends.made)

-- a chain that put a full block
pub put_holds : UserPacketRange → (chain new : Chain) (c : Config) (plp : ℕ) (ps : List (List ℕ)) (m : ℕ)
    (was is : List (List ℕ))
    → Holds chain c plp ps m → IsFull chain
    → Puts chain new chain.settings.field_bytes was is → Holds new c plp ps m
put_holds ups chain new c plp ps m was is h full k =
    let up = ups c plp in
    let s = k.sends in
    let field = h.settings.field in
    let more : new.made * field_bytes c plp ≡ chain.made * field_bytes c plp + field_bytes c plp =
    ap (λ (v : ℕ). v * field_bytes c plp) k.sends.made ∙ omega arith in
    record {
      plan = h.plan;
      place = h.place;
      settings = rw s.settings h.settings;
      slot = s.slot ∙ h.slot;
      deleter = rw s.deleter h.deleter;
      whole = h.whole;
      sent = omega (arith, s.sent, h.sent, more, field);
      few = rw (k.sends.made, s.settings) (omega (arith, full.0));
      rest = rest_sent chain new c plp ps chain.settings.field_bytes (omega (arith, up.0)) h.settings full.1 h.rest s;
      from = h.from;
      to = h.to;
    }
