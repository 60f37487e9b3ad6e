-- Blocks that are put before the frame ends.
use Rattle.std.proofs.Common.{◌≡◌, ℕ, ◌+◌, ◌-◌, ◌*◌, ◌<◌, ◌≤◌, Bool, true, false, List, [], ◌∷◌, ◌++◌}
use Rattle.std.proofs.Common.{length, drop, map, min, get_or, set, replicate, length-set, refl, ap, sym, ◌∙◌, arith}
use Rattle.std.proofs.Common.{add-one, length-append, length-drop, inl, inr}
use Rattle.std.specs.List.{range_with_len}
use Rattle.std.specs.Int.{div_ceil}
use Rattle.std.proofs.lemmas.Grind.{div_ceil_times}
use Rattle.std.proofs.lemmas.Bool.{cases_lt, cases_eq, cases_order}
use Rattle.std.proofs.lemmas.List.{get_or-set_same, get_or-set_other, length-take, length-map}
use Rattle.std.proofs.lemmas.List.{length-replicate}
use Rattle.std.proofs.lemmas.List.Elements.{All-append}
use Rattle.std.proofs.lemmas.List.FromFn.{map-range_with_len_more, length-map-range_with_len}
use Rattle.std.proofs.Math.Nat.{mul-le-mul_right}
use Rattle.terms.specs.Bits.{bits_of}
use Rattle.linked_pool.specs.Fits.{ListFits}
use Rattle.linked_pool.specs.Laws.{NextFits}
use Rattle.linked_pool.specs.Pool.{State, list_at, chunks_for, IsWhole}
use Rattle.plp_config.specs.Capacity.{IsPlan, up_bytes, field_bytes, block_bytes, capacity}
use Rattle.plp_config.specs.Plps.{plp_at}
use Rattle.plp_config.specs.SlotTime.{slots_by, epoch_ticks}
use Rattle.plp_config.specs.Laws.{SlotLength, FieldRange, UserPacketRange}
use Rattle.plp_config.specs.declared.config.Config.{Config}
use Rattle.null_delete.specs.Deletion.{kept_slots, packet_at}
use Rattle.null_delete.specs.Laws.{DecidedByThePast}
use Rattle.mode_adapt.specs.declared.chain.Chain.{Chain}
use Rattle.mode_adapt.specs.Blocks.{rates_of, plp_keeps, plp_string, block_bits}
use Rattle.mode_adapt.specs.Blocks.{blocks_between, blocks_of}
use Rattle.mode_adapt.specs.Events.{Event, Offered, Cut, HasRoom, IsDue, offered, cuts}
use Rattle.mode_adapt.specs.Place.{HasPlace}
use Rattle.mode_adapt.specs.Laws.{WithinLaw, BacklogLaw, EarlyFits}
use Rattle.mode_adapt.specs.Pieces.{piece_of}
use Rattle.mode_adapt.specs.Queue.{sent, sent_before}
use Rattle.mode_adapt.specs.StandsFor.{HoldsRest, Holds, ChainStandsFor, full_blocks, early_blocks, IsPartial}
use Rattle.mode_adapt.specs.Steps.{Keeps, HasSpace, IsFull, IsLeft, IsOver, Puts, Resets, Lacks}
use Rattle.mode_adapt.proofs.SentLemmas.{sent_now, slots_mono}
use Rattle.mode_adapt.proofs.OfferLemmas.{Adds, added}
use Rattle.mode_adapt.proofs.SendLemmas.{map_both, all_came, num_pos, waits, rest_sent, left_over}
use Rattle.mode_adapt.proofs.EventLemmas.{opened, offered_on, was_cut}
use Rattle.mode_adapt.proofs.FinalLemmas.{before, Has, early_is, early_offered, all_short, range_same, place_within}
use Rattle.mode_adapt.proofs.FinalLemmas.{has_added}
use Rattle.mode_adapt.proofs.FinalLemmas.{piece_is, has_put, put_holds}

-- What an offer ends with.
pub record Offers (new : Chain) (c : Config) (plp : ℕ) (ps : List (List ℕ)) (m : ℕ) (kept : Chain)
    (was is : List (List ℕ)) : Type 0 where
  pub holds : Holds new c plp ps m
  pub partial : IsPartial new
  pub has : Has kept c plp ps m (map bits_of was) → Has new c plp ps m (map bits_of is)

pub offer_step : FieldRange → UserPacketRange → (kept new : Chain) (c : Config) (plp : ℕ) (ps : List (List ℕ)) (m : ℕ)
    (was is : List (List ℕ)) → Holds kept c plp ps m
    → length kept.pending.items < 2 * kept.settings.field_bytes → (IsPartial kept → (new ≡ kept) × (is ≡ was))
    → (IsFull kept → Puts kept new kept.settings.field_bytes was is)
    → Offers new c plp ps m kept was is
offer_step fields ups kept new c plp ps m was is h bound none some =
    let stays : IsPartial kept → Offers new c plp ps m kept was is = λ p.
    let e = none p in
    rw (e.0, e.1) (record { holds = h; partial = p; has = λ x. x }) in
    elim (cases_lt kept.made kept.settings.blocks) [
      | inr ge ↦ stays (λ lt. absurd (omega (arith, lt, ge)))
      | inl lt ↦
          elim (cases_lt (length kept.pending.items) kept.settings.field_bytes) [
            | inl short ↦ stays (λ less. short)
            | inr full ↦
                let k = some (lt, full) in
                let s = k.sends in
                let size : length new.pending.items ≡ length kept.pending.items - kept.settings.field_bytes =
                ap length s.pending ∙ length-drop kept.settings.field_bytes kept.pending.items in
                record {
                  holds = put_holds ups kept new c plp ps m was is h (lt, full) k;
                  partial = λ less. rw s.settings (omega (arith, size, bound, full));
                  has = has_put fields ups kept new c plp ps m was is h k;
                }
          ]
    ]

-- so many data fields
cdiv_is : (v b k : ℕ) → 1 ≤ b → v ≤ k * b → k * b < v + b → div_ceil v b ≡ k
cdiv_is v b k one up low =
    let bound = div_ceil_times v b one in
    elim (cases_order (div_ceil v b) k) [
      | inl e ↦ e
      | inr (inl lt) ↦ let h : (div_ceil v b + 1) * b ≤ k * b = mul-le-mul_right b (omega arith) in
          absurd (omega (arith, h, bound.0, low))
      | inr (inr gt) ↦ let h : (k + 1) * b ≤ div_ceil v b * b = mul-le-mul_right b (omega arith) in
          absurd (omega (arith, h, bound.1, up))
    ]

-- the block that begins at data field i, and ends at place y at the latest
abbrev block_to : Config → ℕ → (ℕ → List ℕ) → ℕ → ℕ → ℕ → ℕ → List Bool
block_to c plp at n x y i =
    block_bits c plp at n (x + i * field_bytes c plp) (min (x + i * field_bytes c plp + field_bytes c plp) y)

between_is : (c : Config) (plp : ℕ) (at : ℕ → List ℕ) (n x y k : ℕ) → div_ceil (y - x) (field_bytes c plp) ≡ k
    → blocks_between c plp at n x y ≡ map (block_to c plp at n x y) (range_with_len 0 k)
between_is c plp at n x y k e =
    sym (map_both (block_to c plp at n x y) (λ from. block_bits c plp at n from (min (from + field_bytes c plp) y))
    (λ i. x + i * field_bytes c plp) (λ i. refl) (range_with_len 0 (div_ceil (y - x) (field_bytes c plp))))
    ∙ ap (λ (v : ℕ). map (block_to c plp at n x y) (range_with_len 0 v)) e

front_same : (c : Config) (plp : ℕ) (at : ℕ → List ℕ) (n x y made : ℕ) → x + made * field_bytes c plp ≤ y
    → map (block_to c plp at n x y) (range_with_len 0 made) ≡ full_blocks c plp at n x made
front_same c plp at n x y made le =
    range_same (block_to c plp at n x y) _ made (λ i lt.
    let h = place_within x i (field_bytes c plp) made y lt le in
    let e : min (x + i * field_bytes c plp + field_bytes c plp) y ≡ x + i * field_bytes c plp + field_bytes c plp =
    omega (arith, h) in
    ap (block_bits c plp at n (x + i * field_bytes c plp)) e)

-- blocks that are all full
between_full : (c : Config) (plp : ℕ) (at : ℕ → List ℕ) (n x y made : ℕ) → 1 ≤ field_bytes c plp
    → y ≡ x + made * field_bytes c plp
    → blocks_between c plp at n x y ≡ full_blocks c plp at n x made
between_full c plp at n x y made one e =
    between_is c plp at n x y made (cdiv_is (y - x) (field_bytes c plp) made one (omega (arith, e))
    (omega (arith, e, one)))
    ∙ front_same c plp at n x y made (omega (arith, e))

-- and a last one that may be shorter
between_more : (c : Config) (plp : ℕ) (at : ℕ → List ℕ) (n x y made r : ℕ) → 1 ≤ field_bytes c plp → 1 ≤ r
    → r ≤ field_bytes c plp
    → y ≡ x + made * field_bytes c plp + r
    → blocks_between c plp at n x y ≡ full_blocks c plp at n x made ++ block_bits c plp at n
    (x + made * field_bytes c plp)
    (x + made * field_bytes c plp + r) ∷ []
between_more c plp at n x y made r one some short e =
    let count : div_ceil (y - x) (field_bytes c plp) ≡ made + 1 =
    cdiv_is (y - x) (field_bytes c plp) (made + 1) one (omega (arith, e, short)) (omega (arith, e, some)) in
    let end : min (x + made * field_bytes c plp + field_bytes c plp) y ≡ x + made * field_bytes c plp + r =
    omega (arith, e, short) in
    between_is c plp at n x y (made + 1) count
    ∙ map-range_with_len_more (block_to c plp at n x y) 0 made made (omega arith)
    ∙ ap (λ (l : List (List Bool)). l ++ block_to c plp at n x y made ∷ [])
    (front_same c plp at n x y made (omega (arith, e)))
    ∙ ap (λ (v : ℕ). full_blocks c plp at n x made ++ block_bits c plp at n (x + made * field_bytes c plp) v ∷ []) end

full_len : (c : Config) (plp : ℕ) (at : ℕ → List ℕ) (n x made : ℕ) → length (full_blocks c plp at n x made) ≡ made
full_len c plp at n x made =
    length-map-range_with_len
    (λ (i : ℕ). block_bits c plp at n (x + i * field_bytes c plp) (x + i * field_bytes c plp + field_bytes c plp))
    0 made

-- what a frame sends
made_within : (made blocks b cap : ℕ) → made ≤ blocks → blocks * b ≡ cap → made * b ≤ cap
made_within made blocks b cap le e = let h : made * b ≤ blocks * b = mul-le-mul_right b le in omega (arith, h, e)

blocks_by : (chain : Chain) (c : Config) (plp : ℕ) (ps : List (List ℕ)) (m : ℕ) → Holds chain c plp ps m
    → chain.settings.blocks * field_bytes c plp ≡ capacity c plp
blocks_by chain c plp ps m h = ap (λ (v : ℕ). chain.settings.blocks * v) (sym h.settings.field) ∙ h.settings.most

-- all has been put that the frame sends
over_sent : SlotLength → (chain : Chain) (c : Config) (plp : ℕ) (ps : List (List ℕ)) (m : ℕ) → Holds chain c plp ps m
    → IsOver chain → length ps ≡ slots_by c plp (m * epoch_ticks c plp)
    → chain.sent ≡ sent (rates_of c plp (epoch_ticks c plp)) (plp_keeps c plp (packet_at ps)) m
over_sent lengths chain c plp ps m h over due =
    let now = sent_now (rates_of c plp (epoch_ticks c plp)) (plp_keeps c plp (packet_at ps)) m
    (num_pos lengths chain c plp ps m h) in
    let came = all_came c plp ps m h.whole due in
    let w = waits chain c plp ps h.rest in
    let few = h.few in
    let cap = blocks_by chain c plp ps m h in
    let fits = made_within chain.made chain.settings.blocks (field_bytes c plp) (capacity c plp) few cap in
    elim (cases_lt chain.made chain.settings.blocks) [
      | inl lt ↦ let none = over lt in omega (arith, now, came, w, none, fits, h.sent, h.rest.behind)
      | inr ge ↦
          let same : chain.made ≡ chain.settings.blocks = omega (arith, ge, few) in
          let all : chain.made * field_bytes c plp ≡ capacity c plp = ap (λ (v : ℕ). v * field_bytes c plp) same
          ∙ cap in
          omega (arith, now, came, all, h.sent, h.rest.behind)
    ]

-- what is left goes into a last block
left_sent : SlotLength → (chain : Chain) (c : Config) (plp : ℕ) (ps : List (List ℕ)) (m : ℕ) → Holds chain c plp ps m
    → IsPartial chain → IsLeft chain → length ps ≡ slots_by c plp (m * epoch_ticks c plp)
    → chain.sent + length chain.pending.items ≡ sent (rates_of c plp (epoch_ticks c plp))
    (plp_keeps c plp (packet_at ps)) m
left_sent lengths chain c plp ps m h p left due =
    let now = sent_now (rates_of c plp (epoch_ticks c plp)) (plp_keeps c plp (packet_at ps)) m
    (num_pos lengths chain c plp ps m h) in
    let came = all_came c plp ps m h.whole due in
    let w = waits chain c plp ps h.rest in
    let short = p left.0 in
    let field = h.settings.field in
    let cap = blocks_by chain c plp ps m h in
    let fits : (chain.made + 1) * field_bytes c plp ≤ capacity c plp =
    made_within (chain.made + 1) chain.settings.blocks (field_bytes c plp) (capacity c plp) (omega (arith, left.0))
    cap in
    omega (arith, now, came, w, short, field, fits, h.sent, h.rest.behind)

-- What a cut ends with; mid is the chain before its count is taken back.
pub record Ends (chain mid new : Chain) (c : Config) (plp : ℕ) (ps : List (List ℕ)) (m : ℕ)
    (was is : List (List ℕ)) : Type 0 where
  pub holds : Holds new c plp ps (m + 1)
  pub partial : IsPartial new
  pub blocks : Has chain c plp ps m (map bits_of was) → map bits_of is ≡ blocks_of c plp (epoch_ticks c plp)
      (packet_at ps) m
  pub count : mid.made ≡ length (blocks_of c plp (epoch_ticks c plp) (packet_at ps) m)

no_field : (s b made f : ℕ) → s ≡ b → made ≡ 0 → s ≡ b + made * f
no_field s b made f e none = let z : made * f ≡ 0 * f = ap (λ (v : ℕ). v * f) none in omega (arith, e, z)

-- the next frame is under way
next_holds : SlotLength → (chain mid new : Chain) (c : Config) (plp : ℕ) (ps : List (List ℕ)) (m : ℕ)
    → Holds chain c plp ps m
    → length ps ≡ slots_by c plp (m * epoch_ticks c plp)
    → mid.settings ≡ chain.settings → mid.slot ≡ chain.slot → mid.deleter ≡ chain.deleter → HoldsRest mid c plp ps
    → mid.sent ≡ sent (rates_of c plp (epoch_ticks c plp)) (plp_keeps c plp (packet_at ps)) m
    → Resets mid new → Holds new c plp ps (m + 1)
next_holds lengths chain mid new c plp ps m h due e0 e1 e2 rest is r =
    let pos = num_pos lengths chain c plp ps m h in
    let back : m + 1 - 1 ≡ m = omega arith in
    let next : m * epoch_ticks c plp ≤ (m + 1) * epoch_ticks c plp = mul-le-mul_right (epoch_ticks c plp)
    (omega arith) in
    let mono = slots_mono (rates_of c plp (epoch_ticks c plp)) (m * epoch_ticks c plp) ((m + 1) * epoch_ticks c plp)
    pos next in
    let now : new.sent ≡ before c plp ps (m + 1) =
    r.sent ∙ is ∙ ap (sent_before (rates_of c plp (epoch_ticks c plp)) (plp_keeps c plp (packet_at ps)))
    (sym (add-one m)) in
    record {
      plan = h.plan;
      place = h.place;
      settings = rw (r.settings, e0) h.settings;
      slot = r.slot ∙ e1 ∙ h.slot;
      deleter = rw (r.deleter, e2) h.deleter;
      whole = h.whole;
      sent = no_field new.sent (before c plp ps (m + 1)) new.made (field_bytes c plp) now r.made;
      few = rw r.made (omega arith);
      rest = record {
        pending = r.pending ∙ rest.pending ∙ ap (λ (v : ℕ). drop v (plp_string c plp (packet_at ps) (length ps)))
            (sym r.sent);
        slots = r.slots ∙ rest.slots
            ∙ ap (λ (v : ℕ). drop (div_ceil v (up_bytes c plp)) (kept_slots (plp_keeps c plp (packet_at ps))
            (length ps)))
            (sym r.sent);
        behind = rw r.sent rest.behind;
      };
      from = rw back (omega (arith, due));
      to = omega (arith, due, mono);
    }

-- less than a data field is left
next_partial : FieldRange → UserPacketRange → WithinLaw → BacklogLaw
    → (new : Chain) (c : Config) (plp : ℕ) (ps : List (List ℕ))
    (m : ℕ) → Holds new c plp ps (m + 1) → new.made ≡ 0
    → length ps ≡ slots_by c plp (m * epoch_ticks c plp) → IsPartial new
next_partial fields ups within backlog new c plp ps m h none due = λ lt.
    let w = left_over new c plp ps m h none due in
    let back = backlog (rates_of c plp (epoch_ticks c plp)) (plp_keeps c plp (packet_at ps)) m
    (within c plp h.plan h.place).0 in
    let up = ups c plp in
    let range = fields c plp in
    let field = h.settings.field in
    omega (arith, w, back, up.1, range.0, field)

-- no block is put right behind a cut
pub none_made : FieldRange → UserPacketRange → WithinLaw → BacklogLaw
    → (chain : Chain) (c : Config) (plp : ℕ) (ps : List (List ℕ)) (m : ℕ) → Holds chain c plp ps (m + 1)
    → IsPartial chain
    → length ps ≡ slots_by c plp (m * epoch_ticks c plp) → chain.made ≡ 0
none_made fields ups within backlog chain c plp ps m h p due =
    let back = backlog (rates_of c plp (epoch_ticks c plp)) (plp_keeps c plp (packet_at ps)) m
    (within c plp h.plan h.place).0 in
    let up = ups c plp in
    let range = fields c plp in
    let came = all_came c plp ps m h.whole due in
    let start : before c plp ps (m + 1) ≡ sent (rates_of c plp (epoch_ticks c plp)) (plp_keeps c plp (packet_at ps)) m =
    ap (sent_before (rates_of c plp (epoch_ticks c plp)) (plp_keeps c plp (packet_at ps))) (add-one m) in
    let n : ℕ = chain.made in
    let b : ℕ = field_bytes c plp in
    let small : chain.made * b < 1 * b = omega (arith, came, start, back, up.1, range.0, h.sent, h.rest.behind) in
    elim (cases_lt chain.made 1) [
      | inl lt ↦ omega (arith, lt)
      | inr ge ↦ let x : 1 * b ≤ chain.made * b = mul-le-mul_right b ge in absurd (omega (arith, x, small))
    ]

pub cut_step : SlotLength → FieldRange → UserPacketRange → WithinLaw → BacklogLaw
    → (chain mid new : Chain) (c : Config) (plp : ℕ) (ps : List (List ℕ)) (m : ℕ) (was is : List (List ℕ))
    → Holds chain c plp ps m → IsPartial chain
    → length ps ≡ slots_by c plp (m * epoch_ticks c plp) → (IsOver chain → (mid ≡ chain) × (is ≡ was))
    → (IsLeft chain → Puts chain mid (min chain.settings.field_bytes (length chain.pending.items)) was is)
    → Resets mid new
    → Ends chain mid new c plp ps m was is
cut_step lengths fields ups within backlog chain mid new c plp ps m was is h p due none some r =
    let at : ℕ → List ℕ = packet_at ps in
    let x : ℕ = before c plp ps m in
    let b : ℕ = field_bytes c plp in
    let range = fields c plp in
    let one : 1 ≤ field_bytes c plp = omega (arith, range.0) in
    let stays : IsOver chain → Ends chain mid new c plp ps m was is = λ over.
    let e = none over in
    let end = over_sent lengths chain c plp ps m h over due in
    let holds = next_holds lengths chain mid new c plp ps m h due (ap (λ (v : Chain). v.settings) e.0)
    (ap (λ (v : Chain). v.slot) e.0) (ap (λ (v : Chain). v.deleter) e.0) (rw e.0 h.rest) (ap (λ (v : Chain). v.sent) e.0
    ∙ end) r in
    let all : blocks_of c plp (epoch_ticks c plp) at m ≡ full_blocks c plp at (length ps) x chain.made =
    ap (λ (v : ℕ). blocks_between c plp at v x (sent (rates_of c plp (epoch_ticks c plp)) (plp_keeps c plp at) m))
    (sym due)
    ∙ between_full c plp at (length ps) x _ chain.made one (sym end ∙ h.sent) in
    record {
      holds = holds;
      partial = next_partial fields ups within backlog new c plp ps m holds r.made due;
      blocks = λ has. ap (map bits_of) e.1 ∙ has ∙ sym all;
      count = ap (λ (v : Chain). v.made) e.0 ∙ sym (ap length all ∙ full_len c plp at (length ps) x chain.made);
    } in
    elim (cases_lt chain.made chain.settings.blocks) [
      | inr ge ↦ stays (λ lt. absurd (omega (arith, lt, ge)))
      | inl lt ↦
          elim (cases_lt 0 (length chain.pending.items)) [
            | inr empty ↦ stays (λ less. omega (arith, empty))
            | inl more ↦
                let w : ℕ = length chain.pending.items in
                let short = p lt in
                let field = h.settings.field in
                let up = ups c plp in
                let count : min chain.settings.field_bytes (length chain.pending.items) ≡ w = omega (arith, short) in
                let k : Puts chain mid w was is = rw count at some (lt, more) in
                let s = k.sends in
                let end = left_sent lengths chain c plp ps m h p (lt, more) due in
                let holds = next_holds lengths chain mid new c plp ps m h due s.settings s.slot s.deleter
                (rest_sent chain mid c plp ps w (omega (arith, up.0)) h.settings (omega arith) h.rest s) (s.sent
                ∙ end) r in
                let all : blocks_of c plp (epoch_ticks c plp) at m ≡ full_blocks c plp at (length ps) x chain.made
                ++ block_bits c plp at
                (length ps) (x + chain.made * field_bytes c plp) (x + chain.made * field_bytes c plp + w) ∷ [] =
                ap (λ (v : ℕ). blocks_between c plp at v x (sent (rates_of c plp (epoch_ticks c plp))
                (plp_keeps c plp at) m))
                (sym due)
                ∙ between_more c plp at (length ps) x _ chain.made w one more (omega (arith, short, field))
                (sym end ∙ omega (arith, h.sent)) in
                record {
                  holds = holds;
                  partial = next_partial fields ups within backlog new c plp ps m holds r.made due;
                  blocks = λ has. k.list ∙ ap (λ (l : List (List Bool)). l ++ piece_of chain w ∷ []) has
                      ∙ ap (λ (v : List Bool). full_blocks c plp at (length ps) x chain.made ++ v ∷ [])
                      (piece_is fields ups chain c plp ps m w h) ∙ sym all;
                  count = k.sends.made ∙ sym (ap length all
                      ∙ length-append (full_blocks c plp at (length ps) x chain.made) _
                      ∙ ap (λ (v : ℕ). v + 1) (full_len c plp at (length ps) x chain.made));
                }
          ]
    ]

-- a user packet more is less than two data fields
pub kept_bound : (mid kept : Chain) (x : List ℕ) (g : ℕ) → Keeps mid kept x g → HasSpace mid → length kept.pending.items
    < 2 * kept.settings.field_bytes
kept_bound mid kept x g k s =
    let up = mid.settings.up in
    let field = mid.settings.field in
    let same : kept.settings.field_bytes ≡ mid.settings.field_bytes = ap (λ v. v.field_bytes) k.settings in
    let size = ap length k.pending ∙ length-append mid.pending.items _ in
    let more = length-take mid.settings.up_bytes (drop 1 x ++ g ∷ []) in
    omega (arith, up.1, field.0, same, size, more, s)

-- What an offer of a kept packet does.
pub record Goes (chain new : Chain) (c : Config) (plp : ℕ) (events : List Event) (x : List ℕ)
    (was is : List (List ℕ)) : Type 0 where
  pub stands : ChainStandsFor new c plp (events ++ Offered x ∷ [])
  pub blocks : map bits_of was ≡ early_blocks c plp events → map bits_of is ≡ early_blocks c plp
      (events ++ Offered x ∷ [])

goes : FieldRange → (chain new : Chain) (c : Config) (plp : ℕ) (events : List Event) (x : List ℕ)
    (was is : List (List ℕ))
    → Holds chain c plp (offered events) (cuts events) → IsPartial chain
    → Holds new c plp (offered events ++ x ∷ []) (cuts events) → IsPartial new
    → (Has chain c plp (offered events) (cuts events) (map bits_of was)
    → Has new c plp (offered events ++ x ∷ []) (cuts events)
    (map bits_of is)) → Goes chain new c plp events x was is
goes fields chain new c plp events x was is h p h' p' step =
    record {
      stands = offered_on new c plp events x h' p';
      blocks = λ e. step (e ∙ early_is fields chain c plp events h p)
          ∙ sym (early_offered fields new c plp events x h' p');
    }

-- a packet that is deleted
pub goes_on : DecidedByThePast → SlotLength → FieldRange → UserPacketRange
    → (chain new : Chain) (c : Config) (plp : ℕ) (events : List Event) (x : List ℕ) (was : List (List ℕ))
    → ChainStandsFor chain c plp events
    → length x ≡ 188 → HasRoom c plp events → plp_keeps c plp (packet_at (offered events ++ x ∷ []))
    (length (offered events))
    ≡ false → Adds chain new c plp (offered events) x false
    → new.pending.items ≡ chain.pending.items → Goes chain new c plp events x was was
goes_on past lengths fields ups chain new c plp events x was stands long room off a same =
    let o = opened chain c plp events stands in
    let h = o.0 in
    let up = ups c plp in
    let one : 1 ≤ up_bytes c plp = omega (arith, up.0) in
    goes fields chain new c plp events x was was h o.1
    (added past lengths chain new c plp (offered events) (cuts events) x false one h long room off a)
    (λ lt. rw (same, a.settings) (o.1 (rw (a.made, a.settings) at lt)))
    (has_added past lengths ups chain new c plp (offered events) (cuts events) x false (map bits_of was) h off a)

-- a packet that is kept
pub goes_kept : DecidedByThePast → SlotLength → FieldRange → UserPacketRange
    → (chain kept new : Chain) (c : Config) (plp : ℕ) (events : List Event) (x : List ℕ) (was is : List (List ℕ))
    → ChainStandsFor chain c plp events
    → length x ≡ 188 → HasRoom c plp events → plp_keeps c plp (packet_at (offered events ++ x ∷ []))
    (length (offered events))
    ≡ true → Adds chain kept c plp (offered events) x true
    → length kept.pending.items < 2 * kept.settings.field_bytes → (IsPartial kept → (new ≡ kept) × (is ≡ was))
    → (IsFull kept → Puts kept new kept.settings.field_bytes was is)
    → Goes chain new c plp events x was is
goes_kept past lengths fields ups chain kept new c plp events x was is stands long room on a bound none some =
    let o = opened chain c plp events stands in
    let h = o.0 in
    let up = ups c plp in
    let one : 1 ≤ up_bytes c plp = omega (arith, up.0) in
    let mid = added past lengths chain kept c plp (offered events) (cuts events) x true one h long room on a in
    let step = offer_step fields ups kept new c plp (offered events ++ x ∷ []) (cuts events) was is mid
    bound none some in
    goes fields chain new c plp events x was is h o.1 step.holds step.partial
    (λ has. step.has (has_added past lengths ups chain kept c plp (offered events) (cuts events) x true
    (map bits_of was) h on a has))

-- the bytes of a block
pub need_is : FieldRange → (chain : Chain) (c : Config) (plp : ℕ) (events : List Event)
    → ChainStandsFor chain c plp events
    → chain.settings.field_bytes + 10 ≡ block_bytes c plp
need_is fields chain c plp events stands = let h = (opened chain c plp events stands).0 in
    omega (arith, h.settings.field, (fields c plp).2)

-- A list with one block more holds no more than a frame, if it has fewer than the frame.
one_more : (c : Config) (plp : ℕ) (list : List (List ℕ)) (block : List ℕ) → ListFits c plp list
    → length list < (plp_at c.plps plp).blocks → length block ≤ block_bytes c plp → ListFits c plp (list ++ block ∷ [])
one_more c plp list block fits less short =
    record {
      few = omega (arith, length-append list (block ∷ []), less);
      short = All-append (λ (y : List ℕ). length y ≤ block_bytes c plp) list (block ∷ []) fits.short
          (λ k d lt. let e : k ≡ 0 = omega (arith, lt) in rw e short);
    }

-- So a pool with place takes it.
takes_more : NextFits → (c : Config) (plp : ℕ) (pool : State) (list : ℕ) (block : List ℕ) → IsPlan c
    → plp < length c.plps
    → HasPlace c plp pool list → IsWhole pool
    → ListFits c plp (list_at pool list) → length (list_at pool list) < (plp_at c.plps plp).blocks
    → length block ≤ block_bytes c plp → chunks_for (length block) ≤ pool.spare
takes_more next c plp pool list block is inside h whole fits less short =
    let more : List (List ℕ) = list_at pool list ++ block ∷ [] in
    let here : list < length pool.lists = omega (arith, inside, h.lists, h.place) in
    let each : (i : ℕ) → i < length c.plps → ListFits c i (get_or (set pool.lists list more) i []) = λ i lt.
    elim (cases_eq i list) [
      | inl e ↦ rw (e, get_or-set_same pool.lists list more [] here, h.place)
          (one_more c plp (list_at pool plp) block (rw h.place at fits) (rw h.place at less) short)
      | inr ne ↦ rw (get_or-set_other pool.lists list i more [] ne) (h.others i lt (λ e. ne (e ∙ sym h.place)))
    ] in
    next c pool list block is whole h.enough here (record {
      count = length-set pool.lists list more
          ∙ h.lists;
      each = each;
    })

-- if the pool has place no block is refused
pub never_put : FieldRange → EarlyFits → NextFits → (chain kept : Chain) (c : Config) (plp : ℕ) (events : List Event)
    (pool : State) (list want have : ℕ) → ChainStandsFor chain c plp events
    → kept.settings ≡ chain.settings → kept.made ≡ chain.made → Lacks kept pool want have
    → map bits_of (list_at pool list)
    ≡ early_blocks c plp events → ¬ (HasPlace c plp pool list)
never_put fields early next chain kept c plp events pool list want have stands e0 e1 l put = λ place.
    let o = opened chain c plp events stands in
    let h = o.0 in
    let field : kept.settings.field_bytes ≡ chain.settings.field_bytes = ap (λ s. s.field_bytes) e0 in
    let size : kept.settings.field_bytes + 10 ≡ block_bytes c plp = omega (
      arith,
      field,
      h.settings.field,
      (fields c plp).2,
    ) in
    let most : kept.settings.blocks ≡ (plp_at c.plps plp).blocks = ap (λ s. s.blocks) e0 ∙ h.settings.blocks in
    let made : length (list_at pool list) ≡ chain.made =
    sym (length-map (list_at pool list) bits_of) ∙ ap length (put ∙ early_is fields chain c plp events h o.1)
    ∙ full_len c plp _ _ _ chain.made in
    let block : List ℕ = replicate (block_bytes c plp) 0 in
    let long : length block ≡ block_bytes c plp = length-replicate {A = ℕ} (block_bytes c plp) 0 in
    let room = takes_more next c plp pool list block h.plan h.place place l.whole
    (early c plp events (list_at pool list) put)
    (omega (arith, l.room, e1, most, made)) (omega (arith, long)) in
    let wanted : want ≡ chunks_for (length block) = l.wanted ∙ ap chunks_for (size ∙ sym long) in
    omega (arith, room, wanted, l.less, l.spare)

-- After an offer less than a data field waits, and after a cut less than a user packet.
pub kept_short : SlotLength → FieldRange → UserPacketRange → WithinLaw → BacklogLaw
    → (new : Chain) (c : Config) (plp : ℕ) (events : List Event) → ChainStandsFor new c plp events
    → length new.pending.items < field_bytes c plp
kept_short lengths fields ups within backlog new c plp events stands =
    let o = opened new c plp events stands in
    all_short lengths fields ups within backlog new c plp (offered events) (cuts events) o.0 o.1

pub cut_short : FieldRange → UserPacketRange → WithinLaw → BacklogLaw
    → (new : Chain) (c : Config) (plp : ℕ) (events : List Event)
    → ChainStandsFor new c plp (events ++ Cut ∷ []) → IsDue c plp events
    → length new.pending.items < up_bytes c plp
cut_short fields ups within backlog new c plp events stands due =
    let o = was_cut new c plp events stands in
    let h = o.0 in
    let none = none_made fields ups within backlog new c plp (offered events) (cuts events) h o.1 due in
    let w = left_over new c plp (offered events) (cuts events) h none due in
    let law = backlog (rates_of c plp (epoch_ticks c plp)) (plp_keeps c plp (packet_at (offered events))) (cuts events)
    (within c plp h.plan h.place).0 in
    omega (arith, w, law)
