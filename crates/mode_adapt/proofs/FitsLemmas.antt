-- Lists of blocks of a chain hold no more than a frame.
use Rattle.std.proofs.Common.{◌≡◌, ℕ, zero, suc, ◌-◌, ◌*◌, ◌<◌, ◌≤◌, Bool, List, [], ◌∷◌, length, map, get_or, drop, ap}
use Rattle.std.proofs.Common.{sym, ◌∙◌}
use Rattle.std.proofs.Common.{arith}
use Rattle.std.specs.Prelude.{All}
use Rattle.std.specs.List.{range_with_len}
use Rattle.std.proofs.lemmas.List.{length-map, length-take}
use Rattle.std.proofs.lemmas.List.FromFn.{length-range_with_len}
use Rattle.terms.specs.Bits.{bits_of}
use Rattle.terms.proofs.BitLemmas.{length-bits_of}
use Rattle.bb_frame.specs.Laws.{BitCounts}
use Rattle.linked_pool.specs.Fits.{ListFits}
use Rattle.plp_config.specs.SlotTime.{epoch_ticks}
use Rattle.plp_config.specs.Capacity.{block_bytes, field_bytes, capacity}
use Rattle.plp_config.specs.Laws.{SlotLength, FieldRange}
use Rattle.plp_config.specs.Plps.{plp_at}
use Rattle.plp_config.specs.declared.config.Config.{Config}
use Rattle.mode_adapt.specs.Blocks.{rates_of, plp_keeps, plp_string, data_field, block_bits, block_places}
use Rattle.mode_adapt.specs.Laws.{EarlyFits, BlocksFit}
use Rattle.mode_adapt.specs.Queue.{sent, sent_before}
use Rattle.mode_adapt.specs.StandsFor.{full_fields}
use Rattle.mode_adapt.proofs.CutLemmas.{count_law}

-- blocks of a PLP have as many bits as it says
pub length-block : BitCounts → FieldRange → (c : Config) (plp : ℕ) (at : ℕ → List ℕ) (n x y : ℕ)
    → y - x ≤ field_bytes c plp
    → length (block_bits c plp at n x y) ≡ 8 * block_bytes c plp
length-block counts law c plp at n x y short =
    let body : List ℕ = data_field c plp at n x y in
    let bits : length (bits_of body) ≡ 8 * length body = length-bits_of body in
    let few : length body ≤ y - x = omega (arith, length-take (y - x) (drop x (plp_string c plp at n))) in
    let more = law c plp in
    counts.frame _ (bits_of body) (8 * block_bytes c plp) (omega (arith, bits, few, short, more.2, more.0))

all_cons : (n : ℕ) (b : List ℕ) (bs : List (List ℕ)) → length b ≤ n → All (λ (x : List ℕ). length x ≤ n) bs
    → (k : ℕ) (d : List ℕ)
    → k < length (b ∷ bs) → length (get_or (b ∷ bs) k d) ≤ n
all_cons n b bs p h zero d lt = p
all_cons n b bs p h (suc k) d lt = h k d (omega arith)

-- bytes of so many bits
all_short : (n : ℕ) (f : ℕ → List Bool) (bs : List (List ℕ)) (ns : List ℕ) → map bits_of bs ≡ map f ns
    → ((i : ℕ) → length (f i) ≡ 8 * n) → All (λ (x : List ℕ). length x ≤ n) bs
all_short n f [] ns e each = λ k d lt. absurd (omega (arith, lt))
all_short n f (b ∷ bs) [] e each = absurd (let z = ap length e in omega (arith, z))
all_short n f (b ∷ bs) (i ∷ ns) e each =
    let head : bits_of b ≡ f i = ap (λ (l : List (List Bool)). get_or l 0 []) e in
    let size = ap length head in
    let tail : map bits_of bs ≡ map f ns = ap (drop 1) e in
    all_cons n b bs (omega (arith, size, length-bits_of b, each i)) (all_short n f bs ns tail each)

list_fits : (c : Config) (plp : ℕ) (f : ℕ → List Bool) (ns : List ℕ) (list : List (List ℕ))
    → map bits_of list ≡ map f ns
    → ((i : ℕ) → length (f i) ≡ 8 * block_bytes c plp)
    → length ns ≤ (plp_at c.plps plp).blocks → ListFits c plp list
list_fits c plp f ns list e each few =
    let same : length list ≡ length ns = sym (length-map list bits_of) ∙ ap length e ∙ length-map ns f in
    record { few = omega (arith, same, few); short = all_short (block_bytes c plp) f list ns e each }

pub early_fits : BitCounts → FieldRange → EarlyFits
early_fits counts fields c plp events list e =
    let count = length-range_with_len 0 (full_fields c plp events) in
    list_fits c plp _ (range_with_len 0 (full_fields c plp events)) list e
    (λ i. length-block counts fields c plp _ _ _ _ (omega arith)) (omega (arith, count))

capacity_is : (c : Config) (plp : ℕ) → capacity c plp ≡ (plp_at c.plps plp).blocks * field_bytes c plp
unfolding capacity
capacity_is c plp = omega arith

pub blocks_fit : BitCounts → FieldRange → SlotLength → BlocksFit
blocks_fit counts fields lengths c plp at m list is inside e =
    let range = fields c plp in
    let slot = lengths c plp is.rules inside in
    let few = count_law (rates_of c plp (epoch_ticks c plp)) (plp_keeps c plp at) (field_bytes c plp)
    (plp_at c.plps plp).blocks m
    (omega (arith, slot.0, slot.2)) (omega (arith, range.0)) (capacity_is c plp) in
    list_fits c plp _ (block_places (field_bytes c plp) (sent_before (rates_of c plp (epoch_ticks c plp))
    (plp_keeps c plp at) m)
    (sent (rates_of c plp (epoch_ticks c plp)) (plp_keeps c plp at) m)) list e
    (λ from. length-block counts fields c plp at _ from _ (omega arith)) few
