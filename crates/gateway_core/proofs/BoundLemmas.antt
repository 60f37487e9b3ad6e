-- How much a frame has to give at most.
use Rattle.std.proofs.Common.{◌≡◌, ℕ, suc, ◌+◌, ◌-◌, ◌*◌, ◌/◌, ◌%◌, ◌^◌, ◌<◌, ◌≤◌, Bool, true, false, cond, List, []}
use Rattle.std.proofs.Common.{◌∷◌, length, refl, ap, sym, subst, ◌∙◌, inl, inr, arith, length-append}
use Rattle.std.specs.Prelude.{sum_by}
use Rattle.std.specs.Int.{div_ceil}
use Rattle.std.specs.List.{flat_map, range_with_len}
use Rattle.std.proofs.Math.Nat.{mul-le-mul}
use Rattle.std.proofs.lemmas.Bool.{cases_Bool}
use Rattle.std.proofs.lemmas.List.{length-map}
use Rattle.std.proofs.lemmas.List.Sums.{sum_by-cons}
use Rattle.terms.specs.Bits.{bits_of}
use Rattle.linked_pool.specs.Pool.{State, list_at}
use Rattle.plp_config.specs.Capacity.{IsPlan, RecordLength, block_bytes, block_room, longest_rest}
use Rattle.plp_config.specs.InterleavingFrames.{is_first}
use Rattle.plp_config.specs.Laws.{FieldRange}
use Rattle.plp_config.specs.Plps.{plp_at}
use Rattle.plp_config.specs.Rules.{PlpCount}
use Rattle.plp_config.specs.Tables.{info_bits}
use Rattle.plp_config.specs.declared.config.Config.{Config}
use Rattle.plp_config.specs.declared.config.TheConstants.{GREATEST_REST}
use Rattle.plp_config.specs.declared.plp.Plp.{Plp}
use Rattle.t2mi_packet.specs.declared.packet.Body.{Body}
use Rattle.gateway_core.specs.BlocksLeft.{blocks_left}
use Rattle.gateway_core.specs.Lists.{bits_in, own_in}
use Rattle.frame_writer.specs.FirstPacket.{from_step}
use Rattle.frame_writer.specs.Flowing.{packet_bound}
use Rattle.gateway_core.specs.Packets.{block_bodies, plp_bodies}
use Rattle.gateway_core.proofs.LeftLemmas.{bodies_more}
use Rattle.frame_writer.specs.declared.step.FrameStep.{FrameStep}
use Rattle.frame_writer.specs.declared.step.FrameStep.TheVariants.{Stamp, Signal, Blocks, Over}

pub bodies_count : (frame id : ℕ) (first : Bool) (blocks : List (List Bool))
    → length (block_bodies frame id first blocks)
    ≡ length blocks
bodies_count frame id first [] = refl
bodies_count frame id first (b ∷ blocks) = omega (arith, bodies_count frame id false blocks)

abbrev bodies_of : Config → ℕ → (ℕ → List (List Bool)) → ℕ → List Body
bodies_of c n blocks plp = block_bodies (n % c.frames) (plp_at c.plps plp).id true (blocks plp)

-- no block has fewer than 883 bytes with its head in a record, and so many blocks are no more than those of the PLPs
bodies_within : FieldRange → (c : Config) (n : ℕ) (blocks : ℕ → List (List Bool)) (plps : List Plp) (from : ℕ)
    → ((i : ℕ) → i < length plps → plp_at plps i ≡ plp_at c.plps (from + i))
    → ((i : ℕ) → i < length plps → length (blocks (from + i)) ≤ (plp_at plps i).blocks)
    → 883 * length (flat_map (bodies_of c n blocks) (range_with_len from (length plps))) ≤ sum_by block_room plps
unfolding block_bytes
bodies_within field c n blocks [] from at each = omega arith
bodies_within field c n blocks (p ∷ plps) from at each =
    let same : from ≡ from + 0 = omega arith in
    let is : p ≡ plp_at c.plps from = at 0 (omega arith) ∙ ap (plp_at c.plps) (sym same) in
    let few : length (blocks from) ≤ p.blocks =
    subst (λ (k : ℕ). length (blocks k) ≤ p.blocks) (sym same) (each 0 (omega arith)) in
    let f = field c from in
    let wide : 883 ≤ 4 + block_bytes c from = omega (arith, f) in
    let bytes : 883 ≤ 4 + info_bits p.fec p.rate / 8 = subst (λ (q : Plp). 883 ≤ 4 + info_bits q.fec q.rate / 8)
    (sym is) wide in
    let here : length (blocks from) * 883 ≤ block_room p = mul-le-mul few bytes in
    let rest = bodies_within field c n blocks plps (from + 1)
    (λ i lt. let e : from + suc i ≡ from + 1 + i = omega arith in at (suc i) (omega (arith, lt)) ∙ ap (plp_at c.plps) e)
    (λ i lt. let e : from + suc i ≡ from + 1 + i = omega arith in
    subst (λ (k : ℕ). length (blocks k) ≤ (plp_at plps i).blocks) e (each (suc i) (omega (arith, lt)))) in
    omega (
      arith,
      here,
      rest,
      sum_by-cons block_room p plps,
      bodies_count (n % c.frames) (plp_at c.plps from).id true (blocks from),
      length-append (bodies_of c n blocks from) (flat_map (bodies_of c n blocks)
          (range_with_len (from + 1) (length plps))),
    )

few_steps : (c : Config) (n : ℕ) (step : FrameStep) (signal : Body) (rest : List Body)
    → length (from_step c n step signal rest)
    ≤ length rest + 2
few_steps c n Stamp signal rest = omega arith
few_steps c n Signal signal rest = omega arith
few_steps c n Blocks signal rest = omega arith
few_steps c n Over signal rest = omega arith

-- So the packets of a frame have fewer than 2^32 bytes.
pub few_left : FieldRange → (c : Config) (n : ℕ) (step : FrameStep) (signal : Body) (blocks : ℕ → List (List Bool))
    → IsPlan c
    → ((j : ℕ) → j < length c.plps → length (blocks j) ≤ (plp_at c.plps j).blocks)
    → packet_bound * length (from_step c n step signal (blocks_left c n blocks 0 true)) ≤ 2 ^ 32
unfolding longest_rest
few_left field c n step signal blocks plan each =
    let some : (1 ≤ length c.plps) × (length c.plps ≤ 255) = plan.rules PlpCount in
    let all : length c.plps - 0 ≡ length c.plps = omega arith in
    let room : 883 * length (plp_bodies c n blocks 0) ≤ sum_by block_room c.plps =
    rw all (bodies_within field c n blocks c.plps 0 (λ i lt. let e : i ≡ 0 + i = omega arith in ap (plp_at c.plps) e)
    (λ i lt. let e : i ≡ 0 + i = omega arith in
    subst (λ (k : ℕ). length (blocks k) ≤ (plp_at c.plps i).blocks) e (each i lt))) in
    let rest : 35 + div_ceil (213 + 137 * length c.plps) 8 + 4 * c.cells + sum_by block_room c.plps ≤ GREATEST_REST =
    plan.tests RecordLength in
    let same = ap length (bodies_more c n blocks 0 (omega (arith, some.0))) in
    let steps = few_steps c n step signal (blocks_left c n blocks 0 true) in
    omega (arith, room, rest, same, steps)

-- No more are sent of a list than it has.
pub own_few : (c : Config) (n : ℕ) (pool : State) (j : ℕ) → length (own_in c n pool j) ≤ length (list_at pool j)
own_few c n pool j =
    elim (cases_Bool (is_first c j n)) [
      | inl on ↦
          let own = ap (λ (b : Bool). length (cond {A = List (List Bool)} b (bits_in pool j) [])) on in
          omega (arith, own, length-map (list_at pool j) bits_of)
      | inr off ↦
          let none = ap (λ (b : Bool). length (cond {A = List (List Bool)} b (bits_in pool j) [])) off in
          omega (arith, none)
    ]
