-- How many packets a formed frame has at most.
use Rattle.std.proofs.Common.{◌≡◌, ℕ, zero, suc, ◌+◌, ◌*◌, ◌^◌, ◌/◌, ◌%◌, ◌<◌, ◌≤◌, Bool, cond, List, [], ◌∷◌, length}
use Rattle.std.proofs.Common.{replicate, refl, ap, subst, ◌∙◌, arith, length-append, Option, Some, None}
use Rattle.std.specs.Prelude.{sum_by, slice_index}
use Rattle.std.specs.Int.{div_ceil}
use Rattle.std.specs.List.{flat_map, range_with_len}
use Rattle.std.specs.Cmp.Lexicographic.{as_long}
use Rattle.std.proofs.Math.Nat.{mul-le-mul}
use Rattle.std.proofs.lemmas.List.FromFn.{get_or-map-range_with_len}
use Rattle.std.proofs.lemmas.List.Sums.{sum_by-cons}
use Rattle.terms.proofs.CaseLemmas.{bool_cases}
use Rattle.stream_laws.proofs.SizeLemmas.{size_of}
use Rattle.plp_config.specs.Capacity.{IsPlan, RecordLength, block_bytes, block_room, longest_rest}
use Rattle.plp_config.specs.InterleavingFrames.{is_first}
use Rattle.plp_config.specs.Laws.{FieldRange}
use Rattle.plp_config.specs.Plps.{plp_at}
use Rattle.plp_config.specs.Tables.{info_bits}
use Rattle.plp_config.specs.declared.config.Config.{Config}
use Rattle.plp_config.specs.declared.config.TheConstants.{GREATEST_REST}
use Rattle.plp_config.specs.declared.plp.Plp.{Plp}
use Rattle.scheduler.specs.Shape.{FrameShape}
use Rattle.cell_map.specs.CellMap.{Passes}
use Rattle.site_frame.specs.Record.{Block}
use Rattle.site_frame.specs.declared.reading.RecordView.{RecordView}
use Rattle.site_frame.specs.declared.reading.RecordView.TheVariants.{Frame, Muted}
use Rattle.frame_groups.specs.Readable.{BlockSize, block_sizes, coming, has_size}
use Rattle.frame_writer.specs.Flowing.{packet_bound}
use Rattle.frame_writer.proofs.CarriedLemmas.{stamp_count}
use Rattle.stream_laws.specs.Formed.{IsFormed}
use Rattle.stream_laws.specs.Remade.{record_bodies, view_bodies, signal_of}

abbrev sizes_of : Config → List ℕ → ℕ → List BlockSize
sizes_of c counts plp = replicate (slice_index counts plp) (size_of c plp)

copies : (n : ℕ) (x : BlockSize) → length (replicate n x) ≡ n
copies zero x = refl
copies (suc n) x = omega (arith, copies n x)

-- no block has fewer than 883 bytes with its head in a record, and so many blocks are no more than those of the PLPs
sizes_within : FieldRange → (c : Config) (counts : List ℕ) (plps : List Plp) (from : ℕ)
    → ((i : ℕ) → i < length plps → plp_at plps i ≡ plp_at c.plps (from + i))
    → ((i : ℕ) → i < length plps → slice_index counts (from + i) ≤ (plp_at plps i).blocks)
    → 883 * length (flat_map (sizes_of c counts) (range_with_len from (length plps))) ≤ sum_by block_room plps
unfolding block_bytes
sizes_within field c counts [] from at each = omega arith
sizes_within field c counts (p ∷ plps) from at each =
    let same : from ≡ from + 0 = omega arith in
    let is : p ≡ plp_at c.plps from = at 0 (omega arith)
    ∙ ap (plp_at c.plps) (let e : from + 0 ≡ from = omega arith in e) in
    let few : slice_index counts from ≤ p.blocks =
    subst (λ (k : ℕ). slice_index counts k ≤ p.blocks) (let e : from + 0 ≡ from = omega arith in e)
    (each 0 (omega arith)) in
    let f = field c from in
    let wide : 883 ≤ 4 + block_bytes c from = omega (arith, f) in
    let bytes : 883 ≤ 4 + info_bits p.fec p.rate / 8 = subst (λ (q : Plp). 883 ≤ 4 + info_bits q.fec q.rate / 8)
    (let e : plp_at c.plps from ≡ p = cc in e) wide in
    let here : slice_index counts from * 883 ≤ block_room p = mul-le-mul few bytes in
    let rest = sizes_within field c counts plps (from + 1)
    (λ i lt. let e : from + suc i ≡ from + 1 + i = omega arith in at (suc i) (omega (arith, lt)) ∙ ap (plp_at c.plps) e)
    (λ i lt. let e : from + suc i ≡ from + 1 + i = omega arith in
    subst (λ (k : ℕ). slice_index counts k ≤ (plp_at plps i).blocks) e (each (suc i) (omega (arith, lt)))) in
    omega (
      arith,
      here,
      rest,
      sum_by-cons block_room p plps,
      copies (slice_index counts from) (size_of c from),
      length-append (sizes_of c counts from) (flat_map (sizes_of c counts) (range_with_len (from + 1) (length plps))),
    )

coming_few : (c : Config) (n : ℕ) (shape : FrameShape) → Passes c shape → (plp : ℕ) → plp < length c.plps
    → slice_index (coming c n shape) plp ≤ (plp_at c.plps plp).blocks
coming_few c n shape passes plp inside =
    let at = get_or-map-range_with_len (λ (k : ℕ). cond {A = ℕ} (is_first c k n) (slice_index shape.counts k) 0)
    0 (length c.plps) plp plp 0
    inside (omega arith) in
    let most = passes.counts plp inside in
    bool_cases (is_first c plp n)
    (λ on. let e = ap (λ (b : Bool). cond {A = ℕ} b (slice_index shape.counts plp) 0) on in omega (arith, at, most, e))
    (λ off. let e = ap (λ (b : Bool). cond {A = ℕ} b (slice_index shape.counts plp) 0) off in omega (arith, at, e))

pub bodies_count : (frame_idx : ℕ) (before : Option ℕ) (blocks : List Block)
    → length (record_bodies frame_idx before blocks) ≡ length blocks
bodies_count frame_idx before [] = refl
bodies_count frame_idx before (b ∷ blocks) = omega (arith, bodies_count frame_idx (Some b.plp_id) blocks)

pub few_bodies : FieldRange → (c : Config) (n : ℕ) (view : RecordView) → IsPlan c → IsFormed c n view
    → packet_bound * length (view_bodies c n view) + 1000 ≤ 2 ^ 30
unfolding longest_rest
few_bodies field c n (Muted moment) plan formed = absurd formed
few_bodies field c n (Frame moment pre post blocks cells) plan formed =
    let counts : List ℕ = coming c n formed.shape in
    let same = as_long has_size blocks (block_sizes c counts) formed.sizes in
    let few : 883 * length (block_sizes c counts) ≤ sum_by block_room c.plps =
    sizes_within field c counts c.plps 0 (λ i lt. let e : i ≡ 0 + i = omega arith in ap (plp_at c.plps) e)
    (λ i lt. let e : i ≡ 0 + i = omega arith in
    subst (λ (k : ℕ). slice_index counts k ≤ (plp_at c.plps i).blocks) e (coming_few c n formed.shape
    formed.map i lt)) in
    let rest : 35 + div_ceil (213 + 137 * length c.plps) 8 + 4 * c.cells + sum_by block_room c.plps ≤ GREATEST_REST =
    plan.tests RecordLength in
    let bodies = bodies_count (n % c.frames) None blocks in
    let all = stamp_count c n (signal_of c n pre post ∷ record_bodies (n % c.frames) None blocks) in
    omega (arith, same, few, rest, bodies, all)
