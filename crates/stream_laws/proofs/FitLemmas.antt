-- Each packet of a run fits its fields.
use Rattle.frame_writer.specs.FramePackets.{with_stamp, l1_body}
use Rattle.stream_laws.proofs.SizeLemmas.{AreLong}
use Rattle.std.proofs.Common.{◌≡◌, ℕ, zero, suc, ◌+◌, ◌-◌, ◌*◌, ◌%◌, ◌^◌, ◌<◌, ◌≤◌, ◌==◌, Bool, true, false, List, []}
use Rattle.std.proofs.Common.{◌∷◌, map, length, arith, length-append}
use Rattle.std.specs.List.{flat_map, range_with_len, AllByRecursion}
use Rattle.std.proofs.lemmas.Bool.{cond_both}
use Rattle.std.proofs.lemmas.Nat.{mod_below}
use Rattle.terms.proofs.AllLemmas.{all_append}
use Rattle.terms.proofs.BitLemmas.{length-field}
use Rattle.bb_frame.specs.Laws.{BitCounts}
use Rattle.plp_config.specs.Capacity.{IsPlan, block_bytes}
use Rattle.plp_config.specs.Laws.{EmissionFits, FieldRange}
use Rattle.plp_config.specs.Plps.{plp_at}
use Rattle.plp_config.specs.Rules.Rule.{SuperframeLength, UtcOffset, PidRange, PlpCount}
use Rattle.plp_config.specs.Tables.{bw}
use Rattle.plp_config.specs.declared.band.Band.{Band}
use Rattle.plp_config.specs.declared.band.Band.TheVariants.{Mhz1_7, Mhz5, Mhz6, Mhz7, Mhz8, Mhz10}
use Rattle.plp_config.specs.declared.config.Config.{Config}
use Rattle.plp_config.specs.declared.moment.TheConstants.{MOST_FRAMES}
use Rattle.l1_signal.specs.L1Of.{pre_of, post_bits}
use Rattle.l1_signal.specs.Laws.{PreBitsLength, PostLength}
use Rattle.l1_signal.specs.Lengths.{post_len}
use Rattle.l1_signal.specs.declared.lengths.TheConstants.{PRE_BITS}
use Rattle.t2mi_packet.specs.T2miPacket.{payload_size, FitsBody}
use Rattle.t2mi_packet.specs.declared.packet.Body.{Body}
use Rattle.mode_adapt.specs.Blocks.{own_blocks, told_counts}
use Rattle.record_laws.specs.Frames.{HasByteIds}
use Rattle.gateway_core.specs.Packets.{block_bodies, plp_bodies, frame_bodies, bodies_before}
use Rattle.frame_writer.specs.Signalling.{pre_part, conf_part}
use Rattle.gateway_core.specs.Signalling.{dyn_part}
use Rattle.stream_laws.proofs.BlockLemmas.{own_long}

-- A body fits, and is no longer than a packet can be.
abbrev pub IsFit : Body → Type 0
IsFit b = FitsBody b × (payload_size b < 2 ^ 16)

-- ---- the parts of a frame

pub bw_fits : (band : Band) → bw band < 2 ^ 4
bw_fits Mhz1_7 = omega arith
bw_fits Mhz5 = omega arith
bw_fits Mhz6 = omega arith
bw_fits Mhz7 = omega arith
bw_fits Mhz8 = omega arith
bw_fits Mhz10 = omega arith

pub pre_len : PreBitsLength → (c : Config) → length (pre_part c) ≡ PRE_BITS
unfolding pre_part
pre_len law c = law (pre_of c)

parts_len : PostLength → (c : Config) (n : ℕ) (counts : List ℕ)
    → length (conf_part c) + length (dyn_part c n counts) + 32
    ≡ post_len (length c.plps)
unfolding conf_part dyn_part post_bits
parts_len law c n counts = grind (arith, length-append, length-field)

pub fit_blocks : (size frame_idx id : ℕ) (first : Bool) (blocks : List (List Bool)) → size ≤ 65000 → frame_idx < 2 ^ 8
    → id < 2 ^ 8
    → AllByRecursion (λ b. length b ≡ size) blocks
    → AllByRecursion IsFit (block_bodies frame_idx id first blocks)
fit_blocks size frame_idx id first [] l f i s = tt
fit_blocks size frame_idx id first (b ∷ blocks) l f i s =
    (((f, i), omega (arith, l, s.0)), fit_blocks size frame_idx id false blocks l f i s.1)

pub fit_plps : (count : ℕ) (bodies : ℕ → List Body) → ((plp : ℕ) → plp < count → AllByRecursion IsFit (bodies plp))
    → (a k : ℕ)
    → a + k ≤ count → AllByRecursion IsFit (flat_map bodies (range_with_len a k))
fit_plps count bodies h a zero l = tt
fit_plps count bodies h a (suc k) l = all_append IsFit (bodies a) (flat_map bodies (range_with_len (a + 1) k))
    (h a (omega (arith, l))) (fit_plps count bodies h (a + 1) k (omega (arith, l)))

-- ---- all of it

-- A body fits, whatever the number of its frame is.
abbrev pub PairFits : ℕ × Body → Type 0
PairFits b = IsFit b.1

pub pairs_fit : (n : ℕ) (bodies : List Body) → AllByRecursion IsFit bodies
    → AllByRecursion PairFits (map (λ (body : Body). (n, body)) bodies)
pairs_fit n [] h = tt
pairs_fit n (b ∷ bodies) h = (h.0, pairs_fit n bodies h.1)

all_pairs : (bodies : ℕ → List Body) (count from more : ℕ) → from + more ≤ count
    → ((n : ℕ) → n < count → AllByRecursion IsFit (bodies n))
    → AllByRecursion PairFits (flat_map (λ m. map (λ (body : Body). (m, body)) (bodies m)) (range_with_len from more))
all_pairs bodies count from zero l h = tt
all_pairs bodies count from (suc more) l h =
    all_append PairFits (map (λ (body : Body). (from, body)) (bodies from))
    (flat_map (λ m. map (λ (body : Body). (m, body)) (bodies m)) (range_with_len (from + 1) more))
    (pairs_fit from (bodies from) (h from (omega (arith, l)))) (all_pairs bodies count (from + 1) more
    (omega (arith, l)) h)

-- the bodies of a frame whose L1-current has parts with these lengths
module _ (emits : EmissionFits) (range : FieldRange) (c : Config) (plan : IsPlan c) (ids : HasByteIds c) where
  pub frame_fits : (n : ℕ) (pre conf dynamic : List Bool) (blocks : ℕ → List (List Bool)) → n < MOST_FRAMES
      → length pre ≡ PRE_BITS → length conf + length dynamic + 32 ≡ post_len (length c.plps)
      → ((plp : ℕ) → AreLong c plp (blocks plp))
      → AllByRecursion IsFit (with_stamp c n (l1_body c n pre conf dynamic ∷ plp_bodies c n blocks 0))
  frame_fits n pre conf dynamic blocks l size parts long =
      let e = emits c n plan.rules (omega (arith, l)) in
      let utco : c.utco < 8192 = plan.rules UtcOffset in
      let p : (1 ≤ length c.plps) × (length c.plps ≤ 255) = plan.rules PlpCount in
      let f : (2 ≤ c.frames) × (c.frames ≤ 255) = plan.rules SuperframeLength in
      let idx : n % c.frames < 2 ^ 8 = omega (arith, mod_below n c.frames (omega (arith, f.0)), f.1) in
      let l1 : IsFit (l1_body c n pre conf dynamic) =
      ((idx, size, omega (arith, parts, p.1), omega (arith, parts, p.1), omega arith), omega (arith, size, parts, p.1))
      in
      let rest : AllByRecursion IsFit (plp_bodies c n blocks 0) =
      fit_plps (length c.plps) (λ plp. block_bodies (n % c.frames) (plp_at c.plps plp).id true (blocks plp))
      (λ plp inside.
      let r = range c plp in
      fit_blocks (8 * block_bytes c plp) (n % c.frames) (plp_at c.plps plp).id true (blocks plp)
      (omega (arith, r.1, r.2)) idx (ids plp inside) (long plp)) 0 (length c.plps - 0) (omega arith) in
      cond_both {A = List Body} (n % c.frames == 0) _ _ (AllByRecursion IsFit)
      (λ _. (((bw_fits c.band, omega (arith, e.1), e.2, utco), omega arith), (l1, rest)))
      (λ _. (l1, rest))

module _ (emits : EmissionFits) (bits : PreBitsLength) (post : PostLength) (numbers : BitCounts) (range : FieldRange)
    (c : Config)
    (plan : IsPlan c) (ids : HasByteIds c) (inputs : ℕ → List (List ℕ)) where
  fit_frame : (n : ℕ) → n < MOST_FRAMES → AllByRecursion IsFit (frame_bodies c n (told_counts c inputs n)
      (own_blocks c inputs n))
  fit_frame n l = search (arith, frame_fits, pre_len, parts_len, own_long)

  pub run_fits : (n : ℕ) → n ≤ MOST_FRAMES → AllByRecursion PairFits (bodies_before c inputs n)
  run_fits n l = all_pairs (λ m. frame_bodies c m (told_counts c inputs m) (own_blocks c inputs m)) n 0 n (omega arith)
      (λ m k. fit_frame m (omega (arith, k, l)))

pub plan_range : (c : Config) → IsPlan c → (0 < c.frames) × (c.pid < 2 ^ 13)
plan_range c plan =
    let f : (2 ≤ c.frames) × (c.frames ≤ 255) = plan.rules SuperframeLength in
    let p : (16 ≤ c.pid) × (c.pid ≤ 8190) = plan.rules PidRange in
    (omega (arith, f.0), omega (arith, p.1))
