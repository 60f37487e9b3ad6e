-- How much a frame that was begun can have left.
use Rattle.std.proofs.Common.{◌≡◌, ℕ, zero, suc, ◌+◌, ◌*◌, ◌%◌, ◌^◌, ◌<◌, ◌≤◌, Bool, true, false, List, [], ◌∷◌, ◌++◌}
use Rattle.std.proofs.Common.{length, refl, ap, arith, length-append}
use Rattle.std.specs.Prelude.{slice_index_or}
use Rattle.plp_config.specs.Plps.{plp_at}
use Rattle.plp_config.specs.declared.config.Config.{Config}
use Rattle.t2mi_packet.specs.declared.packet.Body.{Body}
use Rattle.frame_writer.specs.Carried.{of_frame}
use Rattle.frame_writer.specs.FramePackets.{l1_body}
use Rattle.frame_writer.proofs.CarriedLemmas.{stamp_count}
use Rattle.frame_writer.specs.Bodies.{block_bodies, list_bodies}
use Rattle.spaced_frames.specs.Spaced.{spacers_behind, spacers_between}
use Rattle.spaced_frames.specs.StandsFor.{Content, bodies_as}

block_count : (frame_idx id : ℕ) (first : Bool) (blocks : List (List ℕ))
    → length (block_bodies frame_idx id first blocks) ≡ length blocks
block_count frame_idx id first [] = refl
block_count frame_idx id first (b ∷ blocks) = ap suc (block_count frame_idx id false blocks)

list_count : (c : Config) (frame_idx plp : ℕ) (lists : List (List (List ℕ)))
    → ((i : ℕ) → i < length lists → length (slice_index_or lists i []) < 2 ^ 32)
    → length (list_bodies c frame_idx plp lists) ≤ 2 ^ 32 * length lists
list_count c frame_idx plp [] few = omega arith
list_count c frame_idx plp (blocks ∷ lists) few =
    let rest = list_count c frame_idx (plp + 1) lists (λ i l. few (suc i) (omega (arith, l))) in
    let here = few 0 (omega arith) in
    let id = (plp_at c.plps plp).id in
    omega (
      arith,
      rest,
      here,
      block_count frame_idx id true blocks,
      length-append (block_bodies frame_idx id true blocks) (list_bodies c frame_idx (plp + 1) lists),
    )

-- a frame of at most 255 PLPs has no more packets than this
pub few_bodies : (c : Config) (n : ℕ) (x : Content) → length x.lists ≤ 255
    → ((i : ℕ) → i < length x.lists → length (slice_index_or x.lists i []) < 2 ^ 32) → length (bodies_as c n x) < 2 ^ 41
few_bodies c n x plps few =
    let all = list_bodies c (n % c.frames) 0 x.lists in
    let s = stamp_count c n (l1_body c n x.pre x.conf x.dynamic ∷ all) in
    let l = list_count c (n % c.frames) 0 x.lists few in
    omega (arith, s, l, plps)

of_count : (n : ℕ) (bodies : List Body) → length (of_frame n bodies) ≡ length bodies
of_count n [] = refl
of_count n (b ∷ bodies) = ap suc (of_count n bodies)

spacer_count : (c : Config) (superframe count : ℕ) → length (spacers_behind c superframe count) ≡ count
spacer_count c superframe zero = refl
spacer_count c superframe (suc count) = ap suc (spacer_count c (superframe + 14) count)

-- so with the spacers before it
pub few_next : (c : Config) (m t n : ℕ) (bodies : List Body) → t < 2 ^ 31 → length bodies < 2 ^ 41
    → (length (spacers_behind c m (spacers_between m t) ++ of_frame n bodies) < 2 ^ 41 + 2 ^ 31)
    × (spacers_between m t < 2 ^ 31)
few_next c m t n bodies small few = (
  omega (
    arith,
    small,
    few,
    of_count n bodies,
    spacer_count c m (spacers_between m t),
    length-append (spacers_behind c m (spacers_between m t)) (of_frame n bodies),
  ),
  omega (arith, small),
)
