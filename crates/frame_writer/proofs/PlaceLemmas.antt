-- The blocks behind a place, one by one.
use Rattle.std.proofs.Common.{◌≡◌, ℕ, ◌+◌, ◌%◌, ◌<◌, ◌≤◌, ◌==◌, Bool, false, List, [], ◌∷◌, ◌++◌, length, drop, refl}
use Rattle.std.proofs.Common.{ap, sym, ◌∙◌, arith}
use Rattle.std.specs.Prelude.{slice_index_or}
use Rattle.std.proofs.lemmas.Bool.{ne_eqb}
use Rattle.std.proofs.lemmas.List.{drop_more, drop_all}
use Rattle.terms.specs.Bits.{bits_of}
use Rattle.plp_config.specs.Plps.{plp_at}
use Rattle.plp_config.specs.declared.config.Config.{Config}
use Rattle.t2mi_packet.specs.T2miPacket.{written_bits}
use Rattle.t2mi_packet.specs.declared.packet.Body.{Body}
use Rattle.t2mi_packet.specs.declared.packet.Body.TheVariants.{Block}
use Rattle.frame_writer.specs.Builds.{Builds}
use Rattle.frame_writer.specs.FirstPacket.{from_step}
use Rattle.frame_writer.specs.FramePackets.{packet_with}
use Rattle.frame_writer.specs.Whole.{IsWhole}
use Rattle.frame_writer.specs.declared.step.FrameStep.{FrameStep}
use Rattle.frame_writer.specs.declared.step.FrameStep.TheVariants.{Blocks}
use Rattle.frame_writer.specs.Bodies.{block_bodies, list_bodies}
use Rattle.frame_writer.specs.Left.{first_left, blocks_left}

-- the blocks of the lists from one on
pub from_first : (c : Config) (frame_idx plp : ℕ) (lists : List (List (List ℕ))) → list_bodies c frame_idx plp lists
    ≡ first_left c frame_idx plp 0 lists
from_first c frame_idx plp [] = refl
from_first c frame_idx plp (blocks ∷ lists) = refl

-- behind the last block of a list the next list comes
pub passed : (c : Config) (frame_idx plp place : ℕ) (lists : List (List (List ℕ))) → plp < length lists
    → length (slice_index_or lists plp []) ≤ place
    → blocks_left c frame_idx plp place lists ≡ blocks_left c frame_idx (plp + 1) 0 lists
passed c frame_idx plp place lists inside over =
    ap (first_left c frame_idx plp place) (drop_more lists plp [] inside)
    ∙ ap (λ (l : List (List ℕ)). block_bodies frame_idx (plp_at c.plps plp).id (place == 0) l
    ++ list_bodies c frame_idx (plp + 1)
    (drop (plp + 1) lists)) (drop_all place (slice_index_or lists plp []) over)
    ∙ from_first c frame_idx (plp + 1) (drop (plp + 1) lists)

-- nothing is left behind the last list
pub none_behind : (c : Config) (frame_idx plp place : ℕ) (lists : List (List (List ℕ))) → length lists ≤ plp
    → blocks_left c frame_idx plp place lists ≡ []
none_behind c frame_idx plp place lists over = ap (first_left c frame_idx plp place) (drop_all plp lists over)

-- the next block, and what comes behind it
next_left : (c : Config) (frame_idx plp place : ℕ) (lists : List (List (List ℕ))) → plp < length lists
    → place < length (slice_index_or lists plp [])
    → blocks_left c frame_idx plp place lists
    ≡ Block frame_idx (plp_at c.plps plp).id (place == 0)
    (bits_of (slice_index_or (slice_index_or lists plp []) place []))
    ∷ blocks_left c frame_idx plp (place + 1) lists
next_left c frame_idx plp place lists inside there =
    let later : (place + 1 == 0) ≡ false = ne_eqb (place + 1) 0 (λ e. absurd (omega (arith, e))) in
    let rest : List Body = list_bodies c frame_idx (plp + 1) (drop (plp + 1) lists) in
    let blocks : List (List ℕ) = slice_index_or lists plp [] in
    let id : ℕ = (plp_at c.plps plp).id in
    let block : Body = Block frame_idx id (place == 0) (bits_of (slice_index_or blocks place [])) in
    ap (first_left c frame_idx plp place) (drop_more lists plp [] inside)
    ∙ ap (λ (l : List (List ℕ)). block_bodies frame_idx id (place == 0) l ++ rest) (drop_more blocks place [] there)
    ∙ ap (λ (first : Bool). block ∷ (block_bodies frame_idx id first (drop (place + 1) blocks) ++ rest)) (sym later)
    ∙ ap (λ (l : List (List (List ℕ))). block ∷ first_left c frame_idx plp (place + 1) l)
    (sym (drop_more lists plp [] inside))

-- the packet of the next block was built
pub built_block : (c : Config) (n packet_count : ℕ) (step : FrameStep) (signal : Body) (before : List Body)
    (plp place : ℕ)
    (lists : List (List (List ℕ))) (first : Bool) (block : List ℕ) (bits : List Bool) → step ≡ Blocks
    → before ≡ blocks_left c (n % c.frames) plp place lists → plp < length lists
    → place < length (slice_index_or lists plp [])
    → first ≡ (place == 0) → block ≡ slice_index_or (slice_index_or lists plp []) place []
    → bits ≡ written_bits (packet_with c packet_count n (Block (n % c.frames) (plp_at c.plps plp).id
    first (bits_of block)))
    → IsWhole bits
    → Builds c n packet_count (from_step c n step signal before)
    (from_step c n step signal (blocks_left c (n % c.frames) plp (place + 1) lists)) bits
built_block c n packet_count step signal before plp place lists first block bits blocks is inside there
    start held built whole =
    record {
      body = Block (n % c.frames) (plp_at c.plps plp).id first (bits_of block);
      was = rw (blocks, start, held) (is ∙ next_left c (n % c.frames) plp place lists inside there);
      built = built;
      whole = whole;
    }
