-- The cells of interleaving frames that are carried by one frame each.
use Rattle.std.proofs.Common.{◌≡◌, ℕ, zero, suc, ◌+◌, ◌/◌, ◌%◌, ◌<◌, Bool, true, ◌∷◌, List, refl, ap, ◌∙◌}
use Rattle.std.proofs.Common.{arith}
use Rattle.std.specs.Prelude.{filter}
use Rattle.std.specs.List.{range_with_len}
use Rattle.std.proofs.Math.Nat.{mod-one}
use Rattle.std.proofs.lemmas.Bool.{eq-eqb}
use Rattle.std.proofs.lemmas.Nat.{div_below}
use Rattle.plp_config.specs.Laws.{CellsByFive}
use Rattle.plp_config.specs.Plps.{StandsAlone}
use Rattle.plp_config.specs.declared.config.Config.{Config}
use Rattle.scheduler.specs.Shape.{FrameShape, cells_of}
use Rattle.cell_map.specs.Address.{IsCell, position_of, part_of}
use Rattle.cell_map.specs.Laws.{MapAlone}
use Rattle.cell_map.proofs.PositionLemmas.{position_below}

-- a test that all numbers of a range pass
all_kept : (test : ℕ → Bool) (n at : ℕ) → ((k : ℕ) → k < at + n → test k ≡ true)
    → filter test (range_with_len at n) ≡ range_with_len at n
all_kept test zero at all = refl
all_kept test (suc n) at all =
    rw (all at (omega arith))
    (ap (λ (l : List ℕ). at ∷ l) (all_kept test n (at + 1) (λ k lt. all k (omega (arith, lt)))))

-- the frame carries the first part, which is the whole
part_none : (c : Config) (frame_idx plp : ℕ) → StandsAlone c.plps plp → part_of c frame_idx plp ≡ 0
part_none c frame_idx plp alone = ap (λ (s : ℕ). frame_idx % s) alone ∙ mod-one frame_idx

part_whole : CellsByFive → (c : Config) (shape : FrameShape) (frame_idx plp block cell : ℕ) → StandsAlone c.plps plp
    → IsCell c shape plp block cell
    → position_of c shape plp block cell / cells_of c shape.counts plp ≡ part_of c frame_idx plp
part_whole five c shape frame_idx plp block cell alone there = grind (arith, position_below, div_below, part_none)

pub map_alone : CellsByFive → MapAlone
map_alone five c shape frame_idx plp block cell alone there = grind (arith, part_whole, all_kept, eq-eqb, part_none)
