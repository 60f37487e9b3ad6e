use Rattle.std.proofs.Common.{◌≡◌, ◌≤◌, ◌++◌, ◌^◌, ℕ, List, drop, true}
use Rattle.plp_config.specs.declared.config.Config.{Config}
use Rattle.t2mi_packet.specs.declared.packet.Packet.{Packet}
use Rattle.open_group.specs.Shown.{AreBlocks}
use Rattle.frame_weave.specs.Holds.{AreMarks}
use Rattle.frame_weave.specs.Marked.{MarkedBlock}
use Rattle.frame_weave.specs.Placed.{Placed, placed_from}
use Rattle.frame_weave.specs.Places.{has_room}
use Rattle.frame_weave.specs.Slots.{IsLaid, Fills}
use Rattle.frame_weave.proofs.placing.place_blocks.Given as goal

abbrev pub invariant-loop-i : goal.invariant-loop-i
invariant-loop-i l = record {
  few : l.first ≤ 2 ^ 32;
  walk : l.walk ≡ l.pool;
  places : l.slots.places ≡ l.fn.slots.places;
  holds : (c : Config) (counts : List ℕ) (packets : List Packet) (blocks : List MarkedBlock) (placed : List Placed)
      → IsLaid c counts l.layout → has_room c counts ≡ true → AreMarks c packets l.marks blocks
      → AreBlocks c packets l.pool.lists → Fills c counts l.fn.slots placed
      → (done : List Placed) × Fills c counts l.slots (placed ++ done)
      × (done ++ placed_from counts l.origin l.first (drop l.i blocks) ≡ placed_from counts l.origin 0 blocks);
}
