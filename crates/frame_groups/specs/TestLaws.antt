-- Laws of the six tests.
use Rattle.std.specs.Prelude.{◌≡◌, ◌↔◌, ℕ, ◌%◌, ◌<◌, ◌==◌, true, Bool, List, [], ◌∷◌, ◌++◌, length, map, slice_get}
use Rattle.std.specs.Prelude.{Some}
use Rattle.plp_config.specs.Capacity.{IsPlan}
use Rattle.plp_config.specs.Emission.{emission}
use Rattle.plp_config.specs.Places.{FramesStandAlone}
use Rattle.plp_config.specs.Rules.{AllRules}
use Rattle.plp_config.specs.declared.config.Config.{Config}
use Rattle.scheduler.specs.Shape.{FrameShape}
use Rattle.cell_map.specs.CellMap.{Passes}
use Rattle.l1_signal.specs.L1Configurable.{conf_read, info_size, ConfSpells}
use Rattle.l1_signal.specs.L1Dynamic.{DynSpells}
use Rattle.l1_signal.specs.L1Of.{pre_of, conf_of}
use Rattle.l1_signal.specs.L1Pre.{pre_rows, PreSpells}
use Rattle.l1_signal.specs.declared.dynamic.L1Dyn.{L1Dyn}
use Rattle.l1_signal.specs.declared.pre.L1Pre.{L1Pre}
use Rattle.t2mi_packet.specs.declared.packet.Packet.{Packet}
use Rattle.t2mi_packet.specs.declared.packet.Stamp.{Stamp}
use Rattle.frame_groups.specs.Groups.{Group}
use Rattle.frame_groups.specs.Modulated.{Numbered}
use Rattle.frame_groups.specs.Numbers.{frame_key}
use Rattle.frame_groups.specs.Carried.{L1Parts, stamps_of}
use Rattle.frame_groups.specs.MapTest.{map_passes}
use Rattle.frame_groups.specs.Tally.{tally, tally_with, tally_fault}
use Rattle.plp_config.specs.declared.moment.TheConstants.{MOST_FRAMES}
use Rattle.frame_groups.specs.Tests.{room_test, pool_test, has_count, read_whole, same_told, conf_agrees, parts_agree}
use Rattle.frame_groups.specs.Tests.{packets_fault, moment_of, named_frame}

-- The test of a shape, which goes over the frames of one superframe, says whether it passes in every frame of a plan.
abbrev pub MapPasses : Type 0
MapPasses = (c : Config) (shape : FrameShape) → IsPlan c → (map_passes c shape ≡ true) ↔ Passes c shape

-- An L1-current is one of frame n: it spells the configuration's L1-pre and configurable part, and a dynamic part with
-- FRAME_IDX of the frame and the identifiers in order.
pub record IsOfFrame (c : Config) (n : ℕ) (l1 : L1Parts) : Type 0 where
  pub pre : PreSpells (pre_of c) l1.pre
  pub conf : ConfSpells (conf_of c) l1.conf
  pub dynamic : L1Dyn
  pub spells : DynSpells dynamic l1.dynamic
  pub frame : dynamic.frame_idx ≡ n % c.frames
  pub ids : map (λ plp. plp.plp_id) dynamic.plps ≡ map (λ plp. plp.id) c.plps

-- The rows of L1-pre tell all of it.
abbrev pub PreValues : Type 0
PreValues = (x y : L1Pre) → (same_told pre_rows x y ≡ true) ↔ (x ≡ y)

-- The test of a configurable part says whether it spells the configuration's values.
abbrev pub ConfTold : Type 0
ConfTold = (c : Config) (bits : List Bool)
    → (conf_agrees c (read_whole (conf_read (info_size (length c.plps)) bits)) ≡ true)
    ↔ ConfSpells (conf_of c) bits

-- The test of an L1-current says whether it is one.
abbrev pub PartsTold : Type 0
PartsTold = (c : Config) (n : ℕ) (l1 : L1Parts) → (parts_agree c n l1 ≡ true) ↔ IsOfFrame c n l1

-- The tests are those of the tally, which each packet changes by itself.
abbrev pub TestsAreTallied : Type 0
TestsAreTallied = (c : Config) (past : List Numbered) (n : ℕ) (packets : List Packet) → packets_fault c past n packets
    ≡ tally_fault c past n (tally c packets)

abbrev pub TallyGrows : Type 0
TallyGrows = (c : Config) (packets : List Packet) (p : Packet) → tally c (packets ++ p ∷ []) ≡ tally_with
    c (tally c packets) p

-- The groups before decide nothing: there is room if the group has it, and a PLP has as many blocks as told if it has
-- them in the group.
pub record AreAlone (c : Config) (past : List Numbered) (n : ℕ) (packets : List Packet) : Type 0 where
  pub room : pool_test c past n packets ≡ room_test c packets
  pub counts : (plp own told : ℕ) → plp < length c.plps → has_count c past n plp own told ≡ (own == told)

-- So it is if every interleaving frame is carried by one frame.
abbrev pub TestsAlone : Type 0
TestsAlone = (c : Config) (past : List Numbered) (n : ℕ) (packets : List Packet) → FramesStandAlone c
    → AreAlone c past n packets

-- The group's first timestamp tells the emission of frame n, which has the group's key.
pub record IsNamed (c : Config) (g : Group) (n : ℕ) : Type 0 where
  pub stamp : Stamp
  pub first : slice_get (stamps_of g.packets) 0 ≡ Some stamp
  pub small : n < MOST_FRAMES
  pub emission-is : moment_of stamp ≡ emission c n
  pub key : frame_key c.frames n ≡ g.key

-- A frame is named exactly if it is that one.
abbrev pub FrameNamed : Type 0
FrameNamed = (c : Config) (g : Group) (n : ℕ) → AllRules c → (named_frame c g ≡ Some n) ↔ IsNamed c g n
