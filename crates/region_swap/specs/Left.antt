-- What is left to send of a frame of which a PLP is replaced. No public clause cites this module.
use Rattle.std.specs.Prelude.{◌≡◌, ℕ, ◌%◌, ◌<◌, ◌≤◌, Bool, List, [], length, slice_index_or, slice_set, if◌then◌else◌}
use Rattle.plp_config.specs.declared.config.Config.{Config}
use Rattle.plp_config.specs.declared.moment.TheConstants.{MOST_FRAMES}
use Rattle.plp_config.specs.declared.plp.TheConstants.{MOST_BLOCK_BYTES}
use Rattle.linked_pool.specs.Pool.{State, list_at}
use Rattle.l1_signal.specs.declared.lengths.TheConstants.{MOST_DYN_BITS}
use Rattle.t2mi_packet.specs.declared.packet.Body.{Body}
use Rattle.frame_writer.specs.FirstPacket.{from_step}
use Rattle.frame_writer.specs.FramePackets.{l1_body}
use Rattle.frame_writer.specs.declared.step.FrameStep.TheVariants.{Over}
use Rattle.frame_writer.specs.Left.{blocks_left, CanBeSent}
use Rattle.region_swap.specs.declared.place.SwapPlace.{SwapPlace}
use Rattle.region_swap.specs.declared.place.SwapSource.{SwapSource}
use Rattle.region_swap.specs.declared.place.SwappedFrame.{SwappedFrame}

-- the blocks of the PLP replaced, as they are sent in a frame
abbrev pub own_list : Bool → State → ℕ → List (List ℕ)
own_list sends pool plp = if sends then list_at pool plp else []

-- the blocks of each PLP
abbrev pub lists_in : SwappedFrame → List (List (List ℕ))
lists_in f = slice_set f.frame.now.blocks.now.lists f.list (own_list f.sends f.region.now f.list)

-- what is left of a frame with these parts of L1 and these blocks
abbrev pub left_by : Config → SwapPlace → List Bool → List Bool → List Bool → List (List (List ℕ)) → List Body
left_by c p pre conf dynamic lists =
    from_step c p.number p.step (l1_body c p.number pre conf dynamic) (blocks_left c (p.number % c.frames)
    p.plp p.place lists)

abbrev pub left_of : Config → SwapPlace → SwappedFrame → List Body
left_of c p f = left_by c p f.frame.now.pre f.frame.now.conf f.dynamic.now (lists_in f)

-- Nothing is left behind it, whatever the frame is.
abbrev pub IsOver : SwapPlace → Type 0
IsOver p = p.step ≡ Over

-- the number of its frame
abbrev pub number_of : SwapPlace → ℕ
number_of p = p.number

-- Both pools have a list for each PLP.
pub record HasLists (f : SwappedFrame) : Type 0 where
  pub list : f.list < length f.frame.now.blocks.now.lists
  pub same : length f.region.now.lists ≡ length f.frame.now.blocks.now.lists

-- The walks are over these pools.
pub record HasWalks (s : SwapSource) (f : SwappedFrame) : Type 0 where
  pub own : s.own ≡ f.frame.now.blocks.now
  pub region : s.region ≡ f.region.now

-- It has what its packets carry.
pub record CanBuild (s : SwapSource) (f : SwappedFrame) (c : Config) : Type 0 where
  pub early : s.place.number ≤ MOST_FRAMES
  pub inside : s.place.plp ≤ length c.plps
  pub can : CanBeSent c f.frame.now
  pub dynamic : length f.dynamic.now ≤ MOST_DYN_BITS
  pub lists : HasLists f
  pub walks : HasWalks s f
  pub short : (plp place : ℕ) → length (slice_index_or (slice_index_or (lists_in f) plp []) place []) ≤ MOST_BLOCK_BYTES
