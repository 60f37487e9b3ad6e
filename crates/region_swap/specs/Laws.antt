-- Laws of frames that are held. No public clause cites this module.
use Rattle.std.specs.Prelude.{◌≡◌, ◌<◌, ℕ, Bool, List, length, map, slice_set}
use Rattle.terms.specs.Bits.{bits_of}
use Rattle.plp_config.specs.Capacity.{IsPlan}
use Rattle.plp_config.specs.declared.config.Config.{Config}
use Rattle.mode_adapt.specs.Blocks.{own_blocks, told_count}
use Rattle.site_frame.specs.declared.reading.RecordView.{RecordView}
use Rattle.stream_laws.specs.Remade.{view_bodies}
use Rattle.frame_writer.specs.Bodies.{pool_bodies}
use Rattle.frame_writer.specs.declared.frame.PoolFrame.{PoolFrame}
use Rattle.region_swap.specs.Held.{IsHeld}
use Rattle.region_swap.specs.Making.{IsMade}
use Rattle.region_swap.specs.Telling.{TellsCounts}
use Rattle.region_swap.specs.Swapped.{swapped_view}

-- The dynamic part of a frame that is held tells how many blocks each PLP has.
abbrev pub HeldTells : Type 0
HeldTells = (c : Config) (n : ℕ) (view : RecordView) (f : PoolFrame) → IsPlan c → IsHeld c n view f
    → TellsCounts c f.dynamic

-- With the blocks of one PLP replaced by those that an input sends in frame n, and with their number in its dynamic
-- part, it is sent as its record says with the PLP replaced.
abbrev pub HeldIsSwapped : Type 0
HeldIsSwapped = (c : Config) (plp n : ℕ) (view : RecordView) (f : PoolFrame) (input : List (List ℕ))
    (dynamic : List Bool)
    (own : List (List ℕ)) → IsPlan c → plp < length c.plps → IsHeld c n view f
    → IsMade c n plp (told_count c (λ _. input) n plp) f.dynamic dynamic
    → map bits_of own ≡ own_blocks c (λ _. input) n plp
    → pool_bodies c n f.pre f.conf dynamic (slice_set f.blocks.now.lists plp own) ≡ view_bodies c n
    (swapped_view c plp input n view)
