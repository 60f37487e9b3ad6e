-- The frame that waits in a feed.
use Rattle.std.specs.Prelude.{◌≡◌, ℕ, Bool, List}
use Rattle.open_group.specs.FrameBytes as held
use Rattle.frame_writer.specs.Left.{CanBeSent}
use Rattle.frame_writer.specs.Signalling.{pre_part, conf_part}
use Rattle.frame_writer.specs.declared.frame.PoolFrame.{PoolFrame}
use Rattle.feed_merge.specs.FeedStandsFor.{config_of}
use Rattle.feed_merge.specs.declared.feed.FrameFeed.{FrameFeed}

-- the dynamic part and the blocks of the group under way
abbrev pub dynamic_of : FrameFeed → List Bool
dynamic_of f = held.dynamic_of f.inner.sequence.group

abbrev pub lists_of : FrameFeed → List (List (List ℕ))
lists_of f = held.lists_of f.inner.sequence.group

-- The frame has these, and the parts of L1 that all frames of the network share.
pub record IsFrameOf (f : FrameFeed) (frame : PoolFrame) : Type 0 where
  pub pre : frame.pre ≡ pre_part (config_of f)
  pub conf : frame.conf ≡ conf_part (config_of f)
  pub dynamic : frame.dynamic ≡ dynamic_of f
  pub lists : frame.blocks.now.lists ≡ lists_of f
  pub can : CanBeSent (config_of f) frame
