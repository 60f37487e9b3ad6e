-- A frame that is held, and the record that it would make.
use Rattle.std.specs.Prelude.{◌≡◌, ℕ, List, None}
use Rattle.plp_config.specs.declared.config.Config.{Config}
use Rattle.t2mi_packet.specs.declared.packet.Packet.{Packet}
use Rattle.site_frame.specs.declared.reading.RecordView.{RecordView}
use Rattle.frame_groups.specs.Modulated.{Numbered}
use Rattle.frame_groups.specs.Tests.{packets_fault}
use Rattle.open_group.specs.Shown.{Shows}
use Rattle.open_group.specs.Written.{packets_view}
use Rattle.frame_writer.specs.Signalling.{pre_part, conf_part}
use Rattle.frame_writer.specs.declared.frame.PoolFrame.{PoolFrame}

-- It shows packets that pass the tests as frame n and make this record, and has the parts of L1 that all frames of the
-- network share.
pub record IsHeld (c : Config) (n : ℕ) (view : RecordView) (f : PoolFrame) : Type 0 where
  pub packets : List Packet
  pub past : List Numbered
  pub pass : packets_fault c past n packets ≡ None
  pub is : view ≡ packets_view c n packets
  pub shows : Shows c packets f.dynamic f.blocks.now.lists
  pub pre : f.pre ≡ pre_part c
  pub conf : f.conf ≡ conf_part c

-- There is one.
pub record HasRecord (c : Config) (n : ℕ) (f : PoolFrame) : Type 0 where
  pub view : RecordView
  pub held : IsHeld c n view f
