-- Packets that carry what the record of a frame says.
use Rattle.std.specs.Prelude.{◌≡◌, ℕ, ◌%◌, ◌<◌, ◌==◌, true, false, Bool, List, [], length, map, count_by, slice_index}
use Rattle.std.specs.Prelude.{Some, None}
use Rattle.std.specs.Option.{option_map_or}
use Rattle.plp_config.specs.Capacity.{IsPlan}
use Rattle.plp_config.specs.InterleavingFrames.{is_first, begin_of}
use Rattle.plp_config.specs.Plps.{plp_at}
use Rattle.plp_config.specs.declared.config.Config.{Config}
use Rattle.plp_config.specs.declared.moment.TheConstants.{MOST_FRAMES}
use Rattle.l1_signal.specs.L1Of.{told_shape}
use Rattle.t2mi_packet.specs.declared.packet.Packet.{Packet}
use Rattle.frame_groups.specs.Modulated.{Numbered}
use Rattle.frame_groups.specs.Numbers.{frame_key}
use Rattle.frame_groups.specs.declared.cause.MuteCause.TheVariants.{PacketMissing}
use Rattle.site_frame.specs.declared.reading.RecordView.{RecordView}
use Rattle.site_frame.specs.declared.reading.RecordView.TheVariants.{Frame, Muted}
use Rattle.frame_groups.specs.Begun.{is_begin, packets_at}
use Rattle.frame_groups.specs.Readable.{told_dynamic}
use Rattle.frame_groups.specs.Tests.{room_test, has_begun, packets_fault, named_frame}
use Rattle.open_group.specs.Written.{packets_view}
use Rattle.stream_laws.specs.Remade.{view_bodies}

-- A record is the frame that packets make, which pass the tests as frame n behind some groups: it is one that a
-- modulator wrote.
pub record IsWritten (c : Config) (n : ℕ) (view : RecordView) : Type 0 where
  pub packets : List Packet
  pub past : List Numbered
  pub pass : packets_fault c past n packets ≡ None
  pub is : view ≡ packets_view c n packets

-- how many blocks a record has of the PLP at a place
abbrev pub blocks_in : Config → ℕ → RecordView → ℕ
blocks_in c plp (Frame moment pre post blocks cells) = count_by (λ b. b.plp_id == (plp_at c.plps plp).id) blocks
blocks_in c plp (Muted moment) = 0

-- and how many its dynamic part tells (EN 302 755, clause 7.2.3.2)
abbrev pub plp_num_blocks : Config → ℕ → RecordView → ℕ
plp_num_blocks c plp (Frame moment pre post blocks cells) =
    slice_index (option_map_or (λ d. (told_shape d).counts) (told_dynamic c post) []) plp
plp_num_blocks c plp (Muted moment) = 0

-- The groups have room in which interleaving frames begin that frame n carries.
abbrev pub HaveRoom : Config → List Numbered → ℕ → Type 0
HaveRoom c past n = (b : ℕ) → b < n → is_begin c n b ≡ true → room_test c (packets_at past b) ≡ None

-- the group where the interleaving frame of a PLP began has as many blocks of it as a record of frame n tells
abbrev pub has_told : Config → ℕ → RecordView → List Numbered → ℕ → Bool
has_told c n view past plp = has_begun c plp (packets_at past (begin_of c plp n)) (plp_num_blocks c plp view)

-- Packets come back as frame n behind groups that have room.
pub record ComesBack (c : Config) (n : ℕ) (view : RecordView) (packets : List Packet) : Type 0 where
  -- They pass the tests, if these groups have the blocks of the interleaving frames that began before;
  pub pass : (past : List Numbered) → HaveRoom c past n
      → ((plp : ℕ) → plp < length c.plps → is_first c plp n ≡ false → has_told c n view past plp ≡ true)
      → packets_fault c past n packets ≡ None
  -- if not, a packet is missing.
  pub lacks : (past : List Numbered) (plp : ℕ) → HaveRoom c past n → plp < length c.plps → is_first c plp n ≡ false
      → has_told c n view past plp ≡ false → packets_fault c past n packets ≡ Some PacketMissing
  -- They make this record, and name the frame if it begins a superframe.
  pub is : packets_view c n packets ≡ view
  pub names : n % c.frames ≡ 0 → n < MOST_FRAMES
      → named_frame c (record { key = frame_key c.frames n; packets = packets }) ≡ Some n
  -- They have room, and as many blocks of each PLP, each of its length, as the record.
  pub room : room_test c packets ≡ None
  pub blocks : (plp told : ℕ) → plp < length c.plps → has_begun c plp packets told ≡ (blocks_in c plp view == told)

-- If packets carry what the record of a frame says that a modulator wrote, that frame comes back of them.
abbrev pub FrameComesBack : Type 0
FrameComesBack = (c : Config) (n : ℕ) (view : RecordView) (packets : List Packet) → IsPlan c → IsWritten c n view
    → map (λ p. p.body) packets ≡ view_bodies c n view → ComesBack c n view packets
