-- The bytes of a run read as its packets.
use Rattle.std.proofs.Common.{◌≡◌, ℕ, ◌+◌, ◌^◌, ◌<◌, Bool, List, [], ◌∷◌, ◌++◌, map, length, Some, refl, ap, ap₂, subst}
use Rattle.std.proofs.Common.{◌∙◌, arith, append-nil}
use Rattle.std.specs.List.{AllByRecursion}
use Rattle.terms.specs.Bits.{bits_of, bytes_of}
use Rattle.terms.proofs.BitLemmas.{bits_of-bytes_of, length-bits_of}
use Rattle.bit_slice.specs.Crc.{crc32_of}
use Rattle.bb_frame.specs.Laws.{BitCounts}
use Rattle.plp_config.specs.Laws.{EmissionFits, FieldRange}
use Rattle.plp_config.specs.declared.config.Config.{Config}
use Rattle.l1_signal.specs.Laws.{PreBitsLength, PostLength}
use Rattle.t2mi_packet.specs.Laws.{WrittenIsRead, WrittenLength, SpellIs}
use Rattle.t2mi_packet.specs.Spell.{spell}
use Rattle.t2mi_packet.specs.T2miPacket.{written_bits, packet_len, Fits, BeginsWith}
use Rattle.t2mi_packet.specs.declared.packet.Body.{Body}
use Rattle.t2mi_packet.specs.declared.packet.Packet.{Packet}
use Rattle.t2mi_packet.proofs.LawLemmas.{begun}
use Rattle.t2mi_stream.specs.Laws.{ArePackets}
use Rattle.modulator.specs.Modulating.{packet_of}
use Rattle.frame_writer.specs.FramePackets.{packets_from, packet_with}
use Rattle.gateway_core.specs.Packets.{bodies_before, front_packets}
use Rattle.stream_laws.specs.SentPackets.{packets_of}
use Rattle.stream_laws.specs.SentFrames.{sent_from}
use Rattle.stream_laws.specs.FrameLaws.{SentAreFrames, FramesAreStream}
use Rattle.stream_laws.proofs.FitLemmas.{PairFits, run_fits, plan_range}

record Written (p : Packet) (bytes : List ℕ) : Type 0 where
  pub spelled : spell bytes ≡ Some (length bytes)
  pub is : packet_of bytes ≡ p

-- the packet of a body, with any number, fits if the body does
fits_with : (c : Config) (number : ℕ) (b : ℕ × Body) → PairFits b → Fits (packet_with c number b.0 b.1)
fits_with c number b h = grind arith

module _ (bounded : (w : List Bool) → crc32_of w < 2 ^ 32) (spell_is : SpellIs) (read : WrittenIsRead)
    (len : WrittenLength) where
  written : (p : Packet) → Fits p → Written p (bytes_of (written_bits p))
  written p fits =
      let front : List ℕ = bytes_of (written_bits p) in
      let whole = len p in
      let bits : bits_of front ≡ written_bits p = bits_of-bytes_of (written_bits p) (packet_len p) whole in
      let none : front ++ [] ≡ front = append-nil _ in
      let begins : BeginsWith front p (packet_len p) =
      subst (λ (l : List ℕ). BeginsWith l p (packet_len p)) none (read p front [] fits bits) in
      let size : packet_len p ≡ length front = let e = ap length bits in omega
      (arith, e, whole, length-bits_of front) in
      record {
        spelled = (spell_is front (packet_len p)).1 (p, begins) ∙ ap Some size;
        is = (begun bounded front p (packet_len p) begins).is;
      }

  pub spelled_from : (c : Config) (number : ℕ) (bodies : List (ℕ × Body)) → AllByRecursion PairFits bodies
      → ArePackets (packets_from c number bodies)
  spelled_from c number [] h = tt
  spelled_from c number (b ∷ bodies) h = (
    (written (packet_with c number b.0 b.1) (fits_with c number b h.0)).spelled,
    spelled_from c (number + 1)
        bodies h.1,
  )

  pub reads_from : (c : Config) (number : ℕ) (bodies : List (ℕ × Body)) → AllByRecursion PairFits bodies
      → map packet_of (packets_from c number bodies) ≡ packets_of (sent_from c number bodies)
  reads_from c number [] h = refl
  reads_from c number (b ∷ bodies) h =
      ap₂ (λ (p : Packet) (l : List Packet). p ∷ l) (written (packet_with c number b.0 b.1)
      (fits_with c number b h.0)).is
      (reads_from c (number + 1) bodies h.1)

  pub frames_are_stream : EmissionFits → PreBitsLength → PostLength → BitCounts → FieldRange → SentAreFrames
      → FramesAreStream
  unfolding front_packets
  frames_are_stream emits bits post numbers range are c inputs n plan ids l =
      let r = plan_range c plan in
      let fit = run_fits emits bits post numbers range c plan ids inputs n l in
      record {
        pid = r.1;
        some = r.0;
        frames = are c inputs n r.0;
        spelled = spelled_from c 0 (bodies_before c inputs n) fit;
        reads = reads_from c 0 (bodies_before c inputs n) fit;
      }
