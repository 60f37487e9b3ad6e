-- The bytes of frames that were sent again read as their packets.
use Rattle.std.proofs.Common.{◌≡◌, ℕ, ◌^◌, ◌<◌, Bool, List, [], ◌∷◌, map, length, replicate, ap, subst, sym, ◌∙◌, arith}
use Rattle.std.specs.List.{items_where_true, AllByRecursion}
use Rattle.std.proofs.lemmas.Simd.{map-map}
use Rattle.terms.proofs.AllLemmas.{all_append}
use Rattle.bit_slice.specs.Crc.{crc32_of}
use Rattle.bb_frame.specs.Laws.{BitCounts, ScramblesBack}
use Rattle.plp_config.specs.Capacity.{IsPlan}
use Rattle.plp_config.specs.Laws.{EmissionFits, FieldRange}
use Rattle.plp_config.specs.declared.config.Config.{Config}
use Rattle.l1_signal.specs.L1Of.{pre_of, conf_of}
use Rattle.l1_signal.specs.L1Pre.{pre_bits}
use Rattle.l1_signal.specs.L1Configurable.{conf_bits}
use Rattle.l1_signal.specs.Laws.{PreBitsLength}
use Rattle.ts_packet.specs.TsFile.{joined}
use Rattle.t2mi_packet.specs.Laws.{WrittenIsRead, WrittenLength, SpellIs}
use Rattle.t2mi_packet.specs.declared.packet.Packet.{Packet}
use Rattle.t2mi_stream.specs.Accepted.{AcceptedPacket}
use Rattle.t2mi_stream.specs.Laws.{ArePackets}
use Rattle.t2mi_stream.specs.Pipe.{pipe, joined as joined_items}
use Rattle.t2mi_stream.specs.Received.{Fate}
use Rattle.t2mi_stream.specs.Received.Fate.{Kept}
use Rattle.t2mi_stream.specs.SurvivorLaws.{AcceptedSurvive, KeptUndamaged}
use Rattle.t2mi_stream.specs.Units.{accepted_of}
use Rattle.frame_groups.specs.Modulated.{modulated}
use Rattle.frame_groups.specs.Carried.{right_blocks}
use Rattle.frame_groups.specs.Tests.{rules}
use Rattle.record_laws.specs.Frames.{HasByteIds}
use Rattle.modulator.specs.Modulating.{packet_of}
use Rattle.frame_writer.specs.FramePackets.{packets_from}
use Rattle.stream_laws.proofs.ArriveLemmas.{left_all, all_begun, all_left}
use Rattle.stream_laws.proofs.FitLemmas.{IsFit, PairFits, frame_fits, pairs_fit, plan_range}
use Rattle.stream_laws.proofs.ReadLemmas.{spelled_from, reads_from}
use Rattle.stream_laws.proofs.FrameRecordLemmas.{none_altered, each_kept}
use Rattle.stream_laws.specs.Remade.{NumberedView, view_bodies, frame_pairs, remade_bodies, remade_packets}
use Rattle.stream_laws.proofs.BackLemmas.{view_carries}
use Rattle.stream_laws.proofs.FormedLemmas.{told}
use Rattle.stream_laws.proofs.PassedLemmas.{passed}
use Rattle.stream_laws.proofs.FormedSignalLemmas.{Knows, dyn_size}
use Rattle.stream_laws.proofs.SizeLemmas.{right_long}
use Rattle.stream_laws.specs.Coming.{IsWrittenFrame, RemadeArrives}

-- ---- each packet fits

module _ (emits : EmissionFits) (bits : PreBitsLength) (range : FieldRange) (knows : Knows) (numbers : BitCounts)
    (back : ScramblesBack) (c : Config) (plan : IsPlan c) (ids : HasByteIds c) where
  pub fit_frame : (f : NumberedView) → IsWrittenFrame c f → AllByRecursion IsFit (view_bodies c f.number f.view)
  fit_frame f w =
      let packets : List Packet = w.0.packets in
      let p = passed c w.0.past f.number packets w.0.pass in
      let conf = knows.conf_size c in
      let size = dyn_size knows c f.number p.l1.first (told knows c f.number packets p) in
      subst (AllByRecursion IsFit)
      (sym (ap (view_bodies c f.number) w.0.is ∙ view_carries numbers back bits knows c f.number plan packets p))
      (frame_fits emits range c plan ids f.number (pre_bits (pre_of c)) (conf_bits (conf_of c)) p.l1.first.dynamic
      (λ plp. right_blocks c plp packets) w.1 (bits (pre_of c)) (omega (arith, conf, size))
      (λ plp. right_long c plp packets))

  all_fit : (fs : List NumberedView) → AllByRecursion (IsWrittenFrame c) fs
      → AllByRecursion PairFits (remade_bodies c fs)
  all_fit [] h = tt
  all_fit (f ∷ fs) h =
      all_append PairFits (frame_pairs c f) (remade_bodies c fs)
      (pairs_fit f.number (view_bodies c f.number f.view) (fit_frame f h.0)) (all_fit fs h.1)

-- ---- all of them are accepted

pub accepted_are : AcceptedSurvive → KeptUndamaged → (pid : ℕ) (packets : List (List ℕ)) → pid < 2 ^ 13
    → ArePackets packets
    → map (λ (a : AcceptedPacket). a.bytes) (accepted_of pid (joined (pipe pid packets))) ≡ packets
accepted_are survive undamaged pid packets small are =
    let count : ℕ = length (pipe pid packets) in
    let fates : List Fate = replicate count Kept in
    let u = undamaged pid packets 0 fates small are (none_altered count) (each_kept count) in
    ap (λ (bytes : List ℕ). map (λ (a : AcceptedPacket). a.bytes) (accepted_of pid bytes))
    (sym (left_all (pipe pid packets)))
    ∙ (survive pid packets 0 fates are u.sent).bytes
    ∙ ap (λ (flags : List Bool). items_where_true flags packets) (u.survive
    ∙ all_begun (joined_items packets) 0 packets)
    ∙ all_left packets

pub remade_arrives : ((w : List Bool) → crc32_of w < 2 ^ 32) → SpellIs → WrittenIsRead → WrittenLength → EmissionFits
    → PreBitsLength → FieldRange → Knows → BitCounts → ScramblesBack → AcceptedSurvive → KeptUndamaged → RemadeArrives
unfolding remade_packets
remade_arrives bounded spell_is read len emits bits range knows numbers back survive undamaged c frames
    plan ids written =
    let fit = all_fit emits bits range knows numbers back c plan ids frames written in
    let packets : List (List ℕ) = packets_from c 0 (remade_bodies c frames) in
    let are : ArePackets packets = spelled_from bounded spell_is read len c 0 (remade_bodies c frames) fit in
    ap (modulated (rules c))
    (sym (map-map packet_of (λ (a : AcceptedPacket). a.bytes) (accepted_of c.pid (joined (pipe c.pid packets))))
    ∙ ap (map packet_of) (accepted_are survive undamaged c.pid packets (plan_range c plan).1 are)
    ∙ reads_from bounded spell_is read len c 0 (remade_bodies c frames) fit)
