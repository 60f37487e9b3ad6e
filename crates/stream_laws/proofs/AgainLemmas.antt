-- The frames of a run, sent again.
use Rattle.std.proofs.Common.{◌≡◌, ℕ, zero, suc, ◌+◌, ◌%◌, Bool, List, ◌∷◌, ◌++◌, length, map, None, refl, ap, ap₂}
use Rattle.std.proofs.Common.{sym, ◌∙◌, arith, length-append}
use Rattle.std.specs.List.{flat_map, range_with_len}
use Rattle.terms.specs.Bits.{field}
use Rattle.terms.proofs.BitLemmas.{length-field}
use Rattle.bit_slice.specs.Crc.{crc32_of}
use Rattle.bb_frame.specs.Laws.{BitCounts, ScramblesBack}
use Rattle.plp_config.specs.Capacity.{IsPlan}
use Rattle.plp_config.specs.Laws.{FieldRange}
use Rattle.plp_config.specs.declared.config.Config.{Config}
use Rattle.l1_signal.specs.L1Configurable.{conf_bits}
use Rattle.l1_signal.specs.L1Of.{conf_of}
use Rattle.l1_signal.specs.Laws.{PreBitsLength, PostLength, ConfPartLength}
use Rattle.l1_signal.specs.Lengths.{dyn_len}
use Rattle.t2mi_packet.specs.declared.packet.Body.{Body}
use Rattle.mode_adapt.specs.Blocks.{own_blocks, told_counts}
use Rattle.record_laws.specs.Frames.{frame_of, frame_shape, l1_pre, sent_blocks}
use Rattle.frame_writer.specs.FramePackets.{with_stamp, packets_from}
use Rattle.gateway_core.specs.Packets.{frame_bodies, front_packets}
use Rattle.frame_writer.specs.Signalling.{pre_part, conf_part}
use Rattle.gateway_core.specs.Signalling.{dyn_part}
use Rattle.stream_laws.proofs.BlockLemmas.{own_long}
use Rattle.stream_laws.proofs.WrittenLemmas.{post_is}
use Rattle.stream_laws.specs.Remade.{signal_of, record_bodies, view_bodies, remade_bodies, remade_packets}
use Rattle.stream_laws.proofs.BackLemmas.{made_carries}
use Rattle.stream_laws.proofs.MadeLemmas.{made_bodies}
use Rattle.stream_laws.specs.Again.{run_frame, RunSentAgain}

module _ (numbers : BitCounts) (back : ScramblesBack) (range : FieldRange) (pre : PreBitsLength)
    (post_size : PostLength)
    (conf_size : ConfPartLength) (c : Config) (inputs : ℕ → List (List ℕ)) (plan : IsPlan c) where
  abbrev dynamic : ℕ → List Bool
  dynamic n = dyn_part c n (told_counts c inputs n)

  abbrev front : ℕ → List Bool
  front n = conf_bits (conf_of c) ++ dynamic n

  dynamic_long : (n : ℕ) → length (dynamic n) ≡ dyn_len (length c.plps)
  dynamic_long n =
      let a = post_size c n (frame_shape c inputs n) in
      let b = ap length (post_is c n (told_counts c inputs n)) in
      let d = length-append (front n) (field 32 (crc32_of (front n))) in
      let e = length-field 32 (crc32_of (front n)) in
      let g = length-append (conf_bits (conf_of c)) (dynamic n) in
      let h = conf_size c in
      omega (arith, a, b, d, e, g, h)

  made_own : (n : ℕ) → made_bodies c n (dynamic n) (own_blocks c inputs n)
      ≡ frame_bodies c n (told_counts c inputs n) (own_blocks c inputs n)
  unfolding pre_part conf_part
  made_own n = refl

  pub frame_again : (n : ℕ) → view_bodies c n (frame_of c inputs n)
      ≡ frame_bodies c n (told_counts c inputs n) (own_blocks c inputs n)
  frame_again n =
      ap (λ (bits : List Bool). with_stamp c n (signal_of c n (l1_pre c) bits
      ∷ record_bodies (n % c.frames) None (sent_blocks c (own_blocks c inputs n))))
      (sym (post_is c n (told_counts c inputs n)))
      ∙ made_carries numbers back pre conf_size c n plan (dynamic n) (own_blocks c inputs n) (dynamic_long n)
      (own_long numbers range c inputs n)
      ∙ made_own n

  all_again : (k a : ℕ) → remade_bodies c (map (run_frame c inputs) (range_with_len a k))
      ≡ flat_map (λ m. map (λ (body : Body). (m, body)) (frame_bodies c m (told_counts c inputs m)
      (own_blocks c inputs m)))
      (range_with_len a k)
  all_again zero a = refl
  all_again (suc k) a =
      ap₂ (λ (x y : List (ℕ × Body)). x ++ y) (ap (map (λ (body : Body). (a, body))) (frame_again a))
      (all_again k (a + 1))

pub run_sent_again : BitCounts → ScramblesBack → FieldRange → PreBitsLength → PostLength → ConfPartLength → RunSentAgain
unfolding remade_packets front_packets
run_sent_again numbers back range pre post conf c inputs n plan =
    ap (packets_from c 0) (all_again numbers back range pre post conf c inputs plan n 0)
