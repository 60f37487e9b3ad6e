-- How many bytes of the frames begun wait for a unit at most.
use Rattle.std.proofs.Common.{◌≡◌, ℕ, ◌+◌, ◌-◌, ◌%◌, ◌<◌, ◌≤◌, Bool, true, List, [], ◌∷◌, ◌++◌, length, ap, sym, ◌∙◌}
use Rattle.std.proofs.Common.{inl, inr, arith, length-append}
use Rattle.std.specs.Prelude.{◌==◌}
use Rattle.std.proofs.lemmas.Bool.{cases_lt, cases_Bool}
use Rattle.std.proofs.lemmas.Grind.{flat_map-append}
use Rattle.terms.specs.Bits.{bytes_of}
use Rattle.terms.proofs.BitLemmas.{length-bytes_of}
use Rattle.plp_config.specs.Rules.{PlpCount}
use Rattle.plp_config.specs.declared.config.Config.{Config}
use Rattle.l1_signal.specs.L1Of.{pre_of}
use Rattle.l1_signal.specs.Laws.{PreBitsLength, ConfPartLength}
use Rattle.mode_adapt.specs.Blocks.{own_blocks, told_counts}
use Rattle.t2mi_packet.specs.Laws.{WrittenLength}
use Rattle.t2mi_packet.specs.T2miPacket.{written_bits, packet_len}
use Rattle.t2mi_packet.specs.declared.packet.Body.{Body}
use Rattle.t2mi_packet.specs.declared.packet.Body.TheVariants.{L1Current}
use Rattle.t2mi_packet.specs.declared.packet.Packet.{Packet}
use Rattle.t2mi_stream.specs.Complete.{complete_units}
use Rattle.t2mi_stream.specs.CompleteLaws.{CompleteLaw, CountLaw, CarriedRises, JoinedLength}
use Rattle.t2mi_stream.specs.Pipe.{items, joined, carried_len}
use Rattle.frame_writer.specs.Carried.{of_frame}
use Rattle.gateway_core.specs.Laws.{WaitsThreeFrames}
use Rattle.frame_writer.specs.FramePackets.{l1_body, packet_with, packets_from}
use Rattle.gateway_core.specs.Packets.{plp_bodies, frame_bodies, bodies_before, front_packets}
use Rattle.frame_writer.specs.Signalling.{pre_part, conf_part}
use Rattle.gateway_core.specs.Signalling.{dyn_part}
use Rattle.frame_writer.proofs.CarriedLemmas.{packets_append}
use Rattle.gateway_core.proofs.HoldsLemmas.{bodies_more}
use Rattle.gateway_core.proofs.LawLemmas.{fronts_grow}

packet_size : WrittenLength → (p : Packet) → length (bytes_of (written_bits p)) ≡ packet_len p
packet_size written p = let bits = written p in length-bytes_of (written_bits p) ∙ omega (arith, bits)

-- an L1-current has 63 bytes at least
signal_size : (number superframe frame_idx : ℕ) (pre conf dynamic : List Bool) → length pre ≡ 168 → 191 ≤ length conf
    → 63 ≤ packet_len
    (record {
      packet_count = number;
      superframe = superframe;
      stream = 0;
      body = L1Current frame_idx
          pre conf dynamic [];
    })
signal_size number superframe frame_idx pre conf dynamic long some = omega (arith, long, some)

-- the parts of it that all frames share
parts_size : PreBitsLength → ConfPartLength → (c : Config) → 1 ≤ length c.plps → (length (pre_part c) ≡ 168)
    × (191 ≤ length (conf_part c))
unfolding pre_part conf_part
parts_size pre conf c some = (pre (pre_of c), let size = conf c in omega (arith, size, some))

-- so has what begins with one, and what begins with a timestamp and one
begins_size : JoinedLength → WrittenLength → (c : Config) (number n : ℕ) (dynamic : List Bool) (rest : List Body)
    → length (pre_part c) ≡ 168 → 191 ≤ length (conf_part c)
    → 63 ≤ length (joined (packets_from c number (of_frame n (l1_body c n (pre_part c) (conf_part c) dynamic ∷ rest))))
begins_size join written c number n dynamic rest pre conf =
    let p : Packet = packet_with c number n (l1_body c n (pre_part c) (conf_part c) dynamic) in
    let size = packet_size written p in
    let some = signal_size p.packet_count p.superframe (n % c.frames) (pre_part c) (conf_part c) dynamic pre conf in
    let all = join (bytes_of (written_bits p)) (packets_from c (number + 1) (of_frame n rest)) in
    omega (arith, size, some, all)

stamped_size : JoinedLength → WrittenLength → (c : Config) (number n : ℕ) (dynamic : List Bool) (rest : List Body)
    (stamp : Body)
    → length (pre_part c) ≡ 168 → 191 ≤ length (conf_part c)
    → 63 ≤ length (joined (packets_from c number
    (of_frame n (stamp ∷ l1_body c n (pre_part c) (conf_part c) dynamic ∷ rest))))
stamped_size join written c number n dynamic rest stamp pre conf =
    let behind = begins_size join written c (number + 1) n dynamic rest pre conf in
    let all = join (bytes_of (written_bits (packet_with c number n stamp)))
    (packets_from c (number + 1) (of_frame n (l1_body c n (pre_part c) (conf_part c) dynamic ∷ rest))) in
    omega (arith, behind, all)

-- a frame has 63 bytes at least
frame_size : JoinedLength → WrittenLength → (c : Config) (number n : ℕ) (counts : List ℕ) (blocks : ℕ
    → List (List Bool))
    → length (pre_part c) ≡ 168 → 191 ≤ length (conf_part c)
    → 63 ≤ length (joined (packets_from c number (of_frame n (frame_bodies c n counts blocks))))
frame_size join written c number n counts blocks pre conf =
    elim (cases_Bool (n % c.frames == 0)) [
      | inl on ↦
          rw on (stamped_size join written c number n (dyn_part c n counts) (plp_bodies c n blocks 0) _ pre conf)
      | inr off ↦
          rw off (begins_size join written c number n (dyn_part c n counts) (plp_bodies c n blocks 0) pre conf)
    ]

joined_two : (xs ys : List (List ℕ)) → length (joined (xs ++ ys)) ≡ length (joined xs) + length (joined ys)
joined_two xs ys = ap length (flat_map-append (items true) xs ys) ∙ length-append (joined xs) (joined ys)

-- one frame more
front_size : JoinedLength → WrittenLength → (c : Config) (inputs : ℕ → List (List ℕ)) (n : ℕ)
    → length (pre_part c) ≡ 168
    → 191 ≤ length (conf_part c)
    → length (joined (front_packets c inputs n)) + 63 ≤ length (joined (front_packets c inputs (n + 1)))
unfolding front_packets
front_size join written c inputs n pre conf =
    let before : List (ℕ × Body) = bodies_before c inputs n in
    let last : List (ℕ × Body) = of_frame n (frame_bodies c n (told_counts c inputs n) (own_blocks c inputs n)) in
    let is : packets_from c 0 (bodies_before c inputs (n + 1)) ≡ packets_from c 0 before
    ++ packets_from c (0 + length before) last =
    ap (packets_from c 0) (bodies_more c inputs n) ∙ packets_append c 0 before last in
    let size : length (joined (packets_from c 0 (bodies_before c inputs (n + 1)))) ≡ length
    (joined (packets_from c 0 before))
    + length (joined (packets_from c (0 + length before) last)) =
    ap (λ (l : List (List ℕ)). length (joined l)) is
    ∙ joined_two (packets_from c 0 before) (packets_from c (0 + length before) last) in
    let some = frame_size join written c (0 + length before) n (told_counts c inputs n) (own_blocks c inputs n)
    pre conf in
    omega (arith, size, some)

front_rises : (c : Config) (inputs : ℕ → List (List ℕ)) (n k : ℕ) → n ≤ k → length (joined (front_packets c inputs n))
    ≤ length (joined (front_packets c inputs k))
front_rises c inputs n k le =
    let sum : n + (k - n) ≡ k = omega arith in
    let more = fronts_grow c inputs n (k - n) in
    let is : front_packets c inputs k ≡ front_packets c inputs n ++ more.0 = ap (front_packets c inputs) (sym sum)
    ∙ more.1 in
    let size = ap (λ (l : List (List ℕ)). length (joined l)) is ∙ joined_two (front_packets c inputs n) more.0 in
    omega (arith, size)

pub waits_three : CompleteLaw → CountLaw → CarriedRises → JoinedLength → WrittenLength → PreBitsLength → ConfPartLength
    → WaitsThreeFrames
waits_three stays count rises join written pre conf c inputs n k all units plan three within few =
    let some : (1 ≤ length c.plps) × (length c.plps ≤ 255) = plan.rules PlpCount in
    let parts = parts_size pre conf c some.0 in
    let one = front_size join written c inputs n parts.0 parts.1 in
    let two = front_size join written c inputs (n + 1) parts.0 parts.1 in
    let last = front_size join written c inputs (n + 1 + 1) parts.0 parts.1 in
    let up = front_rises c inputs (n + 1 + 1 + 1) k (omega (arith, three)) in
    let complete : ℕ = length (complete_units c.pid (front_packets c inputs k)) in
    let wait : length (joined (front_packets c inputs k)) < carried_len complete (joined (front_packets c inputs k))
    + 184 =
    elim (cases_lt (length (joined (front_packets c inputs k)))
    (carried_len complete (joined (front_packets c inputs k)) + 184)) [
      | inl lt ↦ lt
      | inr ge ↦ absurd (let lt = (count c.pid (front_packets c inputs k) complete).1 ge in omega (arith, lt))
    ] in
    let sum : k + (all - k) ≡ all = omega (arith, within) in
    let more = fronts_grow c inputs k (all - k) in
    let is : front_packets c inputs all ≡ front_packets c inputs k ++ more.0 = ap (front_packets c inputs) (sym sum)
    ∙ more.1 in
    let same : carried_len complete (joined (front_packets c inputs all))
    ≡ carried_len complete (joined (front_packets c inputs k)) =
    ap (λ (l : List (List ℕ)). carried_len complete (joined l)) is
    ∙ (stays c.pid (front_packets c inputs k) more.0).carried complete (omega arith) in
    let mono = rises complete units (joined (front_packets c inputs all)) few in
    omega (arith, one, two, last, up, wait, same, mono)
