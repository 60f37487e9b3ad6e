-- What is sent of the first of some frames.
use Rattle.std.proofs.Common.{◌≡◌, ◌≢◌, ℕ, ◌+◌, ◌≤◌, List, [], ◌∷◌, ◌++◌, length, ap, sym, ◌∙◌, arith, append_assoc}
use Rattle.std.proofs.Common.{length-append}
use Rattle.std.proofs.lemmas.Grind.{flat_map-append}
use Rattle.plp_config.specs.declared.config.Config.{Config}
use Rattle.terms.specs.Lists.{IsPrefix}
use Rattle.t2mi_stream.specs.Complete.{complete_units}
use Rattle.t2mi_stream.specs.CompleteLaws.{CompleteLaw}
use Rattle.t2mi_stream.specs.Pipe.{pipe}
use Rattle.t2mi_stream.proofs.CompleteLemmas.{shorter_front}
use Rattle.frame_writer.specs.FramePackets.{packets_from}
use Rattle.frame_writer.proofs.CarriedLemmas.{packets_append}
use Rattle.stream_laws.specs.Remade.{NumberedView, remade_packets, remade_bodies, frame_pairs}

-- Some more are within a bound, if those before are, and if more are they are too.
pub more_within : {X : Type 0} (count n : ℕ) (xs : List X) → count ≤ n → (xs ≢ [] → count + length xs ≤ n)
    → count + length xs ≤ n
more_within count n [] few all = omega (arith, few)
more_within count n (x ∷ xs) few all = all (λ e. (let z = ap length e in absurd (omega (arith, z))))

-- more frames have more packets behind those of the first
pub packets_more : (c : Config) (frames more : List NumberedView) → IsPrefix (remade_packets c frames)
    (remade_packets c (frames ++ more))
unfolding remade_packets
packets_more c frames more = (
  packets_from c (0 + length (remade_bodies c frames)) (remade_bodies c more),
  ap (packets_from c 0) (flat_map-append (frame_pairs c) frames more)
      ∙ packets_append c 0 (remade_bodies c frames) (remade_bodies c more),
)

-- The complete units of fewer packets are the first that were given, if as many were as more packets have complete
-- ones.
pub given_front : CompleteLaw → (pid : ℕ) (few more rest units back : List (List ℕ))
    → length (complete_units pid (few ++ more)) ≤ length units → pipe pid ((few ++ more) ++ rest) ≡ units ++ back
    → IsPrefix (complete_units pid few) units
given_front law pid few more rest units back le is =
    let one = law pid few more in
    let all = law pid few (more ++ rest) in
    let size = ap length one.complete in
    let same : complete_units pid few ++ all.rest ≡ units ++ back =
    sym all.units ∙ sym (ap (pipe pid) (append_assoc few more rest)) ∙ is in
    shorter_front (complete_units pid few) units all.rest back same
    (omega (arith, le, size, length-append (complete_units pid few) one.others))
