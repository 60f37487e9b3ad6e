-- How many bits there are.
use Rattle.std.proofs.Common.{◌≡◌, ℕ, suc, ◌+◌, ◌-◌, ◌≤◌, List, Bool, false, [], ◌∷◌, ◌++◌, length, refl, ap, ◌∙◌}
use Rattle.std.proofs.Common.{arith}
use Rattle.std.specs.Prelude.{replicate}
use Rattle.std.proofs.lemmas.List.{length-append, length-replicate}
use Rattle.bb_frame.specs.BasebandFrame.{header_bits, frame_bits}
use Rattle.bb_frame.specs.Laws.{BitCounts}
use Rattle.bb_frame.specs.Scrambled.{added}
use Rattle.bb_frame.specs.declared.header.Header.{Header}
use Rattle.bb_frame.proofs.FrameLemmas.{length-header}

length-frame : (h : Header) (body : List Bool) (size : ℕ) → 80 + length body ≤ size
    → length (frame_bits h body size) ≡ size
length-frame h body size fits =
    let zeros : List Bool = replicate (size - 80 - length body) false in
    let sum : 80 + length body + (size - 80 - length body) ≡ size = omega arith in
    length-append (header_bits h ++ body) zeros
    ∙ ap (λ (v : ℕ). v + length zeros) (length-append (header_bits h) body)
    ∙ ap (λ (v : ℕ). v + length body + length zeros) (length-header h)
    ∙ ap (λ (v : ℕ). 80 + length body + v) (length-replicate (size - 80 - length body) false)
    ∙ sum

pub length-added : (i : ℕ) (bits : List Bool) → length (added i bits) ≡ length bits
length-added i [] = refl
length-added i (b ∷ bits) = ap suc (length-added (i + 1) bits)

pub bit_counts : BitCounts
bit_counts = record { header = length-header; frame = length-frame; scrambled = λ bits. length-added 0 bits }
