-- Scrambling changes no number of bytes.
use Rattle.std.proofs.Common.{◌≡◌, ℕ, ◌+◌, ◌*◌, List, ◌∷◌, ◌++◌, length, ap, ap₂, sym, ◌∙◌, arith}
use Rattle.byteorder.specs.Endian.{big_bytes}
use Rattle.plp_config.specs.Plps.{plp_at}
use Rattle.plp_config.specs.declared.config.Config.{Config}
use Rattle.terms.specs.Bits.{bits_of, bytes_for}
use Rattle.terms.proofs.BitLemmas.{length-bits_of, length-bytes_of}
use Rattle.bb_frame.specs.Scrambled.{scrambled}
use Rattle.bb_frame.proofs.CountLemmas.{length-added}
use Rattle.open_group.specs.RecordBytes.{scrambled_bytes, sent_bytes}

whole_bytes : (bits count : ℕ) → bits ≡ 8 * count → bytes_for bits ≡ count
whole_bytes bits count e = omega (arith, e)

pub length-scrambled_bytes : (bytes : List ℕ) → length (scrambled_bytes bytes) ≡ length bytes
length-scrambled_bytes bytes =
    length-bytes_of (scrambled (bits_of bytes))
    ∙ whole_bytes (length (scrambled (bits_of bytes))) (length bytes) (length-added 0 (bits_of bytes)
    ∙ length-bits_of bytes)

-- the bytes of a block behind its head
pub head_is : (c : Config) (plp : ℕ) (block out new : List ℕ) (id len : ℕ) → id ≡ (plp_at c.plps plp).id
    → out ≡ id ∷ 0 ∷ big_bytes 2 len → new ≡ out ++ scrambled_bytes block → len ≡ length block
    → new ≡ sent_bytes c plp block
head_is c plp block out new id len own head behind size =
    behind ∙ ap (λ (l : List ℕ). l ++ scrambled_bytes block) head
    ∙ ap₂ (λ (i n : ℕ). i ∷ 0 ∷ (big_bytes 2 n ++ scrambled_bytes block)) own (size
    ∙ sym (length-scrambled_bytes block))
