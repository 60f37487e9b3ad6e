-- What is taken of bytes.
use Rattle.std.proofs.Common.{◌≡◌, ℕ, ◌+◌, ◌*◌, ◌/◌, ◌==◌, ◌<◌, ◌≤◌, Bool, List, length, take}
use Rattle.std.proofs.Common.{drop, get_or, Option, Some, None, ap, ◌∙◌, sym, arith}
use Rattle.std.specs.Prelude.{if◌then◌else◌, Result, Ok}
use Rattle.std.proofs.lemmas.List.{get_or-drop}
use Rattle.terms.specs.Bits.{bits_of, bytes_of, part}
use Rattle.terms.proofs.BitLemmas.{length-bits_of, bytes_of-bits_of, part-bits_of, small_take}
use Rattle.bb_frame.specs.BasebandFrame.{Spells}
use Rattle.bb_frame.specs.declared.header.Header.{Header}
use Rattle.bb_frame.specs.Laws.{BitCounts}
use Rattle.bb_frame.specs.declared.fault.BbFault.{BbFault}
use Rattle.bb_frame.specs.declared.reading.BbView.{BbView}
use Rattle.plp_receiver.specs.Strings.{Block}
use Rattle.plp_receiver.specs.Taken.{IsOfStream, IsTaken}
use Rattle.plp_receiver.proofs.SpelledLemmas.{field_behind}

abbrev pub block_with : Option ℕ → ℕ → List ℕ → Block
block_with first issy field = record { first = first; issy = issy; field = field }

small_part : (bytes : List ℕ) → ((k : ℕ) → get_or bytes k 0 < 256) → (at count k : ℕ)
    → get_or (take count (drop at bytes)) k 0
    < 256
small_part bytes small at count k = grind (arith, small_take, get_or-drop)

-- the data field's bytes
pub field_is : BitCounts → (bytes : List ℕ) → ((k : ℕ) → get_or bytes k 0 < 256) → (h : Header) (body : List Bool)
    → Spells h body (bits_of bytes)
    → (10 + h.dfl / 8 ≤ length bytes) × (bytes_of body ≡ take (h.dfl / 8) (drop 10 bytes))
field_is counts bytes small h body s =
    let r = field_behind counts h body (bits_of bytes) s in
    let e : h.dfl ≡ 8 * (h.dfl / 8) = let d = s.describes.bytes in omega (arith, d) in
    let l = r.0 in
    let fits : 10 + h.dfl / 8 ≤ length bytes = omega (arith, l, length-bits_of bytes, e) in
    let field : body ≡ bits_of (take (h.dfl / 8) (drop 10 bytes)) =
    r.1 ∙ ap (λ (n : ℕ). part (bits_of bytes) 80 n) e ∙ part-bits_of bytes 10 (h.dfl / 8) fits in (
      fits,
      ap bytes_of field ∙ bytes_of-bits_of (take (h.dfl / 8) (drop 10 bytes))
          (λ k. small_part bytes small 10 (h.dfl / 8) k),
    )

pub taken_is : BitCounts → (bytes : List ℕ) → ((k : ℕ) → get_or bytes k 0 < 256) → (h : Header) (body : List Bool)
    → Spells h body (bits_of bytes) → (deletes : Bool) → IsOfStream deletes h.matype1
    → IsTaken deletes (bits_of bytes) (block_with (if h.syncd == 65535 then None else Some (h.syncd / 8)) h.issy
    (take (h.dfl / 8) (drop 10 bytes)))
taken_is counts bytes small h body s deletes stream = record {
  header = h;
  body = body;
  spelled = s;
  stream = stream;
  block = ap (λ (f : List ℕ). block_with (if h.syncd == 65535 then None else Some (h.syncd / 8)) h.issy f)
      (sym (field_is counts bytes small h body s).1);
}

-- what was read is what the bits spell
pub same_matype : (r : Result BbView BbFault) (view : BbView) (h : Header) (body : List Bool) → r ≡ Ok view
    → r ≡ Ok (record { header = h; field = body }) → h.matype1 ≡ view.header.matype1
same_matype r view h body e f = cc
