-- L1-post of a frame.
use Rattle.std.proofs.Common.{◌≡◌, ℕ, ◌+◌, ◌-◌, ◌*◌, List, [], ◌∷◌, ◌++◌, length, take, drop, refl, ap, sym, ◌∙◌, arith}
use Rattle.std.proofs.Common.{length-append}
use Rattle.std.specs.List.{flat_map}
use Rattle.std.proofs.lemmas.List.{take_at, drop_at, take_all, length-map}
use Rattle.std.proofs.lemmas.List.FromFn.{length-map-range_with_len}
use Rattle.terms.specs.Bits.{field, number_of}
use Rattle.terms.proofs.BitLemmas.{length-field, number_of-field}
use Rattle.bit_slice.specs.Crc.{crc32_of}
use Rattle.bit_slice.specs.Laws.{CrcIsRemainder}
use Rattle.plp_config.specs.declared.config.Config.{Config}
use Rattle.scheduler.specs.Shape.{FrameShape}
use Rattle.l1_signal.specs.declared.conf.L1Conf.{L1Conf}
use Rattle.l1_signal.specs.declared.dynamic.L1Dyn.{L1Dyn}
use Rattle.l1_signal.specs.Fields.{Row, fields, row_bits}
use Rattle.l1_signal.specs.L1Configurable.{conf_bits}
use Rattle.l1_signal.specs.L1Dynamic.{dyn_bits}
use Rattle.l1_signal.specs.L1Of.{conf_plp_of, conf_of, dyn_plp_of, dyn_of, post_bits}
use Rattle.l1_signal.specs.Laws.{PostLength, ConfPartLength, EndsInItsCrc}
use Rattle.l1_signal.proofs.RowLemmas.{total, length-row_bits}

length-each_bits : {A : Type 0} (rows : List (Row A)) (xs : List A)
    → length (flat_map (row_bits rows) xs) ≡ total (fields rows)
    * length xs
length-each_bits rows [] = omega arith
length-each_bits rows (x ∷ xs) =
    let step : total (fields rows) * length (x ∷ xs) ≡ total (fields rows) + total (fields rows) * length
    xs = omega arith in
    omega (
      arith,
      length-append (row_bits rows x) (flat_map (row_bits rows) xs),
      length-row_bits rows x,
      length-each_bits rows xs,
      step,
    )

length-conf_bits : (conf : L1Conf) → length (conf_bits conf) ≡ 102 + 89 * length conf.plps
unfolding conf_bits
length-conf_bits conf = grind (arith, length-append, length-row_bits, length-each_bits)

length-dyn_bits : (dynamic : L1Dyn) → length (dyn_bits dynamic) ≡ 79 + 48 * length dynamic.plps
unfolding dyn_bits
length-dyn_bits dynamic = grind (arith, length-append, length-row_bits, length-each_bits)

pub conf_plps-len : (c : Config) → length (conf_of c).plps ≡ length c.plps
unfolding conf_of
conf_plps-len c = length-map c.plps conf_plp_of

dyn_plps-len : (c : Config) (frame : ℕ) (shape : FrameShape) → length (dyn_of c frame shape).plps ≡ length c.plps
unfolding dyn_of
dyn_plps-len c frame shape = length-map-range_with_len (dyn_plp_of c shape) 0 (length c.plps)

pub conf_part_length : ConfPartLength
conf_part_length c = length-conf_bits (conf_of c) ∙ ap (λ (n : ℕ). 102 + 89 * n) (conf_plps-len c)

pub post_length : PostLength
unfolding post_bits
post_length c frame shape =
    grind (arith, length-conf_bits, length-dyn_bits, length-append, length-field, conf_plps-len, dyn_plps-len)

pub ends_in_its_crc : CrcIsRemainder → EndsInItsCrc
ends_in_its_crc law front =
    let crc = field 32 (crc32_of front) in
    let size = length-append front crc in
    let tail = length-field 32 (crc32_of front) in
    let cut : length (front ++ crc) - 32 ≡ length front = omega (arith, size, tail) in
    let told : take 32 (drop (length front) (front ++ crc)) ≡ crc = ap (take 32) (drop_at front crc (length front) refl)
    ∙ take_all 32 crc (omega (arith, tail)) in (
      omega (arith, size, tail),
      rw cut (ap number_of told ∙ number_of-field 32 (crc32_of front) (law front).0
          ∙ ap crc32_of (sym (take_at front crc (length front) refl))),
    )
