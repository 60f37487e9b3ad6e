use Rattle.std.proofs.Common.{◌++◌, ◌∷◌, [], ℕ, List, map, length, ap, sym, ◌∙◌, arith, append_assoc, length-append}
use Rattle.std.specs.List.{range_with_len}
use Rattle.std.proofs.lemmas.List.FromFn.{map-range_with_len_more, length-map-range_with_len}
use Rattle.terms.specs.Bits.{byte_at}
use Rattle.open_group.proofs.signalling.put_bits.Goals as goal

pub put-requires : goal.put-requires
put-requires c =
    let a = ap length c.loop-k.invariant
    ∙ length-append c.args.out.now (map (byte_at c.args.bits.now) (range_with_len 0 c.loop-k.k)) in
    let b = length-map-range_with_len (byte_at c.args.bits.now) 0 c.loop-k.k in
    omega (arith, a, b, c.requires, c.loop-k-test.true, c.div_ceil-k-end.ensures, c.len.ensures.len)

pub loop-k-preserved : goal.loop-k-preserved
loop-k-preserved c =
    let bytes = map (byte_at c.args.bits.now) (range_with_len 0 c.loop-k.k) in
    c.put.ensures ∙ ap (λ (l : List ℕ). l ++ c.byte_of.result ∷ []) c.loop-k.invariant
    ∙ append_assoc c.args.out.now bytes (c.byte_of.result ∷ [])
    ∙ ap (λ (n : ℕ). c.args.out.now ++ (bytes ++ n ∷ [])) c.byte_of.ensures
    ∙ ap (λ (l : List ℕ). c.args.out.now ++ l)
    (sym (map-range_with_len_more (byte_at c.args.bits.now) 0 c.loop-k.k c.loop-k.k (omega arith)))

pub returns-clause-len : goal.returns-clause-len
returns-clause-len c =
    let a = ap length c.loop-k.invariant
    ∙ length-append c.args.out.now (map (byte_at c.args.bits.now) (range_with_len 0 c.loop-k.k)) in
    let b = length-map-range_with_len (byte_at c.args.bits.now) 0 c.loop-k.k in
    omega (arith, a, b, c.loop-k-test.false, c.loop-k.auto.k-end, c.div_ceil-k-end.ensures, c.len.ensures.len)
