use Rattle.std.proofs.Common.{ℕ, ◌/◌, ◌<◌, List, take, drop, get_or, Option, refl, sym, subst}
use Rattle.std.proofs.Common.{arith}
use Rattle.std.proofs.lemmas.Bool.{both_ways}
use Rattle.terms.specs.Bits.{bits_of}
use Rattle.bb_frame.specs.BasebandFrame.{Spells}
use Rattle.plp_receiver.specs.Taken.{IsOfStream, IsTaken}
use Rattle.plp_receiver.proofs.TakingLemmas as T
use Rattle.plp_receiver.proofs.taking.taken_block.Goals as goal

pub returns-in_default-clause-none : goal.returns-in_default-clause-none
returns-in_default-clause-none c e b t =
    c.in_default.not-Ok _
    (c.read_frame.ensures.every t.header t.body (subst (Spells t.header t.body) (sym c.whole.ensures.bits) t.spelled))

pub returns-then-not-is_of_stream-clause-none : goal.returns-then-not-is_of_stream-clause-none
returns-then-not-is_of_stream-clause-none c = λ e b t.
    let spelled : Spells t.header t.body c.whole.result = subst (Spells t.header t.body) (sym c.whole.ensures.bits)
    t.spelled in
    let same = T.same_matype c.read_frame.result c.in-Ok.view t.header t.body c.in-Ok.is
    (c.read_frame.ensures.every t.header t.body spelled) in
    both_ways _ refl (c.if-not-is_of_stream.ensures.1 (subst (IsOfStream c.args.deletes) same t.stream))

pub returns-clause-some : goal.returns-clause-some
returns-clause-some c =
    let small : (k : ℕ) → get_or c.args.block.now k 0 < 256 = λ k. omega (arith, c.type_inv.block k) in
    let spelled : Spells c.in-Ok.view.header c.in-Ok.view.field (bits_of c.args.block.now) =
    subst (Spells c.in-Ok.view.header c.in-Ok.view.field) c.whole.ensures.bits c.in-Ok.ensures.ok in
    let stream : IsOfStream c.args.deletes c.in-Ok.view.header.matype1 = c.if-not-is_of_stream.ensures.0 refl in
    subst (λ (l : List ℕ). IsTaken c.args.deletes (bits_of c.args.block.now)
    (T.block_with c.first_of.result c.in-Ok.view.header.issy l)) (sym c.field_of.ensures)
    (subst (λ (f : Option ℕ). IsTaken c.args.deletes (bits_of c.args.block.now)
    (T.block_with f c.in-Ok.view.header.issy (take (c.in-Ok.view.header.dfl / 8) (drop 10 c.args.block.now))))
    (sym c.first_of.ensures)
    (T.taken_is c.bit_counts_law.ensures c.args.block.now small c.in-Ok.view.header c.in-Ok.view.field
    spelled c.args.deletes
    stream))
