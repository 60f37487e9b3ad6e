use Rattle.std.proofs.Common.{◌≡◌, ◌≤◌, ℕ, ◌+◌, ◌-◌, ◌++◌, vec_len, drop, length, refl, ap, ◌∙◌, rules, arith}
use Rattle.std.specs.Prelude.{replicate}
use Rattle.bb_frame.specs.declared.header.TheConstants.{HEADER_BYTES}
use Rattle.mode_adapt.specs.Waiting.{Held}
use Rattle.mode_adapt.proofs.WaitingLemmas.{taken_off, lies}
use Rattle.mode_adapt.proofs.waiting.Waiting.put_block.Goals as goal

pub returns-clause-items : goal.returns-clause-items
returns-clause-items c =
    let old = c.self.inside.bytes.items in
    let is : drop HEADER_BYTES old ≡ c.args.self.now.items = ap (λ (h : Held). h.items) c.self.view_is in
    let whole : vec_len c.self.inside.bytes ≡ length old = search rules in
    let inside : HEADER_BYTES ≤ length old = omega (arith, c.self.invariant.0, whole) in
    let front : length c.args.header.now ≡ HEADER_BYTES = search rules in
    taken_off old c.lay.new.bytes.items c.truncate.new.self.items c.args.header.now _ c.len-len.result HEADER_BYTES
    (c.len-len.ensures ∙ whole) inside front c.lay.ensures.items c.truncate.ensures.items
    ∙ is

pub returns-clause-ok : goal.returns-clause-ok
returns-clause-ok c =
    let old = c.self.inside.bytes.items in
    let is : drop HEADER_BYTES old ≡ c.args.self.now.items = ap (λ (h : Held). h.items) c.self.view_is in
    let whole : vec_len c.self.inside.bytes ≡ length old = search rules in
    let inside : HEADER_BYTES ≤ length old = omega (arith, c.self.invariant.0, whole) in
    let front : length c.args.header.now ≡ HEADER_BYTES = search rules in
    rw (lies old c.deref.result.now c.args.header.now c.args.self.now.items _ HEADER_BYTES c.args.field_bytes
    inside front
    is (c.deref.ensures.value ∙ c.lay.ensures.items
    ∙ ap (λ (n : ℕ). c.args.header.now ++ drop HEADER_BYTES old ++ replicate (HEADER_BYTES + c.args.field_bytes - n) 0)
    whole) refl) at c.append-result.ensures.ok
