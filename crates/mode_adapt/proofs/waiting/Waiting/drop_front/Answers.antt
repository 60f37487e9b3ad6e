use Rattle.std.proofs.Common.{◌≡◌, ℕ, ◌+◌, vec_len, drop, length, ap, ◌∙◌, rules, arith, length-drop}
use Rattle.std.specs.List.{copy_within}
use Rattle.bb_frame.specs.declared.header.TheConstants.{HEADER_BYTES}
use Rattle.mode_adapt.specs.Waiting.{Held}
use Rattle.mode_adapt.proofs.WaitingLemmas.{taken_out}
use Rattle.mode_adapt.proofs.waiting.Waiting.drop_front.Goals as goal

pub returns-clause-items : goal.returns-clause-items
returns-clause-items c =
    let old = c.self.inside.bytes.items in
    let is : drop HEADER_BYTES old ≡ c.args.self.now.items = ap (λ (h : Held). h.items) c.self.view_is in
    let whole : vec_len c.self.inside.bytes ≡ length old = search rules in
    taken_out old c.copy_within.new.self.items c.truncate.new.self.items c.len.result HEADER_BYTES c.args.count
    (c.len.ensures ∙ whole)
    (omega (arith, ap length is, length-drop HEADER_BYTES old, c.requires, c.self.invariant.0, whole))
    (c.copy_within.ensures.items ∙ ap (λ (n : ℕ). copy_within old (HEADER_BYTES + c.args.count) n HEADER_BYTES) whole)
    c.truncate.ensures.items
    ∙ ap (drop c.args.count) is
