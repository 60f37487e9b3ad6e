use Rattle.std.proofs.Common.{◌++◌, ℕ, is_some, ap, sym, subst, ◌∙◌, length}
use Rattle.std.proofs.lemmas.Bool.{false≢true}
use Rattle.frame_weave.specs.Made.{HoldsMade, all_bodies}
use Rattle.frame_weave.specs.Weaves.{state_of}
use Rattle.frame_weave.specs.Woven.{signalling}
use Rattle.frame_weave.proofs.FinishLemmas.{woven_told, woven_made}
use Rattle.frame_weave.proofs.weaver.Weaver.finish.Goals as goal

pub returns-then-not-is_whole-clause-told : goal.returns-then-not-is_whole-clause-told
returns-then-not-is_whole-clause-told c = λ n gs w.
    let old = c.args.self.now in
    sym c.if-not-is_whole.true ∙ c.is_whole.ensures
    ∙ woven_told old.plan.now n (state_of old) (signalling old.plan.now n gs) gs w.first w.blocks

pub returns-then-not-is_whole-clause-group : goal.returns-then-not-is_whole-clause-group
returns-then-not-is_whole-clause-group c = λ n gs g w e.
    let old = c.args.self.now in
    absurd (false≢true (sym c.if-not-is_whole.true ∙ c.is_whole.ensures
    ∙ woven_told old.plan.now n (state_of old) (signalling old.plan.now n gs) gs w.first w.blocks ∙ ap is_some e))

pub returns-clause-told : goal.returns-clause-told
returns-clause-told c = λ n gs w.
    let old = c.args.self.now in
    sym c.if-not-is_whole.false ∙ c.is_whole.ensures
    ∙ woven_told old.plan.now n (state_of old) (signalling old.plan.now n gs) gs w.first w.blocks

pub returns-clause-group : goal.returns-clause-group
returns-clause-group c = λ n gs g w e.
    let old = c.args.self.now in
    let network = old.plan.now in
    woven_made network n (state_of old) c.push_blocks.new.made (signalling network n gs) gs g w.first w.blocks e
    (λ bodies h.
    subst (λ (m : ℕ). HoldsMade network m old.made bodies → HoldsMade network m c.push_blocks.new.made
    (bodies ++ all_bodies network m old.slots.pool old.layout.starts.items (length network.plps))) w.number
    (c.push_blocks.ensures.holds bodies) h)
