use Rattle.std.proofs.Common.{◌≡◌, ℕ, List, length, drop, min, refl, ap, subst, ◌∙◌, rules}
use Rattle.linked_pool.specs.Pool.{list_at}
use Rattle.mode_adapt.specs.Steps.{Sends, Puts}
use Rattle.mode_adapt.specs.Waiting.{block_of}
use Rattle.mode_adapt.proofs.BlockLemmas.{written, puts, puts_short, lacks}
use Rattle.mode_adapt.proofs.chain.Chain.put_block.Goals as goal

pub returns-in-Ok-clause-puts : goal.returns-in-Ok-clause-puts
returns-in-Ok-clause-puts c =
    let old = c.args.self.now in
    let count : ℕ = c.min-count.result in
    let first : count ≡ min old.settings.field_bytes (length old.pending.items) = c.min-count.ensures
    ∙ ap (min old.settings.field_bytes) c.len.ensures in
    let ten : length c.header-header.result ≡ 10 = search rules in
    let block : List ℕ = block_of c.header-header.result old.pending.items old.settings.field_bytes in
    let s = c.send.ensures in
    let sends : Sends old c.send.new.self count = record {
      settings = s.settings;
      deleter = s.deleter;
      slot = s.slot;
      made = s.made;
      sent = s.sent;
      pending = s.pending ∙ ap (drop count) c.put_block.ensures.items;
      slots = s.slots;
    } in
    subst (λ (n : ℕ). Puts old c.send.new.self n (list_at c.args.pool.now c.args.list)
    (list_at c.put_block.new.pool c.args.list))
    first
    (puts old c.send.new.self count c.args.pool.now c.put_block.new.pool c.args.list block c.requires.list
    (written old count c.header-header.result block ten first c.header-header.ensures refl).0 c.in-Ok.ensures.ok sends)

pub returns-in-Ok-clause-short : goal.returns-in-Ok-clause-short
returns-in-Ok-clause-short c = λ short.
    let old = c.args.self.now in
    let first : c.min-count.result ≡ min old.settings.field_bytes (length old.pending.items) = c.min-count.ensures
    ∙ ap (min old.settings.field_bytes) c.len.ensures in
    let ten : length c.header-header.result ≡ 10 = search rules in
    let block : List ℕ = block_of c.header-header.result old.pending.items old.settings.field_bytes in
    puts_short old c.args.pool.now c.put_block.new.pool c.args.list block c.requires.list old.settings.field.1
    (written old c.min-count.result c.header-header.result block ten first c.header-header.ensures refl).1
    c.in-Ok.ensures.ok
    short

pub returns-in-Err-clause-full : goal.returns-in-Err-clause-full
returns-in-Err-clause-full c =
    lacks c.args.self.now c.args.pool.now c.put_block.new.pool c.in-Err.full.need c.in-Err.full.spare c.requires.made
    c.in-Err.ensures.told.0 c.in-Err.ensures.told.1 (c.in-Err.ensures.full.0 refl) c.in-Err.ensures.err
    c.in-Err.ensures.whole
