use Rattle.std.proofs.Common.{◌≡◌, length, refl, ap, ◌∙◌, arith}
use Rattle.terms.proofs.BitLemmas.{length-bytes_of}
use Rattle.plp_config.specs.Capacity.{block_bytes}
use Rattle.linked_pool.specs.Pool.{appended, chunks_for}
use Rattle.open_group.specs.Sent.{held_bytes}
use Rattle.open_group.proofs.BlockLemmas.{stray_counted, stray_listed, wrong_counted, wrong_listed, right_counted}
use Rattle.open_group.proofs.BlockLemmas.{right_listed, kept_right}
use Rattle.open_group.specs.HoldsBlocks.{Held}
use Rattle.open_group.proofs.blocks.HeldBlocks.add_block.Goals as goal

pub keep-requires-clause-short : goal.keep-requires-clause-short
keep-requires-clause-short c =
    omega (
      arith,
      length-bytes_of c.args.bits.now,
      c.len.ensures.len,
      c.if-len.false,
      c.block_bytes-len.ensures.greatest,
    )

pub keep-requires-clause-chunks : goal.keep-requires-clause-chunks
keep-requires-clause-chunks c =
    let size : block_bytes c.args.plan.now c.in-Some.place ≡ length (held_bytes c.args.bits.now) =
    omega (
      arith,
      length-bytes_of c.args.bits.now,
      c.len.ensures.len,
      c.if-len.false,
      c.block_bytes-len.ensures.value,
    ) in
    c.block_chunks.ensures.value ∙ ap chunks_for size

pub returns-in_default-clause-counts : goal.returns-in_default-clause-counts
returns-in_default-clause-counts c =
    λ t p frame_idx first is h. stray_counted c.args.plan.now p frame_idx c.args.id first c.args.bits.now is
    c.in_default.ensures.none c.args.self.now _ t refl refl refl refl h

pub returns-in_default-clause-lists : goal.returns-in_default-clause-lists
returns-in_default-clause-lists c = λ packets p frame_idx first is h.
    stray_listed c.args.plan.now p frame_idx c.args.id first c.args.bits.now is c.in_default.ensures.none
    c.args.self.now
    c.args.self.now packets refl refl refl h

pub returns-then-len-clause-counts : goal.returns-then-len-clause-counts
returns-then-len-clause-counts c = λ t p frame_idx first is h.
    wrong_counted c.args.plan.now p frame_idx c.args.id first c.args.bits.now is c.in-Some.place c.in-Some.ensures.some
    (λ e. c.if-len.true (cc)) c.args.self.now _ t c.requires.open.counts (ap (λ (b : Held). b.counts)
    c.count.ensures.held)
    (ap (λ (b : Held). b.rights) c.count.ensures.held) (ap (λ (b : Held). b.need) c.count.ensures.held) refl h

pub returns-then-len-clause-lists : goal.returns-then-len-clause-lists
returns-then-len-clause-lists c = λ packets p frame_idx first is h.
    wrong_listed c.args.plan.now p frame_idx c.args.id first c.args.bits.now is c.in-Some.place c.in-Some.ensures.some
    (λ e. c.if-len.true (cc)) c.args.self.now c.count.new.self packets (ap (λ (b : Held). b.need) c.count.ensures.held)
    (ap (λ (b : Held). b.chunks) c.count.ensures.held) (ap (λ (b : Held). b.pool) c.count.ensures.held) h

pub returns-clause-counts : goal.returns-clause-counts
returns-clause-counts c = λ t p frame_idx first is h.
    right_counted c.args.plan.now p frame_idx c.args.id first c.args.bits.now is c.in-Some.place c.in-Some.ensures.some
    (cc) c.args.self.now c.keep.new.self t c.requires.open.counts c.requires.open.rights
    (kept_right c.args.self.now c.count.new.self c.count_right.new.self c.keep.new.self c.in-Some.place _ _
    c.count.ensures.held c.count_right.ensures.held c.keep.ensures.held (cc)) h

pub returns-clause-lists : goal.returns-clause-lists
returns-clause-lists c = λ packets p frame_idx first is h.
    let e = kept_right c.args.self.now c.count.new.self c.count_right.new.self c.keep.new.self c.in-Some.place _ _
    c.count.ensures.held c.count_right.ensures.held c.keep.ensures.held (cc) in
    let chunks = ap (λ (b : Held). b.chunks) c.count_right.ensures.held
    ∙ ap (λ (b : Held). b.chunks) c.count.ensures.held in
    right_listed c.args.plan.now p frame_idx c.args.id first c.args.bits.now is c.in-Some.place c.in-Some.ensures.some
    (cc) c.args.self.now c.keep.new.self packets c.requires.open.lists e (omega arith)
    (λ few. c.keep.ensures.kept (omega (arith, few, chunks))
    ∙ ap (λ (b : Held). appended b.pool c.in-Some.place (held_bytes c.args.bits.now)) c.count_right.ensures.held
    ∙ ap (λ (b : Held). appended b.pool c.in-Some.place (held_bytes c.args.bits.now)) c.count.ensures.held) h
