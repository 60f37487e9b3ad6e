use Rattle.std.proofs.Common.{◌≡◌, ℕ, ◌≤◌, ◌++◌, ◌∙◌, length, refl, ap₂, sym, subst, arith}
use Rattle.std.specs.Prelude.{nat_le, sum_by}
use Rattle.std.proofs.lemmas.Bool.{and_parts}
use Rattle.linked_pool.specs.Pool.{used_chunks}
use Rattle.plp_config.specs.Capacity.{IsPlan}
use Rattle.plp_config.specs.Places.{places}
use Rattle.plp_config.specs.declared.config.Config.{Config}
use Rattle.plp_config.specs.declared.moment.Moment.{Moment}
use Rattle.record_laws.specs.Laws.{rest_size}
use Rattle.frame_groups.specs.Tally.{tally}
use Rattle.frame_groups.specs.Tests.{has_map}
use Rattle.open_group.specs.Front.{front_bytes}
use Rattle.open_group.specs.WriterLaws.{post_size}
use Rattle.open_group.specs.RecordBytes.{own_count}
use Rattle.open_group.specs.Steps.{step_bytes}
use Rattle.open_group.specs.Writes.{bytes_left, most_record}
use Rattle.open_group.specs.declared.step.Step.TheVariants.{Blocks}
use Rattle.open_group.specs.HoldsL1.{shape_told}
use Rattle.open_group.specs.Parts.{parts_of}
use Rattle.open_group.proofs.GivenLemmas.{given_frame}
use Rattle.open_group.proofs.RoomLemmas.{holds_all}
use Rattle.open_group.proofs.TellLemmas.{Tells, tells, first_dynamic, first_told}
use Rattle.open_group.proofs.group.PooledGroup.begin_frame.Goals as goal

pub returns-clause-left : goal.returns-clause-left
returns-clause-left c = λ past h leaves idx held none.
    let g = c.args.self.now in
    let n = c.args.number in
    let network = g.network in
    let packets = held.packets c.requires.intact in
    let t : Tells g.l1 =
    tells network g.l1
    (and_parts (nat_le g.blocks.need g.blocks.chunks) (has_map network (shape_told g.l1)) c.requires.frame).1 in
    let dynamic = (parts_of g.l1.parts).dynamic in
    let shape = g.l1.shape in
    let lists = g.blocks.pool.lists in
    let blocks = sum_by (own_count network n shape) (places network) in
    let rest = rest_size network (post_size network (length dynamic)) (own_count network n shape) in
    let is_plan : IsPlan network = subst IsPlan (c.plan.ensures) c.rules_law.ensures.plan in
    let left = subst
    (λ (k : Config). bytes_left c.begin_frame.new.writer k shape lists
    ≡ front_bytes k c.args.moment.now dynamic (sum_by (own_count k n shape) (places k))
    (rest_size k (post_size k (length dynamic)) (own_count k n shape)) ++ step_bytes k shape c.args.frame_idx
    lists (Blocks 0))
    c.plan-2.ensures (c.begin_frame.ensures.left lists) in
    left
    ∙ ap₂ (λ (m : Moment) (i : ℕ). front_bytes network m dynamic blocks rest ++ step_bytes network shape
    i lists (Blocks 0))
    leaves idx
    ∙ given_frame c.written_law.ensures.written c.written_law.ensures.blocks c.written_law.ensures.rest
    c.bit_counts_law.ensures
    network past n h.packets dynamic shape lists blocks rest
    is_plan none
    (first_dynamic network g.l1 h.packets (tally network h.packets).alike t packets.l1)
    (first_told network g.l1 h.packets (tally network h.packets).alike t packets.l1) (g.l1.rows ∙ g.rows) g.open.lists
    (holds_all network g.blocks h.packets past n (tally network h.packets) packets.blocks packets.lists g.chunks
    (sym (c.tally_law.ensures.tests network past n h.packets) ∙ none)) refl refl

pub returns-clause-most : goal.returns-clause-most
returns-clause-most c =
    let g = c.args.self.now in
    let lists = g.blocks.pool.lists in
    let most =
    subst (λ (k : Config). length (bytes_left c.begin_frame.new.writer k g.l1.shape lists)
    ≤ most_record k (used_chunks lists)) c.plan-2.ensures (c.begin_frame.ensures.most lists) in
    let fits = c.fits_chunks.ensures in
    let chunks = g.chunks in
    omega (arith, most, fits, chunks)
