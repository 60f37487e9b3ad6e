use Rattle.std.proofs.Common.{ℕ, ◌+◌, ◌<◌, [], length, max, ap, subst, ◌∙◌, arith}
use Rattle.std.specs.Prelude.{slice_index_or}
use Rattle.frame_weave.proofs.PlaceLemmas.{placed_there}
use Rattle.frame_weave.specs.Placed.{next_place}
use Rattle.frame_weave.specs.Slots.{Puts}
use Rattle.frame_weave.proofs.placing.place_block.Goals as goal

pub returns-clause-stands : goal.returns-clause-stands
returns-clause-stands c = λ c' counts packets b placed laid room m blocks fills.
    let starts = c.args.layout.now.starts.items in
    let lists = c.args.walk.now.lists in
    let mark = c.args.mark in
    let place = c.next_place-place.result in
    let end = c.from-2.ensures ∙ c.start-2.ensures ∙ ap (λ (k : ℕ). slice_index_or starts (k + 1) 0)
    c.from-plp.ensures in
    placed_there c' counts packets c.args.layout.now mark b lists placed c.args.slots.now c.put_from.new.slots
    c.args.origin
    c.args.first place laid room m blocks fills
    (c.next_place-place.ensures.value
    ∙ ap (next_place c.args.origin mark.count)
    (c.max-least.ensures
    ∙ ap (max c.args.first) (c.from.ensures ∙ c.start.ensures ∙ ap (λ (k : ℕ). slice_index_or starts k 0)
    c.from-plp.ensures)))
    (omega (arith, end, c.if-place-from.false))
    (subst (λ (k : ℕ). mark.place < length (slice_index_or lists k [])
    → Puts c.args.slots.now c.put_from.new.slots place (slice_index_or (slice_index_or lists k []) mark.place []))
    c.from-3.ensures
    c.put_from.ensures.puts)
