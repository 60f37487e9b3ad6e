use Rattle.std.proofs.Common.{◌≡◌, ◌+◌, ◌++◌, ◌&&◌, ℕ, true, Option, Some, ap, sym, subst, ◌∙◌}
use Rattle.std.specs.Option.{unwrap_or}
use Rattle.plp_config.specs.declared.config.Config.{Config}
use Rattle.std.proofs.lemmas.Bool.{and_parts}
use Rattle.open_group.specs.FrameBytes.{has_room}
use Rattle.open_group.specs.Holds.{Holds}
use Rattle.open_group.specs.Shown.{AreBlocks}
use Rattle.open_group.specs.Signals.{fits_pool}
use Rattle.open_group.specs.declared.group.PooledGroup.{PooledGroup}
use Rattle.frame_weave.specs.Holds.{AreMarks}
use Rattle.frame_weave.specs.Marked.{marked_blocks}
use Rattle.frame_weave.specs.Placed.{placed_from}
use Rattle.frame_weave.specs.Slots.{HoldsPlaced, Fills}
use Rattle.frame_weave.specs.Weaves.{state_of}
use Rattle.frame_weave.specs.Woven.{signalling}
use Rattle.frame_weave.proofs.WeaveLemmas.{not_placed, placed_more}
use Rattle.frame_weave.proofs.weaver.Weaver.place.Goals as goal

pub returns-then-not-can_place-clause-weaves : goal.returns-then-not-can_place-clause-weaves
returns-then-not-can_place-clause-weaves c = λ past h n looked placed held w.
    let old = c.args.self.now in
    let network = old.plan.now in
    let is = c.group.ensures in
    let told = c.can_place.ensures past h (subst (λ (g : PooledGroup). Holds g past (Some h)) (sym is) held.group)
    ∙ ap (λ (k : Config). old.is_taken && old.layout.is_room && fits_pool k h.packets)
    (ap (λ (g : PooledGroup). g.network) is ∙ c.requires.network) in
    record {
      number = w.number;
      first = w.first;
      blocks = subst (HoldsPlaced old.slots)
          (not_placed network n (state_of old) (signalling network n looked) placed h w.first
          (sym c.if-not-can_place.true ∙ told))
          w.blocks;
    }

pub returns-clause-weaves : goal.returns-clause-weaves
returns-clause-weaves c = λ past h n looked placed held w.
    let old = c.args.self.now in
    let network = old.plan.now in
    let is = c.group.ensures in
    let told = c.can_place.ensures past h (subst (λ (g : PooledGroup). Holds g past (Some h)) (sym is) held.group)
    ∙ ap (λ (k : Config). old.is_taken && old.layout.is_room && fits_pool k h.packets)
    (ap (λ (g : PooledGroup). g.network) is ∙ c.requires.network) in
    let can = sym told ∙ c.if-not-can_place.false in
    let group = c.args.group.now.group in
    let fits : fits_pool group.network h.packets ≡ true = ap (λ (k : Config). fits_pool k h.packets) c.requires.network
    ∙ (and_parts (old.is_taken && old.layout.is_room) (fits_pool network h.packets) can).1 in
    let room : has_room group ≡ true = ap has_room (sym c.group-2.ensures) ∙ sym c.fits-fits.ensures.held
    ∙ c.fits-fits.ensures.value past h (subst (λ (g : PooledGroup). Holds g past (Some h)) (sym c.group-2.ensures)
    held.group)
    ∙ ap (λ (g : PooledGroup). fits_pool g.network h.packets) c.group-2.ensures ∙ fits in
    let blocks = subst (λ (k : Config). AreBlocks k h.packets c.blocks-2.result.now.lists)
    (ap (λ (g : PooledGroup). g.network) c.group-3.ensures ∙ c.requires.network)
    (c.blocks-2.ensures.blocks past h (ap (λ (g : PooledGroup). g.intact) c.group-3.ensures ∙ c.requires.intact)
    (subst (λ (g : PooledGroup). Holds g past (Some h)) (sym c.group-3.ensures) held.group)
    (ap has_room c.group-3.ensures ∙ room)) in
    let marks = subst (λ (k : Config). AreMarks k h.packets c.marks.result.now (marked_blocks k h.packets))
    c.requires.network
    (c.marks.ensures past h held fits) in
    let origin = ap (λ (k : ℕ). k + 1)
    (c.from.ensures ∙ c.unwrap_or-origin.ensures ∙ ap (λ (o : Option ℕ). unwrap_or o old.origin)
    (c.origin.ensures past h held)) in
    let more = placed_more network n (state_of old) c.place_blocks.new.slots (signalling network n looked)
    placed h w.first
    can w.blocks
    (λ counts before laid room fills.
    subst (λ (k : ℕ). Fills network counts c.place_blocks.new.slots
    (before ++ placed_from counts k 0 (marked_blocks network h.packets))) origin
    (c.place_blocks.ensures.placed network counts h.packets (marked_blocks network h.packets) before
    laid room marks blocks fills)) in
    record { number = w.number; first = more.0; blocks = more.1 }
