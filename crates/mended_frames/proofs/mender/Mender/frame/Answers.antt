use Rattle.std.specs.Option.{option_map_or}
use Rattle.std.proofs.Common.{◌≡◌, ◌∙◌, ℕ, true, List, Option, Some, length, ap, sym, subst}
use Rattle.std.proofs.lemmas.Option.{same_Some}
use Rattle.std.proofs.lemmas.Bool.{and_parts}
use Rattle.plp_config.specs.declared.config.Config.{Config}
use Rattle.frame_groups.specs.Tests.{has_map}
use Rattle.open_group.specs.FrameBytes.{has_room, shape_of, dynamic_of, lists_of}
use Rattle.open_group.specs.Holds.{Holds}
use Rattle.open_group.specs.Shown.{AreBlocks}
use Rattle.open_group.specs.declared.group.PooledGroup.{PooledGroup}
use Rattle.mended_frames.specs.StandsFor.{held_content, nothing}
use Rattle.mended_frames.specs.declared.mender.Mender.{Mender}
use Rattle.mended_frames.proofs.FrameLemmas.{content_is, content_as}
use Rattle.mended_frames.proofs.mender.Mender.frame.Goals as goal

pub returns-clause-content : goal.returns-clause-content
returns-clause-content c = λ lent own g is holds.
    let held : PooledGroup = c.lent-group.result.now in
    let plan : Config = c.args.self.now.plan.now in
    let same : lent ≡ held = same_Some lent held (sym is ∙ c.lent-group.ensures.is) in
    let h = subst (λ (x : PooledGroup). Holds x own (Some g)) same holds in
    let network = c.lent-group.ensures.network in
    let room : has_room held ≡ true = (and_parts (has_room held) (has_map held.network (shape_of held))
    c.lent-group.ensures.frame).0 in
    let lists : List (List (List ℕ)) = c.blocks-2.result.now.lists in
    content_is plan g.packets c.as_slice.result c.as_slice-2.result c.dynamic.result lists
    (c.as_slice.ensures ∙ c.args.self.now.pre) (c.as_slice-2.ensures ∙ c.args.self.now.conf)
    (c.dynamic.ensures.value own g c.lent-group.ensures.intact h)
    (c.blocks-2.ensures.plps ∙ ap (λ (k : Config). length k.plps) network)
    (subst (λ (k : Config). AreBlocks k g.packets lists) network (c.blocks-2.ensures.blocks own g
    c.lent-group.ensures.intact h room))

pub returns-clause-held : goal.returns-clause-held
returns-clause-held c =
    let held : PooledGroup = c.lent-group.result.now in
    let self : Mender = c.args.self.now in
    content_as c.as_slice.result c.as_slice-2.result c.dynamic.result self.signalling.pre self.signalling.conf
    (dynamic_of held)
    c.blocks-2.result.now.lists (lists_of held) c.as_slice.ensures c.as_slice-2.ensures c.dynamic.ensures.held
    c.blocks-2.ensures.held
    ∙ sym (ap (λ (o : Option PooledGroup). option_map_or (held_content self) o nothing) c.lent-group.ensures.is)
