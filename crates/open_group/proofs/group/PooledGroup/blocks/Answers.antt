use Rattle.std.proofs.Common.{◌∙◌, ap}
use Rattle.std.proofs.lemmas.Bool.{leb-true}
use Rattle.linked_pool.specs.Pool.{State, list_at}
use Rattle.open_group.proofs.group.PooledGroup.blocks.Goals as goal

pub returns-clause-blocks : goal.returns-clause-blocks
returns-clause-blocks c = λ past h whole held room plp inside.
    let g = c.args.self.now in
    let packets = held.packets whole in
    ap (λ (s : State). list_at s plp) c.pool.ensures.value ∙ packets.lists (leb-true g.blocks.need g.blocks.chunks room)
    plp inside
