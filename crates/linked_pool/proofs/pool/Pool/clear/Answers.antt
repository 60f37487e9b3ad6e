use Rattle.std.proofs.Common.{rules, refl, ap, sym, arith}
use Rattle.linked_pool.specs.Pool.{State}
use Rattle.linked_pool.proofs.BlockLemmas.{whole_law, clear_law}
use Rattle.linked_pool.proofs.EndsLemmas.{ends_cleared}
use Rattle.linked_pool.proofs.PoolLemmas.{has_list, same_count}
use Rattle.linked_pool.proofs.pool.Pool.clear.Goals as goal

pub size-size-requires : goal.size-size-requires
size-size-requires c =
    let h = has_list c.self.inside c.args.self.now c.args.list c.self.view_is c.self.invariant c.requires in
    omega (arith, h, c.self.invariant.0.lists)

pub move_front-requires-clause-from : goal.move_front-requires-clause-from
move_front-requires-clause-from c =
    let h = has_list c.self.inside c.args.self.now c.args.list c.self.view_is c.self.invariant c.requires in
    omega (arith, h, c.self.invariant.0.lists)

pub index_mut-requires : goal.index_mut-requires
index_mut-requires c =
    let h = has_list c.self.inside c.args.self.now c.args.list c.self.view_is c.self.invariant c.requires in
    search rules

pub invariant_of-self : goal.invariant_of-self
invariant_of-self c =
    let p = clear_law c.args.self.now c.self.inside.chains c.self.inside.chunks.items c.move_front.new.self
    c.self.inside.lens.items c.self.inside.counts.items c.args.list c.size-size.result
    (sym c.self.view_is) c.self.invariant.0 c.requires c.size-size.ensures c.move_front.ensures in
    let inside = has_list c.self.inside c.args.self.now c.args.list c.self.view_is c.self.invariant c.requires in (
      p.0,
      ends_cleared c.self.inside.chains c.self.inside.chunks.items c.move_front.new.self c.self.inside.lens.items
          c.self.inside.lasts.items c.self.inside.counts.items c.args.list c.size-size.result c.self.invariant.0
          c.self.invariant.1
          inside c.move_front.ensures,
    )

pub returns : goal.returns
returns c =
    let p = clear_law c.args.self.now c.self.inside.chains c.self.inside.chunks.items c.move_front.new.self
    c.self.inside.lens.items c.self.inside.counts.items c.args.list c.size-size.result
    (sym c.self.view_is) c.self.invariant.0 c.requires c.size-size.ensures c.move_front.ensures in
    record {
      cleared = p.1;
      count = same_count c.args.self.now.lists _ c.args.list _ (ap (λ (s : State). s.lists) p.1);
      whole = whole_law _ _ _ _ _ refl p.0;
    }
