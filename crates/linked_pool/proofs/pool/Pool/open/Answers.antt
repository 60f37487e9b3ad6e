use Rattle.std.proofs.Common.{arith, refl}
use Rattle.linked_pool.proofs.BlockLemmas.{whole_law}
use Rattle.linked_pool.proofs.OpenLemmas.{blank_pool}
use Rattle.linked_pool.proofs.EndsLemmas.{ends_blank}
use Rattle.linked_pool.proofs.pool.Pool.open.Goals as goal

pub invariant_of-result : goal.invariant_of-result
invariant_of-result c = (
  (blank_pool c.args.chunks c.args.lists c.in_ok-chains.chains c.in_ok-bytes.bytes.items c.in_ok-lens.lens.items
      c.in_ok-counts.counts.items (omega arith) c.in_ok-chains.ensures c.in_ok-bytes.ensures c.in_ok-lens.ensures
      c.in_ok-counts.ensures).0,
  ends_blank c.in_ok-chains.chains c.in_ok-lens.lens.items c.in_ok-lasts.lasts.items c.in_ok-counts.counts.items
      c.args.chunks
      c.args.lists c.in_ok-lens.ensures c.in_ok-lasts.ensures c.in_ok-counts.ensures,
)

pub returns-clause-opened : goal.returns-clause-opened
returns-clause-opened c =
    let all = blank_pool c.args.chunks c.args.lists c.in_ok-chains.chains c.in_ok-bytes.bytes.items
    c.in_ok-lens.lens.items
    c.in_ok-counts.counts.items (omega arith) c.in_ok-chains.ensures c.in_ok-bytes.ensures c.in_ok-lens.ensures
    c.in_ok-counts.ensures in
    rw (all.1, all.2, all.3) refl

pub returns-clause-whole : goal.returns-clause-whole
returns-clause-whole c =
    let all = blank_pool c.args.chunks c.args.lists c.in_ok-chains.chains c.in_ok-bytes.bytes.items
    c.in_ok-lens.lens.items
    c.in_ok-counts.counts.items (omega arith) c.in_ok-chains.ensures c.in_ok-bytes.ensures c.in_ok-lens.ensures
    c.in_ok-counts.ensures in
    whole_law _ _ _ _ _ refl all.0
