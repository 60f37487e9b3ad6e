use Rattle.std.proofs.Common.{◌≡◌, ◌++◌, true, length, ap, ◌∙◌, arith, length-append, rules}
use Rattle.l1_signal.specs.Laws.{crc_behind}
use Rattle.open_group.proofs.FittingLemmas.{fresh_room, length-crc_behind}
use Rattle.open_group.proofs.signalling.post_with.Goals as goal

pub put_fitting-requires : goal.put_fitting-requires
put_fitting-requires c = fresh_room 35152 c.new.result c.new-sink.result (length c.args.conf) c.new.ensures
    c.new-sink.ensures
    (let r = c.requires in omega (arith, r))

pub returns-clause-len : goal.returns-clause-len
returns-clause-len c =
    let v : c.with_crc.result ≡ crc_behind true (c.args.conf ++ c.args.dynamic) = search rules in
    let e = ap length v ∙ length-crc_behind (c.args.conf ++ c.args.dynamic) in
    omega (arith, e, length-append c.args.conf c.args.dynamic)
