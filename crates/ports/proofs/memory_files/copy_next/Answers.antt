use Rattle.std.proofs.Common.{◌≤◌, ◌-◌, length, arith}
use Rattle.std.proofs.lemmas.List.{length-take, length-drop}
use Rattle.ports.proofs.HandleLemmas.{copied}
use Rattle.ports.proofs.memory_files.copy_next.Goals as goal

pub returns-clause-next : goal.returns-clause-next
returns-clause-next c =
    let inside : c.min-count.result ≤ length c.args.bytes.now - c.args.place =
    omega (arith, c.min-count.ensures, simp (length-take, length-drop) at c.min.ensures) in
    copied c.args.bytes.now _ _ c.args.place c.min-count.result inside c.copy_from_slice.ensures.after
