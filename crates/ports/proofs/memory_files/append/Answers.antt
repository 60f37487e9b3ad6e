use Rattle.std.proofs.Common.{sym, refl, ◌∙◌}
use Rattle.ports.proofs.WriteLemmas.{kept_files, not_extended}
use Rattle.ports.proofs.memory_files.append.Goals as goal

pub returns-in-Some-clause-not : goal.returns-in-Some-clause-not
returns-in-Some-clause-not c = λ lost.
    kept_files c.args.files.now (c.get_mut.follows.lender c.extend_from_slice.new.self) c.args.name.now
    c.in-Some.bytes.now
    c.extend_from_slice.new.self c.in-Some.ensures.value
    (not_extended _ _ _ _ c.extend_from_slice.ensures.items (sym c.is_ok.ensures.value ∙ lost))
    ((c.get_mut.follows.holds c.extend_from_slice.new.self).3 (rw (← c.in-Some.ensures.value) refl))
