use Rattle.std.proofs.Common.{ap, sym, ◌∙◌, arith}
use Rattle.bit_slice.specs.Crc.{crc32_of}
use Rattle.l1_signal.proofs.crc.check_post.Goals as goal

pub returns-then-read-counted-clause-fault : goal.returns-then-read-counted-clause-fault
returns-then-read-counted-clause-fault c =
    let long = c.len-len.ensures.len in (
      omega (arith, long),
      rw (← long) c.field-read.ensures.value,
      rw (← long) (c.crc32-counted.ensures ∙ ap crc32_of c.sub.ensures.bits),
      c.if-read-counted.true,
    )

pub returns-clause-ok : goal.returns-clause-ok
returns-clause-ok c =
    let long = c.len-len.ensures.len in (
      omega (arith, long),
      rw (← long) (sym c.field-read.ensures.value ∙ c.if-read-counted.false ∙ c.crc32-counted.ensures
          ∙ ap crc32_of c.sub.ensures.bits),
    )
