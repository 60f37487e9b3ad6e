use Rattle.std.proofs.Common.{subst, ℕ, ◌∙◌, arith}
use Rattle.ts_packet.specs.TransportPacket.{IsBadAdaptation, length_at}
use Rattle.ts_packet.proofs.HeaderLemmas.{header_number}
use Rattle.ts_packet.proofs.SpellingLemmas.{is_read}
use Rattle.ts_packet.proofs.view.parse.Goals as goal

pub returns-in-Some-clause-ok : goal.returns-in-Some-clause-ok
returns-in-Some-clause-ok c =
    is_read c.args.bytes.now c.header_of-header.result c.in-Some.place c.field_at.result
    (omega arith) c.if-bytes-ne-SYNC.false c.header_of-header.ensures
    c.field_at.ensures.value c.in-Some.ensures.some.0 c.in-Some.ensures.some.1

pub returns-in-None-clause-err : goal.returns-in-None-clause-err
returns-in-None-clause-err c = (
  c.if-bytes-ne-SYNC.false,
  subst (λ (control : ℕ). IsBadAdaptation control (length_at c.args.bytes.now))
      (c.field_at.ensures.value ∙ header_number c.args.bytes.now c.header_of-header.result 26 2
      c.header_of-header.ensures
      (omega arith)) c.in-None.ensures.none,
)
