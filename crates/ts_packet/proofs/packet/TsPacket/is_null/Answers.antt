use Rattle.std.proofs.Common.{◌==◌, ℕ, ap, ◌∙◌, arith}
use Rattle.ts_packet.specs.Null.{is_null}
use Rattle.ts_packet.proofs.HeaderLemmas.{header_number}
use Rattle.ts_packet.proofs.packet.TsPacket.is_null.Goals as goal

pub returns : goal.returns
unfolding is_null
returns c =
    rw (← c.self.view_is)
    (ap (λ (n : ℕ). n == 0x1FFF)
    (c.field_at.ensures.value ∙ header_number c.self.inside.bytes c.header_of.result 11 13 c.header_of.ensures
    (omega arith)))
