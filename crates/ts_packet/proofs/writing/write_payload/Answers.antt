use Rattle.std.proofs.Common.{rules, ◌≡◌, ◌-◌, ◌+◌, ◌++◌, ℕ, List, length, ap, sym, subst, ◌∙◌, arith, length-append}
use Rattle.std.proofs.Common.{take_at}
use Rattle.ts_packet.specs.TransportPacket.{control_of, adaptation_bytes, Spells}
use Rattle.ts_packet.specs.Written.{area_of, stuffing, written_fields}
use Rattle.ts_packet.proofs.WritingLemmas.{length-area_of, control_filled, control_full, written, written_spells}
use mir.Val.{bool_byte}
use Rattle.ts_packet.proofs.writing.write_payload.Goals as goal
use Rattle.ts_packet.proofs.writing.write_payload.Goals.{then-area-lt-PAYLOAD, else-area-lt-PAYLOAD}

pub returns-clause-bytes : goal.returns-clause-bytes
returns-clause-bytes c =
    let payload = c.args.front.now ++ c.args.back.now in
    let area = area_of c.args.pointer payload in
    let header = c.copy_from_slice.new.self in
    let space : ℕ = 188 - (length c.args.front.now + length c.args.back.now + c.from.result) - 4 in
    let size : length c.args.front.now + length c.args.back.now + c.from.result ≡ length area =
    omega (
      arith,
      length-append c.args.front.now c.args.back.now,
      c.from.ensures,
      ap bool_byte c.is_some.ensures,
      length-area_of c.args.pointer payload,
    ) in
    let control : c.if-area-lt-PAYLOAD.control ≡ control_of (stuffing space) area =
    elim c.if-area-lt-PAYLOAD.branch [
      | then-area-lt-PAYLOAD w ↦ w.control-is
          ∙ sym (control_filled space area (omega (arith, w.if-area-lt-PAYLOAD.true))
          (omega (arith, c.requires.some, length-area_of c.args.pointer payload)))
      | else-area-lt-PAYLOAD w ↦ w.control-is
          ∙ sym (control_full space area (omega (arith, w.if-area-lt-PAYLOAD.false)))
    ] in
    let four : length header ≡ 4 = search rules in
    c.write_rest.ensures
    ∙ ap (λ (l : List ℕ). l ++ adaptation_bytes (stuffing space) ++ area) (take_at header _ 4 four)
    ∙ written c.args.pid c.args.counter c.if-area-lt-PAYLOAD.control space c.args.pointer payload header
    (c.copy_from_slice.ensures.after ∙ c.header_bytes.ensures) (omega (arith, size)) control

pub returns-clause-spells : goal.returns-clause-spells
returns-clause-spells c =
    let payload = c.args.front.now ++ c.args.back.now in
    subst (Spells (written_fields c.args.pid c.args.counter c.args.pointer payload)) (sym (returns-clause-bytes c))
    (written_spells c.args.pid c.args.counter c.args.pointer payload c.requires.pid c.requires.counter c.requires.some
    c.requires.room)
