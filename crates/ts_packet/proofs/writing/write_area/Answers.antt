use Rattle.std.proofs.Common.{◌++◌, ap, sym, ◌∙◌, length}
use Rattle.ts_packet.specs.Written.{area_of}
use Rattle.ts_packet.proofs.WritingLemmas.{pointer_first}
use Rattle.ts_packet.proofs.writing.write_area.Goals as goal

pub returns-in-Some : goal.returns-in-Some
returns-in-Some c =
    let payload = c.args.front.now ++ c.args.back.now in
    let is = ap (λ p. area_of p payload) c.in-Some.is in
    pointer_first c.args.area.now c.write_both-in-Some.new.bytes payload c.in-Some.pointer
    (c.requires ∙ ap length is) c.write_both-in-Some.ensures ∙ sym is
