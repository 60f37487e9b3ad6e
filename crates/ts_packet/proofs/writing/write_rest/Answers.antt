use Rattle.std.proofs.Common.{◌≡◌, ◌-◌, ℕ, length, take, drop, refl, ap, ◌∙◌, arith, length-append, length-take}
use Rattle.std.proofs.Common.{length-drop}
use borrow.Rule.Slice.PartMut.{put_mid}
use Rattle.ts_packet.specs.TransportPacket.{adaptation_bytes}
use Rattle.ts_packet.specs.Written.{stuffing}
use Rattle.ts_packet.proofs.WritingLemmas.{three_parts, length-stuffing}
use Rattle.ts_packet.proofs.writing.write_rest.Goals as goal

pub returns : goal.returns
returns c =
    let space = c.fill_space.new.space in
    let old = c.args.bytes.now in
    let room : length (take (c.args.at - 4) (drop 4 old)) ≡ c.args.at - 4 =
    simp (length-take, length-drop) (omega (arith, c.requires.whole)) in
    let filled : space ≡ adaptation_bytes (stuffing (c.args.at - 4)) = c.fill_space.ensures
    ∙ ap (λ (n : ℕ). adaptation_bytes (stuffing n)) room in
    let fills : length space ≡ c.args.at - 4 = ap length filled ∙ length-stuffing (c.args.at - 4) in
    let whole : length (put_mid 4 (c.args.at - 4) old space) ≡ length old =
    simp (length-append, length-take, length-drop) (omega (arith, fills, c.requires.whole)) in
    three_parts c.args.at _ space c.write_area.new.area old (omega (arith, c.requires.whole)) fills c.requires.header
    (omega (arith, whole))
    ∙ rw (filled, c.write_area.ensures) refl
