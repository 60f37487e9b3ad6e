use Rattle.std.proofs.Common.{rules, refl, take, arith}
use Rattle.std.proofs.lemmas.List.{length-take-le}
use Rattle.show_run.proofs.PacketFrontLemmas.{lacks_some, still_short}
use Rattle.show_run.proofs.PacketLinesLemmas.{took_some, took_whole, idle, is_short}
use Rattle.show_run.proofs.packet_lines.PacketLinesMachine.feed.Goals as goal

pub returns-then-lacking-eq0-clause-some : goal.returns-then-lacking-eq0-clause-some
returns-then-lacking-eq0-clause-some c =
    let i = idle c.args.self.now _ _ c.requires.wanted in
    let some = lacks_some _ _ (rw c.deref.ensures.value at c.lacking.ensures.is)
    (is_short c.args.self.now _ _ c.requires.room i.1) in
    let least = c.min-count.ensures in
    let many = i.3 in
    (omega (arith, some, least, many), omega (arith, least))

pub returns-then-lacking-eq0-clause-becomes : goal.returns-then-lacking-eq0-clause-becomes
returns-then-lacking-eq0-clause-becomes c = λ start events came.
    let i = idle c.args.self.now _ _ c.requires.wanted in
    let least = c.min-count.ensures in
    let size = length-take-le c.min-count.result c.args.bytes.now (omega (arith, least)) in
    took_whole c.events_law.ensures c.spell_law.ensures.is start c.args.self.now _ c.see.new.self events c.args._input
    c.lacking.result c.lacking-2.result
    (take c.min-count.result c.args.bytes.now) c.see.ensures.sees i.2 i.0 i.1 refl refl refl (omega (arith, size))
    (search rules)
    (rw c.deref.ensures.value at c.lacking.ensures.is) (omega (arith, size, least))
    (rw c.deref-2.ensures.value at c.lacking-2.ensures.is) c.if-lacking-eq0.true c.see.ensures.at came

pub returns-else-lacking-eq0-clause-becomes : goal.returns-else-lacking-eq0-clause-becomes
returns-else-lacking-eq0-clause-becomes c = λ start events came.
    let i = idle c.args.self.now _ _ c.requires.wanted in
    let least = c.min-count.ensures in
    let size = length-take-le c.min-count.result c.args.bytes.now (omega (arith, least)) in
    took_some c.events_law.ensures start c.args.self.now _ events c.args._input
    (take c.min-count.result c.args.bytes.now) i.2 i.0
    i.1 refl refl refl (omega (arith, size)) (search rules)
    (still_short _ _ (rw c.deref-2.ensures.value at c.lacking-2.ensures.is) c.if-lacking-eq0.false) came
