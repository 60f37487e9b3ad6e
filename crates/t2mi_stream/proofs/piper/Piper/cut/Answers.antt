use Rattle.std.proofs.Common.{rules, ◌≡◌, ◌+◌, ◌-◌, ◌%◌, ◌≤◌, ◌++◌, ◌∙◌, ℕ, List, Some, length, take, drop, set, ap}
use Rattle.std.proofs.Common.{sym, arith, refl}
use Rattle.ts_packet.specs.Written.{written_bytes}
use Rattle.t2mi_stream.specs.Pipe.{Part, part_of}
use Rattle.t2mi_stream.proofs.PiperLemmas.{next_some, stands_next, left_is, kept_bytes, joined_size, may_give}
use Rattle.t2mi_stream.proofs.PiperLemmas.{front_taken, same_stands}
use Rattle.t2mi_stream.proofs.piper.Piper.cut.Goals as goal

pub returns-clause-unit : goal.returns-clause-unit
returns-clause-unit c = λ pid begun t h rest r.
    let p = c.args.self.now in
    let piece = c.args.piece.now in
    let had : List ℕ = take p.count p.waiting ++ piece in
    let full : length p.waiting ≡ 184 = search rules in
    let size = joined_size p.waiting piece p.count full p.inside in
    let may = may_give (length had) (p.count + length piece) p.finished size c.requires.some c.requires.full in
    let part : Part = record { pointer = c.part_of-part.result.pointer; size = c.part_of-part.result.size } in
    let same : part_of (length had) c.args.first ≡ part = ap (λ (n : ℕ). part_of n c.args.first) size
    ∙ c.part_of-part.ensures.part in
    next_some pid had c.args.first c.args.tail p.counter p.finished t.fed t.given h.pipes may rest r
    ∙ ap (λ (u : List ℕ). Some u) (
    ap (λ (q : Part). written_bytes pid p.counter q.pointer (take q.size had)) same
    ∙ ap (written_bytes pid p.counter part.pointer)
    (front_taken part.size p.count c.min-front.result p.waiting piece (omega (arith, full, p.inside))
    c.min-front.ensures)
    ∙ ap (λ (n : ℕ). written_bytes n p.counter part.pointer
    (take c.min-front.result p.waiting ++ take (part.size - c.min-front.result) piece)) (sym h.pid_is)
    ∙ sym c.write_payload.ensures.bytes)

pub returns-clause-given : goal.returns-clause-given
returns-clause-given c = λ pid begun t h.
    let p = c.args.self.now in
    let piece = c.args.piece.now in
    let had : List ℕ = take p.count p.waiting ++ piece in
    let full : length p.waiting ≡ 184 = search rules in
    let size = joined_size p.waiting piece p.count full p.inside in
    let may = may_give (length had) (p.count + length piece) p.finished size c.requires.some c.requires.full in
    let inside : length had ≤ 184 = omega (arith, size, c.requires.room) in
    let part : Part = part_of (length had) c.args.first in
    let taken : part.size ≡ c.part_of-part.result.size =
    ap (λ (q : Part). q.size) (ap (λ (n : ℕ). part_of n c.args.first) size ∙ c.part_of-part.ensures.part) in
    let kept : ℕ = p.count + length piece - c.part_of-part.result.size in
    let left = left_is pid had c.args.first c.args.tail p.counter p.finished t.fed t.given h.pipes
    (omega (arith, size, c.requires.some)) inside in
    let new : take kept (set p.waiting 0 c.last_of.result) ≡ drop part.size had =
    kept_bytes p.waiting had c.last_of.result (length had) kept part full refl (omega (arith, size, taken)) left
    (λ e. c.last_of.ensures p.count (sym size ∙ e)) in
    record {
      pid_is = h.pid_is;
      begun_is = h.begun_is;
      finished_is = h.finished_is;
      pipes = same_stands pid _ _ _ _ _ _ ((p.counter + 1) % 16) p.finished t.fed (t.given + 1) refl
          (sym c.kept_first-self.ensures) refl
          (stands_next pid had c.args.first c.args.tail p.counter p.finished t.fed t.given h.pipes may inside kept
          (omega (arith, size, taken)) (take kept (set p.waiting 0 c.last_of.result)) new);
    }
