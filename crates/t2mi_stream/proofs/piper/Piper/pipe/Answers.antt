use Rattle.std.proofs.Common.{rules, ◌≡◌, ◌+◌, ◌-◌, ◌<◌, ◌++◌, ◌∙◌, ◌==◌, ◌&&◌, ◌||◌, ℕ, Bool, true, false, List}
use Rattle.std.proofs.Common.{length, take, ap, sym, subst, arith, refl, length-take-le}
use Rattle.std.specs.Prelude.{slice_get}
use Rattle.t2mi_stream.specs.Complete.{complete_of}
use Rattle.t2mi_stream.specs.Pipe.{units_of, carried_len}
use Rattle.t2mi_stream.specs.Pipes.{first_with}
use Rattle.t2mi_stream.specs.Events.{PiperTally, tally, tally_with}
use Rattle.t2mi_stream.specs.Events.PiperEvent.{Piped, Given}
use Rattle.t2mi_stream.specs.PiperStandsFor.{PiperStands, PiperStandsFor}
use Rattle.t2mi_stream.proofs.PiperLemmas.{carried_all, joined_size}
use Rattle.t2mi_stream.proofs.CompleteLemmas.{gives_complete}
use Rattle.t2mi_stream.proofs.TallyLemmas.{pipes_some, tally_push, tally_two}
use Rattle.t2mi_stream.proofs.piper.Piper.pipe.Goals as goal

abbrev piece_of : goal.After-cut → List ℕ
piece_of c = take (184 - c.args.self.now.count) c.args.piece.now

abbrev had_of : goal.After-cut → List ℕ
had_of c = take c.args.self.now.count c.args.self.now.waiting

-- 184 bytes wait
full : (c : goal.After-cut) → length (had_of c ++ piece_of c) ≡ 184
full c =
    let p = c.args.self.now in
    let whole : length p.waiting ≡ 184 = search rules in
    omega (
      arith,
      joined_size p.waiting (piece_of c) p.count whole p.inside,
      length-take-le (184 - p.count) c.args.piece.now
          (omega (arith, c.requires.full)),
      c.requires.few,
    )

-- the bytes that wait and the piece, before a unit is given
piped : (c : goal.After-cut) (pid : ℕ) (t : PiperTally)
    → PiperStands c.args.self.now.pid pid c.args.self.now.begun c.args.self.now.finished
    (had_of c) c.args.self.now.first c.args.self.now.tail c.args.self.now.counter t
    → PiperStands c.args.self.now.pid pid false c.args.self.now.finished (had_of c ++ piece_of c)
    c.first_with-first.result
    c.tail_with-tail.result c.args.self.now.counter (tally_with t (Piped (piece_of c)))
piped c pid t h =
    let p = c.args.self.now in
    let whole : length p.waiting ≡ 184 = search rules in
    let count : length (had_of c) ≡ p.count = length-take-le p.count p.waiting (omega (arith, whole, p.inside)) in
    let size : length (piece_of c) ≡ 184 - p.count =
    length-take-le (184 - p.count) c.args.piece.now (omega (arith, c.requires.full)) in
    let first : first_with p.first (length (had_of c)) p.begun ≡ c.first_with-first.result =
    ap (λ (k : ℕ). first_with p.first k p.begun) count ∙ sym c.first_with-first.ensures in
    let tail : (p.tail || (p.begun && (length (had_of c) == 183))) ≡ c.tail_with-tail.result =
    ap (λ (k : ℕ). p.tail || (p.begun && (k == 183))) count ∙ sym c.tail_with-tail.ensures in
    pipes_some p.pid pid p.begun p.finished (had_of c) p.first p.tail p.counter t h (piece_of c)
    (had_of c ++ piece_of c) c.first_with-first.result c.tail_with-tail.result c.requires.«open»
    (omega (arith, size, c.requires.few)) (omega (arith, size, count, c.requires.few)) refl first tail

pub returns-clause-unit : goal.returns-clause-unit
unfolding PiperStandsFor
returns-clause-unit c = λ pid events h rest.
    let u = c.cut.ensures.unit pid false (tally_with (tally events) (Piped (piece_of c))) (piped c pid (tally events) h)
    rest
    (λ e. absurd (let z : true ≡ false = sym e ∙ c.requires.«open» in cc)) in
    ap (λ (t : PiperTally). slice_get (units_of pid (t.fed ++ rest)) (tally events).given)
    (tally_push events (Piped (piece_of c))) ∙ u

pub returns-clause-stands : goal.returns-clause-stands
unfolding PiperStandsFor
returns-clause-stands c = λ pid events h.
    let n = c.cut.new.self in
    subst (PiperStands n.pid pid n.begun n.finished (take n.count n.waiting) n.first n.tail n.counter)
    (sym (tally_two events (Piped (piece_of c)) Given))
    (subst (λ (b : Bool). PiperStands n.pid pid b n.finished (take n.count n.waiting) n.first n.tail n.counter
    (tally_with (tally_with (tally events) (Piped (piece_of c))) Given)) (sym c.cut.ensures.begun)
    (c.cut.ensures.given pid false (tally_with (tally events) (Piped (piece_of c))) (piped c pid (tally events) h)))

pub returns-clause-complete : goal.returns-clause-complete
unfolding PiperStandsFor
returns-clause-complete c = λ pid events h.
    let p = c.args.self.now in
    let t = tally_with (tally events) (Piped (piece_of c)) in
    let waits : carried_len t.given t.fed + 184 ≡ length t.fed =
    ap (λ (n : ℕ). carried_len t.given t.fed + n) (sym (full c))
    ∙ carried_all pid (had_of c ++ piece_of c) _ _ p.counter p.finished t.fed t.given
    (piped c pid (tally events) h).pipes in
    let more = (gives_complete pid t.fed t.given 184 true p.finished c.requires.«open» (omega arith) refl waits).0
    refl in
    subst (λ (s : PiperTally). (tally events).given < length (complete_of pid s.fed))
    (sym (tally_push events (Piped (piece_of c)))) more
