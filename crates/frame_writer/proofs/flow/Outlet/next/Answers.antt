use Rattle.std.proofs.Common.{rules, ◌≡◌, ◌+◌, ◌-◌, ◌<◌, ◌++◌, ◌∷◌, ◌∙◌, [], ℕ, List, true, false, length, drop, take}
use Rattle.std.proofs.Common.{ap, sym, subst}
use Rattle.std.specs.Prelude.{slice_get, Some}
use Rattle.std.proofs.lemmas.List.{drop-drop}
use Rattle.terms.specs.Bits.{bytes_of}
use Rattle.plp_config.specs.declared.config.Config.{Config}
use Rattle.t2mi_packet.specs.declared.packet.Body.{Body}
use Rattle.t2mi_stream.specs.Complete.{complete_of}
use Rattle.t2mi_stream.specs.Events.{PiperEvent, Piped, Given, tally}
use Rattle.t2mi_stream.specs.Pipe.{JoinedByte, units_of}
use Rattle.t2mi_stream.specs.PiperStandsFor.{PiperStandsFor, is_finished}
use Rattle.frame_writer.specs.Carried.{Standing, AfterPiece, Carries}
use Rattle.frame_writer.specs.Flowing.{Flows, rest_of}
use Rattle.frame_writer.proofs.CarriedLemmas.{carries_unit, carries_none, carries_given, carries_complete}
use Rattle.frame_writer.proofs.CarriedLemmas.{carries_caught_up, carries_feed, piece_after, unit_after, known_after}
use Rattle.frame_writer.proofs.FlowLemmas.{going_when, rest_from}
use Rattle.frame_writer.proofs.flow.Outlet.next.Goals as goal

pub returns-then-not-has_unit-clause-unit : goal.returns-then-not-has_unit-clause-unit
returns-then-not-has_unit-clause-unit c = λ on config n left all given h more gone.
    carries_unit (PiperStandsFor c.args.self.now.piper) _ c.next.new.out _ _ config n left all given
    (c.next.ensures.unit on) h more gone

pub returns-then-not-has_unit-clause-flows : goal.returns-then-not-has_unit-clause-flows
returns-then-not-has_unit-clause-flows c = λ on config n left all given h.
    carries_given (PiperStandsFor c.args.self.now.piper) (PiperStandsFor c.next.new.self) _ _ _ _ config
    n left all given
    c.next.ensures.finished (λ off pid events stands. (c.next.ensures.complete off pid events stands).0 on)
    (c.next.ensures.given on) h

pub returns-then-not-has_unit-clause-none : goal.returns-then-not-has_unit-clause-none
returns-then-not-has_unit-clause-none c = λ off end config n left all given h gone.
    carries_none (PiperStandsFor c.args.self.now.piper) _ _ _ config n left all given (c.next.ensures.none off end)
    h gone

pub returns-then-not-has_unit-clause-complete : goal.returns-then-not-has_unit-clause-complete
returns-then-not-has_unit-clause-complete c = λ on off config n left all given h.
    carries_complete (PiperStandsFor c.args.self.now.piper) _ _ _ config n left all given
    (λ pid events stands. (c.next.ensures.complete off pid events stands).0 on) h

pub returns-then-not-has_unit-clause-caught_up : goal.returns-then-not-has_unit-clause-caught_up
returns-then-not-has_unit-clause-caught_up c = λ none off config n left all given h gone.
    carries_caught_up (PiperStandsFor c.args.self.now.piper) _ _ _ config n left all given off
    (λ pid events stands lt. let z : true ≡ false = sym ((c.next.ensures.complete off pid events stands).1 lt) ∙ none in
    cc) h gone

-- the bytes of the packet that the piper did not take, and those that it takes
abbrev rest : goal.After-self-2-1 → List ℕ
rest c = rest_of c.args.self.now

abbrev piece : goal.After-self-2-1 → List ℕ
piece c = take c.pipe.result (rest c)

rest_is : (c : goal.After-self-2-1) → take (length c.as_bytes.result.now - c.args.self.now.at)
    (drop c.args.self.now.at c.as_bytes.result.now) ≡ rest c
rest_is c = rest_from c.as_bytes.result.now c.args.self.now.at ∙ ap (drop c.args.self.now.at) c.as_bytes.ensures

abbrev old : goal.After-self-2-1 → Standing
old c = PiperStandsFor c.args.self.now.piper

-- the piece is taken, and the unit not yet given
piped : (c : goal.After-self-2-1) (config : Config) (n : ℕ) (left : List Body) (all : List (ℕ × Body)) (given : ℕ)
    → Flows c.args.self.now config n left all given
    → Carries (AfterPiece (old c) (piece c)) false (drop c.pipe.result (rest c))
    c.args.self.now.packet_count config n left all given
piped c config n left all given h =
    let o = c.args.self.now in
    let going = going_when (is_finished o.piper) _ (rest c) o.end o.few (search rules) in
    carries_feed (old c) (AfterPiece (old c) (piece c)) _ false (rest c)
    c.pipe.result o.packet_count config n left all given going
    (piece_after (old c) (piece c)) h

now_complete : (c : goal.After-self-2-1) (pid : ℕ) (events : List PiperEvent) → AfterPiece (old c) (piece c) pid events
    → (tally events).given < length (complete_of pid (tally events).fed)
now_complete c = known_after (old c) (piece c) (λ pid fed given. given < length (complete_of pid fed))
    (subst (λ (l : List ℕ). (pid : ℕ) (events : List PiperEvent) → old c pid events → (tally events).given
    < length (complete_of pid (tally (events ++ Piped (take c.pipe.result l) ∷ [])).fed)) (rest_is c)
    c.pipe.ensures.complete)

pub returns-clause-unit : goal.returns-clause-unit
returns-clause-unit c = λ on config n left all given h more gone.
    let units = subst (λ (l : List ℕ). (pid : ℕ) (events : List PiperEvent) → old c pid events
    → (items : List JoinedByte)
    → slice_get (units_of pid ((tally (events ++ Piped (take c.pipe.result l) ∷ [])).fed ++ items)) (tally events).given
    ≡ Some c.pipe.new.out)
    (rest_is c) c.pipe.ensures.unit in
    carries_unit (AfterPiece (old c) (piece c)) false c.pipe.new.out _ _ config n left all given
    (λ pid events m items _. known_after (old c) (piece c) (λ pid fed given. (items : List JoinedByte)
    → slice_get (units_of pid (fed ++ items)) given ≡ Some c.pipe.new.out) units pid events m items)
    (piped c config n left all given h) more (λ z. absurd (let e : false ≡ true = z in cc))

pub returns-clause-flows : goal.returns-clause-flows
returns-clause-flows c = λ on config n left all given h.
    let new = PiperStandsFor c.pipe.new.self in
    let stands =
    subst (λ (l : List ℕ). (pid : ℕ) (events : List PiperEvent) → old c pid events
    → new pid (events ++ Piped (take c.pipe.result l) ∷ Given ∷ [])) (rest_is c) c.pipe.ensures.stands in
    subst (λ (l : List ℕ). Carries new (is_finished c.pipe.new.self) l c.args.self.now.packet_count config
    n left all (given + 1))
    (drop-drop c.pipe.result c.args.self.now.at (bytes_of c.args.self.now.packet))
    (carries_given (AfterPiece (old c) (piece c)) new false (is_finished c.pipe.new.self) _ _ config n left all given
    c.pipe.ensures.finished (λ _. now_complete c) (unit_after (old c) new (piece c) stands)
    (piped c config n left all given h))

pub returns-clause-complete : goal.returns-clause-complete
returns-clause-complete c = λ on off config n left all given h.
    carries_complete (AfterPiece (old c) (piece c)) false _ _ config n left all given (now_complete c)
    (piped c config n left all given h)
