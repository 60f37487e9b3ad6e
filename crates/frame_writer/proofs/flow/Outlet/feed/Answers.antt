use Rattle.std.proofs.Common.{◌≡◌, ◌-◌, ◌∙◌, ◌++◌, ◌∷◌, [], List, ℕ, length, drop, take, ap, subst}
use Rattle.std.proofs.lemmas.List.{drop-drop}
use Rattle.terms.specs.Bits.{bytes_of}
use Rattle.t2mi_stream.specs.Events.{PiperEvent, Piped}
use Rattle.t2mi_stream.specs.PiperStandsFor.{PiperStandsFor, is_finished}
use Rattle.frame_writer.specs.Carried.{Carries}
use Rattle.frame_writer.proofs.CarriedLemmas.{carries_feed}
use Rattle.frame_writer.proofs.FlowLemmas.{rest_from}
use Rattle.frame_writer.proofs.flow.Outlet.feed.Goals as goal

pub returns-clause-flows : goal.returns-clause-flows
returns-clause-flows c = λ config n left all given h.
    let o = c.args.self.now in
    let bytes = c.as_bytes.result.now in
    let rest : take (length bytes - o.at) (drop o.at bytes) ≡ drop o.at (bytes_of o.packet) = rest_from bytes o.at
    ∙ ap (drop o.at) c.as_bytes.ensures in
    let stands = subst (λ (l : List ℕ). (pid : ℕ) (events : List PiperEvent) → PiperStandsFor o.piper pid events
    → PiperStandsFor c.feed.new.self pid (events ++ Piped (take c.feed.result l) ∷ [])) rest c.feed.ensures.stands in
    subst (λ (l : List ℕ). Carries (PiperStandsFor c.feed.new.self) (is_finished c.feed.new.self) l
    o.packet_count config n left all
    given) (drop-drop c.feed.result o.at (bytes_of o.packet))
    (carries_feed (PiperStandsFor o.piper) (PiperStandsFor c.feed.new.self) _ _ (drop o.at (bytes_of o.packet))
    c.feed.result
    o.packet_count config n left all given c.requires.going stands h)
