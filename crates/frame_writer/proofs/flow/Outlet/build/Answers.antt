use Rattle.std.proofs.Common.{◌∷◌, List, length, refl, ap, subst, arith}
use Rattle.terms.specs.Bits.{bytes_of}
use Rattle.t2mi_packet.specs.declared.packet.Body.{Body}
use Rattle.t2mi_stream.specs.PiperStandsFor.{PiperStandsFor, is_finished}
use Rattle.frame_writer.specs.Carried.{Carries}
use Rattle.frame_writer.proofs.CarriedLemmas.{carries_build}
use Rattle.frame_writer.proofs.FlowLemmas.{whole_room}
use Rattle.frame_writer.specs.Flowing.{rest_of}
use Rattle.frame_writer.proofs.flow.Outlet.build.Goals as goal

pub invariant_of-self-2-clause-room : goal.invariant_of-self-2-clause-room
invariant_of-self-2-clause-room g c = whole_room c.build.new.out (c.if-not-build.ensures.some refl).whole

pub returns-clause-feeds : goal.returns-clause-feeds
returns-clause-feeds g c =
    let o = c.args.self.now in
    let p = c.args.plan.now in
    let n = g.S.FrameSource.number c.args.source.now in
    let next = g.S.FrameSource.left c.build.new.self c.args.frame.now p in
    let b = c.if-not-build.ensures.some refl in
    record {
      flows = λ all given h.
          let was : Carries (PiperStandsFor o.piper) (is_finished o.piper) (rest_of o) o.packet_count
          p n (b.body ∷ next) all given =
          subst (λ (l : List Body). Carries (PiperStandsFor o.piper) (is_finished o.piper)
          (rest_of o) o.packet_count p n l all given) b.was h in
          carries_build (PiperStandsFor o.piper) (PiperStandsFor c.begin.new.self) _ _ (rest_of o)
          (bytes_of c.build.new.out) c.build.new.out o.packet_count p n b.body next all given c.requires.«open»
          c.requires.fed c.begin.ensures.stands b.built refl was;
      bound = omega (arith, whole_room c.build.new.out b.whole, ap length b.was, c.begin.ensures.waiting);
    }
