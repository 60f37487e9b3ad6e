use Rattle.std.proofs.Common.{◌∙◌, [], List, ℕ, ap, sym, append-nil, refl}
use Rattle.std.specs.Prelude.{slice_get}
use Rattle.t2mi_stream.specs.Pipe.{pipe}
use Rattle.frame_writer.specs.FramePackets.{packets_from}
use Rattle.feed_merge.specs.StandsFor.{MergerStandsFor}
use Rattle.feed_merge.proofs.merger.Merger.rest.Goals as goal

pub returns-clause-unit : goal.returns-clause-unit
unfolding MergerStandsFor
returns-clause-unit c = λ on all given h.
    let p = c.args.self.now.plan.now in
    ap (λ (l : List (List ℕ)). slice_get (pipe p.pid l) given) (sym (append-nil (packets_from p 0 all)))
    ∙ c.rest.ensures.unit on p c.args.self.now.place.number all given h [] (λ _. refl)

pub returns-clause-stands : goal.returns-clause-stands
unfolding MergerStandsFor
returns-clause-stands c = λ on all given h. c.rest.ensures.flows on c.args.self.now.plan.now
    c.args.self.now.place.number all given h

pub returns-clause-none : goal.returns-clause-none
unfolding MergerStandsFor
returns-clause-none c = λ off all given h.
    c.rest.ensures.none off c.requires.finished c.args.self.now.plan.now c.args.self.now.place.number all given h

pub returns-clause-kept : goal.returns-clause-kept
unfolding MergerStandsFor
returns-clause-kept c = λ none all given h. rw (c.rest.ensures.stays none).0 h
