use Rattle.std.proofs.Common.{rules, refl, take, [], ◌++◌, ◌∷◌, subst, List, ℕ}
use Rattle.t2mi_stream.specs.Events.UnpiperEvent.{Fed}
use Rattle.t2mi_stream.specs.UnpiperStandsFor.{UnpiperStandsFor}
use Rattle.show_run.proofs.T2miLinesLemmas.{went_on, held_all}
use Rattle.show_run.proofs.t2mi_lines.T2miLines.go_on.Goals as goal

pub returns-clause-becomes : goal.returns-clause-becomes
returns-clause-becomes c = λ start events came. went_on c.events_law.ensures c.accepted_front_law.ensures
    c.events_push_law.ensures start
    c.args.self.now _ events c.feed.result c.requires.unpipes refl refl refl refl refl refl refl
    (λ p happened s. subst (λ (l : List ℕ). UnpiperStandsFor c.feed.new.self p
    (happened ++ Fed (take c.feed.result l) ∷ []))
    (held_all c.args.self.now (search rules)) (c.feed.ensures.stands p happened s)) came
