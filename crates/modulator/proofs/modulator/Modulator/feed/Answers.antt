use Rattle.std.proofs.Common.{◌≡◌, ◌∙◌, ◌++◌, false, take, ap, sym, subst, rules as by_rules}
use Rattle.std.specs.Prelude.{flat_map}
use Rattle.open_group.specs.Written.{spelled}
use Rattle.modulator.specs.Modulating.{Settled, Stream, has_record}
use Rattle.modulator.specs.StandsFor.{ModulatorStandsFor}
use Rattle.modulator.proofs.TookLemmas.{given_whole, all_taken}
use Rattle.modulator.proofs.modulator.Modulator.feed.Goals as goal

pub invariant_of-self : goal.invariant_of-self
invariant_of-self c = record {
  settled = subst Settled (sym c.begin_next.ensures.course) c.feed-count.ensures.settled;
  some = c.begin_next.ensures.some;
}

pub returns-clause-stands : goal.returns-clause-stands
unfolding ModulatorStandsFor
returns-clause-stands c = λ bytes taken h.
    let old = c.args.self.now.inner in
    let w : has_record old ≡ false = search by_rules in
    c.begin_next.ensures.gives (bytes ++ take c.feed-count.result c.args.piece.now) h.given taken
    (c.feed-count.ensures.stands bytes h.given h.stands)
    (given_whole old bytes taken h w ∙ ap (λ (k : Stream). flat_map (spelled k.network) h.given)
    (sym c.feed-count.ensures.stream))

pub returns-clause-first : goal.returns-clause-first
unfolding ModulatorStandsFor
returns-clause-first c = λ k l bytes taken h.
    let old = c.args.self.now.inner in
    let w : has_record old ≡ false = search by_rules in
    all_taken old false bytes (bytes ++ take k c.args.piece.now) taken h w
    (c.feed-count.ensures.first k l bytes h.given h.stands)
