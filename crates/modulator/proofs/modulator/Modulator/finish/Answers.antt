use Rattle.std.proofs.Common.{◌≡◌, ◌∙◌, true, false, ap, sym, subst, rules as by_rules}
use Rattle.std.specs.Prelude.{flat_map}
use Rattle.open_group.specs.Written.{spelled}
use Rattle.modulator.specs.Gives.{Gives}
use Rattle.modulator.specs.Modulating.{Settled, Stream, has_record}
use Rattle.modulator.specs.StandsFor.{ModulatorStandsFor}
use Rattle.modulator.specs.declared.modulating.Modulating.{Modulating}
use Rattle.modulator.proofs.TookLemmas.{given_whole, took_still}
use Rattle.modulator.proofs.modulator.Modulator.finish.Goals as goal

pub invariant_of-self-2 : goal.invariant_of-self-2
invariant_of-self-2 c = record {
  settled = subst Settled (sym c.begin_next.ensures.course) c.finish-2.ensures.settled;
  some = c.begin_next.ensures.some;
}

pub returns-then-is_some-clause-stands : goal.returns-then-is_some-clause-stands
unfolding ModulatorStandsFor
returns-then-is_some-clause-stands c = λ bytes taken h.
    let old = c.args.self.now.inner in
    let w : has_record old ≡ true = search by_rules in
    subst (λ (m : Modulating). Gives m bytes taken) (sym (c.finish.ensures.still w))
    (took_still old bytes taken c.requires.«open» h)

pub returns-clause-stands : goal.returns-clause-stands
unfolding ModulatorStandsFor
returns-clause-stands c = λ bytes taken h.
    let old = c.args.self.now.inner in
    let w : has_record old ≡ false = search by_rules in
    c.begin_next.ensures.gives bytes h.given taken (c.finish-2.ensures.stands bytes h.given h.stands)
    (given_whole old bytes taken h w ∙ ap (λ (k : Stream). flat_map (spelled k.network) h.given)
    (sym c.finish-2.ensures.stream))
