use Rattle.std.proofs.Common.{◌+◌, ◌∙◌, ℕ, length, refl, sym, subst}
use Rattle.frame_writer.specs.Flowing.{Flows}
use Rattle.frame_writer.specs.Left.{left_of}
use Rattle.feed_merge.specs.StandsFor.{MergerStandsFor}
use Rattle.feed_merge.proofs.merger.Merger.give.Goals as goal

pub returns-clause-gives : goal.returns-clause-gives
unfolding MergerStandsFor
returns-clause-gives c =
    let p = c.args.self.now.plan.now in
    let u = c.give-len in
    let g = u.ensures.gives in
    record {
      units = g.units;
      bytes_are = g.bytes_are;
      size = g.size;
      stands = λ bodies given h.
          subst (λ (n : ℕ). Flows u.new.self.outlet p n (left_of p u.new.source.place c.args.frame.now)
          bodies (given + length g.units))
          (sym u.ensures.number) (g.gives.flows bodies given h);
      next = g.gives.next;
      complete = g.gives.complete;
      some = g.some;
      all = λ off going bodies given h.
          (g.caught off).all (g.gives.finished ∙ going) bodies (given + length g.units) (g.gives.flows bodies given h);
      spent = λ off. (g.caught off).spent;
      idle = λ off. (g.caught off).idle;
      less = g.gives.less;
      network = refl;
      finished = g.gives.finished;
    }
