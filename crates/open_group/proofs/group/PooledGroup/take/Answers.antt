use Rattle.std.proofs.Common.{◌≡◌, ◌∙◌, [], Bool, true, length, refl, ap, subst, inl, inr, ⊎_elim, arith}
use Rattle.std.proofs.lemmas.Bool.{true_from_ne_false}
use Rattle.open_group.specs.Writes.{is_done}
use Rattle.open_group.specs.Giving.{CanGive}
use Rattle.open_group.specs.FrameBytes.{bytes_left}
use Rattle.open_group.proofs.GiveLemmas.{holds_still}
use Rattle.open_group.proofs.group.PooledGroup.take.Goals as goal

pub returns-clause-none : goal.returns-clause-none
returns-clause-none c =
    let group = c.args.self.now in (
      λ zero. ⊎_elim
          (λ (e : length c.args.out.now ≡ 0). inl e)
          (λ (d : is_done group.writer ≡ true).
          inr (c.is_done-done.ensures.none (c.is_done-done.ensures.is ∙ d) group.network group.l1.shape
          group.blocks.pool.lists))
          (c.give.ensures.none.0 zero),
      λ cause. c.give.ensures.none.1
          (⊎_elim
          (λ (e : length c.args.out.now ≡ 0). inl e)
          (λ (e : bytes_left group ≡ []).
          inr
          (true_from_ne_false (is_done group.writer)
          (λ no.
          let some =
          c.is_done-done.ensures.some (c.is_done-done.ensures.is ∙ no) group.network group.l1.shape
          group.blocks.pool.lists in
          let none = ap length e in
          omega (arith, some, none))))
          cause),
    )

pub returns-clause-group : goal.returns-clause-group
returns-clause-group c = holds_still c.args.self.now _ (record {
  network = refl;
  key = refl;
  intact = λ e. e;
  stamps = refl;
  l1 = refl;
  past = refl;
  numbers = c.give.ensures.held;
  pool = λ intact.
      (c.give.ensures.last
      (subst (λ (t : Bool). CanGive t c.args.self.now.writer c.args.self.now.network c.args.self.now.l1.shape
      c.args.self.now.blocks.pool.lists) intact c.args.self.now.gives)).1;
})
