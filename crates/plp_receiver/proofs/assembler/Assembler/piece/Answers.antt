use Rattle.std.proofs.Common.{◌+◌, ◌++◌, length, ℕ, List, arith, subst, sym, ◌∙◌, ap}
use Rattle.plp_receiver.specs.Pieces.{piece_items}
use Rattle.plp_receiver.specs.Assembles.{AssemblerStands, Gains, AssemblerStandsFor}
use Rattle.plp_receiver.proofs.OutLemmas.{before, idle_out, idle_gains_out, over_out, over_gains_out, short_out}
use Rattle.plp_receiver.proofs.OutLemmas.{short_gains_out, end_out, end_gains_out, front_is}
use Rattle.plp_receiver.proofs.assembler.Assembler.piece.Goals as goal

pub returns-then-is_idle-clause-stands : goal.returns-then-is_idle-clause-stands
unfolding AssemblerStandsFor
returns-then-is_idle-clause-stands c = λ r z h. (
  c.clear.ensures.rule ∙ h.0,
  idle_out c.args.bytes.now
      (before c.args.mark c.args.epoch c.args.bytes.now h.0 c.args.self.now.sound h.1 c.requires.epoch c.requires.some)
      (sym c.is_idle.ensures ∙ c.if-is_idle.true) _ _ _ c.clear.ensures.len c.clear.ensures.slot,
)

pub returns-then-is_idle-clause-answer : goal.returns-then-is_idle-clause-answer
unfolding AssemblerStandsFor
returns-then-is_idle-clause-answer c = λ r z h.
    idle_gains_out c.args.bytes.now
    (before c.args.mark c.args.epoch c.args.bytes.now h.0 c.args.self.now.sound h.1 c.requires.epoch c.requires.some)
    (sym c.is_idle.ensures ∙ c.if-is_idle.true) _

pub returns-then-total-self-clause-stands : goal.returns-then-total-self-clause-stands
unfolding AssemblerStandsFor
returns-then-total-self-clause-stands c = λ r z h. (
  c.clear-then-total-self.ensures.rule ∙ h.0,
  over_out c.args.bytes.now
      (before c.args.mark c.args.epoch c.args.bytes.now h.0 c.args.self.now.sound h.1 c.requires.epoch c.requires.some)
      c.base_of-base.result c.base_of-base.ensures.value c.base_of-base.ensures.small
      (sym c.is_idle.ensures ∙ c.if-is_idle.false) (let v = c.from_of-from.ensures.value in omega (arith, v)) _ _ _
      c.clear-then-total-self.ensures.len c.clear-then-total-self.ensures.slot,
)

pub returns-then-total-self-clause-answer : goal.returns-then-total-self-clause-answer
unfolding AssemblerStandsFor
returns-then-total-self-clause-answer c = λ r z h.
    over_gains_out c.args.bytes.now
    (before c.args.mark c.args.epoch c.args.bytes.now h.0 c.args.self.now.sound h.1 c.requires.epoch c.requires.some)
    c.base_of-base.result c.base_of-base.ensures.value c.base_of-base.ensures.small
    (sym c.is_idle.ensures ∙ c.if-is_idle.false) (let v = c.from_of-from.ensures.value in omega (arith, v)) _

pub returns-then-total-self-2-clause-stands : goal.returns-then-total-self-2-clause-stands
unfolding AssemblerStandsFor
returns-then-total-self-2-clause-stands c = λ r z h. (
  h.0,
  subst
      (λ (n : ℕ). AssemblerStands r n c.put.new.held c.base_of-base.result
      (z ++ piece_items c.args.mark c.args.epoch c.args.bytes.now))
      (ap (λ (n : ℕ). n + length c.args.bytes.now) (sym c.from_of-from.ensures.value))
      (short_out c.args.bytes.now
      (before c.args.mark c.args.epoch c.args.bytes.now h.0 c.args.self.now.sound h.1 c.requires.epoch c.requires.some)
      c.base_of-base.result c.base_of-base.ensures.value c.base_of-base.ensures.small
      (sym c.is_idle.ensures ∙ c.if-is_idle.false) (let v = c.from_of-from.ensures.value in omega (arith, v))
      c.put.new.held (front_is _ _ _ _ _ c.from_of-from.ensures.value c.put.ensures.front)),
)

pub returns-then-total-self-2-clause-answer : goal.returns-then-total-self-2-clause-answer
unfolding AssemblerStandsFor
returns-then-total-self-2-clause-answer c = λ r z h.
    short_gains_out c.args.bytes.now
    (before c.args.mark c.args.epoch c.args.bytes.now h.0 c.args.self.now.sound h.1 c.requires.epoch c.requires.some)
    c.base_of-base.result c.base_of-base.ensures.value c.base_of-base.ensures.small
    (sym c.is_idle.ensures ∙ c.if-is_idle.false) (let v = c.from_of-from.ensures.value in omega (arith, v)) _

pub returns-clause-stands : goal.returns-clause-stands
unfolding AssemblerStandsFor
returns-clause-stands c = λ r z h. (
  c.end.ensures.ends.rule ∙ h.0,
  end_out c.args.bytes.now
      (before c.args.mark c.args.epoch c.args.bytes.now h.0 c.args.self.now.sound h.1 c.requires.epoch c.requires.some)
      c.base_of-base.result c.base_of-base.ensures.value c.base_of-base.ensures.small
      (sym c.is_idle.ensures ∙ c.if-is_idle.false) (let v = c.from_of-from.ensures.value in omega (arith, v))
      c.put.new.held (front_is _ _ _ _ _ c.from_of-from.ensures.value c.put.ensures.front) _ _ _
      c.end.ensures.ends.len c.end.ensures.ends.slot,
)

pub returns-clause-answer : goal.returns-clause-answer
unfolding AssemblerStandsFor
returns-clause-answer c = λ r z h.
    subst (λ (l : List ℕ). Gains r z c.args.epoch (piece_items c.args.mark c.args.epoch c.args.bytes.now)
    l c.end.result)
    (sym c.end.ensures.ends.held)
    (end_gains_out c.args.bytes.now
    (before c.args.mark c.args.epoch c.args.bytes.now h.0 c.args.self.now.sound h.1 c.requires.epoch c.requires.some)
    c.base_of-base.result c.base_of-base.ensures.value c.base_of-base.ensures.small
    (sym c.is_idle.ensures ∙ c.if-is_idle.false) (let v = c.from_of-from.ensures.value in omega (arith, v))
    c.put.new.held (front_is _ _ _ _ _ c.from_of-from.ensures.value c.put.ensures.front)
    c.end.result c.end.ensures.ends.answer)
