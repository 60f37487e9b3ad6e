use Rattle.std.proofs.Common.{rules, ◌≡◌, ℕ, ◌+◌, ◌-◌, ◌<◌, ◌==◌, Bool, false, cond, [], ◌∷◌, ◌++◌, length, take, Some}
use Rattle.std.proofs.Common.{None, refl, ap, sym, subst, arith, length-append}
use Rattle.std.proofs.lemmas.Bool.{eq-eqb, ne_eqb}
use Rattle.std.proofs.lemmas.List.{length-take-le}
use Rattle.ts_packet.specs.FieldsIn.{fields_in}
use Rattle.t2mi_stream.specs.Events.{fed, released}
use Rattle.t2mi_stream.specs.Events.UnpiperEvent.{Fed}
use Rattle.t2mi_stream.specs.Stands.{Stands}
use Rattle.t2mi_stream.specs.CandidateStands.{Goes, rest_from}
use Rattle.t2mi_stream.specs.Units.{piped_unit_of}
use Rattle.t2mi_stream.specs.UnpiperStandsFor.{UnpiperStandsFor}
use Rattle.t2mi_stream.proofs.UnpiperLemmas.{fed_skip, fed_unit}
use Rattle.t2mi_stream.proofs.unpiper.Unpiper.read.Goals as goal

pub returns-in_default-clause-stands : goal.returns-in_default-clause-stands
unfolding UnpiperStandsFor
returns-in_default-clause-stands c = λ pid events last is (p, s).
    let u = c.args.self.now in
    let full : length u.unit ≡ 188 = search rules in
    let whole : length c.args.unit.now ≡ 188 = search rules in
    let end : u.at ≡ 188 = u.waits c.requires.idle in
    let less : u.filled < 188 = u.part end in
    let had = length-take-le u.filled u.unit (omega (arith, full, less)) in
    let size : u.filled + length last ≡ 188 = omega (
      arith,
      ap length is,
      length-append (take u.filled u.unit)
          last,
      had,
      whole,
    ) in
    let skip =
    subst (λ (n : ℕ). (at : ℕ) → piped_unit_of n at c.args.unit.now (fields_in c.args.unit.now) ≡ None) p
    c.in_default.ensures.none in
    let count : u.taken + length last ≡ u.taken + (188 - u.filled) = omega (arith, size) in (
      p,
      subst (λ (n : ℕ). Stands pid (take 0 u.unit) n u.last u.place u.named u.at u.candidate
          (fed (events ++ Fed last ∷ []))
          (released (events ++ Fed last ∷ []))) count
          (fed_skip pid u.unit u.filled u.taken u.last u.place u.named u.at u.candidate events s full end last
          (omega (arith, size)) c.args.unit.now is whole less (take 0 u.unit) refl skip),
    )

pub returns-then-self-lt-SIZE-clause-stands : goal.returns-then-self-lt-SIZE-clause-stands
unfolding UnpiperStandsFor
returns-then-self-lt-SIZE-clause-stands c = λ pid events last is (p, s).
    let u = c.args.self.now in
    let full : length u.unit ≡ 188 = search rules in
    let whole : length c.args.unit.now ≡ 188 = search rules in
    let end : u.at ≡ 188 = u.waits c.requires.idle in
    let less : u.filled < 188 = u.part end in
    let had = length-take-le u.filled u.unit (omega (arith, full, less)) in
    let size : u.filled + length last ≡ 188 = omega (
      arith,
      ap length is,
      length-append (take u.filled u.unit)
          last,
      had,
      whole,
    ) in
    let header = c.in-Some.header in
    let read = subst
    (λ (n : ℕ). (at : ℕ) → piped_unit_of n at c.args.unit.now (fields_in c.args.unit.now)
    ≡ Some (record { counter = header.counter; bytes = rest_from c.args.unit.now at header.named header.first }))
    p c.in-Some.ensures.some in
    let count : u.taken + (188 - u.filled) ≡ u.taken + length last = omega (arith, size) in
    let goes = subst (λ (n : ℕ). Goes c.args.unit.now (n - 188) header.named header.first c.resume-self.result
    c.enter.new.candidate c.resume-self.new.candidate) count c.resume-self.ensures.goes in
    let to : ℕ = c.resume-self.result in
    let behind : (to == 188) ≡ false = ne_eqb to 188 (λ e. absurd (omega (arith, e, c.if-self-lt-SIZE.true))) in
    let left : take 188 c.args.unit.now ≡ take (cond (to == 188) 0 188) c.args.unit.now =
    ap (λ (b : Bool). take (cond b 0 188) c.args.unit.now) (sym behind) in (
      p,
      subst (λ (n : ℕ). Stands pid (take 188 c.args.unit.now) n (Some header.counter) (n - 188) header.named to
          c.resume-self.new.candidate (fed (events ++ Fed last ∷ [])) (released (events ++ Fed last ∷ []))) (sym count)
          (fed_unit pid u.unit u.filled u.taken u.last u.place u.named u.at u.candidate events s full end last
          (omega (arith, size)) c.args.unit.now is whole less c.enter.new.candidate c.resume-self.new.candidate
          header.counter
          header.first header.named to (take 188 c.args.unit.now) c.enter.ensures read goes c.resume-self.ensures.inside
          left),
    )

pub returns-else-self-lt-SIZE-clause-stands : goal.returns-else-self-lt-SIZE-clause-stands
unfolding UnpiperStandsFor
returns-else-self-lt-SIZE-clause-stands c = λ pid events last is (p, s).
    let u = c.args.self.now in
    let full : length u.unit ≡ 188 = search rules in
    let whole : length c.args.unit.now ≡ 188 = search rules in
    let end : u.at ≡ 188 = u.waits c.requires.idle in
    let less : u.filled < 188 = u.part end in
    let had = length-take-le u.filled u.unit (omega (arith, full, less)) in
    let size : u.filled + length last ≡ 188 = omega (
      arith,
      ap length is,
      length-append (take u.filled u.unit)
          last,
      had,
      whole,
    ) in
    let header = c.in-Some.header in
    let read = subst
    (λ (n : ℕ). (at : ℕ) → piped_unit_of n at c.args.unit.now (fields_in c.args.unit.now)
    ≡ Some (record { counter = header.counter; bytes = rest_from c.args.unit.now at header.named header.first }))
    p c.in-Some.ensures.some in
    let count : u.taken + (188 - u.filled) ≡ u.taken + length last = omega (arith, size) in
    let goes = subst (λ (n : ℕ). Goes c.args.unit.now (n - 188) header.named header.first c.resume-self.result
    c.enter.new.candidate c.resume-self.new.candidate) count c.resume-self.ensures.goes in
    let to : ℕ = c.resume-self.result in
    let at_end : to ≡ 188 = omega (arith, c.if-self-lt-SIZE.false, c.resume-self.ensures.inside) in
    let left : take 0 u.unit ≡ take (cond (to == 188) 0 188) c.args.unit.now =
    ap (λ (b : Bool). take (cond b 0 188) c.args.unit.now) (sym (eq-eqb to 188 at_end)) in (
      p,
      subst (λ (n : ℕ). Stands pid (take 0 u.unit) n (Some header.counter) (n - 188) header.named to
          c.resume-self.new.candidate (fed (events ++ Fed last ∷ [])) (released (events ++ Fed last ∷ []))) (sym count)
          (fed_unit pid u.unit u.filled u.taken u.last u.place u.named u.at u.candidate events s full end last
          (omega (arith, size)) c.args.unit.now is whole less c.enter.new.candidate c.resume-self.new.candidate
          header.counter
          header.first header.named to (take 0 u.unit) c.enter.ensures read goes c.resume-self.ensures.inside left),
    )
