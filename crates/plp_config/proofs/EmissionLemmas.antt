-- The moments at which frames leave.
use Rattle.std.proofs.Common.{◌≡◌, ℕ, ◌+◌, ◌-◌, ◌*◌, ◌/◌, ◌%◌, ◌<◌, ◌≤◌, ◌^◌, refl, sym, ap, ◌∙◌, subst, arith}
use Rattle.std.proofs.Math.Nat.{le_of_mul-le-mul_right, mul-le-mul_right, le-div_iff_mul-le, div-lt_iff_lt-mul}
use Rattle.std.proofs.lemmas.Nat.{mul-le, div-add-mod', mod_below, div-mul-add, mod-mul-add}
use Rattle.plp_config.proofs.TableLemmas.{frame_quarter, second_range}
use Rattle.plp_config.specs.Emission.{subseconds_by, origin, frame_subseconds, emission, FindsFrame}
use Rattle.plp_config.specs.Laws.{EmissionTotal, EmissionsDiffer, EmissionFound, EmissionFits}
use Rattle.plp_config.specs.Rules.{AllRules, StartTime}
use Rattle.plp_config.specs.Tables.{subseconds_per_second}
use Rattle.plp_config.specs.declared.config.Config.{Config}
use Rattle.plp_config.specs.declared.moment.Moment.{Moment}

pub emission_total : EmissionTotal
unfolding emission
emission_total c frame = div-add-mod' (origin c + frame * frame_subseconds c) (subseconds_per_second c.band)

pub emissions_differ : EmissionsDiffer
emissions_differ c frame other rules same =
    let some : 0 < frame_subseconds c = (frame_quarter c rules).0 in
    let total : origin c + frame * frame_subseconds c ≡ origin c + other * frame_subseconds c
    = sym (emission_total c frame) ∙ ap (λ (m : Moment). subseconds_by c m) same ∙ emission_total c other in
    let low : frame ≤ other = le_of_mul-le-mul_right {k = frame_subseconds c} (omega arith) some in
    let high : other ≤ frame = le_of_mul-le-mul_right {k = frame_subseconds c} (omega arith) some in
    omega arith

-- the subseconds are fewer than a second has
emission_carried : (c : Config) (frame : ℕ) → (emission c frame).subseconds < subseconds_per_second c.band
unfolding emission
emission_carried c frame = mod_below (origin c + frame * frame_subseconds c) (subseconds_per_second c.band)
    (second_range c.band).0

-- an emission is found again
finds_emission : (c : Config) (frame : ℕ) → AllRules c → FindsFrame c (emission c frame) frame
finds_emission c frame rules =
    let some : 0 < frame_subseconds c = (frame_quarter c rules).0 in
    let total : subseconds_by c (emission c frame) ≡ origin c + frame * frame_subseconds c = emission_total c frame in
    let past : subseconds_by c (emission c frame) - origin c ≡ frame * frame_subseconds c + 0 = omega arith in
    record {
      carried = emission_carried c frame;
      later = omega arith;
      whole = rw past (mod-mul-add frame (frame_subseconds c) 0 some);
      frames = rw past (div-mul-add frame (frame_subseconds c) 0 some);
    }

-- what is found is the emission
found_emission : (c : Config) (moment : Moment) (frame : ℕ) → FindsFrame c moment frame → moment ≡ emission c frame
unfolding emission
found_emission c moment frame found =
    let second = subseconds_per_second c.band in
    let past : (subseconds_by c moment - origin c) / frame_subseconds c * frame_subseconds c
    + (subseconds_by c moment - origin c) % frame_subseconds c
    ≡ subseconds_by c moment - origin c = div-add-mod' (subseconds_by c moment - origin c) (frame_subseconds c) in
    let frames : frame * frame_subseconds c + 0 ≡ subseconds_by c moment - origin c = rw (found.frames, found.whole)
    at past in
    let total : origin c + frame * frame_subseconds c ≡ moment.seconds * second + moment.subseconds =
    omega (arith, found.later) in
    rw (
      total,
      div-mul-add moment.seconds second moment.subseconds found.carried,
      mod-mul-add moment.seconds second moment.subseconds found.carried,
    ) refl

pub emission_found : EmissionFound
emission_found c moment frame rules = (
  (λ is. subst (λ m. FindsFrame c m frame) (sym is) (finds_emission c frame rules)),
  (λ found. found_emission c moment frame found),
)

pub emission_fits : EmissionFits
unfolding emission
emission_fits c frame rules lt =
    let second = subseconds_per_second c.band in
    let some : 0 < second = (second_range c.band).0 in
    let begin : (1 ≤ c.seconds) × (c.seconds ≤ 2 ^ 39) × (c.subseconds < second) = rules StartTime in
    let least : 1 * second ≤ c.seconds * second = mul-le-mul_right second begin.0 in
    let most : c.seconds * second ≤ 2 ^ 39 * second = mul-le-mul_right second begin.1 in
    let run : frame * (4 * frame_subseconds c) ≤ 2 ^ 32 * second =
    mul-le frame (4 * frame_subseconds c) (2 ^ 32) second (omega arith) (frame_quarter c rules).1 in
    let run4 : frame * (4 * frame_subseconds c) ≡ 4 * (frame * frame_subseconds c) = omega arith in (
      (le-div_iff_mul-le some).1 (omega arith),
      (div-lt_iff_lt-mul some).1 (omega (arith, begin.2)),
      omega (arith, emission_carried c frame, second_range c.band),
    )

-- the seconds that have passed at a frame, of subseconds that fit 32 bits
pub seconds_passed : (subseconds frame length second : ℕ) → 40000000 ≤ second → subseconds < 2 ^ 32 → frame < 2 ^ 32
    → 4 * length ≤ second
    → (subseconds + frame * length) / second < 2 ^ 31
seconds_passed subseconds frame length second long few early short =
    let run : frame * (4 * length) ≤ 2 ^ 32 * second = mul-le frame (4 * length) (2 ^ 32) second (omega arith) short in
    let run4 : frame * (4 * length) ≡ 4 * (frame * length) = omega arith in
    (div-lt_iff_lt-mul {k = second} (omega arith)).1 (omega arith)
