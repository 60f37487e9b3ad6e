-- A frame that is found by division is the one that leaves at the moment.
use Rattle.std.proofs.Common.{◌≡◌, ℕ, ◌<◌, ◌^◌, Option, Some, None, Result, Ok, Err, refl, sym, ap, subst, ◌∙◌}
use Rattle.std.specs.Prelude.{IfSome, IfNone, IfOk, IfErr}
use Rattle.plp_config.specs.Emission.{FindsFrame}
use Rattle.plp_config.specs.Laws.{EmissionFound, EmissionsDiffer}
use Rattle.plp_config.specs.Rules.{AllRules}
use Rattle.plp_config.specs.declared.config.Config.{Config}
use Rattle.plp_config.specs.declared.moment.Moment.{Moment}
use Rattle.site_frame.specs.Placing.{IsFrameOf, IsOffGrid, IsExpected, IsPlaced, RefusesPlace}
use Rattle.site_frame.specs.declared.fault.RecordWhy.{RecordWhy}
use Rattle.site_frame.specs.declared.fault.RecordWhy.TheVariants.{Head, Kind, Length, Order, OffGrid}

pub found_some : EmissionFound → (c : Config) (moment : Moment) (r : Option ℕ) → AllRules c
    → IfSome r (λ n. (n < 2 ^ 31) × FindsFrame c moment n) → IfSome r (IsFrameOf c moment)
found_some law c moment (Some n) rules h = record { small = h.0; emission-is = (law c moment n rules).1 h.1 }
found_some law c moment None rules h = tt

pub found_none : EmissionFound → (c : Config) (moment : Moment) (r : Option ℕ) → AllRules c
    → IfNone r ((n : ℕ) → n < 2 ^ 31 → ¬ (FindsFrame c moment n)) → IfNone r (IsOffGrid c moment)
found_none law c moment (Some n) rules h = tt
found_none law c moment None rules h = λ n lt is. h n lt ((law c moment n rules).0 is)

-- one frame at most leaves at a moment
pub one_frame : EmissionsDiffer → (c : Config) (moment : Moment) (m n : ℕ) → AllRules c → IsFrameOf c moment m
    → IsFrameOf c moment n → m ≡ n
one_frame law c moment m n rules f g = law c m n rules (sym f.emission-is ∙ g.emission-is)

abbrev told : ℕ → Result ℕ RecordWhy
told frame = Ok frame

pub every_placed : EmissionsDiffer → (c : Config) (expected : Option ℕ) (moment : Moment) (r : Result ℕ RecordWhy)
    → AllRules c
    → IfOk r (IsPlaced c expected moment) → IfErr r (RefusesPlace c expected moment)
    → (n : ℕ) → IsPlaced c expected moment n → r ≡ Ok n
every_placed law c expected moment (Ok m) rules ok err n h = ap told (one_frame law c moment m n rules ok.0 h.0)
every_placed law c expected moment (Err Head) rules ok err n h = absurd err
every_placed law c expected moment (Err Kind) rules ok err n h = absurd err
every_placed law c expected moment (Err Length) rules ok err n h = absurd err
every_placed law c expected moment (Err Order) rules ok err n h =
    absurd (err.order (subst (IsExpected expected) (one_frame law c moment n err.frame rules h.0 err.of) h.1))
every_placed law c expected moment (Err OffGrid) rules ok err n h = absurd (err n h.0.small h.0.emission-is)

pub every_refused : EmissionsDiffer → (c : Config) (expected : Option ℕ) (moment : Moment) (r : Result ℕ RecordWhy)
    → AllRules c
    → IfOk r (IsPlaced c expected moment) → IfErr r (RefusesPlace c expected moment)
    → (why : RecordWhy) → RefusesPlace c expected moment why → r ≡ Err why
every_refused law c expected moment r rules ok err Head h = absurd h
every_refused law c expected moment r rules ok err Kind h = absurd h
every_refused law c expected moment r rules ok err Length h = absurd h
every_refused law c expected moment (Ok m) rules ok err Order h =
    absurd (h.order (subst (IsExpected expected) (one_frame law c moment m h.frame rules ok.0 h.of) ok.1))
every_refused law c expected moment (Ok m) rules ok err OffGrid h = absurd (h m ok.0.small ok.0.emission-is)
every_refused law c expected moment (Err Head) rules ok err Order h = absurd err
every_refused law c expected moment (Err Kind) rules ok err Order h = absurd err
every_refused law c expected moment (Err Length) rules ok err Order h = absurd err
every_refused law c expected moment (Err Order) rules ok err Order h = refl
every_refused law c expected moment (Err OffGrid) rules ok err Order h = absurd
    (err h.frame h.of.small h.of.emission-is)
every_refused law c expected moment (Err Head) rules ok err OffGrid h = absurd err
every_refused law c expected moment (Err Kind) rules ok err OffGrid h = absurd err
every_refused law c expected moment (Err Length) rules ok err OffGrid h = absurd err
every_refused law c expected moment (Err Order) rules ok err OffGrid h = absurd
    (h err.frame err.of.small err.of.emission-is)
every_refused law c expected moment (Err OffGrid) rules ok err OffGrid h = refl
