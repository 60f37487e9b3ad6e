-- What holds of streams that were mended, and how a run over them must end.
use Rattle.std.proofs.Common.{◌≡◌, ◌≢◌, ℕ, List, [], ◌∷◌, length, refl, ap, sym, ◌∙◌, arith}
use Rattle.std.specs.Prelude.{Result, Ok, Err}
use Rattle.ports.specs.Desk.{State}
use Rattle.plp_config.specs.Capacity.{IsPlan}
use Rattle.plp_config.specs.Rules.Rule.{SuperframeLength}
use Rattle.plp_config.specs.declared.config.Config.{Config}
use Rattle.mended_frames.specs.Feeds.{made_of_all, units_of}
use Rattle.mended_frames.specs.Laws.{MadePass, MadeRise, MadeAreNear}
use Rattle.mended_frames.specs.Mended.{Made}
use Rattle.network_laws.specs.FeedsOfRun.{DamagedRunsMended, WholeAmongDamaged, CameOfDamagedMade, SurvivorsMended}
use Rattle.network_laws.specs.FeedsOfRun.{NoneLostMended}
use Rattle.network_laws.specs.MendedRun.{MendedComesBack, modulated_records}
use Rattle.stream_laws.specs.Types.{TypesFit}
use Rattle.file_run.specs.Work.{Ends, Into}
use Rattle.site_top.proofs.PlanCommandLemmas.{holds_of}
use Rattle.mend_run.specs.Counted.{counted}
use Rattle.mend_run.specs.MendRun.{mend_work}
use Rattle.mend_run.specs.declared.stop.MendStop.{MendStop}
use Rattle.mend_run.specs.declared.stop.MendStop.TheVariants.{NoFrame}
use Rattle.mend_run.specs.declared.stop.MendRan.{MendRan}
use Rattle.site_top.specs.MendCommand.{MustMend, HoldsMended, UnitsAreMended, ComesOfMended}

pub record MendLaws : Type 0 where
  pub pass : MadePass
  pub rise : MadeRise
  pub near : MadeAreNear
  pub comes : MendedComesBack
  pub honest : DamagedRunsMended
  pub come : CameOfDamagedMade
  pub survive : SurvivorsMended
  pub none_lost : NoneLostMended
  pub whole : WholeAmongDamaged

pub are_mended : (c : Config) → IsPlan c → TypesFit c → MendLaws → UnitsAreMended c
are_mended c plan types laws k files bytes is = record {
  units = is;
  pass = laws.pass c k files;
  rise = laws.rise c k files;
  near = laws.near c k files (omega (arith, (plan.rules SuperframeLength).0));
  comes = ap (modulated_records c) is ∙ laws.comes c k files plan types.ids;
  honest = λ inputs few damaged. laws.honest c inputs k files plan types few damaged;
  come = λ inputs frames few damaged on came n there.
      laws.come c inputs k files frames plan types few damaged on came n there;
  survive = λ inputs survivals frames few lossy came n there.
      laws.survive c inputs k files survivals frames plan types few lossy came n there;
  none_lost = λ inputs survivals few lossy all. is ∙ laws.none_lost c inputs k files survivals plan types few lossy all;
  whole = λ inputs one few inside there damaged. is ∙ laws.whole c inputs k one files plan types few
      inside there damaged;
}

-- OUT is all units of the frames that are made of the INs.
pub holds_mended : (c : Config) (old new : State) (ins : List (List ℕ)) (out : List ℕ) (ran : MendRan)
    → UnitsAreMended c
    → Ends (mend_work c (length ins)) old new (Into out) ins (Ok ran) → HoldsMended c old new ins out
holds_mended c old new ins out ran law (counts, d) =
    holds_of (ComesOfMended c (length ins)) d (law (length ins) d.files d.bytes d.does.1.1.output)

-- ---- how it must end

-- A run over them has one ending,
pub one_mend : (c : Config) (k : ℕ) (files : ℕ → List ℕ) (result other : Result MendRan MendStop)
    → MustMend c k files result
    → MustMend c k files other → result ≡ other
one_mend c k files (Ok ran) (Ok other) a b = ap Ok (a.1 ∙ sym b.1)
one_mend c k files (Ok ran) (Err NoFrame) a b = absurd (a.0 b)
one_mend c k files (Err NoFrame) (Ok other) a b = absurd (b.0 a)
one_mend c k files (Err NoFrame) (Err NoFrame) a b = refl

-- and has it.
some_is : (x : Made) (made : List Made) → (x ∷ made) ≢ []
some_is x made e = cc

pub mend_ends : (c : Config) (k : ℕ) (files : ℕ → List ℕ) → (result : Result MendRan MendStop)
    × MustMend c k files result
mend_ends c k files = go (made_of_all c k files) refl
  where
    go : (made : List Made) → made_of_all c k files ≡ made → (result : Result MendRan MendStop)
        × MustMend c k files result
    go [] is = (Err NoFrame, is)
    go (x ∷ made) is = (
      Ok (counted (made_of_all c k files) (length (units_of c k files))),
      ((λ none. some_is x made (sym is ∙ none)), refl),
    )
