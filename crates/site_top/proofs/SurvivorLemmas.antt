-- The records of what is received of a run.
use Rattle.std.proofs.Common.{◌≡◌, ℕ, true, List, [], ◌∷◌, ap, sym, ◌∙◌}
use Rattle.std.specs.Prelude.{Ok, Err, flat_map}
use Rattle.ports.specs.Desk.{State}
use Rattle.plp_config.specs.declared.config.Config.{Config}
use Rattle.open_group.specs.Written.{spelled}
use Rattle.modulator.specs.StandsFor.{bytes_due}
use Rattle.file_run.specs.Work.{Does, Ends, Into}
use Rattle.file_run.specs.declared.stop.RunStop.{RunStop}
use Rattle.file_run.specs.declared.stop.RunStop.TheVariants.{Refused, Files, OutOfMemory}
use Rattle.site_top.proofs.PlanCommandLemmas.{holds_of}
use Rattle.modulate_run.specs.ModulateRun.{modulate_work}
use Rattle.modulate_run.specs.declared.stop.ModulateRan.{ModulateRan}
use Rattle.modulate_run.specs.declared.stop.ModulateStop.{ModulateStop}
use Rattle.modulate_run.specs.declared.stop.ModulateStop.TheVariants.{NoSuperframe, TooManyFrames}
use Rattle.stream_laws.specs.FrameLaws.{WrittenMustCome, UndamagedMustCome}
use Rattle.stream_laws.specs.SentFrames.{run_length}
use Rattle.site_top.specs.ModulateCommand.{MustCome, HoldsWhatMustCome, StopsWith}

must_come : (c : Config) (file bytes : List ℕ) → WrittenMustCome c → UndamagedMustCome c → bytes ≡ bytes_due c true file
    → MustCome c file bytes
must_come c file bytes honest undamaged e = record {
  honest = λ inputs from fates short is came. e ∙ ap (bytes_due c true) came
      ∙ honest inputs (run_length c inputs) from fates short is;
  undamaged = λ inputs from short came. e ∙ ap (bytes_due c true) came
      ∙ undamaged inputs (run_length c inputs) from short;
}

holds_so : (c : Config) (old new : State) (file out : List ℕ) {work : (ℕ → List ℕ) → List ℕ → List ℕ → Type 0}
    → WrittenMustCome c → UndamagedMustCome c → (d : Does work old new (Into out) (file ∷ []))
    → d.bytes ≡ bytes_due c true (d.files 0) → HoldsWhatMustCome c old new file out
holds_so c old new file out honest undamaged d is =
    holds_of (λ files bytes. MustCome c (files 0) bytes) d (must_come c (d.files 0) d.bytes honest undamaged is)

pub holds_records : (c : Config) (old new : State) (file out : List ℕ) (ran : ModulateRan) → WrittenMustCome c
    → UndamagedMustCome c
    → Ends (modulate_work c) old new (Into out) (file ∷ []) (Ok ran) → HoldsWhatMustCome c old new file out
holds_records c old new file out ran honest undamaged (counts, d) = holds_so c old new file out honest
    undamaged d d.does.1.1.output

-- No record is due of IN, and OUT is empty.
pub stops_with : (c : Config) (old new : State) (file out : List ℕ) (stop : RunStop ModulateStop) → WrittenMustCome c
    → UndamagedMustCome c
    → Ends (modulate_work c) old new (Into out) (file ∷ []) (Err stop) → StopsWith c old new file out stop
stops_with c old new file out (Refused NoSuperframe) honest undamaged (counts, d) =
    holds_so c old new file out honest undamaged d (d.does.1.1.empty ∙ sym (ap (flat_map (spelled c)) d.does.1.1.none))
stops_with c old new file out (Refused TooManyFrames) honest undamaged s = tt
stops_with c old new file out (Files fault) honest undamaged s = tt
stops_with c old new file out OutOfMemory honest undamaged s = tt
