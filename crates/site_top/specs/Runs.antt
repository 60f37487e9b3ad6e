-- What each command does up to its last line, and how it must end.
use Rattle.std.specs.Prelude.{◌≡◌, ◌⊎◌, ℕ, ◌<◌, List, length, Result, Ok, Err, IfSome}
use Rattle.ports.specs.Counts.{Rose}
use Rattle.ports.specs.Desk.{State, Held, bytes_of}
use Rattle.common_plp.specs.Inputs.{input_count}
use Rattle.common_plp.specs.Sharing.{Sharing, joined_with, IsPlaceBy, HasNoPlaceBy}
use Rattle.plp_config.specs.declared.config.Config.{Config}
use Rattle.plp_config.specs.Places.{IsPlace, HasNoPlace}
use Rattle.file_run.specs.ConfigLaws.{GivesConfig, GivesPlan}
use Rattle.file_run.specs.declared.config_stop.ConfigStop.{ConfigStop}
use Rattle.file_run.specs.Reading.{longest_file}
use Rattle.file_run.specs.FileRun.{file_at}
use Rattle.file_run.specs.declared.stop.RunStop.{RunStop}
use Rattle.gateway_run.specs.Laws.{MustRun}
use Rattle.gateway_run.specs.declared.stop.GatewayRan.{GatewayRan}
use Rattle.gateway_run.specs.declared.stop.GatewayStop.{GatewayStop}
use Rattle.modulate_run.specs.Laws.{MustRun as ModulateMust}
use Rattle.modulate_run.specs.declared.stop.ModulateRan.{ModulateRan}
use Rattle.modulate_run.specs.declared.stop.ModulateStop.{ModulateStop}
use Rattle.receive_run.specs.JoinedLaws.{MustRun as ReceiveMust}
use Rattle.receive_run.specs.declared.stop.ReceiveRan.{ReceiveRan}
use Rattle.receive_run.specs.declared.stop.ReceiveStop.{ReceiveStop}
use Rattle.merge_run.specs.Laws.{MustRun as MergeMust}
use Rattle.feed_merge.specs.Fed.{names_of}
use Rattle.merge_run.specs.declared.stop.MergeRan.{MergeRan}
use Rattle.merge_run.specs.declared.stop.MergeStop.{MergeStop}
use Rattle.mend_run.specs.declared.stop.MendRan.{MendRan}
use Rattle.mend_run.specs.declared.stop.MendStop.{MendStop}
use Rattle.swap_run.specs.Laws.{MustRun as SwapMust}
use Rattle.swap_run.specs.declared.stop.SwapRan.{SwapRan}
use Rattle.swap_run.specs.declared.stop.SwapStop.{SwapStop}
use Rattle.compare_run.specs.Laws.{MustRun as CompareMust}
use Rattle.compare_run.specs.declared.stop.CompareStop.{CompareStop}
use Rattle.compare_run.specs.declared.counts.CompareRan.{CompareRan}
use Rattle.show_run.specs.Laws.{PacketsEnd, RecordsEnd}
use Rattle.show_run.specs.PacketText.{IsPacketText}
use Rattle.show_run.specs.RecordText.{IsRecordText}
use Rattle.show_run.specs.Shows as show
use Rattle.show_run.specs.T2miText.{IsT2miText}
use Rattle.show_run.specs.declared.stop.ShowStop.{ShowStop}
use Rattle.site_frame.specs.RecordFile.{AreBytes}
use Rattle.site_top.specs.declared.outcome.Outcome.{Outcome}
use Rattle.site_top.specs.declared.outcome.Outcome.TheVariants.{Done, UnknownPlp, OutOfMemory, TrialFault}
use Rattle.site_top.specs.Commands.{Command, ShowPackets, ShowT2mi, ShowFrames, ShowConfig, Plan, Gateway, Modulate}
use Rattle.site_top.specs.Commands.{Receive, Merge, Mend, Swap, Trial, Compare}
use Rattle.site_top.specs.CompareCommand.{Compares}
use Rattle.site_top.specs.Outcomes.{compare_cause, run_outcome, stop_outcome, gateway_cause, modulate_cause}
use Rattle.site_top.specs.Outcomes.{receive_cause, merge_cause, mend_cause, swap_cause, show_cause, config_outcome}
use Rattle.site_top.specs.Outcomes.{Miscounts}
use Rattle.site_top.specs.ConfigCommands.{ShowsConfig, Plans}
use Rattle.site_top.specs.GatewayCommand.{Gateways}
use Rattle.site_top.specs.MendCommand.{Mends, MustMend}
use Rattle.site_top.specs.MergeCommand.{Merges}
use Rattle.site_top.specs.ModulateCommand.{Modulates}
use Rattle.site_top.specs.Reception.{Receives}
use Rattle.site_top.specs.SwapCommand.{Swaps}
use Rattle.site_top.specs.TrialCommand.{Tries}

-- A file is shown by the text that a definition asks for.
abbrev pub Shows : (List ℕ → ℕ → Result ℕ (RunStop ShowStop) → List ℕ → List ℕ → Type 0) → State → State
    → List ℕ → Outcome → Type 0
Shows IsText old new file outcome = (result : Result ℕ (RunStop ShowStop)) × show.Shows IsText old new file result
    × (outcome ≡ run_outcome (stop_outcome show_cause) result)

abbrev pub Does : Command → State → State → Outcome → Type 0
Does (ShowPackets file) old new outcome = Shows IsPacketText old new file outcome
Does (ShowT2mi file) old new outcome = Shows IsT2miText old new file outcome
Does (ShowFrames file) old new outcome = Shows IsRecordText old new file outcome
Does (ShowConfig file) old new outcome = ShowsConfig old new file outcome
Does (Plan config) old new outcome = Plans old new config outcome
Does (Gateway sharing config out ins) old new outcome = Gateways sharing old new config out ins outcome
Does (Modulate config file out) old new outcome = Modulates old new config file out outcome
Does (Receive sharing config id file out) old new outcome = Receives sharing old new config id file out outcome
Does (Merge config a b out) old new outcome = Merges old new config a b out outcome
Does (Mend config out ins) old new outcome = Mends old new config out ins outcome
Does (Swap config id t2mi file out) old new outcome = Swaps old new config id t2mi file out outcome
Does (Compare config a b) old new outcome = Compares old new config a b outcome
Does (Trial seed frames) old new outcome = Tries old new seed frames outcome

-- No input is too long.
abbrev pub AreShort : Held → List (List ℕ) → Type 0
AreShort held ins = (plp : ℕ) → plp < length ins → length (file_at held ins plp) < longest_file

-- No file is too long that a command reads, CONFIG aside; and a file of records is bytes.
abbrev pub AreShortFor : Command → Held → Type 0
AreShortFor (ShowPackets file) held = length (bytes_of held.files file) < longest_file
AreShortFor (ShowT2mi file) held = length (bytes_of held.files file) < longest_file
AreShortFor (ShowFrames file) held = (length (bytes_of held.files file) < longest_file)
    × AreBytes (bytes_of held.files file)
AreShortFor (ShowConfig file) held = Unit {0}
AreShortFor (Plan config) held = Unit {0}
AreShortFor (Gateway sharing config out ins) held = AreShort held ins
AreShortFor (Modulate config file out) held = length (bytes_of held.files file) < longest_file
AreShortFor (Receive sharing config id file out) held = (length (bytes_of held.files file) < longest_file)
    × AreBytes (bytes_of held.files file)
AreShortFor (Merge config a b out) held = AreShort held (names_of a b)
AreShortFor (Mend config out ins) held = AreShort held ins
AreShortFor (Swap config id t2mi file out) held = AreShort held (names_of t2mi file)
AreShortFor (Compare config a b) held = AreShort held (names_of a b)
AreShortFor (Trial seed frames) held = Unit {0}

-- How `gateway` and `common gateway` must end over a plan: with the numbers if there is not one input for each PLP that
-- has one, else as the run does over inputs that are not too long.
abbrev pub PlanMustEnd : Sharing → Held → List (List ℕ) → Config → Outcome → Type 0
PlanMustEnd sharing held ins c outcome = Miscounts sharing c ins outcome
    ⊎ ((length ins ≡ input_count sharing c) × AreShort held ins × ((result : Result GatewayRan GatewayStop)
    × MustRun sharing c (file_at held ins) result × (outcome ≡ run_outcome gateway_cause result)))

-- How `modulate` must end over a plan: as the run does over an input that is not too long.
abbrev pub ModulateMustEnd : List ℕ → Config → Outcome → Type 0
ModulateMustEnd bytes c outcome = (length bytes < longest_file)
    × ((result : Result ModulateRan ModulateStop) × ModulateMust c bytes result
    × (outcome ≡ run_outcome modulate_cause result))

-- How `receive` and `common receive` must end over a plan: with the identifier if no PLP that can be asked for has it,
-- else as the run does over records that are not too long.
abbrev pub ReceiveMustEnd : Sharing → List ℕ → ℕ → Config → Outcome → Type 0
ReceiveMustEnd sharing bytes id c outcome = (HasNoPlaceBy sharing c id × (outcome ≡ UnknownPlp id))
    ⊎ ((plp : ℕ) × IsPlaceBy sharing c id plp × (length bytes < longest_file)
    × ((result : Result ReceiveRan ReceiveStop) × ReceiveMust (joined_with sharing c plp) c plp bytes result
    × (outcome ≡ run_outcome receive_cause result)))

-- How `merge` must end over a plan: as the run does over two inputs that are not too long.
abbrev pub MergeMustEnd : Held → List (List ℕ) → Config → Outcome → Type 0
MergeMustEnd held ins c outcome = AreShort held ins
    × ((result : Result MergeRan MergeStop) × MergeMust c (file_at held ins) result
    × (outcome ≡ run_outcome merge_cause result))

-- How `mend` must end over a plan: as the run does over inputs that are not too long.
abbrev pub MendMustEnd : Held → List (List ℕ) → Config → Outcome → Type 0
MendMustEnd held ins c outcome = AreShort held ins
    × ((result : Result MendRan MendStop) × MustMend c (length ins) (file_at held ins) result
    × (outcome ≡ run_outcome mend_cause result))

-- How `swap` must end over a plan: with the identifier if no PLP has it, else as the run does over two inputs that are
-- not too long.
abbrev pub SwapMustEnd : Held → List (List ℕ) → ℕ → Config → Outcome → Type 0
SwapMustEnd held ins id c outcome = (HasNoPlace c id × (outcome ≡ UnknownPlp id))
    ⊎ ((plp : ℕ) × IsPlace c id plp × AreShort held ins
    × ((result : Result SwapRan SwapStop) × SwapMust c plp (file_at held ins) result
    × (outcome ≡ run_outcome swap_cause result)))

-- How `compare` must end over a plan: as the run does over two inputs that are not too long.
abbrev pub CompareMustEnd : Held → List (List ℕ) → Config → Outcome → Type 0
CompareMustEnd held ins c outcome = AreShort held ins
    × ((result : Result CompareRan CompareStop) × CompareMust c (file_at held ins) result
    × (outcome ≡ run_outcome compare_cause result))

-- How a command must end whose CONFIG has this text: with its refusal, or as it must over the plan that it gives.
abbrev pub OverPlan : List ℕ → (Config → Outcome → Type 0) → Outcome → Type 0
OverPlan text Must outcome =
    ((stop : ConfigStop) × GivesPlan text (Err stop) × (outcome ≡ config_outcome stop))
    ⊎ ((c : Config) × GivesPlan text (Ok c) × Must c outcome)

-- How a command must end over what a desk holds, if nothing outside fails. If CONFIG alone decides, nothing is asked of
-- inputs.
abbrev pub MustEnd : Command → Held → Outcome → Type 0
MustEnd (ShowPackets file) held outcome = (length (bytes_of held.files file) < longest_file)
    × ((result : Result ℕ ShowStop) × PacketsEnd (bytes_of held.files file) result
    × (outcome ≡ run_outcome show_cause result))
MustEnd (ShowT2mi file) held outcome = (length (bytes_of held.files file) < longest_file) × (outcome ≡ Done)
MustEnd (ShowFrames file) held outcome = (length (bytes_of held.files file) < longest_file)
    × ((result : Result ℕ ShowStop) × RecordsEnd (bytes_of held.files file) result
    × (outcome ≡ run_outcome show_cause result))
MustEnd (ShowConfig file) held outcome = (result : Result Config ConfigStop)
    × GivesConfig (bytes_of held.files file) result
    × (outcome ≡ run_outcome config_outcome result)
MustEnd (Plan config) held outcome = (result : Result Config ConfigStop) × GivesPlan (bytes_of held.files config) result
    × (outcome ≡ run_outcome config_outcome result)
MustEnd (Gateway sharing config out ins) held outcome =
    OverPlan (bytes_of held.files config) (PlanMustEnd sharing held ins) outcome
MustEnd (Modulate config file out) held outcome =
    OverPlan (bytes_of held.files config) (ModulateMustEnd (bytes_of held.files file)) outcome
MustEnd (Receive sharing config id file out) held outcome =
    OverPlan (bytes_of held.files config) (ReceiveMustEnd sharing (bytes_of held.files file) id) outcome
MustEnd (Merge config a b out) held outcome = OverPlan (bytes_of held.files config) (MergeMustEnd held (names_of a b))
    outcome
MustEnd (Mend config out ins) held outcome = OverPlan (bytes_of held.files config) (MendMustEnd held ins) outcome
MustEnd (Swap config id t2mi file out) held outcome =
    OverPlan (bytes_of held.files config) (SwapMustEnd held (names_of t2mi file) id) outcome
MustEnd (Compare config a b) held outcome = OverPlan (bytes_of held.files config) (CompareMustEnd held (names_of a b))
    outcome
MustEnd (Trial seed frames) held outcome = outcome ≡ Done

-- A trial can show a defect of its own.
abbrev pub IsTrial : Command → Type 0
IsTrial (Trial seed frames) = Unit {0}
IsTrial command = ⊥

-- If nothing outside fails, the files decide the outcome, unless memory runs out, or a trial shows a defect.
abbrev pub IsComplete : Command → State → State → Outcome → Type 0
IsComplete command old new result = IfSome old.held (λ held. (outcome : Outcome) → MustEnd command held outcome
    → ¬ (Rose old.counts.reads new.counts.reads) → ¬ (Rose old.counts.writes new.counts.writes) → (result ≡ outcome)
    ⊎ ((result ≡ OutOfMemory) ⊎ (IsTrial command × (result ≡ TrialFault))))
