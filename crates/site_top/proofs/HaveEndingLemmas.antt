-- Over files that are not too long each command has an ending.
use Rattle.std.proofs.Common.{◌<◌, List, length, ℕ, refl, inl, inr}
use Rattle.std.specs.Prelude.{Result, Ok, Err}
use Rattle.std.proofs.lemmas.Bool.{cases_eq}
use Rattle.ports.specs.Desk.{Held, bytes_of}
use Rattle.plp_config.specs.Capacity.{IsPlan}
use Rattle.plp_config.specs.declared.config.Config.{Config}
use Rattle.site_frame.specs.RecordFile.{AreBytes}
use Rattle.file_run.specs.ConfigLaws.{GivesConfig, GivesPlan, ConfigEnds, PlanEnds}
use Rattle.file_run.specs.declared.config_stop.ConfigStop.{ConfigStop}
use Rattle.file_run.specs.Reading.{longest_file}
use Rattle.file_run.specs.FileRun.{file_at}
use Rattle.gateway_run.specs.Laws.{RunEnds}
use Rattle.modulate_run.specs.Laws.{MustRun as ModulateMust, RunEnds as ModulationEnds}
use Rattle.common_plp.specs.Inputs.{input_count}
use Rattle.common_plp.specs.Sharing.{Sharing, joined_with}
use Rattle.receive_run.specs.JoinedLaws.{RunEnds as ReceptionEnds}
use Rattle.merge_run.specs.Laws.{MustRun as MergeMust, RunEnds as MergingEnds}
use Rattle.feed_merge.specs.Fed.{names_of}
use Rattle.swap_run.specs.Laws.{RunEnds as SwappingEnds}
use Rattle.compare_run.specs.Laws.{MustRun as CompareMust, RunEnds as ComparisonEnds}
use Rattle.show_run.specs.Laws.{EachEnds, EachRecordsEnd, PacketsEnd, RecordsEnd}
use Rattle.site_top.specs.Commands.{Compare, ShowPackets, ShowT2mi, ShowFrames, ShowConfig, Plan, Gateway, Modulate}
use Rattle.site_top.specs.Commands.{Receive, Merge, Trial, Mend, Swap}
use Rattle.site_top.specs.Outcomes.{compare_cause, run_outcome, config_outcome, gateway_cause, modulate_cause}
use Rattle.site_top.specs.Outcomes.{receive_cause, merge_cause, mend_cause, swap_cause, show_cause}
use Rattle.site_top.specs.Runs.{CompareMustEnd, AreShort, PlanMustEnd, ModulateMustEnd, ReceiveMustEnd, MergeMustEnd}
use Rattle.site_top.specs.Runs.{OverPlan, MendMustEnd, SwapMustEnd}
use Rattle.site_top.specs.declared.outcome.Outcome.{Outcome}
use Rattle.site_top.specs.declared.outcome.Outcome.TheVariants.{Done, UnknownPlp, WrongInputs}
use Rattle.site_top.specs.Laws.{CommandsHaveEnding}
use Rattle.site_top.specs.MendCommand.{MustMend}
use Rattle.site_top.proofs.EndingLemmas.{EndsAs}
use Rattle.site_top.proofs.MendLemmas.{mend_ends}
use Rattle.site_top.proofs.PlaceLemmas.{has_place_by, place_by, may_join, has_place}

-- as a run does
as_run : {R E : Type 0} (cause : E → Outcome) (Must : Result R E → Type 0) → (result : Result R E) × Must result
    → (outcome : Outcome) × EndsAs cause Must outcome
as_run cause Must end = (run_outcome cause end.0, (end.0, end.1, refl))

-- and over files that are short
as_short : {R E : Type 0} (cause : E → Outcome) (Must : Result R E → Type 0) (Short : Type 0) → Short
    → (result : Result R E) × Must result → (outcome : Outcome) × (Short × EndsAs cause Must outcome)
as_short cause Must Short short end = (run_outcome cause end.0, (short, (end.0, end.1, refl)))

-- over a plan
plan_ends : RunEnds → (sharing : Sharing) (held : Held) (ins : List (List ℕ)) (c : Config) → AreShort held ins
    → IsPlan c → (outcome : Outcome)
    × PlanMustEnd sharing held ins c outcome
plan_ends run sharing held ins c short plan =
    elim (cases_eq (length ins) (input_count sharing c)) [
      | inl same ↦ let end = run sharing c (file_at held ins) plan in (
        run_outcome gateway_cause end.0,
        inr (same, short, (end.0, end.1, refl)),
      )
      | inr differ ↦ (WrongInputs (input_count sharing c) (length ins), inl (differ, refl))
    ]

receive_ends : ReceptionEnds → (sharing : Sharing) (bytes : List ℕ) (id : ℕ) (c : Config)
    → (length bytes < longest_file) × AreBytes bytes → IsPlan c → (outcome : Outcome)
    × ReceiveMustEnd sharing bytes id c outcome
receive_ends run sharing bytes id c short plan =
    elim (has_place_by sharing c plan.rules id) [
      | inl none ↦ (UnknownPlp id, inl (none, refl))
      | inr found ↦
          let end = run (joined_with sharing c found.0) c found.0 bytes plan
          (place_by sharing c id found.0 found.1).inside
          (may_join sharing c found.0) short.1 in
          (run_outcome receive_cause end.0, inr (found.0, found.1, short.0, (end.0, end.1, refl)))
    ]

swap_ends : SwappingEnds → (held : Held) (ins : List (List ℕ)) (id : ℕ) (c : Config) → AreShort held ins → IsPlan c
    → (outcome : Outcome) × SwapMustEnd held ins id c outcome
swap_ends run held ins id c short plan =
    elim (has_place c plan.rules id) [
      | inl none ↦ (UnknownPlp id, inl (none, refl))
      | inr found ↦ let end = run c found.0 (file_at held ins) plan found.1.inside in
          (run_outcome swap_cause end.0, inr (found.0, found.1, short, (end.0, end.1, refl)))
    ]

-- over what CONFIG gives
by_plan : PlanEnds → (text : List ℕ) (Must : Config → Outcome → Type 0)
    → ((c : Config) → IsPlan c → (outcome : Outcome) × Must c outcome)
    → (outcome : Outcome) × OverPlan text Must outcome
by_plan plan text Must over = go (plan text).0 (plan text).1
  where
    go : (given : Result Config ConfigStop) → GivesPlan text given → (outcome : Outcome) × OverPlan text Must outcome
    go (Err stop) gives = (config_outcome stop, inl (stop, gives, refl))
    go (Ok c) gives = let end = over c gives.1 in (end.0, inr (c, gives, end.1))

module _ (packets : EachEnds) (records : EachRecordsEnd) (config : ConfigEnds) (plan : PlanEnds) (run : RunEnds)
    (modulate : ModulationEnds) (receive : ReceptionEnds) (merge : MergingEnds) (swap : SwappingEnds)
    (compare : ComparisonEnds) where
  pub commands_end : CommandsHaveEnding
  commands_end (ShowPackets file) held short =
      let bytes : List ℕ = bytes_of held.files file in
      as_short show_cause (PacketsEnd bytes) (length bytes < longest_file) short (packets bytes)
  commands_end (ShowT2mi file) held short = (Done, (short, refl))
  commands_end (ShowFrames file) held short =
      let bytes : List ℕ = bytes_of held.files file in
      as_short show_cause (RecordsEnd bytes) (length bytes < longest_file) short.0 (records bytes short.1)
  commands_end (ShowConfig file) held short =
      let bytes : List ℕ = bytes_of held.files file in
      as_run config_outcome (GivesConfig bytes) (config bytes)
  commands_end (Plan file) held short =
      let bytes : List ℕ = bytes_of held.files file in
      as_run config_outcome (GivesPlan bytes) (plan bytes)
  commands_end (Gateway sharing file out ins) held short =
      by_plan plan (bytes_of held.files file) (PlanMustEnd sharing held ins)
      (λ c is. plan_ends run sharing held ins c short is)
  commands_end (Modulate file input out) held short =
      let bytes : List ℕ = bytes_of held.files input in
      by_plan plan (bytes_of held.files file) (ModulateMustEnd bytes)
      (λ c is. as_short modulate_cause (ModulateMust c bytes) (length bytes < longest_file) short (modulate c bytes))
  commands_end (Receive sharing file id input out) held short =
      let bytes : List ℕ = bytes_of held.files input in
      by_plan plan (bytes_of held.files file) (ReceiveMustEnd sharing bytes id)
      (λ c is. receive_ends receive sharing bytes id c short is)
  commands_end (Merge file a b out) held short =
      let files : ℕ → List ℕ = file_at held (names_of a b) in
      by_plan plan (bytes_of held.files file) (MergeMustEnd held (names_of a b))
      (λ c is. as_short merge_cause (MergeMust c files) (AreShort held (names_of a b)) short (merge c files))
  commands_end (Mend file out ins) held short =
      let files : ℕ → List ℕ = file_at held ins in
      by_plan plan (bytes_of held.files file) (MendMustEnd held ins)
      (λ c is. as_short mend_cause (MustMend c (length ins) files) (AreShort held ins) short
      (mend_ends c (length ins) files))
  commands_end (Swap file id t2mi input out) held short =
      by_plan plan (bytes_of held.files file) (SwapMustEnd held (names_of t2mi input) id)
      (λ c is. swap_ends swap held (names_of t2mi input) id c short is)
  commands_end (Compare file a b) held short =
      let files : ℕ → List ℕ = file_at held (names_of a b) in
      by_plan plan (bytes_of held.files file) (CompareMustEnd held (names_of a b))
      (λ c is. as_short compare_cause (CompareMust c files) (AreShort held (names_of a b)) short (compare c files))
  commands_end (Trial seed frames) held short = (Done, refl)
