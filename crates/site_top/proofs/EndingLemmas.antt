-- What a desk holds decides how a command must end.
use Rattle.std.proofs.Common.{◌≡◌, ◌⊎◌, ◌<◌, ℕ, inl, inr, List, length, ap, sym, subst, ◌∙◌}
use Rattle.std.specs.Prelude.{Result, Ok, Err}
use Rattle.std.proofs.lemmas.Bool.{cases_eq}
use Rattle.ports.specs.Desk.{Held, bytes_of}
use Rattle.plp_config.specs.Capacity.{IsPlan}
use Rattle.plp_config.specs.Places.{IsPlace, HasNoPlace}
use Rattle.plp_config.specs.declared.config.Config.{Config}
use Rattle.file_run.specs.ConfigLaws.{GivesConfig, GivesPlan, OneConfig, OnePlan}
use Rattle.file_run.specs.declared.config_stop.ConfigStop.{ConfigStop}
use Rattle.file_run.specs.FileRun.{file_at}
use Rattle.file_run.specs.Reading.{longest_file}
use Rattle.gateway_run.specs.Laws.{MustRun, OneRun}
use Rattle.modulate_run.specs.Laws.{MustRun as ModulateMust, OneRun as OneModulation}
use Rattle.common_plp.specs.Sharing.{Sharing, joined_with, IsPlaceBy, HasNoPlaceBy}
use Rattle.receive_run.specs.JoinedLaws.{MustRun as ReceiveMust, OneRun as OneReception}
use Rattle.merge_run.specs.Laws.{MustRun as MergeMust, OneRun as OneMerging}
use Rattle.feed_merge.specs.Fed.{names_of}
use Rattle.swap_run.specs.Laws.{MustRun as SwapMust, OneRun as OneSwapping}
use Rattle.compare_run.specs.Laws.{MustRun as CompareMust, OneRun as OneComparison}
use Rattle.show_run.specs.Laws.{OneEnd, OneRecordsEnd, PacketsEnd, RecordsEnd}
use Rattle.site_top.specs.Commands.{Compare, ShowPackets, ShowT2mi, ShowFrames, ShowConfig, Plan, Gateway, Modulate}
use Rattle.site_top.specs.Commands.{Receive, Merge, Trial, Mend, Swap}
use Rattle.site_top.specs.MendCommand.{MustMend}
use Rattle.site_top.specs.Runs.{CompareMustEnd, AreShort, PlanMustEnd, ModulateMustEnd, ReceiveMustEnd, MergeMustEnd}
use Rattle.site_top.specs.Runs.{OverPlan, MendMustEnd, SwapMustEnd}
use Rattle.site_top.specs.declared.outcome.Outcome.{Outcome}
use Rattle.site_top.specs.declared.outcome.Outcome.TheVariants.{UnknownPlp}
use Rattle.site_top.specs.Laws.{OneEnding}
use Rattle.site_top.specs.Outcomes.{run_outcome, gateway_cause, modulate_cause, receive_cause, merge_cause, mend_cause}
use Rattle.site_top.specs.Outcomes.{show_cause, swap_cause, compare_cause, config_outcome}
use Rattle.site_top.proofs.MendLemmas.{one_mend}
use Rattle.site_top.proofs.PlaceLemmas.{place_by, never_by}

-- How a command must end by a run of which something must be so.
abbrev pub EndsAs : {R E : Type 0} → (E → Outcome) → (Result R E → Type 0) → Outcome → Type 0
EndsAs {R = R} {E = E} cause Must outcome = (result : Result R E) × Must result × (outcome ≡ run_outcome cause result)

-- If the run has one ending, the command has.
one_end : {R E : Type 0} (cause : E → Outcome) (Must : Result R E → Type 0)
    → ((result other : Result R E) → Must result → Must other → result ≡ other) → (outcome other : Outcome)
    → EndsAs cause Must outcome → EndsAs cause Must other → outcome ≡ other
one_end cause Must one outcome other a b = a.2 ∙ ap (run_outcome cause) (one a.0 b.0 a.1 b.1) ∙ sym b.2

-- A text does not give a plan and none, and one plan at most.
pub not_both : OnePlan → (text : List ℕ) (stop : ConfigStop) (c : Config) → GivesPlan text (Err stop)
    → GivesPlan text (Ok c) → ⊥
not_both one text stop c a b = let e = one text (Err stop) (Ok c) a b in cc

pub same_plan : OnePlan → (text : List ℕ) (c d : Config) → GivesPlan text (Ok c) → GivesPlan text (Ok d) → c ≡ d
same_plan one text c d a b = let e = one text (Ok c) (Ok d) a b in cc

-- A command by the plan of CONFIG has one ending, if it has over each plan.
one_by_plan : OnePlan → (text : List ℕ) (Must : Config → Outcome → Type 0)
    → ((c : Config) (outcome other : Outcome) → IsPlan c → Must c outcome → Must c other → outcome ≡ other)
    → (outcome other : Outcome) → OverPlan text Must outcome → OverPlan text Must other → outcome ≡ other
one_by_plan one text Must so outcome other (inl (stop, gives, is)) (inl (cause, given, same)) =
    let e = one text (Err stop) (Err cause) gives given in
    let stops : stop ≡ cause = cc in
    is ∙ ap config_outcome stops ∙ sym same
one_by_plan one text Must so outcome other (inl a) (inr b) = absurd (not_both one text a.0 b.0 a.1 b.1)
one_by_plan one text Must so outcome other (inr a) (inl b) = absurd (not_both one text b.0 a.0 b.1 a.1)
one_by_plan one text Must so outcome other (inr (c, gives, must)) (inr (d, given, also)) =
    so c outcome other gives.1 must
    (subst (λ (x : Config). Must x other) (same_plan one text d c given gives) also)

-- How a command must end that asks for a PLP by its identifier: with this if no PLP has it, else as it does at a place.
abbrev pub AtPlace : ℕ → Type 0 → (ℕ → Type 0) → Type 0 → (ℕ → Outcome → Type 0) → Outcome → Type 0
AtPlace id Never Place Short Must outcome = (Never × (outcome ≡ UnknownPlp id))
    ⊎ ((plp : ℕ) × Place plp × Short × Must plp outcome)

one_at_place : (id : ℕ) (Never : Type 0) (Place : ℕ → Type 0) (Short : Type 0) (Must : ℕ → Outcome → Type 0)
    → (Never → (plp : ℕ) → Place plp → ⊥) → ((plp other : ℕ) → Place plp → Place other → other ≡ plp)
    → ((plp : ℕ) (outcome other : Outcome) → Place plp → Must plp outcome → Must plp other → outcome ≡ other)
    → (outcome other : Outcome) → AtPlace id Never Place Short Must outcome → AtPlace id Never Place Short Must other
    → outcome ≡ other
one_at_place id Never Place Short Must never same one outcome other (inl a) (inl b) = a.1 ∙ sym b.1
one_at_place id Never Place Short Must never same one outcome other (inl a) (inr b) = absurd (never a.0 b.0 b.1)
one_at_place id Never Place Short Must never same one outcome other (inr a) (inl b) = absurd (never b.0 a.0 a.1)
one_at_place id Never Place Short Must never same one outcome other (inr (plp, at, short, must))
    (inr (place, there, few, also)) =
    one plp outcome other at must (subst (λ (k : ℕ). Must k other) (same plp place at there) also)

one_place : (c : Config) (id plp other : ℕ) → IsPlace c id plp → IsPlace c id other → other ≡ plp
one_place c id plp other at there =
    elim (cases_eq other plp) [ inl same ↦ same | inr differ ↦ absurd (at.others other there.inside differ there.own) ]

gateway_one : OneRun → (sharing : Sharing) (held : Held) (ins : List (List ℕ)) (c : Config) (outcome other : Outcome)
    → PlanMustEnd sharing held ins c outcome → PlanMustEnd sharing held ins c other → outcome ≡ other
gateway_one run sharing held ins c outcome other (inl a) (inl b) = a.1 ∙ sym b.1
gateway_one run sharing held ins c outcome other (inl a) (inr b) = absurd (a.0 b.0)
gateway_one run sharing held ins c outcome other (inr a) (inl b) = absurd (b.0 a.0)
gateway_one run sharing held ins c outcome other (inr (count, short, must)) (inr (so, few, also)) =
    one_end gateway_cause (MustRun sharing c (file_at held ins)) (run sharing c (file_at held ins)) outcome other
    must also

module _ (packets : OneEnd) (records : OneRecordsEnd) (config : OneConfig) (plan : OnePlan) (run : OneRun)
    (modulate : OneModulation) (receive : OneReception) (merge : OneMerging) (swap : OneSwapping)
    (compare : OneComparison) where
  pub one_ending : OneEnding
  one_ending (ShowPackets file) held outcome other a b =
      let bytes : List ℕ = bytes_of held.files file in
      one_end show_cause (PacketsEnd bytes) (packets bytes) outcome other a.1 b.1
  one_ending (ShowT2mi file) held outcome other a b = a.1 ∙ sym b.1
  one_ending (ShowFrames file) held outcome other a b =
      let bytes : List ℕ = bytes_of held.files file in
      one_end show_cause (RecordsEnd bytes) (records bytes) outcome other a.1 b.1
  one_ending (ShowConfig file) held outcome other a b =
      let bytes : List ℕ = bytes_of held.files file in
      one_end config_outcome (GivesConfig bytes) (config bytes) outcome other a b
  one_ending (Plan file) held outcome other a b =
      let bytes : List ℕ = bytes_of held.files file in
      one_end config_outcome (GivesPlan bytes) (plan bytes) outcome other a b
  one_ending (Gateway sharing file out ins) held outcome other a b =
      one_by_plan plan (bytes_of held.files file) (PlanMustEnd sharing held ins)
      (λ c x y is. gateway_one run sharing held ins c x y) outcome other a b
  one_ending (Modulate file input out) held outcome other a b =
      let bytes : List ℕ = bytes_of held.files input in
      one_by_plan plan (bytes_of held.files file) (ModulateMustEnd bytes)
      (λ c x y is m n. one_end modulate_cause (ModulateMust c bytes) (modulate c bytes) x y m.1 n.1) outcome other a b
  one_ending (Receive sharing file id input out) held outcome other a b =
      let bytes : List ℕ = bytes_of held.files input in
      one_by_plan plan (bytes_of held.files file) (ReceiveMustEnd sharing bytes id)
      (λ c x y is. one_at_place id (HasNoPlaceBy sharing c id) (IsPlaceBy sharing c id) (length bytes < longest_file)
      (λ plp. EndsAs receive_cause (ReceiveMust (joined_with sharing c plp) c plp bytes))
      (λ none plp at. never_by sharing c id plp none at)
      (λ plp k at there. one_place c id plp k (place_by sharing c id plp at) (place_by sharing c id k there))
      (λ plp p q at. one_end receive_cause (ReceiveMust (joined_with sharing c plp) c plp bytes)
      (λ r o. receive (joined_with sharing c plp) c plp bytes r o is) p q) x y) outcome other a b
  one_ending (Merge file a b out) held outcome other m n =
      let files : ℕ → List ℕ = file_at held (names_of a b) in
      one_by_plan plan (bytes_of held.files file) (MergeMustEnd held (names_of a b))
      (λ c x y is p q. one_end merge_cause (MergeMust c files) (merge c files) x y p.1 q.1) outcome other m n
  one_ending (Mend file out ins) held outcome other a b =
      let files : ℕ → List ℕ = file_at held ins in
      one_by_plan plan (bytes_of held.files file) (MendMustEnd held ins)
      (λ c x y is p q. one_end mend_cause (MustMend c (length ins) files) (one_mend c (length ins) files) x y p.1 q.1)
      outcome other a b
  one_ending (Swap file id t2mi input out) held outcome other a b =
      let files : ℕ → List ℕ = file_at held (names_of t2mi input) in
      one_by_plan plan (bytes_of held.files file) (SwapMustEnd held (names_of t2mi input) id)
      (λ c x y is. one_at_place id (HasNoPlace c id) (IsPlace c id) (AreShort held (names_of t2mi input))
      (λ plp. EndsAs swap_cause (SwapMust c plp files)) (λ none plp at. none plp at.inside at.own) (one_place c id)
      (λ plp p q at. one_end swap_cause (SwapMust c plp files) (λ r o. swap c plp files r o is at.inside) p q) x y)
      outcome other a b
  one_ending (Compare file a b) held outcome other m n =
      let files : ℕ → List ℕ = file_at held (names_of a b) in
      one_by_plan plan (bytes_of held.files file) (CompareMustEnd held (names_of a b))
      (λ c x y is p q. one_end compare_cause (CompareMust c files) (compare c files) x y p.1 q.1) outcome other m n
  one_ending (Trial seed frames) held outcome other a b = a ∙ sym b
