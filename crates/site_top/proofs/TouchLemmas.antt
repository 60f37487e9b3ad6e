-- However a command ends, it changes no file but the one that it writes.
use Rattle.std.proofs.Common.{◌≡◌, ℕ, suc, ◌+◌, ◌≤◌, ⊎_elim, List, [], ◌∷◌, ◌++◌, length, Option, Some, None, refl, ap}
use Rattle.std.proofs.Common.{sym, subst, ◌∙◌, arith, append_assoc, append-nil, length-append}
use Rattle.std.specs.Prelude.{option_map, IfSome, Result, Ok, Err}
use Rattle.std.proofs.lemmas.Option.{IfSome_then}
use Rattle.std.specs.FinMap.{get}
use Rattle.terms.proofs.OptionLemmas.{append-none, append_twice, none_some}
use Rattle.ports.specs.Desk.{State, Held, with_name}
use Rattle.plp_config.specs.declared.config.Config.{Config}
use Rattle.file_run.specs.ConfigFile.{ReadsText, FailsToRead, Gives, GivesNone, GivesNoPlan}
use Rattle.file_run.specs.declared.config_stop.ConfigStop.{ConfigStop}
use Rattle.file_run.specs.declared.config_stop.ConfigStop.TheVariants as config
use Rattle.file_run.specs.Opening.{Opened, Unopened}
use Rattle.file_run.specs.FileRun as running
use Rattle.file_run.specs.FileRun.{SameFiles}
use Rattle.file_run.specs.Work.{Work, Sink, Into, Aloud, Ends as RunEnds}
use Rattle.file_run.specs.declared.stop.RunFault.TheVariants as run_fault
use Rattle.file_run.specs.declared.stop.RunStop.{RunStop}
use Rattle.file_run.specs.declared.stop.RunStop.TheVariants as run
use Rattle.file_run.proofs.EndsLemmas.{OthersOf, leaves_alone}
use Rattle.file_run.specs.Sink.{creates}
use Rattle.gateway_run.specs.GatewayRun.{gateway_work}
use Rattle.modulate_run.specs.ModulateRun.{modulate_work}
use Rattle.common_plp.specs.Sharing.{joined_with}
use Rattle.receive_run.specs.JoinedRun.{receive_work}
use Rattle.feed_merge.specs.Fed.{names_of}
use Rattle.merge_run.specs.MergeRun.{merge_work}
use Rattle.mend_run.specs.MendRun.{mend_work}
use Rattle.swap_run.specs.SwapRun.{swap_work}
use Rattle.compare_run.specs.CompareRun.{compare_work}
use Rattle.show_run.specs.Shows.{Shows, ReadsFile}
use Rattle.show_run.specs.declared.stop.ShowStop.{ShowStop}
use Rattle.site_top.specs.declared.outcome.Outcome.{Outcome}
use Rattle.site_top.specs.declared.outcome.Outcome.TheVariants as outcome
use Rattle.site_top.specs.Commands.{Command, ShowPackets, ShowT2mi, ShowFrames, ShowConfig, Plan, Gateway, Modulate}
use Rattle.site_top.specs.Commands.{Receive, Merge, Mend, Swap, Trial, Compare}
use Rattle.site_top.specs.CompareCommand as compares
use Rattle.site_top.specs.ConfigCommands.{ShowsConfig, Plans}
use Rattle.site_top.specs.GatewayCommand as gateways
use Rattle.site_top.specs.MendCommand as mends
use Rattle.site_top.specs.MergeCommand as merges
use Rattle.site_top.specs.ModulateCommand as modulates
use Rattle.site_top.specs.ReceiveCommand.{receive_line}
use Rattle.site_top.specs.Reception as receives
use Rattle.site_top.specs.Endings.{Ends}
use Rattle.site_top.specs.Laws.{OnlyOutChanges}
use Rattle.site_top.specs.Outcomes.{gateway_cause, modulate_cause, receive_cause, merge_cause, mend_cause, swap_cause}
use Rattle.site_top.specs.PlanCommand.{RunsAndTells, ByPlan}
use Rattle.site_top.specs.Runs.{Does}
use Rattle.site_top.specs.Saying.{Tells}
use Rattle.site_top.specs.SwapCommand as swaps
use Rattle.site_top.specs.TrialCommand.{Tries}
use Rattle.site_top.specs.Touches.{OthersStay, Touches, outs, out_of, ins_of}

-- files that are the same
same_files : (out : Option (List ℕ)) (old new : Option Held) → new ≡ old → OthersStay out old new
same_files out None new e = e
same_files out (Some h) new e = (h, e, λ name apart. refl)

named_files : (out : Option (List ℕ)) (name : List ℕ) (old new : Option Held) → new ≡ option_map (with_name name) old
    → OthersStay out old new
named_files out name None new e = e
named_files out name (Some h) new e = (with_name name h, e, λ name apart. refl)

files_then : (out : Option (List ℕ)) (old mid new : Option Held) → OthersStay out old mid → OthersStay out mid new
    → OthersStay out old new
files_then out None None new first second = second
files_then out None (Some k) new first second = none_some k (sym first)
files_then out (Some h) mid new first second =
    let both = subst (λ (m : Option Held). OthersStay out m new) first.1 second in
    (both.0, both.1, λ name apart. both.2 name apart ∙ first.2 name apart)

nothing_files : (out : Option (List ℕ)) (old new : Option Held) → SameFiles old new → OthersStay out old new
nothing_files out None new e = e
nothing_files out (Some h) new same = (same.0, same.1, λ name apart. ap (λ files. get files name) same.2)

out_files : (out : List ℕ) (old new : Option Held) → running.OtherFiles out old new → OthersStay (Some out) old new
out_files out None new e = e
out_files out (Some h) new same = (
  same.0,
  same.1,
  λ name apart. same.2 name
      (λ (e : name ≡ out). apart (ap Some (sym e))),
)

-- nothing was done
untouched : (out : Option (List ℕ)) (reads : ℕ) (old new : State) → new ≡ old → Touches out reads old new
untouched out reads old new same = record {
  files = same_files out old.held new.held (ap (λ (s : State). s.held) same);
  created = subst (λ (s : State). s.created ≤ old.created + outs out) (sym same) (omega arith);
  places = [];
  opened = ap (λ (s : State). s.opened) same ∙ sym (append-nil old.opened);
  few = omega arith;
  texts = [];
  said = ap (λ (s : State). s.said) same ∙ append-none old.said;
}

-- one thing, and then another
then_touched : (out : Option (List ℕ)) (first second : ℕ) (old mid new : State) → Touches out first old mid
    → mid.created ≡ old.created → Touches out second mid new → Touches out (first + second) old new
then_touched out first second old mid new a none b = record {
  files = files_then out old.held mid.held new.held a.files b.files;
  created = subst (λ (n : ℕ). new.created ≤ n + outs out) none b.created;
  places = a.places ++ b.places;
  opened = b.opened ∙ ap (λ (l : List ℕ). l ++ b.places) a.opened ∙ append_assoc old.opened a.places b.places;
  few = subst (λ (n : ℕ). n ≤ first + second) (sym (length-append a.places b.places)) (omega (arith, a.few, b.few));
  texts = a.texts ++ b.texts;
  said = b.said ∙ ap (option_map (λ (said : List (List ℕ)). said ++ b.texts)) a.said
      ∙ append_twice old.said a.texts b.texts;
}

-- and then something was said
then_said : (out : Option (List ℕ)) (reads : ℕ) (old mid new : State) (texts : List (List ℕ))
    → Touches out reads old mid
    → new.held ≡ mid.held → new.created ≡ mid.created → new.opened ≡ mid.opened
    → new.said ≡ option_map (λ (said : List (List ℕ)). said ++ texts) mid.said → Touches out reads old new
then_said out reads old mid new texts a held created opened said = record {
  files = subst (OthersStay out old.held) (sym held) a.files;
  created = subst (λ (n : ℕ). n ≤ old.created + outs out) (sym created) a.created;
  places = a.places;
  opened = opened ∙ a.opened;
  few = a.few;
  texts = a.texts ++ texts;
  said = said ∙ ap (option_map (λ (said : List (List ℕ)). said ++ texts)) a.said ∙ append_twice old.said a.texts texts;
}

told : (out : Option (List ℕ)) (reads : ℕ) (old mid new : State) (text : List ℕ) (result : Outcome)
    → Touches out reads old mid
    → Tells mid new text result → Touches out reads old new
told out reads old mid new text outcome.Done a tells =
    then_said out reads old mid new (text ∷ []) a tells.0.held tells.0.created tells.0.opened tells.0.said
told out reads old mid new text outcome.WriteFault a tells =
    then_said out reads old mid new [] a tells.0.held tells.0.created tells.0.opened (tells.0.said
    ∙ append-none mid.said)
told out reads old mid new text result a tells = absurd tells

-- a file was opened
opened_one : (out : Option (List ℕ)) (old new : State) (name : List ℕ) (given : ℕ) (texts : List (List ℕ))
    → Opened old new name given → new.said ≡ option_map (λ (said : List (List ℕ)). said ++ texts) old.said
    → Touches out 1 old new
opened_one out old new name given texts o said = record {
  files = named_files out name old.held new.held o.held;
  created = subst (λ (n : ℕ). n ≤ old.created + outs out) (sym o.created) (omega arith);
  places = given ∷ [];
  opened = o.opened;
  few = omega arith;
  texts = texts;
  said = said;
}

unopened : (out : Option (List ℕ)) (old new : State) → Unopened old new → Touches out 1 old new
unopened out old new u = record {
  files = same_files out old.held new.held u.held;
  created = subst (λ (n : ℕ). n ≤ old.created + outs out) (sym u.created) (omega arith);
  places = [];
  opened = u.opened ∙ sym (append-nil old.opened);
  few = omega arith;
  texts = [];
  said = u.said ∙ append-none old.said;
}

-- CONFIG was read
text_read : (out : Option (List ℕ)) (old new : State) (name : List ℕ) → ReadsText old new name → Touches out 1 old new
text_read out old new name r = opened_one out old new name r.given [] r.opened (r.said ∙ append-none old.said)

text_failed : (out : Option (List ℕ)) (old new : State) (name : List ℕ) → FailsToRead old new name
    → Touches out 1 old new
text_failed out old new name f =
    ⊎_elim (λ u. unopened out old new u) (λ o. opened_one out old new name o.0 [] o.1 (o.3 ∙ append-none old.said))
    f.way

gives_none : (out : Option (List ℕ)) (old new : State) (name : List ℕ) (stop : ConfigStop) → GivesNone old new name stop
    → Touches out 1 old new
gives_none out old new name (config.Refused cause) g = text_read out old new name g.0
gives_none out old new name config.ReadFault g = text_failed out old new name g
gives_none out old new name config.OutOfMemory g =
    ⊎_elim (λ (same : new ≡ old). untouched out 1 old new same) (λ (r : ReadsText old new name). text_read
    out old new name r) g
gives_none out old new name (config.Lacks fault) g = absurd g

gives_no_plan : (out : Option (List ℕ)) (old new : State) (name : List ℕ) (stop : ConfigStop)
    → GivesNoPlan old new name stop
    → Touches out 1 old new
gives_no_plan out old new name (config.Refused cause) g = gives_none out old new name (config.Refused cause) g
gives_no_plan out old new name config.ReadFault g = gives_none out old new name config.ReadFault g
gives_no_plan out old new name config.OutOfMemory g = gives_none out old new name config.OutOfMemory g
gives_no_plan out old new name (config.Lacks fault) g = text_read out old new name g.1.reads

-- what follows CONFIG
behind : (out : Option (List ℕ)) (reads : ℕ) (old mid new : State) (name : List ℕ) (c : Config) → Gives old mid name c
    → Touches out reads mid new → Touches out (1 + reads) old new
behind out reads old mid new name c g t =
    then_touched out 1 reads old mid new (text_read out old mid name g.reads) g.reads.opened.created t

-- nothing follows
fewer : (out : Option (List ℕ)) (reads : ℕ) (old new : State) → Touches out 1 old new → Touches out (1 + reads) old new
fewer out reads old new t = record {
  files = t.files;
  created = t.created;
  places = t.places;
  opened = t.opened;
  few = omega (arith, t.few);
  texts = t.texts;
  said = t.said;
}

-- a command by the plan of CONFIG
plan_then : (Follows : Config → State → State → Outcome → Type 0) (out : Option (List ℕ)) (reads : ℕ)
    → ((c : Config) (mid new : State) (result : Outcome) → Follows c mid new result → Touches out reads mid new)
    → (old new : State) (config : List ℕ) (result : Outcome) → ByPlan old new config Follows result
    → Touches out (1 + reads) old new
plan_then Follows out reads follows old new config result b = ⊎_elim
    (λ n. fewer out reads old new (gives_no_plan out old new config n.0 n.1))
    (λ p. behind out reads old p.1 new config p.0 p.2 (follows p.0 p.1 new result p.4)) b

-- a run that does a work
abbrev written_by : Sink → Option (List ℕ)
written_by (Into out) = Some out
written_by Aloud = None

others_stay : (sink : Sink) (old new : Option Held) → OthersOf sink old new → OthersStay (written_by sink) old new
others_stay (Into out) old new same = out_files out old new same
others_stay Aloud old new same = nothing_files None old new same

as_many : (sink : Sink) → creates sink ≡ outs (written_by sink)
as_many (Into out) = refl
as_many Aloud = refl

work_touches : {R E : Type 0} (work : Work R E) (sink : Sink) (ins : List (List ℕ)) (old new : State)
    (result : Result R (RunStop E))
    → RunEnds work old new sink ins result → Touches (written_by sink) (length ins) old new
work_touches work sink ins old new result ends =
    let left = leaves_alone work old new sink ins result ends in
    record {
      files = others_stay sink old.held new.held left.files;
      created = subst (λ (n : ℕ). new.created ≤ old.created + n) (as_many sink) left.created;
      places = left.places;
      opened = left.opened;
      few = left.few;
      texts = left.said.texts;
      said = left.said.said;
    }

-- so too if its line is told
runs_touch : {R E : Type 0} (work : Work R E) (out : List ℕ) (ins : List (List ℕ))
    (Ends : State → State → R → Type 0) (Stops : State → State → RunStop E → Type 0) (line : R → List ℕ)
    (cause : E → Outcome)
    → ((a b : State) (stop : RunStop E) → Stops a b stop → RunEnds work a b (Into out) ins (Err stop))
    → ((a b : State) (ran : R) → Ends a b ran → RunEnds work a b (Into out) ins (Ok ran))
    → (mid new : State) (result : Outcome) → RunsAndTells Ends Stops line cause mid new result
    → Touches (Some out) (length ins) mid new
runs_touch work out ins Ends Stops line cause stopped ended mid new result r = ⊎_elim
    (λ s. work_touches work (Into out) ins mid new (Err s.0) (stopped mid new s.0 s.1))
    (λ a. told (Some out) (length ins) mid a.1 new (line a.0) result
    (work_touches work (Into out) ins mid a.1 (Ok a.0) (ended mid a.1 a.0 a.2)) a.3) r

-- a file that is shown
file_read : (old new : State) (name : List ℕ) (given : ℕ) (texts : List (List ℕ)) (result : Result ℕ (RunStop ShowStop))
    → ReadsFile old new name given result → new.said ≡ option_map (λ (said : List (List ℕ)). said ++ texts) old.said
    → Touches None 1 old new
file_read old new name given texts (Ok count) r said = opened_one None old new name given texts r.0 said
file_read old new name given texts (Err (run.Refused why)) r said = opened_one None old new name given texts r.0 said
file_read old new name given texts (Err (run.Files (run_fault.TooLong input))) r said =
    opened_one None old new name given texts r.1 said
file_read old new name given texts (Err (run.Files (run_fault.ReadFault input))) r said =
    ⊎_elim (λ u. unopened None old new u.0) (λ o. opened_one None old new name given texts o.0 said) r.1
file_read old new name given texts (Err (run.Files run_fault.WriteFault)) r said =
    opened_one None old new name given texts r.0 said
file_read old new name given texts (Err run.OutOfMemory) r said = untouched None 1 old new r

shown_touches : {IsText : List ℕ → ℕ → Result ℕ (RunStop ShowStop) → List ℕ → List ℕ → Type 0} (old new : State)
    (name : List ℕ)
    (result : Result ℕ (RunStop ShowStop)) → Shows IsText old new name result → Touches None 1 old new
shown_touches old new name result s = file_read old new name s.given s.grew.texts result s.reads s.grew.said

-- a configuration that is shown, and a plan
config_touches : (old new : State) (name : List ℕ) (result : Outcome) → ShowsConfig old new name result
    → Touches None 1 old new
config_touches old new name result s = ⊎_elim
    (λ n. gives_none None old new name n.0 n.1)
    (λ g. told None 1 old g.1 new _ result (text_read None old g.1 name g.2.reads) g.3) s

plan_touches : (old new : State) (name : List ℕ) (result : Outcome) → Plans old new name result → Touches None 1 old new
plan_touches old new name result s = ⊎_elim
    (λ n. gives_no_plan None old new name n.0 n.1)
    (λ g. told None 1 old g.2 new _ result (text_read None old g.2 name g.3.reads) g.6) s

-- a trial
trial_touches : (old new : State) (seed frames : ℕ) (result : Outcome) → Tries old new seed frames result
    → Touches None 0 old new
trial_touches old new seed frames result s = ⊎_elim
    (λ n. untouched None 0 old new n.1)
    (λ t. told None 0 old old new _ result (untouched None 0 old old refl) t.2) s

pub only_out_changes : OnlyOutChanges
only_out_changes (ShowPackets file) old new result does = shown_touches old new file does.0 does.1
only_out_changes (ShowT2mi file) old new result does = shown_touches old new file does.0 does.1
only_out_changes (ShowFrames file) old new result does = shown_touches old new file does.0 does.1
only_out_changes (ShowConfig file) old new result does = config_touches old new file result does
only_out_changes (Plan config) old new result does = plan_touches old new config result does
only_out_changes (Gateway sharing config out ins) old new result does =
    let more : 1 + length ins ≡ suc (length ins) = omega arith in
    subst (λ (n : ℕ). Touches (Some out) n old new) more
    (plan_then (gateways.Follows sharing out ins) (Some out) (length ins)
    (λ c mid after end f. ⊎_elim (λ none. untouched (Some out) (length ins) mid after none.0)
    (λ all. runs_touch (gateway_work sharing c) out ins (gateways.Ends sharing out ins c)
    (gateways.StopsSo sharing out ins c) gateways.gateway_line gateway_cause (λ a b stop s. s) (λ a b ran e. e)
    mid after end all.1) f) old new config result does)
only_out_changes (Modulate config file out) old new result does =
    plan_then (modulates.Follows file out) (Some out) 1
    (λ c. runs_touch (modulate_work c) out (file ∷ []) (modulates.Ends file out c) (modulates.StopsSo file out c)
    modulates.modulate_line modulate_cause (λ a b stop s. s.0) (λ a b ran e. e.0)) old new config result does
only_out_changes (Receive sharing config id file out) old new result does =
    plan_then (receives.Follows sharing id file out) (Some out) 1
    (λ c mid after end f. ⊎_elim (λ none. untouched (Some out) 1 mid after none.1)
    (λ all. runs_touch (receive_work (joined_with sharing c all.0) c all.0) out (file ∷ [])
    (receives.Ends sharing file out c all.0) (receives.StopsSo sharing file out c all.0) receive_line receive_cause
    (λ a b stop s. s) (λ a b ran e. e.0) mid after end all.2) f) old new config result does
only_out_changes (Merge config a b out) old new result does =
    plan_then (merges.Follows a b out) (Some out) 2
    (λ c. runs_touch (merge_work c) out (names_of a b) (merges.Ends a b out c) (merges.StopsSo a b out c)
    merges.merge_line merge_cause (λ x y stop s. s) (λ x y ran e. e.0)) old new config result does
only_out_changes (Mend config out ins) old new result does =
    let more : 1 + length ins ≡ suc (length ins) = omega arith in
    subst (λ (n : ℕ). Touches (Some out) n old new) more
    (plan_then (mends.Follows out ins) (Some out) (length ins)
    (λ c. runs_touch (mend_work c (length ins)) out ins (mends.Ends out ins c) (mends.StopsSo out ins c)
    mends.mend_line mend_cause (λ a b stop s. s) (λ a b ran e. e.0)) old new config result does)
only_out_changes (Swap config id t2mi file out) old new result does =
    plan_then (swaps.Follows id t2mi file out) (Some out) 2
    (λ c mid after end f. ⊎_elim (λ none. untouched (Some out) 2 mid after none.1)
    (λ all. runs_touch (swap_work c all.0) out (names_of t2mi file) (swaps.Ends t2mi file out c all.0)
    (swaps.StopsSo t2mi file out c all.0) swaps.swap_line swap_cause (λ a b stop s. s) (λ a b ran e. e.0)
    mid after end all.2) f) old new config result does
only_out_changes (Compare config a b) old new result does =
    plan_then (compares.Follows a b) None 2
    (λ c mid after end f. work_touches (compare_work c) Aloud (names_of a b) mid after f.0 f.1)
    old new config result does
only_out_changes (Trial seed frames) old new result does = trial_touches old new seed frames result does

-- its last line changes nothing of that
touched_at_end : (out : Option (List ℕ)) (reads : ℕ) (old mid new : State) (result : Outcome)
    → Touches out reads old mid
    → Ends mid new result → Touches out reads old new
touched_at_end out reads old mid new outcome.Done t e = subst (Touches out reads old) (sym e) t
touched_at_end out reads old mid new result t e = ⊎_elim
    (λ s. then_said out reads old mid new _ t s.0.held s.0.created s.0.opened s.0.said)
    (λ k. then_said out reads old mid new [] t k.0.held k.0.created k.0.opened (k.0.said ∙ append-none mid.said)) e.said

pub run_touches : OnlyOutChanges → (command : Option Command) (old mid new : State) (result : Outcome)
    → IfSome command (λ c. Does c old mid result) → Ends mid new result
    → IfSome command (λ c. Touches (out_of c) (length (ins_of c)) old new)
run_touches law command old mid new result does ends =
    IfSome_then command does (λ c did. touched_at_end (out_of c) (length (ins_of c)) old mid new result
    (law c old mid result did) ends)
