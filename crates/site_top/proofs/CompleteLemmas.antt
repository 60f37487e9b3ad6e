-- Every command is complete: if nothing outside fails, it ends as its files say.
use Rattle.std.proofs.Common.{◌≡◌, ◌⊎◌, ℕ, zero, suc, ◌<◌, ◌≤◌, ◌^◌, inl, inr, ⊎_elim, List, [], ◌∷◌, length, Option}
use Rattle.std.proofs.Common.{Some, None, refl, ap, sym, subst, ◌∙◌, arith}
use Rattle.std.specs.Prelude.{IfSome, option_map, nat_lt, Result, Ok, Err}
use Rattle.std.specs.List.{list_all}
use Rattle.std.proofs.lemmas.Option.{IfSome_then}
use Rattle.std.proofs.lemmas.Bool.{ltb-true, and_parts}
use Rattle.std.proofs.lemmas.List.Folds.{list_all-append}
use Rattle.terms.proofs.OptionLemmas.{if_any, if_both}
use Rattle.modulator.specs.StandsFor.{records_of}
use Rattle.frame_groups.specs.Modulated.{FrameRecord}
use Rattle.ports.specs.Counts.{Rose}
use Rattle.ports.specs.Desk.{State, Held, SameCounts, with_name, bytes_of}
use Rattle.plp_config.specs.Places.{IsPlace, HasNoPlace}
use Rattle.plp_config.specs.declared.config.Config.{Config}
use Rattle.plp_config.specs.declared.moment.TheConstants.{MOST_FRAMES}
use Rattle.file_run.specs.ConfigFile.{GivesNone, GivesNoPlan}
use Rattle.file_run.specs.ConfigLaws.{GivesConfig, GivesPlan, OnePlan}
use Rattle.file_run.specs.declared.config_stop.ConfigStop.{ConfigStop}
use Rattle.file_run.specs.declared.config_stop.ConfigStop.TheVariants as config
use Rattle.file_run.specs.Reading.{longest_file}
use Rattle.file_run.specs.FileRun.{file_at}
use Rattle.file_run.specs.Work.{Work, Sink, Into, Aloud, IsRightAtEnd, Ends as RunEnds}
use Rattle.file_run.specs.declared.stop.RunFault.TheVariants as run_fault
use Rattle.file_run.specs.declared.stop.RunStop.{RunStop}
use Rattle.file_run.specs.declared.stop.RunStop.TheVariants as run
use Rattle.file_run.proofs.EndsLemmas.{decides}
use Rattle.gateway_run.specs.GatewayRun.{gateway_work}
use Rattle.gateway_run.specs.Laws.{MustRun as GatewayMust}
use Rattle.gateway_run.specs.declared.stop.GatewayRan.{GatewayRan}
use Rattle.gateway_run.specs.declared.stop.GatewayStop.{GatewayStop}
use Rattle.gateway_run.specs.declared.stop.GatewayStop.TheVariants as gateway
use Rattle.modulate_run.specs.Laws.{MustRun as ModulateMust}
use Rattle.modulate_run.specs.ModulateRun.{AreEarly, HasEarly, modulate_work}
use Rattle.modulate_run.specs.declared.stop.ModulateRan.{ModulateRan}
use Rattle.modulate_run.specs.declared.stop.ModulateStop.{ModulateStop}
use Rattle.modulate_run.specs.declared.stop.ModulateStop.TheVariants as modulate
use Rattle.common_plp.specs.Inputs.{input_count}
use Rattle.common_plp.specs.Sharing.{Sharing, joined_with, IsPlaceBy, HasNoPlaceBy}
use Rattle.receive_run.specs.JoinedLaws.{MustRun as ReceiveMust}
use Rattle.receive_run.specs.JoinedRun.{receive_work}
use Rattle.receive_run.specs.declared.stop.ReceiveRan.{ReceiveRan}
use Rattle.receive_run.specs.declared.stop.ReceiveStop.{ReceiveStop}
use Rattle.receive_run.specs.declared.stop.ReceiveStop.TheVariants as receive
use Rattle.merge_run.specs.Laws.{MustRun as MergeMust}
use Rattle.merge_run.specs.MergeRun.{merge_work}
use Rattle.feed_merge.specs.Fed.{names_of}
use Rattle.merge_run.specs.declared.stop.MergeRan.{MergeRan}
use Rattle.merge_run.specs.declared.stop.MergeStop.{MergeStop}
use Rattle.merge_run.specs.declared.stop.MergeStop.TheVariants as merge
use Rattle.mend_run.specs.MendRun.{mend_work}
use Rattle.mend_run.specs.declared.stop.MendRan.{MendRan}
use Rattle.mend_run.specs.declared.stop.MendStop.{MendStop}
use Rattle.mend_run.specs.declared.stop.MendStop.TheVariants as mend
use Rattle.swap_run.specs.Laws.{MustRun as SwapMust}
use Rattle.swap_run.specs.SwapRun.{swap_work}
use Rattle.swap_run.specs.declared.stop.SwapRan.{SwapRan}
use Rattle.swap_run.specs.declared.stop.SwapStop.{SwapStop}
use Rattle.swap_run.specs.declared.stop.SwapStop.TheVariants as swap
use Rattle.compare_run.specs.CompareRun.{compare_work}
use Rattle.compare_run.specs.Laws.{MustRun as CompareMust}
use Rattle.compare_run.specs.declared.stop.CompareStop.{CompareStop}
use Rattle.compare_run.specs.declared.stop.CompareStop.TheVariants as compare
use Rattle.compare_run.specs.declared.counts.CompareRan.{CompareRan}
use Rattle.show_run.specs.PacketText.{IsPacketText}
use Rattle.show_run.specs.RecordText.{IsRecordText}
use Rattle.show_run.specs.Shows.{Counted}
use Rattle.show_run.specs.T2miText.{IsT2miText}
use Rattle.show_run.specs.declared.stop.ShowStop.{ShowStop}
use Rattle.show_run.specs.declared.stop.ShowStop.TheVariants as show
use Rattle.site_top.specs.declared.outcome.Outcome.{Outcome}
use Rattle.site_top.specs.declared.outcome.Outcome.TheVariants.{Done, ReadFault, WriteFault, OutOfMemory}
use Rattle.site_top.specs.Commands.{Command, ShowPackets, ShowT2mi, ShowFrames, ShowConfig, Plan, Gateway, Modulate}
use Rattle.site_top.specs.Commands.{Receive, Merge, Mend, Swap, Trial, Compare}
use Rattle.site_top.specs.CompareCommand as compares
use Rattle.site_top.specs.Outcomes.{compare_cause}
use Rattle.site_top.specs.Runs.{CompareMustEnd}
use Rattle.site_top.specs.ConfigCommands.{ShowsConfig, Plans}
use Rattle.trial_run.specs.declared.stop.TrialStop.TheVariants as trial
use Rattle.site_top.specs.GatewayCommand as gateways
use Rattle.site_top.specs.Laws.{OneEnding, Completeness}
use Rattle.site_top.specs.MendCommand as mends
use Rattle.site_top.specs.MendCommand.{MustMend}
use Rattle.site_top.specs.MergeCommand as merges
use Rattle.site_top.specs.ModulateCommand as modulates
use Rattle.site_top.specs.Outcomes.{run_outcome, stop_outcome, config_outcome, gateway_cause, modulate_cause}
use Rattle.site_top.specs.Outcomes.{receive_cause, merge_cause, mend_cause, swap_cause, show_cause}
use Rattle.site_top.specs.PlanCommand.{RunsAndTells, ByPlan}
use Rattle.site_top.specs.ReceiveCommand.{receive_line}
use Rattle.site_top.specs.Reception as receives
use Rattle.site_top.specs.Runs.{PlanMustEnd, ModulateMustEnd, ReceiveMustEnd, MergeMustEnd, OverPlan, MustEnd}
use Rattle.site_top.specs.Runs.{IsComplete, MendMustEnd, SwapMustEnd, AreShort}
use Rattle.site_top.specs.Saying.{Tells}
use Rattle.site_top.specs.SwapCommand as swaps
use Rattle.site_top.specs.TrialCommand.{Tries}
use Rattle.site_top.proofs.EndingLemmas.{EndsAs, AtPlace, not_both, same_plan}
use Rattle.site_top.proofs.PlaceLemmas.{never_by}

-- How a run came to its outcome: by its files, if something is so of what must be; or by a fault, or want of memory.
abbrev By : (State → State → Outcome → Type 0)
By old new result = Rose old.counts.reads new.counts.reads ⊎ (Rose old.counts.writes new.counts.writes
    ⊎ (result ≡ OutOfMemory))

failed : (command : Command) (old new : State) (result : Outcome) → By old new result
    → IsComplete command old new result
failed command old new result by = if_any old.held _ (λ held. λ outcome must r w.
    ⊎_elim (λ x. absurd (r x)) (⊎_elim (λ x. absurd (w x)) (λ (x : result ≡ OutOfMemory). inr (inl x))) by)

decided : OneEnding → (command : Command) (old new : State) (result : Outcome)
    → IfSome old.held (λ held. (outcome : Outcome) → MustEnd command held outcome → MustEnd command held result)
    → IsComplete command old new result
decided law command old new result s =
    IfSome_then old.held s (λ held f. λ outcome must r w. inl (law command held result outcome (f outcome must) must))

-- a file of packets
packets_so : OneEnding → (file : List ℕ) (old new : State) (given : ℕ) (text unsaid : List ℕ)
    (shown : Result ℕ (RunStop ShowStop))
    → IfSome old.held (λ held. IsPacketText (bytes_of held.files file) given shown text unsaid) → Counted old new shown
    →
    IsComplete (ShowPackets file) old new (run_outcome (stop_outcome show_cause) shown)
packets_so law file old new given text unsaid (Ok count) s counts =
    decided law (ShowPackets file) old new Done
    (IfSome_then old.held s (λ held x. λ outcome must. (must.0, (Ok count, (x.0, x.1, x.2), refl))))
packets_so law file old new given text unsaid (Err (run.Refused (show.PacketRefused at why))) s counts =
    decided law (ShowPackets file) old new (show_cause (show.PacketRefused at why))
    (IfSome_then old.held s
    (λ held x. λ outcome must. (must.0, (Err (show.PacketRefused at why), (x.0, x.1, x.2, x.3, x.4), refl))))
packets_so law file old new given text unsaid (Err (run.Refused (show.RecordRefused number why))) s counts =
    IfSome_then old.held s (λ held x. absurd x)
packets_so law file old new given text unsaid (Err (run.Files (run_fault.TooLong input))) s counts =
    IfSome_then old.held s (λ held x. λ outcome must r w. let many : 2 ^ 40 ≤ length (bytes_of held.files file) = x.0 in
    absurd (omega (arith, many, must.0)))
packets_so law file old new given text unsaid (Err (run.Files (run_fault.ReadFault input))) s counts =
    failed (ShowPackets file) old new ReadFault (inl counts.0.rose)
packets_so law file old new given text unsaid (Err (run.Files run_fault.WriteFault)) s counts =
    failed (ShowPackets file) old new WriteFault (inr (inl counts.rose))
packets_so law file old new given text unsaid (Err run.OutOfMemory) s counts =
    failed (ShowPackets file) old new OutOfMemory (inr (inr refl))
packets_so law file old new given text unsaid (Err (run.Refused show.NoRoom)) s counts = failed (ShowPackets file)
    old new OutOfMemory (inr (inr refl))

-- a file of records
records_so : OneEnding → (file : List ℕ) (old new : State) (given : ℕ) (text unsaid : List ℕ)
    (shown : Result ℕ (RunStop ShowStop))
    → IfSome old.held (λ held. IsRecordText (bytes_of held.files file) given shown text unsaid) → Counted old new shown
    →
    IsComplete (ShowFrames file) old new (run_outcome (stop_outcome show_cause) shown)
records_so law file old new given text unsaid (Ok count) s counts =
    decided law (ShowFrames file) old new Done
    (IfSome_then old.held s (λ held x. λ outcome must. (must.0, (Ok count, (x.0, x.1, x.2), refl))))
records_so law file old new given text unsaid (Err (run.Refused (show.PacketRefused at why))) s counts =
    IfSome_then old.held s (λ held x. absurd x)
records_so law file old new given text unsaid (Err (run.Refused (show.RecordRefused number why))) s counts =
    decided law (ShowFrames file) old new (show_cause (show.RecordRefused number why))
    (IfSome_then old.held s
    (λ held x. λ outcome must. (must.0, (Err (show.RecordRefused number why), (x.0, x.1, x.2.0, x.3, x.4), refl))))
records_so law file old new given text unsaid (Err (run.Files (run_fault.TooLong input))) s counts =
    IfSome_then old.held s (λ held x. λ outcome must r w. let many : 2 ^ 40 ≤ length (bytes_of held.files file) = x.0 in
    absurd (omega (arith, many, must.0)))
records_so law file old new given text unsaid (Err (run.Files (run_fault.ReadFault input))) s counts =
    failed (ShowFrames file) old new ReadFault (inl counts.0.rose)
records_so law file old new given text unsaid (Err (run.Files run_fault.WriteFault)) s counts =
    failed (ShowFrames file) old new WriteFault (inr (inl counts.rose))
records_so law file old new given text unsaid (Err run.OutOfMemory) s counts =
    failed (ShowFrames file) old new OutOfMemory (inr (inr refl))
records_so law file old new given text unsaid (Err (run.Refused show.NoRoom)) s counts = failed (ShowFrames file)
    old new OutOfMemory (inr (inr refl))

-- a file of units
t2mi_so : (file : List ℕ) (old new : State) (given : ℕ) (text unsaid : List ℕ) (shown : Result ℕ (RunStop ShowStop))
    → IfSome old.held (λ held. IsT2miText (bytes_of held.files file) given shown text unsaid) → Counted old new shown →
    IsComplete (ShowT2mi file) old new (run_outcome (stop_outcome show_cause) shown)
t2mi_so file old new given text unsaid (Ok count) s counts = IfSome_then old.held s
    (λ held x. λ outcome must r w. inl (sym must.1))
t2mi_so file old new given text unsaid (Err (run.Refused (show.PacketRefused at why))) s counts = IfSome_then
    old.held s (λ held x. absurd x)
t2mi_so file old new given text unsaid (Err (run.Refused (show.RecordRefused number why))) s counts =
    IfSome_then old.held s (λ held x. absurd x)
t2mi_so file old new given text unsaid (Err (run.Files (run_fault.TooLong input))) s counts =
    IfSome_then old.held s (λ held x. λ outcome must r w. let many : 2 ^ 40 ≤ length (bytes_of held.files file) = x.0 in
    absurd (omega (arith, many, must.0)))
t2mi_so file old new given text unsaid (Err (run.Files (run_fault.ReadFault input))) s counts =
    failed (ShowT2mi file) old new ReadFault (inl counts.0.rose)
t2mi_so file old new given text unsaid (Err (run.Files run_fault.WriteFault)) s counts =
    failed (ShowT2mi file) old new WriteFault (inr (inl counts.rose))
t2mi_so file old new given text unsaid (Err run.OutOfMemory) s counts = failed (ShowT2mi file) old new
    OutOfMemory (inr (inr refl))
t2mi_so file old new given text unsaid (Err (run.Refused show.NoRoom)) s counts = failed (ShowT2mi file)
    old new OutOfMemory (inr (inr refl))

-- a file gives no configuration, or reading it failed
no_config : (old new : State) (name : List ℕ) (stop : ConfigStop) → GivesNone old new name stop
    → IfSome old.held (λ held. GivesConfig (bytes_of held.files name) (Err stop)) ⊎ By old new (config_outcome stop)
no_config old new name (config.Refused cause) n = inl n.1
no_config old new name config.ReadFault n = inr (inl n.counts.rose)
no_config old new name config.OutOfMemory n = inr (inr (inr refl))
no_config old new name (config.Lacks fault) n = absurd n

no_plan : (old new : State) (name : List ℕ) (stop : ConfigStop) → GivesNoPlan old new name stop
    → IfSome old.held (λ held. GivesPlan (bytes_of held.files name) (Err stop)) ⊎ By old new (config_outcome stop)
no_plan old new name (config.Refused cause) n = inl n.1
no_plan old new name (config.Lacks fault) n = inl (IfSome_then old.held n.1.spells (λ held x. (n.0, x, n.1.rules, n.2)))
no_plan old new name config.ReadFault n = inr (inl n.counts.rose)
no_plan old new name config.OutOfMemory n = inr (inr (inr refl))

-- a text was told, behind calls that did not fail
told : (old mid new : State) (text : List ℕ) (outcome : Outcome) → SameCounts old mid → Tells mid new text outcome
    → (outcome ≡ Done) ⊎ By old new outcome
told old mid new text Done same t = inl refl
told old mid new text WriteFault same t = inr
    (inr (inl (subst (λ counts. Rose counts.writes new.counts.writes) same t.1.rose)))
told old mid new text other same t = absurd t

config_so : OneEnding → (old new : State) (name : List ℕ) (result : Outcome) → ShowsConfig old new name result
    → IsComplete (ShowConfig name) old new result
config_so law old new name result (inl (stop, none, is)) =
    subst (IsComplete (ShowConfig name) old new) (sym is)
    (⊎_elim (λ s. decided law (ShowConfig name) old new (config_outcome stop)
    (IfSome_then old.held s (λ held x. λ outcome must. (Err stop, x, refl))))
    (failed (ShowConfig name) old new (config_outcome stop))
    (no_config old new name stop none))
config_so law old new name result (inr (c, mid, gives, tells)) =
    ⊎_elim
    (λ (done : result ≡ Done). subst (IsComplete (ShowConfig name) old new) (sym done)
    (decided law (ShowConfig name) old new Done
    (IfSome_then old.held gives.spells (λ held x. λ outcome must. (Ok c, (x, gives.rules), refl)))))
    (failed (ShowConfig name) old new result)
    (told old mid new _ result gives.reads.counts tells)

plan_so : OneEnding → (old new : State) (name : List ℕ) (result : Outcome) → Plans old new name result
    → IsComplete (Plan name) old new result
plan_so law old new name result (inl (stop, none, is)) =
    subst (IsComplete (Plan name) old new) (sym is)
    (⊎_elim (λ s. decided law (Plan name) old new (config_outcome stop)
    (IfSome_then old.held s (λ held x. λ outcome must. (Err stop, x, refl))))
    (failed (Plan name) old new (config_outcome stop))
    (no_plan old new name stop none))
plan_so law old new name result (inr (c, text, mid, gives, plan, lines, tells)) =
    ⊎_elim
    (λ (done : result ≡ Done). subst (IsComplete (Plan name) old new) (sym done)
    (decided law (Plan name) old new Done
    (IfSome_then old.held gives.spells (λ held x. λ outcome must. (Ok c, (x, plan), refl)))))
    (failed (Plan name) old new result)
    (told old mid new text result gives.reads.counts tells)

-- what is so once a file was opened was so before
before_named : (config : List ℕ) (old mid : Option Held) (P : Held → Type 0) → mid ≡ option_map (with_name config) old
    → IfSome mid P → IfSome old (λ h. P (with_name config h))
before_named config None mid P e p = tt
before_named config (Some h) mid P e p = subst (λ (o : Option Held). IfSome o P) e p

-- the same counts before
by_before : (old mid new : State) (outcome : Outcome) → SameCounts old mid → By mid new outcome → By old new outcome
by_before old mid new outcome same by =
    ⊎_elim
    (λ r. inl (subst (λ counts. Rose counts.reads new.counts.reads) same r))
    (λ o. ⊎_elim (λ w. inr (inl (subst (λ counts. Rose counts.writes new.counts.writes) same w))) (λ m. inr (inr m)) o)
    by

-- ---- a run by the plan of CONFIG

-- As an outcome that must be, this one must be.
abbrev IsEnd : (Outcome → Type 0) → Outcome → Type 0
IsEnd Must result = (outcome : Outcome) → Must outcome → Must result

-- A command by the plan of CONFIG is complete if what follows is what must be over the plan.
by_plan : OneEnding → OnePlan → (command : Command) (config : List ℕ)
    (Follows : Config → State → State → Outcome → Type 0) (Must : Held → Config → Outcome → Type 0)
    → ((held : Held) (outcome : Outcome) → MustEnd command held outcome
    → OverPlan (bytes_of held.files config) (Must held) outcome)
    → ((held : Held) (outcome : Outcome) → OverPlan (bytes_of held.files config) (Must held) outcome
    → MustEnd command held outcome)
    → ((held : Held) (c : Config) (outcome : Outcome) → IsEnd (Must (with_name config held) c) outcome
    → IsEnd (Must held c) outcome)
    → ((c : Config) (old mid new : State) (result : Outcome) → SameCounts old mid → Follows c mid new result
    → IfSome mid.held (λ h. IsEnd (Must h c) result) ⊎ By old new result)
    → (old new : State) (result : Outcome) → ByPlan old new config Follows result → IsComplete command old new result
by_plan law one command config Follows Must over back named follows old new result (inl (stop, none, is)) =
    ⊎_elim
    (λ s. decided law command old new result
    (IfSome_then old.held s (λ held x. λ outcome must. back held result (inl (stop, x, is)))))
    (λ by. failed command old new result (subst (By old new) (sym is) by))
    (no_plan old new config stop none)
by_plan law one command config Follows Must over back named follows old new result (inr (c, mid, gives, plan, f)) =
    ⊎_elim
    (λ w. decided law command old new result (if_both old.held _ _ _ (λ held x m. λ outcome must.
    back held result (go held result (x, plan) (named held c result m) outcome (over held outcome must)))
    gives.spells (before_named config old.held mid.held _ gives.reads.opened.held w)))
    (failed command old new result)
    (follows c old mid new result gives.reads.counts f)
  where
    go : (held : Held) (result : Outcome) → GivesPlan (bytes_of held.files config) (Ok c) → IsEnd (Must held c) result
        → IsEnd (OverPlan (bytes_of held.files config) (Must held)) result
    go held result gives end outcome (inl (stop, none, is)) =
        absurd (not_both one (bytes_of held.files config) stop c none gives)
    go held result gives end outcome (inr (d, given, must)) =
        let same = same_plan one (bytes_of held.files config) d c given gives in
        inr (c, gives, end outcome (subst (λ (x : Config). Must held x outcome) same must))

-- A run that does a work, by what must be of it, and of the command: if this is so, no input is too long, and it must
-- be as the run must.
module _ {R E : Type 0} (work : Work R E) (sink : Sink) (ins : List (List ℕ)) (cause : E → Outcome)
    (MustRun : Held → Result R E → Type 0) (Must : Held → Outcome → Type 0)
    (right : (h : Held) (result : Result R E) (places bytes : List ℕ)
    → IsRightAtEnd work (file_at h ins) places bytes result → MustRun h result)
    (so : (h : Held) (outcome : Outcome) → Must h outcome → AreShort h ins
    × ((result : Result R E) → MustRun h result → Must h (run_outcome cause result))) where
  -- It ended as it must, by its work at the end and as no file is too long; or a call failed.
  asked : (mid new : State) (result : Result R (RunStop E)) → RunEnds work mid new sink ins result
      → IfSome mid.held (λ h. IsEnd (Must h) (run_outcome (stop_outcome cause) result))
      ⊎ By mid new (run_outcome (stop_outcome cause) result)
  asked mid new (Ok ran) ends =
      let why = decides work mid new sink ins (Ok ran) ends in
      inl (IfSome_then mid.held why.1 (λ h w. λ outcome must. (so h outcome must).1 (Ok ran)
      (right h (Ok ran) w.0 w.1 w.2)))
  asked mid new (Err (run.Refused stop)) ends =
      let why = decides work mid new sink ins (Err (run.Refused stop)) ends in
      inl (IfSome_then mid.held why.1 (λ h w. λ outcome must. (so h outcome must).1 (Err stop)
      (right h (Err stop) w.0 w.1 w.2)))
  asked mid new (Err (run.Files (run_fault.TooLong input))) ends =
      let why = decides work mid new sink ins (Err (run.Files (run_fault.TooLong input))) ends in
      inl (IfSome_then mid.held why.1 (λ h most. λ outcome must. let few = (so h outcome must).0 input why.0 in
      absurd (omega (arith, most, few))))
  asked mid new (Err (run.Files (run_fault.ReadFault input))) ends = inr (inl ends.0.rose)
  asked mid new (Err (run.Files run_fault.WriteFault)) ends = inr (inr (inl ends.0.rose))
  asked mid new (Err run.OutOfMemory) ends = inr (inr (inr refl))

  -- So it is with the counts of before.
  asked_so : (old mid new : State) (result : Result R (RunStop E)) (outcome : Outcome) → SameCounts old mid
      → RunEnds work mid new sink ins result → outcome ≡ run_outcome (stop_outcome cause) result
      → IfSome mid.held (λ h. IsEnd (Must h) outcome) ⊎ By old new outcome
  asked_so old mid new result outcome same ends is =
      ⊎_elim (λ m. inl (subst (λ (o : Outcome). IfSome mid.held (λ h. IsEnd (Must h) o)) (sym is) m))
      (λ by. inr (by_before old mid new outcome same (subst (By mid new) (sym is) by)))
      (asked mid new result ends)

  -- A run stops or comes to its end, and its line is told.
  ways : (Ends : State → State → R → Type 0) (Stops : State → State → RunStop E → Type 0) (line : R → List ℕ)
      → ((a b : State) (stop : RunStop E) → Stops a b stop → RunEnds work a b sink ins (Err stop))
      → ((a b : State) (ran : R) → Ends a b ran → RunEnds work a b sink ins (Ok ran))
      → (old mid new : State) (outcome : Outcome) → SameCounts old mid
      → RunsAndTells Ends Stops line cause mid new outcome
      → IfSome mid.held (λ h. IsEnd (Must h) outcome) ⊎ By old new outcome
  ways Ends Stops line stopped ended old mid new outcome same (inl (stop, s, is)) =
      asked_so old mid new (Err stop) outcome same (stopped mid new stop s) is
  ways Ends Stops line stopped ended old mid new outcome same (inr (ran, after, e, tells)) =
      let ends = ended mid after ran e in
      let why = decides work mid after sink ins (Ok ran) ends in
      ⊎_elim (λ (done : outcome ≡ Done). inl (subst (λ (o : Outcome). IfSome mid.held (λ h. IsEnd (Must h) o))
      (sym done) (IfSome_then mid.held why.1 (λ h w. λ other must. (so h other must).1 (Ok ran)
      (right h (Ok ran) w.0 w.1 w.2))))) inr
      (told old after new (line ran) outcome (why.0 ∙ same) tells)

-- if it has a place
placed : {R E : Type 0} (cause : E → Outcome) (h : Held) (ins : List (List ℕ)) (id : ℕ) (Never : Type 0)
    (Place : ℕ → Type 0) (Short : Type 0) (MustRun : ℕ → Result R E → Type 0)
    → (Never → (plp : ℕ) → Place plp → ⊥) → (Short → AreShort h ins) → (plp : ℕ) → Place plp → (outcome : Outcome)
    → AtPlace id Never Place Short (λ k. EndsAs cause (MustRun k)) outcome → AreShort h ins
    × ((result : Result R E) → MustRun plp result
    → AtPlace id Never Place Short (λ k. EndsAs cause (MustRun k)) (run_outcome cause result))
placed cause h ins id Never Place Short MustRun never shorts plp at outcome (inl none) = absurd (never none.0 plp at)
placed cause h ins id Never Place Short MustRun never shorts plp at outcome (inr (other, there, short, must)) =
    (shorts short, λ result m. inr (plp, at, short, (result, m, refl)))

-- one input
one_short : (h : Held) (file : List ℕ) → length (bytes_of h.files file) < longest_file → AreShort h (file ∷ [])
one_short h file short zero lt = short
one_short h file short (suc input) lt = absurd (omega (arith, lt))

-- ---- what each run tells at its end

gateway_ran : (sharing : Sharing) (ins : List (List ℕ)) (c : Config) (h : Held)
    (result : Result GatewayRan GatewayStop) (places bytes : List ℕ)
    → IsRightAtEnd (gateway_work sharing c) (file_at h ins) places bytes result
    → GatewayMust sharing c (file_at h ins) result
gateway_ran sharing ins c h (Ok ran) places bytes all =
    (all.whole, all.frames_are, all.units_are, subst (λ (n : ℕ). n ≤ MOST_FRAMES) all.frames_are all.early)
gateway_ran sharing ins c h (Err (gateway.Bad input packet)) places bytes bad = (bad.frame, bad.meets, bad.early)
gateway_ran sharing ins c h (Err gateway.TooManyFrames) places bytes (has, begins) = has

counted_so : (sharing : Sharing) (ins : List (List ℕ)) (c : Config) → length ins ≡ input_count sharing c → (h : Held)
    (outcome : Outcome) → PlanMustEnd sharing h ins c outcome → AreShort h ins
    × ((result : Result GatewayRan GatewayStop) → GatewayMust sharing c (file_at h ins) result
    → PlanMustEnd sharing h ins c (run_outcome gateway_cause result))
counted_so sharing ins c count h outcome (inl other) = absurd (other.0 count)
counted_so sharing ins c count h outcome (inr (so, short, must)) =
    (short, λ result m. inr (count, short, (result, m, refl)))

gateway_follows : (sharing : Sharing) (out : List ℕ) (ins : List (List ℕ)) (c : Config) (old mid new : State)
    (result : Outcome) → SameCounts old mid → gateways.Follows sharing out ins c mid new result
    → IfSome mid.held (λ h. IsEnd (PlanMustEnd sharing h ins c) result) ⊎ By old new result
gateway_follows sharing out ins c old mid new result same (inl (stays, other)) =
    inl (if_any mid.held _ (λ h. λ outcome must. inl other))
gateway_follows sharing out ins c old mid new result same (inr (count, runs)) =
    ways (gateway_work sharing c) (Into out) ins gateway_cause (λ h. GatewayMust sharing c (file_at h ins))
    (λ h. PlanMustEnd sharing h ins c) (gateway_ran sharing ins c) (counted_so sharing ins c count)
    (gateways.Ends sharing out ins c) (gateways.StopsSo sharing out ins c) gateways.gateway_line
    (λ a b stop s. s) (λ a b ran e. e) old mid new result same runs

not_early : (c : Config) (file bytes : List ℕ) → HasEarly c file bytes → ¬ (AreEarly (records_of c file))
not_early c file bytes h all =
    let front = list_all-append (λ (x : FrameRecord). nat_lt x.number MOST_FRAMES) h.before (h.next ∷ h.after) in
    let whole = sym (ap (list_all (λ (x : FrameRecord). nat_lt x.number MOST_FRAMES)) h.all ∙ front) ∙ all in
    let next = (and_parts (list_all (λ (x : FrameRecord). nat_lt x.number MOST_FRAMES) h.before) _ whole).1 in
    let less = ltb-true h.next.number MOST_FRAMES (and_parts (nat_lt h.next.number MOST_FRAMES) _ next).0 in
    let n = h.number in
    absurd (omega (arith, less, n))

modulated_so : (file : List ℕ) (c : Config) (h : Held) (result : Result ModulateRan ModulateStop)
    (places bytes : List ℕ)
    → IsRightAtEnd (modulate_work c) (file_at h (file ∷ [])) places bytes result
    → ModulateMust c (bytes_of h.files file) result
modulated_so file c h (Ok ran) places bytes (whole, all) = (all.some, all.early, all.ran_is)
modulated_so file c h (Err modulate.NoSuperframe) places bytes (whole, has) = has.none
modulated_so file c h (Err modulate.TooManyFrames) places bytes early = not_early c (bytes_of h.files file) bytes early

received_so : (joins : Option ℕ) (file : List ℕ) (c : Config) (plp : ℕ) (h : Held)
    (result : Result ReceiveRan ReceiveStop) (places bytes : List ℕ)
    → IsRightAtEnd (receive_work joins c plp) (file_at h (file ∷ [])) places bytes result
    → ReceiveMust joins c plp (bytes_of h.files file) result
received_so joins file c plp h (Ok ran) places bytes (whole, all) = (bytes, all)
received_so joins file c plp h (Err (receive.RecordRefused number why)) places bytes met = (bytes, met.before)

receive_follows : (sharing : Sharing) (id : ℕ) (file out : List ℕ) (c : Config) (old mid new : State) (result : Outcome)
    → SameCounts old mid → receives.Follows sharing id file out c mid new result
    → IfSome mid.held (λ h. IsEnd (ReceiveMustEnd sharing (bytes_of h.files file) id c) result) ⊎ By old new result
receive_follows sharing id file out c old mid new result same (inl (none, stay, is)) =
    inl (if_any mid.held _ (λ h. λ outcome must. inl (none, is)))
receive_follows sharing id file out c old mid new result same (inr (plp, at, runs)) =
    ways (receive_work (joined_with sharing c plp) c plp) (Into out) (file ∷ []) receive_cause
    (λ h. ReceiveMust (joined_with sharing c plp) c plp (bytes_of h.files file))
    (λ h. ReceiveMustEnd sharing (bytes_of h.files file) id c) (received_so (joined_with sharing c plp) file c plp)
    (λ h. placed receive_cause h (file ∷ []) id (HasNoPlaceBy sharing c id) (IsPlaceBy sharing c id)
    (length (bytes_of h.files file) < longest_file)
    (λ k. ReceiveMust (joined_with sharing c k) c k (bytes_of h.files file))
    (λ none k there. never_by sharing c id k none there) (one_short h file) plp at)
    (receives.Ends sharing file out c plp) (receives.StopsSo sharing file out c plp) receive_line
    (λ a b stop s. s) (λ a b ran e. e.0) old mid new result same runs

merged_so : (ins : List (List ℕ)) (c : Config) (h : Held) (result : Result MergeRan MergeStop) (places bytes : List ℕ)
    → IsRightAtEnd (merge_work c) (file_at h ins) places bytes result → MergeMust c (file_at h ins) result
merged_so ins c h (Ok ran) places bytes (whole, all) = (all.some, all.early, all.ran_is)
merged_so ins c h (Err merge.NoSuperframe) places bytes (whole, has) = has.none
merged_so ins c h (Err merge.TooManyFrames) places bytes (has, ahead) = has.late

mended_so : (ins : List (List ℕ)) (c : Config) (h : Held) (result : Result MendRan MendStop) (places bytes : List ℕ)
    → IsRightAtEnd (mend_work c (length ins)) (file_at h ins) places bytes result
    → MustMend c (length ins) (file_at h ins) result
mended_so ins c h (Ok ran) places bytes (whole, all) = (all.some, all.ran_is)
mended_so ins c h (Err mend.NoFrame) places bytes (whole, has) = has.none

swapped_so : (ins : List (List ℕ)) (c : Config) (plp : ℕ) (h : Held) (result : Result SwapRan SwapStop)
    (places bytes : List ℕ) → IsRightAtEnd (swap_work c plp) (file_at h ins) places bytes result
    → SwapMust c plp (file_at h ins) result
swapped_so ins c plp h (Ok ran) places bytes (whole, all) = (bytes, all)
swapped_so ins c plp h (Err swap.NoSuperframe) places bytes (whole, unread, has) = (bytes, has)
swapped_so ins c plp h (Err (swap.InputRefused packet)) places bytes (meets, far, ahead) = (bytes, meets)
swapped_so ins c plp h (Err swap.TooManyFrames) places bytes (has, far, ahead) = (bytes, has)

swap_follows : (id : ℕ) (t2mi file out : List ℕ) (c : Config) (old mid new : State) (result : Outcome)
    → SameCounts old mid → swaps.Follows id t2mi file out c mid new result
    → IfSome mid.held (λ h. IsEnd (SwapMustEnd h (names_of t2mi file) id c) result) ⊎ By old new result
swap_follows id t2mi file out c old mid new result same (inl (none, stay, is)) =
    inl (if_any mid.held _ (λ h. λ outcome must. inl (none, is)))
swap_follows id t2mi file out c old mid new result same (inr (plp, at, runs)) =
    let ins = names_of t2mi file in
    ways (swap_work c plp) (Into out) ins swap_cause (λ h. SwapMust c plp (file_at h ins))
    (λ h. SwapMustEnd h ins id c) (swapped_so ins c plp)
    (λ h. placed swap_cause h ins id (HasNoPlace c id) (IsPlace c id) (AreShort h ins)
    (λ k. SwapMust c k (file_at h ins)) (λ none k there. none k there.inside there.own) (λ short. short) plp at)
    (swaps.Ends t2mi file out c plp) (swaps.StopsSo t2mi file out c plp) swaps.swap_line
    (λ a b stop s. s) (λ a b ran e. e.0) old mid new result same runs

compared_so : (ins : List (List ℕ)) (c : Config) (h : Held) (result : Result CompareRan CompareStop)
    (places bytes : List ℕ) → IsRightAtEnd (compare_work c) (file_at h ins) places bytes result
    → CompareMust c (file_at h ins) result
compared_so ins c h (Ok counts) places bytes (whole, all) = (all.have, all.none, all.counts_are)
compared_so ins c h (Err (compare.Differs frame)) places bytes (whole, other) = (other.have, other.first)
compared_so ins c h (Err compare.NoSuperframe) places bytes (whole, has) = has.none
compared_so ins c h (Err compare.TooManyFrames) places bytes (has, ahead) = has.late

-- ---- `trial`

trial_so : (old new : State) (seed frames : ℕ) (result : Outcome) → Tries old new seed frames result
    → IsComplete (Trial seed frames) old new result
trial_so old new seed frames result (inl (trial.OutOfMemory, same, is)) =
    if_any old.held _ (λ held. λ outcome must r w. inr (inl is))
trial_so old new seed frames result (inl (trial.Broken, same, is)) =
    if_any old.held _ (λ held. λ outcome must r w. inr (inr (tt, is)))
trial_so old new seed frames result (inr (text, lines, tells)) =
    ⊎_elim
    (λ (done : result ≡ Done). subst (IsComplete (Trial seed frames) old new) (sym done)
    (if_any old.held _ (λ held. λ outcome must r w. inl (sym must))))
    (failed (Trial seed frames) old new result)
    (told old old new text result refl tells)

module _ (law : OneEnding) (one : OnePlan) where
  pub is_complete : Completeness
  is_complete (ShowPackets file) old new result s =
      subst (IsComplete (ShowPackets file) old new) (sym s.2)
      (packets_so law file old new s.1.given s.1.text s.1.unsaid s.0 s.1.lines s.1.counts)
  is_complete (ShowT2mi file) old new result s =
      subst (IsComplete (ShowT2mi file) old new) (sym s.2)
      (t2mi_so file old new s.1.given s.1.text s.1.unsaid s.0 s.1.lines s.1.counts)
  is_complete (ShowFrames file) old new result s =
      subst (IsComplete (ShowFrames file) old new) (sym s.2)
      (records_so law file old new s.1.given s.1.text s.1.unsaid s.0 s.1.lines s.1.counts)
  is_complete (ShowConfig file) old new result s = config_so law old new file result s
  is_complete (Plan config) old new result s = plan_so law old new config result s
  is_complete (Gateway sharing config out ins) old new result s =
      by_plan law one (Gateway sharing config out ins) config (gateways.Follows sharing out ins)
      (λ h. PlanMustEnd sharing h ins) (λ h o m. m) (λ h o m. m) (λ h c o m. m) (gateway_follows sharing out ins)
      old new result s
  is_complete (Modulate config file out) old new result s =
      by_plan law one (Modulate config file out) config (modulates.Follows file out)
      (λ h. ModulateMustEnd (bytes_of h.files file)) (λ h o m. m) (λ h o m. m) (λ h c o m. m)
      (λ c. ways (modulate_work c) (Into out) (file ∷ []) modulate_cause (λ h. ModulateMust c (bytes_of h.files file))
      (λ h. ModulateMustEnd (bytes_of h.files file) c) (modulated_so file c)
      (λ h o must. (one_short h file must.0, λ r m. (must.0, (r, m, refl))))
      (modulates.Ends file out c) (modulates.StopsSo file out c) modulates.modulate_line
      (λ a b stop s. s.0) (λ a b ran e. e.0)) old new result s
  is_complete (Receive sharing config id file out) old new result s =
      by_plan law one (Receive sharing config id file out) config (receives.Follows sharing id file out)
      (λ h. ReceiveMustEnd sharing (bytes_of h.files file) id) (λ h o m. m) (λ h o m. m) (λ h c o m. m)
      (receive_follows sharing id file out) old new result s
  is_complete (Merge config a b out) old new result s =
      by_plan law one (Merge config a b out) config (merges.Follows a b out) (λ h. MergeMustEnd h (names_of a b))
      (λ h o m. m) (λ h o m. m) (λ h c o m. m)
      (λ c. ways (merge_work c) (Into out) (names_of a b) merge_cause (λ h. MergeMust c (file_at h (names_of a b)))
      (λ h. MergeMustEnd h (names_of a b) c) (merged_so (names_of a b) c)
      (λ h o must. (must.0, λ r m. (must.0, (r, m, refl))))
      (merges.Ends a b out c) (merges.StopsSo a b out c) merges.merge_line (λ a b stop s. s) (λ a b ran e. e.0))
      old new result s
  is_complete (Mend config out ins) old new result s =
      by_plan law one (Mend config out ins) config (mends.Follows out ins) (λ h. MendMustEnd h ins)
      (λ h o m. m) (λ h o m. m) (λ h c o m. m)
      (λ c. ways (mend_work c (length ins)) (Into out) ins mend_cause (λ h. MustMend c (length ins) (file_at h ins))
      (λ h. MendMustEnd h ins c) (mended_so ins c) (λ h o must. (must.0, λ r m. (must.0, (r, m, refl))))
      (mends.Ends out ins c) (mends.StopsSo out ins c) mends.mend_line (λ a b stop s. s) (λ a b ran e. e.0))
      old new result s
  is_complete (Swap config id t2mi file out) old new result s =
      by_plan law one (Swap config id t2mi file out) config (swaps.Follows id t2mi file out)
      (λ h. SwapMustEnd h (names_of t2mi file) id) (λ h o m. m) (λ h o m. m) (λ h c o m. m)
      (swap_follows id t2mi file out) old new result s
  is_complete (Compare config a b) old new result s =
      by_plan law one (Compare config a b) config (compares.Follows a b) (λ h. CompareMustEnd h (names_of a b))
      (λ h o m. m) (λ h o m. m) (λ h c o m. m)
      (λ c old mid new result same f. asked_so (compare_work c) Aloud (names_of a b) compare_cause
      (λ h. CompareMust c (file_at h (names_of a b))) (λ h. CompareMustEnd h (names_of a b) c)
      (compared_so (names_of a b) c) (λ h o must. (must.0, λ r m. (must.0, (r, m, refl))))
      old mid new f.0 result same f.1 f.2) old new result s
  is_complete (Trial seed frames) old new result s = trial_so old new seed frames result s
