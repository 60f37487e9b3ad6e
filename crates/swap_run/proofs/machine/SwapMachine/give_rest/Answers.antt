use Rattle.std.proofs.Common.{ℕ, ◌+◌, List, [], ◌∷◌, ◌++◌, sym, subst, ◌∙◌, arith, append-nil}
use Rattle.std.proofs.lemmas.List.{take_all}
use Rattle.ts_packet.specs.declared.sizes.TheConstants.{SIZE}
use Rattle.file_run.specs.Events.{Gave, gave}
use Rattle.feed_merge.proofs.BothCameLemmas.{less_of}
use Rattle.swap_run.specs.Shown.{Shown, HasShown}
use Rattle.swap_run.specs.declared.phase.Phase.TheVariants as phase
use Rattle.swap_run.proofs.GoLemmas.{shown_rest, shown_done, few_units}
use Rattle.swap_run.proofs.NextLemmas.{finished_at, rests_fed, gave_same}
use Rattle.swap_run.proofs.machine.SwapMachine.give_rest.Goals as goal

pub returns-then-rest-clause-shown : goal.returns-then-rest-clause-shown
returns-then-rest-clause-shown c = λ k plp events s.
    let m = c.args.self.now in
    let q = c.rest.new.self in
    let unit = c.rest.new.out in
    let n = c.rest.ensures in
    let on = c.if-rest.true in
    let tell = c.events_law.ensures in
    subst (λ (l : List ℕ). Shown k plp (events ++ Gave l ∷ [])
    (record m { swapper = q; ran = record m.ran { units = m.ran.units + 1 } }))
    (sym (take_all SIZE unit (omega (arith, c.rest.array_long))))
    (shown_rest k plp events m s q unit (events ++ Gave unit ∷ []) c.requires.rests (gave_same tell 0 unit events)
    (gave_same tell 1 unit events)
    (tell.given unit events).gave (n.unit on) (n.stands on) n.fed (n.less on) n.status)

pub returns-clause-shown : goal.returns-clause-shown
returns-clause-shown c = λ k plp events s.
    let n = c.rest.ensures in
    let off = c.if-rest.false in
    let tell = c.events_law.ensures in
    shown_done k plp events c.args.self.now s c.rest.new.self (events ++ Gave [] ∷ []) c.requires.rests
    (gave_same tell 0 [] events)
    (gave_same tell 1 [] events) ((tell.given [] events).gave ∙ append-nil (gave events)) (n.none off)
    (n.kept off) n.status

pub rest-requires-clause-finished : goal.rest-requires-clause-finished
rest-requires-clause-finished c = finished_at c.args.self.now c.requires.came phase.Rests c.requires.rests

pub rest-requires-clause-fed : goal.rest-requires-clause-fed
rest-requires-clause-fed c = rests_fed c.args.self.now c.requires.came c.requires.rests

pub overflow_add-self : goal.overflow_add-self
overflow_add-self c =
    let n = less_of _ _ c.requires.came (λ (h : HasShown c.args.self.now). few_units h.network h.plp
    h.events c.args.self.now h.shown) in
    omega (arith, n)
