use Rattle.std.proofs.Common.{ℕ, ◌+◌, [], ◌∷◌, ◌++◌, take, ap, sym, subst, ◌∙◌, arith}
use Rattle.file_run.specs.Events.{Gave, fed, has_ended}
use Rattle.feed_merge.proofs.BothCameLemmas.{less_of}
use Rattle.region_swap.specs.StandsFor.{Status}
use Rattle.swap_run.specs.Shown.{Shown, HasShown}
use Rattle.swap_run.specs.declared.phase.Phase.TheVariants as phase
use Rattle.swap_run.specs.declared.stop.SwapRan.{SwapRan}
use Rattle.swap_run.proofs.GoLemmas.{few_more, shown_full, shown_behind}
use Rattle.swap_run.proofs.NextLemmas.{number_most, frame_is}
use Rattle.swap_run.proofs.NextLemmas.{begun_at, sent_in, units_early, units_whole, units_waits, units_at}
use Rattle.swap_run.proofs.NextLemmas.{counted_units, gave_same}
use Rattle.swap_run.proofs.machine.SwapMachine.give_units.Goals as goal

pub frame-frame-requires : goal.frame-frame-requires
frame-frame-requires c = record { whole = units_whole c.args.self.now c.requires.came c.requires.units }

pub give-len-requires-clause-can : goal.give-len-requires-clause-can
give-len-requires-clause-can c = sent_in c.args.self.now c.requires.came c.frame-frame.result
    c.frame-frame.ensures.is.can

pub give-len-requires-clause-begun : goal.give-len-requires-clause-begun
give-len-requires-clause-begun c = begun_at c.args.self.now c.requires.came phase.Units c.requires.units

pub add_units-requires : goal.add_units-requires
add_units-requires c =
    let m = c.args.self.now in
    let u = c.give-len in
    record {
      few = less_of _ _ c.requires.came (λ (h : HasShown m).
          let few = few_more h.network h.plp h.events m h.shown c.requires.units c.frame-frame.result
          c.frame-frame.ensures.is u.new.self
          u.result.1 _ u.ensures.gives u.ensures.status in
          let most = h.shown.bound.early in
          let e = counted_units _ _ _ _ u.result.0 u.new.out (let s = u.ensures.size in let k = u.ensures.count in
          omega (arith, s, k))
          u.ensures.gives in
          omega (arith, few, most, e));
    }

pub overflow_add-self : goal.overflow_add-self
overflow_add-self c = let n = number_most c.args.self.now c.requires.came in omega (arith, n)

pub skip-requires-clause-waits : goal.skip-requires-clause-waits
skip-requires-clause-waits c = units_waits c.args.self.now c.requires.came c.requires.units

pub skip-requires-clause-early : goal.skip-requires-clause-early
skip-requires-clause-early c = λ w is. units_at c.args.self.now c.requires.came c.requires.units w is

pub pass-requires-clause-early : goal.pass-requires-clause-early
pass-requires-clause-early c =
    let m = c.args.self.now in
    let at = frame_is m c.requires.came in
    let same = ap (λ (x : Status). x.frame) c.give-len.ensures.status in
    let early = units_early m c.requires.came c.requires.units in
    omega (arith, at, same, early)

pub returns-then-full-clause-shown : goal.returns-then-full-clause-shown
returns-then-full-clause-shown c = λ k plp events s.
    let m = c.args.self.now in
    let u = c.give-len in
    let bytes = take u.result.0 u.new.out in
    let tell = c.events_law.ensures in
    let e = counted_units _ _ _ _ u.result.0 u.new.out (let s = u.ensures.size in let k = u.ensures.count in
    omega (arith, s, k))
    u.ensures.gives in
    subst (λ (r : SwapRan). Shown k plp (events ++ Gave bytes ∷ []) (record m { swapper = u.new.self; ran = r }))
    (sym (c.add_units.ensures ∙ ap (λ (q : ℕ). record m.ran { units = m.ran.units + q }) e))
    (shown_full k plp events m s c.requires.units c.frame-frame.result c.frame-frame.ensures.is u.new.self
    u.result.1 bytes u.ensures.gives
    u.ensures.status (events ++ Gave bytes ∷ []) (gave_same tell 0 bytes events) (gave_same tell 1 bytes events)
    (tell.given bytes events).gave)

pub returns-clause-shown : goal.returns-clause-shown
returns-clause-shown c = λ k plp events s.
    let m = c.args.self.now in
    let u = c.give-len in
    let p = c.pass.ensures in
    let bytes = take u.result.0 u.new.out in
    let tell = c.events_law.ensures in
    let e = counted_units _ _ _ _ u.result.0 u.new.out (let s = u.ensures.size in let k = u.ensures.count in
    omega (arith, s, k))
    u.ensures.gives in
    subst (λ (r : SwapRan). Shown k plp (events ++ Gave bytes ∷ [])
    (record m {
      feed = c.skip.new.self;
      swapper = c.pass.new.self;
      number = m.number + 1;
      phase = phase.Records;
      ran = r;
    }))
    (sym (c.add_units.ensures ∙ ap (λ (q : ℕ). record m.ran { units = m.ran.units + q }) e))
    (shown_behind k plp events m s c.requires.units c.frame-frame.result c.frame-frame.ensures.is u.new.self
    u.result.1 bytes u.ensures.gives
    u.ensures.status (events ++ Gave bytes ∷ []) (gave_same tell 0 bytes events) (gave_same tell 1 bytes events)
    (tell.given bytes events).gave
    c.skip.new.self c.pass.new.self c.if-full.false (u.ensures.idle c.if-full.false) c.skip.ensures.config
    (λ given st. c.skip.ensures.skips (fed 0 events) (has_ended 0 events) given st)
    (record { stands = p.stands; unit = p.unit; status = p.status }))
