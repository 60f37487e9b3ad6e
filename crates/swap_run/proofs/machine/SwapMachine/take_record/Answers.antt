use Rattle.std.proofs.Common.{◌+◌, sym, ◌∙◌, arith}
use Rattle.std.proofs.Math.Logic.{∥∥₁_map}
use Rattle.file_run.specs.Events.{fed, has_ended}
use Rattle.feed_merge.proofs.BothCameLemmas.{most_of}
use Rattle.swap_run.specs.Shown.{HasShown, more_units, frame_bytes}
use Rattle.swap_run.specs.declared.phase.Phase.TheVariants as phase
use Rattle.swap_run.proofs.GoLemmas.{shown_skip, shown_begin, is_frame, held_there, begun_few}
use Rattle.swap_run.proofs.NextLemmas.{left_by, number_most, few_counted}
use Rattle.swap_run.proofs.NextLemmas.{frame_is, packets_early, packets_behind, packets_idle}
use Rattle.swap_run.proofs.NextLemmas.{begun_at, finished_at, is_muted, not_muted, sent_in}
use Rattle.swap_run.proofs.machine.SwapMachine.take_record.Goals as goal

pub skip-requires-clause-early : goal.skip-requires-clause-early
skip-requires-clause-early c = λ w is. packets_early c.args.self.now c.requires.came c.requires.packets w is

pub pass-requires-clause-early : goal.pass-requires-clause-early
pass-requires-clause-early c =
    let m = c.args.self.now in
    let at = frame_is m c.requires.came in
    let early = packets_early m c.requires.came c.requires.packets c.args.waiting c.requires.waits in
    let behind = packets_behind m c.requires.came c.requires.packets c.args.waiting c.requires.waits in
    omega (arith, at, early, behind)

pub pass-requires-clause-given : goal.pass-requires-clause-given
pass-requires-clause-given c = λ _. packets_idle c.args.self.now c.requires.came c.requires.packets

pub overflow_add-self : goal.overflow_add-self
overflow_add-self c = let n = few_counted c.args.self.now c.requires.came in omega (arith, n)

pub overflow_add-self-then-is_some : goal.overflow_add-self-then-is_some
overflow_add-self-then-is_some c = let n = number_most c.args.self.now c.requires.came in omega (arith, n)

pub overflow_add-self-2 : goal.overflow_add-self-2
overflow_add-self-2 c = let n = few_counted c.args.self.now c.requires.came in omega (arith, n)

pub frame-requires-clause-can : goal.frame-requires-clause-can
frame-requires-clause-can c = sent_in c.args.self.now c.requires.came c.frame-frame.result c.frame-frame.ensures.is.can

pub frame-requires-clause-free : goal.frame-requires-clause-free
frame-requires-clause-free c = begun_at c.args.self.now c.requires.came phase.Packets c.requires.packets

pub frame-requires-clause-open : goal.frame-requires-clause-open
frame-requires-clause-open c = finished_at c.args.self.now c.requires.came phase.Packets c.requires.packets

pub frame-requires-clause-held : goal.frame-requires-clause-held
frame-requires-clause-held c = ∥∥₁_map c.requires.came (λ (h : HasShown c.args.self.now).
    let m = c.args.self.now in
    let f = c.frame-frame in
    let mute = not_muted c.args.waiting.mute (sym c.is_some.ensures ∙ c.if-is_some.false) in
    held_there h.network h.plp h.events m h.shown f.result
    (is_frame h.network h.plp h.events m h.shown c.due_records_law.ensures.pass c.formed_law.ensures
    f.result f.ensures.is f.ensures.shows
    c.args.waiting c.requires.packets c.requires.waits c.requires.here mute))

pub returns-then-is_some-clause-shown : goal.returns-then-is_some-clause-shown
returns-then-is_some-clause-shown c = λ k plp events s.
    let p = c.pass.ensures in
    shown_skip k plp events c.args.self.now s c.skip.new.self c.pass.new.self c.args.waiting c.requires.packets
    c.requires.waits
    c.requires.here (is_muted c.args.waiting.mute (sym c.is_some.ensures ∙ c.if-is_some.true)) c.requires.wanted
    c.skip.ensures.config
    (λ given st. c.skip.ensures.skips (fed 0 events) (has_ended 0 events) given st)
    (record { stands = p.stands; unit = p.unit; status = p.status })

pub returns-clause-shown : goal.returns-clause-shown
returns-clause-shown c = λ k plp events s.
    let m = c.args.self.now in
    let f = c.frame-frame in
    let b = c.frame.ensures in
    let mute = not_muted c.args.waiting.mute (sym c.is_some.ensures ∙ c.if-is_some.false) in
    let x = is_frame k plp events m s c.due_records_law.ensures.pass c.formed_law.ensures f.result f.ensures.is
    f.ensures.shows
    c.args.waiting c.requires.packets c.requires.waits c.requires.here mute in
    shown_begin k plp events m s c.block_law.ensures.field c.fit_law.ensures.told c.frame.new.self f.result
    f.ensures.is c.requires.packets x
    (record { stands = b.stands; more = b.more; status = b.status }) c.args.waiting c.requires.waits
    c.requires.here mute c.requires.wanted

pub returns-clause-left : goal.returns-clause-left
returns-clause-left c =
    let m = c.args.self.now in
    let f = c.frame-frame in
    let b = c.frame.ensures in
    let q = c.frame.new.self in
    let mute = not_muted c.args.waiting.mute (sym c.is_some.ensures ∙ c.if-is_some.false) in
    let was = left_by m phase.Packets c.requires.packets in
    let more = most_of (more_units phase.Units q m.feed + 600) frame_bytes c.requires.came (λ (h : HasShown m).
    let x = is_frame h.network h.plp h.events m h.shown c.due_records_law.ensures.pass c.formed_law.ensures
    f.result f.ensures.is
    f.ensures.shows c.args.waiting c.requires.packets c.requires.waits c.requires.here mute in
    begun_few h.network h.plp h.events m h.shown c.block_law.ensures.field c.fit_law.ensures.told q f.result
    f.ensures.is c.requires.packets x
    (record { stands = b.stands; more = b.more; status = b.status })) in
    omega (arith, was, more)
