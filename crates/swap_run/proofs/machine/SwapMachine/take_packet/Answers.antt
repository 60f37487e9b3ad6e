use Rattle.std.proofs.Common.{ℕ, List, [], ◌∷◌, ◌++◌, take, slice_index_or, inl, ap, sym, subst, ◌∙◌}
use Rattle.std.proofs.lemmas.List.{length-take-le}
use Rattle.ts_packet.specs.declared.sizes.TheConstants.{SIZE}
use Rattle.file_run.specs.Events.{Fed}
use Rattle.ts_packet.proofs.FileLemmas.{no_sync, some_taken}
use Rattle.gateway_core.specs.InputSoFar.{with_packet}
use Rattle.region_swap.specs.StandsFor.{SwapperStandsFor}
use Rattle.swap_run.proofs.ShownLemmas.{shown_offer, shown_refuse, can_packets}
use Rattle.swap_run.proofs.NextLemmas.{fed_same, zero_one}
use Rattle.swap_run.proofs.machine.SwapMachine.take_packet.Goals as goal

pub returns-then-as_array-ne-SYNC-clause-shown : goal.returns-then-as_array-ne-SYNC-clause-shown
returns-then-as_array-ne-SYNC-clause-shown c = λ k plp events s.
    let m = c.args.self.now in
    let p = take SIZE c.args.bytes.now in
    let first = ap (λ (l : List ℕ). slice_index_or l 0 0) (c.as_array.ensures.bytes ∙ c.front_of-packet.ensures) in
    let tell = c.events_law.ensures in
    rw c.refuse.ensures (shown_refuse k plp events m s p (events ++ Fed 1 p ∷ [])
    (can_packets k plp events m s c.requires.packets c.requires.wanted)
    (fed_same tell 1 0 p events zero_one) (tell.fed 1 p events).here (tell.fed 1 p events).gave
    (some_taken _ c.requires.long)
    (no_sync p (λ e. c.if-as_array-ne-SYNC.true (first ∙ e))) (inl (λ e. c.if-as_array-ne-SYNC.true (first ∙ e))))

pub returns-clause-shown : goal.returns-clause-shown
returns-clause-shown c = λ k plp events s.
    let m = c.args.self.now in
    let p = take SIZE c.args.bytes.now in
    let tell = c.events_law.ensures in
    let o = c.offer.ensures in
    shown_offer k plp events m s c.offer.new.self p (events ++ Fed 1 p ∷ []) c.requires.packets c.requires.wanted
    (fed_same tell 1 0 p events zero_one) (tell.fed 1 p events).here ((tell.fed 1 p events).ended 1)
    (tell.fed 1 p events).gave
    (length-take-le SIZE c.args.bytes.now c.requires.long)
    (let a = c.as_array.ensures.bytes in let b = c.front_of-packet.ensures in let f = c.if-as_array-ne-SYNC.false in
    ap (λ (l : List ℕ). slice_index_or l 0 0) (sym (a ∙ b)) ∙ f)
    (λ a b t left fs n st. subst (λ (l : List ℕ). SwapperStandsFor c.offer.new.self a b (with_packet t l) left fs n)
    c.front_of-packet.ensures
    (o.stands a b t left fs n st))
    o.unit o.status
