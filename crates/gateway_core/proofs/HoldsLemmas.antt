-- A gateway after one event more.
use Rattle.std.proofs.Common.{◌≡◌, ◌≢◌, ℕ, ◌+◌, ◌-◌, ◌%◌, ◌<◌, Bool, true, false, cond, List, [], ◌∷◌, ◌++◌, Option}
use Rattle.std.proofs.Common.{Some, None, is_some, length, map, replicate, refl, ap, sym, subst, ◌∙◌, arith}
use Rattle.std.proofs.Common.{append-nil, append_assoc}
use Rattle.std.specs.Prelude.{slice_index_or, slice_index, ◌==◌, ◌||◌, ◌↔◌}
use Rattle.std.proofs.Math.Logic.{∥∥₁_map}
use Rattle.std.specs.List.{flat_map, range_with_len}
use Rattle.std.proofs.lemmas.Bool.{ne_eqb, or_right, true≢false}
use Rattle.std.proofs.lemmas.Grind.{flat_map-append}
use Rattle.std.proofs.lemmas.List.{get_or-map, get_or-replicate, length-replicate}
use Rattle.std.proofs.lemmas.List.Folds.{list_any-append}
use Rattle.std.proofs.lemmas.List.Sums.{sum_by-append}
use Rattle.terms.proofs.RangeLemmas.{flat_same, range_more}
use Rattle.linked_pool.specs.Fits.{frame_chunks}
use Rattle.linked_pool.specs.Pool.{State}
use Rattle.plp_config.specs.Plps.{plp_at}
use Rattle.plp_config.specs.RunLength.{frame_count}
use Rattle.plp_config.specs.declared.config.Config.{Config}
use Rattle.scheduler.specs.Laws.{CountsFit}
use Rattle.ts_packet.specs.Null.{null_packet}
use Rattle.t2mi_packet.specs.declared.packet.Body.{Body}
use Rattle.gateway_core.specs.BlocksLeft.{blocks_left}
use Rattle.gateway_core.specs.Lists.{bits_in}
use Rattle.frame_writer.specs.Carried.{of_frame}
use Rattle.gateway_core.specs.Events.{Event, Offered, Ended, Begun, Finished, offered, has_ended, begins, begun}
use Rattle.gateway_core.specs.Events.{gives, given, finishes, finished, packets_to}
use Rattle.frame_writer.specs.Flowing.{Flows}
use Rattle.gateway_core.specs.InputsStandFor.{HasFrame, AllFed, AllContinue, AllEnded, HaveEnded, AreSupplied}
use Rattle.gateway_core.specs.InputsStandFor.{CountsStay}
use Rattle.gateway_core.specs.IsFed.{IsFed, wanted}
use Rattle.gateway_core.specs.Left.{left, all_of, early_at}
use Rattle.frame_writer.specs.FirstPacket.{from_step}
use Rattle.mode_adapt.specs.Blocks.{own_blocks, told_counts}
use Rattle.frame_writer.specs.FramePackets.{l1_body}
use Rattle.gateway_core.specs.Packets.{block_bodies, plp_bodies, frame_bodies, bodies_before}
use Rattle.frame_writer.specs.Signalling.{pre_part, conf_part}
use Rattle.gateway_core.specs.Signalling.{dyn_part}
use Rattle.gateway_core.specs.StandsFor.{Holds, GatewayStandsFor, IsLast, wants_by}
use Rattle.gateway_core.specs.InputSoFar.{Told, told, with_packet, at_end, Continues}
use Rattle.frame_writer.specs.declared.flow.Flow.{Flow}
use Rattle.gateway_core.specs.declared.gateway.Gateway.{Gateway}
use Rattle.gateway_core.specs.declared.input.Input.{Input}
use Rattle.frame_writer.specs.declared.signalling.Signalling.{Signalling}
use Rattle.frame_writer.specs.declared.step.FrameStep.{FrameStep}
use Rattle.frame_writer.specs.declared.step.FrameStep.TheVariants.{Stamp, Signal, Over}
use Rattle.frame_writer.proofs.CarriedLemmas.{carries_more}
use Rattle.gateway_core.proofs.EpochLemmas.{begins_at_once}
use Rattle.gateway_core.proofs.FedLemmas.{wants, ended_told}
use Rattle.gateway_core.proofs.InputsLemmas.{any_of, nothing_told, back, or_false}
use Rattle.gateway_core.proofs.LeftLemmas.{bodies_more as more_left}

-- what continues with an event continues without it
pub cont_packet : (t : Told) (packet : List ℕ) (input : List (List ℕ)) → t.ended ≡ false
    → Continues (with_packet t packet) input
    → Continues t input
cont_packet t packet input off h = record {
  rest = packet ∷ h.rest;
  front = h.front ∙ append_assoc t.packets (packet ∷ []) h.rest;
  whole = λ on. absurd (let z : true ≡ false = sym on ∙ off in cc);
}

pub cont_end : (t : Told) (input : List (List ℕ)) → Continues (at_end t) input → Continues t input
cont_end t input h = record { rest = h.rest; front = h.front; whole = λ on. h.whole refl }

pub other_offered : (j plp : ℕ) (events : List Event) (packet : List ℕ) → j ≢ plp
    → told j (events ++ Offered plp packet ∷ [])
    ≡ told j events
other_offered j plp events packet differ =
    let no : (plp == j) ≡ false = ne_eqb plp j (λ e. differ (sym e)) in
    nothing_told j events (Offered plp packet) (rw no refl) refl refl

pub other_ended : (j plp : ℕ) (events : List Event) → j ≢ plp → told j (events ++ Ended plp ∷ []) ≡ told j events
other_ended j plp events differ =
    let no : (plp == j) ≡ false = ne_eqb plp j (λ e. differ (sym e)) in
    nothing_told j events (Ended plp) refl no refl

-- only an input that is open takes a packet
pub to_open : (plp : ℕ) (packet : List ℕ) (events : List Event) → has_ended plp events ≡ false
    → (j : ℕ) → has_ended j events ≡ true → packets_to j (Offered plp packet) ≡ []
to_open plp packet events off j on =
    rw (ne_eqb plp j (λ e. true≢false (sym on ∙ ap (λ (k : ℕ). has_ended k events) (sym e) ∙ off))) refl

-- what is counted of one event more
pub begun_with : (events : List Event) (e : Event) → begun (events ++ e ∷ []) ≡ begun events + cond (begins e) 1 0
begun_with events e = let s = sum_by-append (λ (e : Event). cond (begins e) 1 0) events (e ∷ []) in omega (arith, s)

pub given_with : (events : List Event) (e : Event) → given (events ++ e ∷ []) ≡ given events + cond (gives e) 1 0
given_with events e = let s = sum_by-append (λ (e : Event). cond (gives e) 1 0) events (e ∷ []) in omega (arith, s)

finished_with : (events : List Event) (e : Event) → finished (events ++ e ∷ []) ≡ (finished events || finishes e)
finished_with events e = list_any-append finishes events (e ∷ [])
    ∙ ap (λ (b : Bool). finished events || b) (or_false (finishes e))

pub finished_same : (events : List Event) (e : Event) → finishes e ≡ false
    → finished (events ++ e ∷ []) ≡ finished events
finished_same events e off = finished_with events e ∙ rw off (or_false (finished events))

pub finished_now : (events : List Event) → finished (events ++ Finished ∷ []) ≡ true
finished_now events = finished_with events Finished ∙ or_right (finished events) true refl

count_same : (n : ℕ) (b : Bool) → b ≡ false → n + cond b 1 0 ≡ n
count_same n b off = rw off (omega arith)

pub begun_same : (events : List Event) (e : Event) → begins e ≡ false → begun (events ++ e ∷ []) ≡ begun events
begun_same events e off = begun_with events e ∙ count_same (begun events) (begins e) off

pub given_same : (events : List Event) (e : Event) → gives e ≡ false → given (events ++ e ∷ []) ≡ given events
given_same events e off = given_with events e ∙ count_same (given events) (gives e) off

one_given : (n : ℕ) (b : Bool) → n + cond b 1 0 ≡ cond b (n + 1) n
one_given n true = refl
one_given n false = omega arith

-- Events that begin no frame: the flow gives a unit, or goes on as it was.
pub holds_with : {old new : List Input} {before after : ℕ → List (List Bool)} {s : Signalling} {frames : ℕ}
    {flow next : Flow} {n m : ℕ} {left rest : List Body} {c : Config} {events : List Event} (e : Event)
    → Holds old before s frames flow n left c events → begins e ≡ false
    → next.finished ≡ (flow.finished || finishes e) → AllFed new after c (events ++ e ∷ [])
    → ((j : ℕ) → has_ended j events ≡ true → packets_to j e ≡ [])
    → ((all : List (ℕ × Body)) (k : ℕ) → Flows flow.outlet c n left all k
    → Flows next.outlet c m rest all (cond (gives e) (k + 1) k))
    → Holds new after s frames next m rest c (events ++ e ∷ [])
holds_with {frames = frames} {next = next} {m = m} {rest = rest} {c = c} {events = events} e h quiet fin fed none step =
    record {
      fed = fed;
      pre = h.pre;
      conf = h.conf;
      frames_are = h.frames_are ∙ sym (begun_same events e quiet);
      last = fin ∙ ap (λ (b : Bool). b || finishes e) h.last ∙ sym (finished_with events e);
      flows = λ all more.
          subst (λ (k : ℕ). Flows next.outlet c m rest (bodies_before c all frames) k)
          (sym (given_with events e ∙ one_given (given events) (gives e)))
          (step (bodies_before c all frames) (given events) (h.flows all (back c events e all none more)));
    }

-- an input that wants packets has not ended
pub open_input : (inputs : List Input) (early : ℕ → List (List Bool)) (plp : ℕ) (c : Config) (events : List Event)
    → plp < length inputs → 0 < slice_index (map wanted inputs) plp → AllFed inputs early c events
    → has_ended plp events ≡ false
open_input inputs early plp c events lt some h =
    let d : Input = any_of inputs plp lt in
    let at : slice_index (map wanted inputs) plp ≡ wanted (slice_index_or inputs plp d) =
    get_or-map wanted inputs plp d 0 lt in
    let here : 0 < wanted (slice_index_or inputs plp d) = omega (arith, some, at) in
    (wants _ (has_ended plp events) (length (offered plp events)) _ here (h plp d lt).total_is).still

-- Once nothing is left of a frame, the lists of its pool hold what the chains put already.
pub early_over : (inputs : List Input) (p : Config) (n : ℕ) (step : FrameStep) (plp : ℕ) (pool : State) (c : Config)
    (events : List Event) → step ≡ Over → AllFed inputs (early_at p n step plp pool) c events
    → AllFed inputs (bits_in pool) c events
early_over inputs p n step plp pool c events e h = subst (λ (s : FrameStep). AllFed inputs (early_at p n s plp pool)
    c events) e h

pub over_early : (inputs : List Input) (p : Config) (n : ℕ) (step : FrameStep) (plp : ℕ) (pool : State) (c : Config)
    (events : List Event) → step ≡ Over → AllFed inputs (bits_in pool) c events
    → AllFed inputs (early_at p n step plp pool) c events
over_early inputs p n step plp pool c events e h = subst (λ (s : FrameStep). AllFed inputs (early_at p n s plp pool)
    c events) (sym e) h

pub over_same : (p : Config) (n : ℕ) (step : FrameStep) (signal : Body) (rest blocks : List Body) → step ≡ Over
    → from_step p n step signal rest ≡ from_step p n step signal blocks
over_same p n step signal rest blocks e = rw e refl

pub has_frame : (p c : Config) (pool : State) → p ≡ c → pool.opened ≡ frame_chunks p → length pool.lists ≡ length p.plps
    → HasFrame c pool
has_frame p c pool e chunks lists =
    subst (λ (k : Config). HasFrame k pool) e (record { enough = omega (arith, chunks); lists = lists })

-- The inputs stand for the same with the same early blocks,
pub fed_kept : (inputs : List Input) (before after : ℕ → List (List Bool)) (c : Config) (events : List Event)
    → ((j : ℕ) → after j ≡ before j) → AllFed inputs before c events → AllFed inputs after c events
fed_kept inputs before after c events kept h = λ j d lt. subst (IsFed (slice_index_or inputs j d) c j (told j events))
    (sym (kept j)) (h j d lt)

-- also behind an event that tells nothing of them.
pub fed_same : (inputs : List Input) (before after : ℕ → List (List Bool)) (c : Config) (events : List Event)
    (e : Event)
    → ((j : ℕ) → told j (events ++ e ∷ []) ≡ told j events) → ((j : ℕ) → after j ≡ before j)
    → AllFed inputs before c events → AllFed inputs after c (events ++ e ∷ [])
fed_same inputs before after c events e same kept h = λ j d lt.
    subst (λ (t : Told). IsFed (slice_index_or inputs j d) c j t (after j)) (sym (same j))
    (fed_kept inputs before after c events kept h j d lt)

-- the packets of a new frame
step_is : (c : Config) (n : ℕ) (signal : Body) (rest : List Body) (b : Bool)
    → from_step c n (cond b Stamp Signal) signal rest
    ≡ cond b (from_step c n Stamp signal rest) (signal ∷ rest)
step_is c n signal rest true = refl
step_is c n signal rest false = refl

bodies_are : (c : Config) (n : ℕ) (blocks f : ℕ → List (List Bool)) → 0 < length c.plps
    → ((j : ℕ) → j < length c.plps → blocks j ≡ f j) → blocks_left c n blocks 0 true ≡ plp_bodies c n f 0
bodies_are c n blocks f some h =
    sym (more_left c n blocks 0 some)
    ∙ flat_same _ _ 0 (length c.plps - 0) (λ j le lt. ap (block_bodies (n % c.frames) (plp_at c.plps j).id true)
    (h j (omega arith)))

-- what a frame has to give as it begins
new_bodies : (c : Config) (s : Signalling) (n : ℕ) (counts told : List ℕ) (blocks f : ℕ → List (List Bool))
    → s.pre ≡ pre_part c → s.conf ≡ conf_part c → counts ≡ told → 0 < length c.plps
    → ((j : ℕ) → j < length c.plps → blocks j ≡ f j) → all_of c s n counts blocks ≡ frame_bodies c n told f
new_bodies c s n counts told blocks f p q d some h =
    step_is c n (l1_body c n s.pre s.conf (dyn_part c n counts)) (blocks_left c n blocks 0 true) (n % c.frames == 0)
    ∙ rw (p, q, d, bodies_are c n blocks f some h) refl

pub bodies_more : (c : Config) (all : ℕ → List (List ℕ)) (n : ℕ) → bodies_before c all (n + 1) ≡ bodies_before c all n
    ++ of_frame n (frame_bodies c n (told_counts c all n) (own_blocks c all n))
bodies_more c all n =
    let z : 0 + n ≡ n = omega arith in
    let r : range_with_len 0 (n + 1) ≡ range_with_len 0 n ++ n ∷ [] =
    range_more 0 n ∙ ap (λ (m : ℕ). range_with_len 0 n ++ m ∷ []) z in
    ap (flat_map (λ m. of_frame m (frame_bodies c m (told_counts c all m) (own_blocks c all m)))) r
    ∙ flat_map-append (λ m. of_frame m (frame_bodies c m (told_counts c all m) (own_blocks c all m)))
    (range_with_len 0 n) (n ∷ [])
    ∙ ap (λ (l : List (ℕ × Body)). bodies_before c all n ++ l)
    (append-nil (of_frame n (frame_bodies c n (told_counts c all n) (own_blocks c all n))))

pub holds_begin : (old new : List Input) (before after : ℕ → List (List Bool)) (s : Signalling) (frames : ℕ)
    (flow next : Flow)
    (n m : ℕ) (left begin rest : List Body) (counts : List ℕ) (blocks : ℕ → List (List Bool)) (c : Config)
    (events : List Event)
    → left ≡ [] → next.finished ≡ flow.finished → AllFed new after c (events ++ Begun ∷ []) → 0 < length c.plps
    → ((all : ℕ → List (List ℕ)) → AllContinue c events all → counts ≡ told_counts c all frames)
    → ((all : ℕ → List (List ℕ)) → AllContinue c events all → (j : ℕ) → j < length c.plps
    → blocks j ≡ own_blocks c all frames j)
    → begin ≡ all_of c s frames counts blocks
    → ((all : List (ℕ × Body)) (given : ℕ) → Flows flow.outlet c frames begin all given
    → Flows next.outlet c m rest all given)
    → Holds old before s frames flow n left c events → Holds new after s (frames + 1) next m rest c
    (events ++ Begun ∷ [])
holds_begin old new before after s frames flow next n m left begin rest counts blocks c events gone fin
    fed some told made is
    step h = record {
      fed = fed;
      pre = h.pre;
      conf = h.conf;
      frames_are = ap (λ (k : ℕ). k + 1) h.frames_are ∙ sym (begun_with events Begun);
      last = fin ∙ h.last ∙ sym (finished_same events Begun refl);
      flows = λ all more.
          let cont = back c events Begun all (λ j on. refl) more in
          let was = h.flows all cont in
          let bodies : begin ≡ frame_bodies c frames (told_counts c all frames) (own_blocks c all frames) =
          is ∙ new_bodies c s frames counts (told_counts c all frames) blocks (own_blocks c all frames) h.pre h.conf
          (told all cont) some (made all cont) in
          let longer : bodies_before c all frames ++ of_frame frames begin ≡ bodies_before c all (frames + 1) =
          ap (λ (l : List Body). bodies_before c all frames ++ of_frame frames l) bodies
          ∙ sym (bodies_more c all frames) in
          subst (λ (k : ℕ). Flows next.outlet c m rest (bodies_before c all (frames + 1)) k)
          (sym (given_same events Begun refl))
          (subst (λ (l : List (ℕ × Body)). Flows next.outlet c m rest l (given events)) longer
          (step _ (given events) (carries_more _ _ _ _ c n frames left begin (bodies_before c all frames)
          (given events) gone was)));
    }

-- The packets of the frames begun have come so far, by the gateway's own configuration.
pub own_flows : (g : Gateway) (c : Config) (events : List Event) (all : ℕ → List (List ℕ)) → GatewayStandsFor g c events
    → AllContinue c events all
    → Flows g.flow.outlet g.plan.now g.frame.number (left g.plan.now g.signalling g.frame)
    (bodies_before g.plan.now all (begun events)) (given events)
unfolding GatewayStandsFor
own_flows g c events all h cont =
    subst (λ (k : Config). Flows g.flow.outlet k g.frame.number (left g.plan.now g.signalling g.frame)
    (bodies_before k all (begun events)) (given events)) (sym h.0)
    (subst (λ (m : ℕ). Flows g.flow.outlet c g.frame.number (left g.plan.now g.signalling g.frame)
    (bodies_before c all m) (given events)) h.1.frames_are (h.1.flows all cont))

-- an answer tells whether a number is below a count, if one is told and the number is the count if it is not
pub both : (result : Bool) (given count : ℕ) → (result ≡ true → given < count) → (result ≡ false → given ≡ count)
    → (result ≡ true) ↔ (given < count)
both true given count some none = (some, λ _. refl)
both false given count some none = (some, λ lt. absurd (let e = none refl in omega (arith, lt, e)))

-- how many packets ended inputs had
totals_ended : (inputs : List Input) (early : ℕ → List (List Bool)) (c : Config) (events : List Event)
    → AllFed inputs early c events → AllEnded inputs → (plp : ℕ) → plp < length inputs → has_ended plp events ≡ true
totals_ended inputs early c events h ended plp lt =
    let d : Input = any_of inputs plp lt in
    ended_told (has_ended plp events) (length (offered plp events)) _ (ended plp d lt) (h plp d lt).total_is

totals : (inputs : List Input) (early : ℕ → List (List Bool)) (c : Config) (events : List Event)
    → AllFed inputs early c events
    → ((plp : ℕ) → plp < length inputs → has_ended plp events ≡ true)
    → HaveEnded inputs (λ plp. length (offered plp events))
totals inputs early c events h ended = λ j d lt.
    (h j d lt).total_is ∙ ap (λ (b : Bool). cond {A = Option ℕ} b (Some (length (offered j events))) None) (ended j lt)

pub last_none : (inputs : List Input) (early : ℕ → List (List Bool)) (c : Config) (events : List Event)
    → length inputs ≡ length c.plps → AllFed inputs early c events → ¬ (AllEnded inputs) → ¬ (IsLast c events)
last_none inputs early c events len h off = λ last.
    off (λ j d lt. ap is_some (totals inputs early c events h (λ plp inside. last.ended plp (omega arith)) j d lt))

pub last_some : (inputs : List Input) (early : ℕ → List (List Bool)) (c : Config) (events : List Event)
    (frames count : ℕ)
    → length inputs ≡ length c.plps → AllFed inputs early c events → frames ≡ begun events → AllEnded inputs
    → ((packets : ℕ → ℕ) → HaveEnded inputs packets → count ≡ frame_count c packets)
    → (count ≡ frames → IsLast c events)
    × (IsLast c events → count ≡ frames)
last_some inputs early c events frames count len h e ended is =
    let all = totals_ended inputs early c events h ended in
    let counted : count ≡ frame_count c (λ plp. length (offered plp events)) = is _
    (totals inputs early c events h all) in (
      λ same. record { ended = λ plp lt. all plp (omega arith); frames = sym e ∙ sym same ∙ counted },
      λ last. counted
          ∙ sym last.frames ∙ sym e,
    )

-- what an input wants, by what was offered
wants_as : (b : Bool) (n : ℕ) (total : Option ℕ) (due slot want len : ℕ) → total ≡ cond b (Some n) None → due ≡ want
    → (b ≡ false → slot ≡ len) → cond (is_some total) 0 (due - slot) ≡ cond b 0 (want - len)
wants_as true n total due slot want len e d s = rw e refl
wants_as false n total due slot want len e d s = rw (e, d, s refl) refl

pub wants_are : (inputs : List Input) (early : ℕ → List (List Bool)) (plp : ℕ) (c : Config) (events : List Event)
    → plp < length inputs → AllFed inputs early c events → slice_index (map wanted inputs) plp ≡ wants_by c events plp
wants_are inputs early plp c events lt h =
    let d : Input = any_of inputs plp lt in
    let f = h plp d lt in
    get_or-map wanted inputs plp d 0 lt
    ∙ wants_as (has_ended plp events) (length (offered plp events)) _ _ _ _ _ f.total_is f.due_is
    (λ off. f.slot_is ∙ ap length (f.given ∙ ap (λ (k : ℕ). offered plp events ++ replicate k null_packet) (f.still off)
    ∙ append-nil (offered plp events)))

-- In frame 0 none stays.
pub stay_none : (c : Config) (counts : List ℕ) → CountsStay c [] 0 counts
stay_none c counts = λ all more plp lt off. absurd (let z : true ≡ false = sym (begins_at_once c plp) ∙ off in cc)

pub fit_zeros : (c : Config) (counts : List ℕ) → counts ≡ replicate (length c.plps) 0 → CountsFit c counts
fit_zeros c counts e = record {
  whole = ap length e ∙ length-replicate (length c.plps) 0;
  within = λ plp lt.
      let zero : slice_index counts plp ≡ 0 = ap (λ (l : List ℕ). slice_index l plp) e
      ∙ get_or-replicate (length c.plps) plp 0 0 lt in
      omega (arith, zero);
}

-- ---- what the inputs stand for, whatever it is, from call to call

pub supplied_by : {c : Config} {frame next : ℕ} {old new : List Input} {early late : ℕ → List (List Bool)}
    → ∥ AreSupplied c frame old early ∥₁
    → ((events : List Event) → frame ≡ begun events → AllFed old early c events
    → (more : List Event) × (next ≡ begun more) × AllFed new late c more)
    → ∥ AreSupplied c next new late ∥₁
supplied_by {c} {frame} {old = old} {early = early} s f = ∥∥₁_map s (λ (a : AreSupplied c frame old early).
    let n = f a.events a.frame_is a.fed in record { events = n.0; frame_is = n.1; fed = n.2 })
