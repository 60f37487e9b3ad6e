-- An input takes packets, and its chain null packets behind them.
use Rattle.std.proofs.Common.{◌≡◌, ℕ, zero, suc, ◌+◌, ◌-◌, ◌*◌, ◌<◌, ◌≤◌, Bool, true, false, cond, List, [], ◌∷◌, ◌++◌}
use Rattle.std.proofs.Common.{Option, Some, None, length, map, replicate, is_some, refl, ap, sym, subst, ◌∙◌, arith}
use Rattle.std.proofs.Common.{append-nil, append_assoc, max, inl, inr, ◌^◌}
use Rattle.std.specs.Prelude.{IfSome, slice_index_or, Result, Ok, Err, OnOk, IfErr, IsOk}
use Rattle.std.proofs.Math.Nat.{mul-le-mul_right}
use Rattle.std.proofs.Math.Logic.{∥∥₁_map}
use Rattle.std.proofs.lemmas.Grind.{not_there, flat_map-append}
use Rattle.std.proofs.lemmas.Bool.{cases_eq, true≢false}
use Rattle.std.proofs.lemmas.List.{replicate_more, get_or_append_left, length_push, length-map}
use Rattle.std.proofs.lemmas.List.Sums.{sum_by-append}
use Rattle.terms.specs.Bits.{bits_of}
use Rattle.linked_pool.specs.Pool.{State, list_at, Others}
use Rattle.linked_pool.specs.declared.pool.PoolFull.{PoolFull}
use Rattle.plp_config.specs.Capacity.{IsPlan}
use Rattle.plp_config.specs.Laws.{CountRises, NoneAtZero, SlotLength, SpreadDividesFrames}
use Rattle.plp_config.specs.Rules.{AllRules}
use Rattle.plp_config.specs.InterleavingFrames.{is_first}
use Rattle.plp_config.specs.SlotTime.{num, den, slots_by, epoch_ticks}
use Rattle.plp_config.specs.declared.config.Config.{Config}
use Rattle.ts_packet.specs.Null.{null_packet}
use Rattle.mode_adapt.specs.Deletion.{packet_at}
use Rattle.mode_adapt.specs.Blocks.{blocks_of}
use Rattle.mode_adapt.specs.Calls.{TakesIfReady, EndsIfReady, LacksPlace}
use Rattle.mode_adapt.specs.Events as queue
use Rattle.mode_adapt.specs.Events.{packet_of, is_cut, HasRoom, IsDue}
use Rattle.mode_adapt.specs.Laws.{BlocksLaw}
use Rattle.mode_adapt.specs.Place.{AreShort, HasPlace}
use Rattle.mode_adapt.specs.StandsFor.{ChainStandsFor, early_blocks}
use Rattle.mode_adapt.specs.declared.chain.Chain.{Chain}
use Rattle.gateway_core.specs.InputSoFar.{Told, with_packet, in_next, Continues}
use Rattle.gateway_core.specs.IsFed.{Fed, IsSupplied, begun_before}
use Rattle.gateway_core.specs.Served.{IsServed}
use Rattle.gateway_core.specs.declared.input.Input.{Input}
use Rattle.gateway_core.specs.InputsStandFor.{Cuts}
use Rattle.gateway_core.specs.Lists.{bits_in, AllShort}
use Rattle.gateway_core.proofs.EpochLemmas.{none_before, before_first, before_next, before_same, begins_behind}
use Rattle.gateway_core.proofs.EpochLemmas.{begins_with}

offered_push : (events : List queue.Event) (x : List ℕ) → queue.offered (events ++ queue.Offered x ∷ []) ≡ queue.offered
    events
    ++ x ∷ []
offered_push events x = flat_map-append packet_of events (queue.Offered x ∷ [])

cuts_stay : (events : List queue.Event) (x : List ℕ) → queue.cuts (events ++ queue.Offered x ∷ []) ≡ queue.cuts events
cuts_stay events x = let e = sum_by-append (λ (e : queue.Event). cond (is_cut e) 1 0) events (queue.Offered x ∷ []) in
    omega (arith, e)

offered_stay : (events : List queue.Event) → queue.offered (events ++ queue.Cut ∷ []) ≡ queue.offered events
offered_stay events = flat_map-append packet_of events (queue.Cut ∷ []) ∙ append-nil (queue.offered events)

cuts_push : (events : List queue.Event) → queue.cuts (events ++ queue.Cut ∷ []) ≡ queue.cuts events + 1
cuts_push events = let e = sum_by-append (λ (e : queue.Event). cond (is_cut e) 1 0) events (queue.Cut ∷ []) in
    omega (arith, e)

-- an input that wants a packet has not ended
pub record Wants (b : Bool) (gap : ℕ) : Type 0 where
  pub still : b ≡ false
  pub some : 0 < gap

pub wants : (total : Option ℕ) (b : Bool) (n gap : ℕ) → 0 < cond (is_some total) 0 gap → total ≡ cond b (Some n) None
    → Wants b gap
wants total true n gap lt e = absurd (let z : 0 < 0 = subst (λ (o : Option ℕ). 0 < cond (is_some o) 0 gap) e lt in
    omega (arith, z))
wants total false n gap lt e = record { still = refl; some = subst (λ (o : Option ℕ). 0 < cond (is_some o) 0 gap) e lt }

alike : (n k : ℕ) (x : List ℕ) → slice_index_or (replicate n x) k x ≡ x
alike zero k x = refl
alike (suc n) zero x = refl
alike (suc n) (suc k) x = alike n k x

null_slots : (packets : List (List ℕ)) (n k : ℕ) → packet_at (packets ++ replicate n null_packet) k ≡ packet_at
    packets k
null_slots [] n k = alike n k null_packet
null_slots (p ∷ ps) n zero = refl
null_slots (p ∷ ps) n (suc k) = null_slots ps n k

-- the packets that a chain was given are those of the input
same_slots : (packets rest : List (List ℕ)) (ended : Bool) (n k : ℕ) → (ended ≡ false → n ≡ 0)
    → (ended ≡ true → rest ≡ [])
    → k < length (packets ++ replicate n null_packet)
    → packet_at (packets ++ replicate n null_packet) k ≡ packet_at (packets ++ rest) k
same_slots packets rest true n k still whole lt = null_slots packets n k
    ∙ sym (rw (whole refl, append-nil packets) refl)
same_slots packets rest false n k still whole lt =
    let none : packets ++ replicate n null_packet ≡ packets = rw (still refl, append-nil packets) refl in
    let inside : k < length packets = rw none at lt in
    rw none (sym (get_or_append_left packets rest null_packet k inside))

-- When the next interleaving frame begins, no fewer slots are over than when a frame does of which so many begin
-- before.
due_within : CountRises → SlotLength → SpreadDividesFrames → (c : Config) (plp frame due cuts : ℕ) → IsPlan c
    → plp < length c.plps → due ≡ slots_by c plp (frame * c.ticks) → cuts ≡ begun_before c plp frame
    → due ≤ slots_by c plp (cuts * epoch_ticks c plp)
due_within rises slot spreads c plp frame due cuts plan lt e n =
    let s = slot c plp plan.rules lt in
    let some = (spreads c plp plan.rules lt).0 in
    let up = rises (num c) (den c plp) (frame * c.ticks) (begun_before c plp frame * epoch_ticks c plp)
    (omega (arith, s.0, s.2)) (begins_behind c plp frame some) in
    rw (e, n) up

one_more : (packets : List (List ℕ)) (x : List ℕ) (n : ℕ) → n ≡ 0 → (packets ++ replicate n null_packet) ++ x ∷ []
    ≡ (packets ++ x ∷ []) ++ replicate n null_packet
one_more packets x n e = rw (e, append-nil packets, append-nil (packets ++ x ∷ [])) refl

null_more : (packets : List (List ℕ)) (n : ℕ) → (packets ++ replicate n null_packet) ++ null_packet ∷ []
    ≡ packets ++ replicate (n + 1) null_packet
null_more packets n = append_assoc packets (replicate n null_packet) (null_packet ∷ [])
    ∙ ap (λ (l : List (List ℕ)). packets ++ l)
    (replicate_more n null_packet)

module _ {chain : Chain} {due slot : ℕ} {total : Option ℕ} {c : Config} {plp : ℕ} {t : Told} {early : List (List Bool)}
    (h : Fed chain due slot total c plp t early) where
  -- the interleaving frame that begins in the next frame is the next one
  cut_with : is_first c plp t.frame ≡ true → queue.cuts h.events * epoch_ticks c plp ≡ t.frame * c.ticks
  cut_with on = ap (λ (m : ℕ). m * epoch_ticks c plp) h.cuts ∙ begins_with c plp t.frame on

  -- the packets of the slots that are over are those of any input that continues
  given_blocks : BlocksLaw → (input : List (List ℕ)) → IsPlan c → plp < length c.plps → is_first c plp t.frame ≡ true
      → slot ≡ due → Continues t input
      → blocks_of c plp (epoch_ticks c plp) (packet_at (queue.offered h.events)) (queue.cuts h.events)
      ≡ blocks_of c plp (epoch_ticks c plp) (packet_at input) (queue.cuts h.events)
  given_blocks law input plan lt on e more =
      law c plp (packet_at (queue.offered h.events)) (packet_at input) (queue.cuts h.events) plan lt (λ k inside.
      let by : k < slots_by c plp (t.frame * c.ticks) =
      subst (λ (tick : ℕ). k < slots_by c plp tick) (cut_with on) inside in
      let within : k < length (t.packets ++ replicate h.nulls null_packet) =
      rw (← h.given, ← h.slot_is, e, h.due_is) by in
      rw (h.given, more.front) (same_slots t.packets more.rest t.ended h.nulls k h.still more.whole within))

  -- A frame in which no interleaving frame begins leaves what there is.
  pub fed_pass : CountRises → SlotLength → SpreadDividesFrames → (next : ℕ) → IsPlan c → plp < length c.plps
      → is_first c plp t.frame ≡ false → next ≡ slots_by c plp ((t.frame + 1) * c.ticks)
      → Fed chain next slot total c plp (in_next t) early
  fed_pass rises length_of spreads next plan lt off n =
      let some = (spreads c plp plan.rules lt).0 in
      let cuts : queue.cuts h.events ≡ begun_before c plp (t.frame + 1) =
      h.cuts ∙ sym (before_same c plp t.frame some off) in
      record {
        events = h.events;
        stands = h.stands;
        nulls = h.nulls;
        given = h.given;
        cuts = cuts;
        due_is = n;
        within = due_within rises length_of spreads c plp (t.frame + 1) next _ plan lt n cuts;
        slot_is = h.slot_is;
        total_is = h.total_is;
        still = h.still;
        early_is = h.early_is;
      }

module _ {old new : Chain} {due slot : ℕ} {total : Option ℕ} {c : Config} {plp : ℕ} {t : Told} (was is : State)
    (list : ℕ)
    (place : HasPlace c plp was list) (h : Fed old due slot total c plp t (bits_in was list)) where
  -- a packet of the next slot, or a null packet behind the end
  fed_take : (u : Told) (packet : List ℕ) (nulls : ℕ) → TakesIfReady old new packet was is list → slot < due
      → u.frame ≡ t.frame
      → (t.packets ++ replicate h.nulls null_packet) ++ packet ∷ [] ≡ u.packets ++ replicate nulls null_packet
      → total ≡ cond u.ended (Some (length u.packets)) None → (u.ended ≡ false → nulls ≡ 0)
      → Fed new due (slot + 1) total c plp u (bits_in is list)
  fed_take u packet nulls takes before frame given total_is still =
      let took = takes c plp h.events (record { stands = h.stands; put = h.early_is; place = place })
      (omega (arith, h.within, h.slot_is, before)) in
      record {
        events = h.events ++ queue.Offered packet ∷ [];
        stands = took.stands;
        nulls = nulls;
        given = offered_push h.events packet ∙ ap (λ (l : List (List ℕ)). l ++ packet ∷ []) h.given ∙ given;
        cuts = rw frame (cuts_stay h.events packet ∙ h.cuts);
        due_is = rw frame h.due_is;
        within = rw (cuts_stay h.events packet) h.within;
        slot_is = ap (λ (n : ℕ). n + 1) h.slot_is ∙ sym (length_push (queue.offered h.events) packet)
            ∙ sym (ap length (offered_push h.events packet));
        total_is = total_is;
        still = still;
        early_is = took.blocks h.early_is;
      }

  pub fed_offer : (packet : List ℕ) → TakesIfReady old new packet was is list → 0 < cond (is_some total) 0 (due - slot)
      → Fed new due (slot + 1) total c plp (with_packet t packet) (bits_in is list)
  fed_offer packet takes lt =
      let w = wants total t.ended (length t.packets) (due - slot) lt h.total_is in
      let ended : t.ended ≡ false = w.still in
      fed_take (with_packet t packet) packet h.nulls takes (omega (arith, w.some)) refl
      (one_more t.packets packet h.nulls (h.still w.still)) (h.total_is ∙ rw ended refl) h.still

  pub fed_null : TakesIfReady old new null_packet was is list → t.ended ≡ true → slot < due
      → Fed new due (slot + 1) total c plp t (bits_in is list)
  fed_null takes ended before =
      fed_take t null_packet (h.nulls + 1) takes before refl (null_more t.packets h.nulls) h.total_is
      (λ off. absurd (true≢false (sym ended ∙ off)))

  -- What the end of an interleaving frame leaves.
  pub fed_cut : BlocksLaw → CountRises → SlotLength → SpreadDividesFrames → (next count : ℕ)
      → EndsIfReady old new was is list count → IsPlan c → plp < length c.plps → is_first c plp t.frame ≡ true
      → slot ≡ due → next ≡ slots_by c plp ((t.frame + 1) * c.ticks) → Cuts new next slot total c plp t is count
  fed_cut law rises length_of spreads next count ends plan lt on e n =
      let due_now : IsDue c plp h.events = sym h.slot_is ∙ e ∙ h.due_is ∙ ap (slots_by c plp) (sym (cut_with h on)) in
      let end = ends c plp h.events (record { stands = h.stands; put = h.early_is; place = place }) due_now in
      let put = end.blocks h.early_is in
      let here : list_at is plp ≡ list_at is list = ap (list_at is) (sym place.place) in
      let some = (spreads c plp plan.rules lt).0 in
      let cuts : queue.cuts (h.events ++ queue.Cut ∷ []) ≡ begun_before c plp (t.frame + 1) =
      cuts_push h.events ∙ ap (λ (n : ℕ). n + 1) h.cuts ∙ sym (before_next c plp t.frame some on) in
      record {
        fed = record {
          events = h.events ++ queue.Cut ∷ [];
          stands = end.stands;
          nulls = h.nulls;
          given = offered_stay h.events ∙ h.given;
          cuts = cuts;
          due_is = n;
          within = due_within rises length_of spreads c plp (t.frame + 1) next _ plan lt n cuts;
          slot_is = h.slot_is ∙ sym (ap length (offered_stay h.events));
          total_is = h.total_is;
          still = h.still;
          early_is = sym end.none_put;
        };
        blocks = λ input more. ap (map bits_of) here ∙ put ∙ given_blocks h law input plan lt on e more
            ∙ ap (blocks_of c plp (epoch_ticks c plp) (packet_at input)) (h.cuts ∙ before_first c plp t.frame on);
        count_is = end.answer ∙ ap length (sym put) ∙ length-map (list_at is list) bits_of ∙ ap length (sym here);
      }

-- at the next frame no fewer slots are over
pub next_due : CountRises → SlotLength → (c : Config) (plp m due next : ℕ) → AllRules c → plp < length c.plps
    → due ≡ slots_by c plp (m * c.ticks)
    → next ≡ slots_by c plp ((m + 1) * c.ticks) → max due next ≡ next
next_due rises slot c plp m due next rules lt e f =
    let s = slot c plp rules lt in
    let t : m * c.ticks ≤ (m + 1) * c.ticks = let d : m ≤ m + 1 = omega arith in mul-le-mul_right c.ticks d in
    let le = rises (num c) (den c plp) (m * c.ticks) ((m + 1) * c.ticks) (omega (arith, s.0, s.2)) t in
    let below : due ≤ next = rw (e, f) le in
    omega arith

pub none_due : NoneAtZero → SlotLength → (c : Config) (plp : ℕ) → AllRules c → plp < length c.plps
    → 0 ≡ slots_by c plp (0 * c.ticks)
none_due none slot c plp rules lt =
    let s = slot c plp rules lt in
    let z : 0 * c.ticks ≡ 0 = omega arith in
    sym (rw z (none (num c) (den c plp) (omega (arith, s.0, s.2))))

pub fed_open : (chain : Chain) (c : Config) (plp : ℕ) → ChainStandsFor chain c plp []
    → early_blocks c plp [] ≡ []
    → 0 ≡ slots_by c plp (0 * c.ticks)
    → Fed chain 0 0 None c plp (record { packets = []; ended = false; frame = 0 }) []
fed_open chain c plp h none e =
    record {
      events = [];
      stands = h;
      nulls = 0;
      given = refl;
      cuts = sym (none_before c plp);
      due_is = e;
      within = omega arith;
      slot_is = refl;
      total_is = refl;
      still = λ off. refl;
      early_is = sym none;
    }

-- what follows if a call did not fail
pub took : {T E P : Type 0} {Q : E → Type 0} (r : Result T E) → OnOk r P → IfErr r Q → ((e : E) → Q e → ⊥) → P
took (Ok x) p q never = p
took (Err e) p q never = absurd (never e q)

-- a block for which the pool is ready is not refused
pub is_put : {T : Type 0} (r : Result T PoolFull) (chain : Chain) (pool : State) (list : ℕ)
    → IfErr r (λ e. LacksPlace chain pool list e.need) → ∥ IsServed chain pool list ∥₁ → IsOk r
is_put (Ok x) chain pool list lacks s = refl
is_put (Err e) chain pool list lacks s =
    absurd (not_there s (λ k. (lacks k.config k.plp k.events k.ready.stands).never k.ready))

pub served : (i : Input) (pool : State) (list : ℕ) → ∥ IsSupplied i pool list ∥₁ → ∥ IsServed i.chain pool list ∥₁
served i pool list h = ∥∥₁_map h (λ (s : IsSupplied i pool list). record {
  config = s.config;
  plp = s.plp;
  events = s.fed.events;
  ready = record { stands = s.fed.stands; put = s.fed.early_is; place = s.place };
})

-- what is told of an input that ended
pub ended_told : (b : Bool) (n : ℕ) (total : Option ℕ) → is_some total ≡ true → total ≡ cond b (Some n) None → b ≡ true
ended_told true n total some e = refl
ended_told false n total some e = absurd (let z : false ≡ true = subst (λ (o : Option ℕ). is_some o ≡ true)
    e some in cc)

-- A pool whose other lists stay has place as before.
pub place_stays : (c : Config) (plp : ℕ) (was is : State) (list : ℕ) → Others was is list → HasPlace c plp was list
    → HasPlace c plp is list
place_stays c plp was is list o h =
    record {
      enough = rw o.opened h.enough;
      lists = o.count ∙ h.lists;
      place = h.place;
      others = λ other lt differ. rw (o.lists other (λ e. differ (e ∙ h.place))) (h.others other lt differ);
    }

pub others_on : (was mid is : State) (list : ℕ) → Others was mid list → Others mid is list → Others was is list
others_on was mid is list a b = record {
  lists = λ other differ. b.lists other differ ∙ a.lists other differ;
  count = b.count ∙ a.count;
  opened = b.opened ∙ a.opened;
}

-- All lists stay short if the one that changes does.
pub all_short : (was is : State) (list : ℕ) → Others was is list → (AreShort (list_at was list)
    → AreShort (list_at is list))
    → AllShort was → AllShort is
all_short was is list others stays short = λ j.
    elim (cases_eq j list) [
      | inl same ↦ subst (λ (k : ℕ). AreShort (list_at is k)) (sym same) (stays (short list))
      | inr differ ↦ subst AreShort (sym (others.lists j differ)) (short j)
    ]

-- an input that ended had no more packets than slots that are over
pub few_in_all : (total : Option ℕ) (due : ℕ) → ((count : ℕ) → total ≡ Some count → count ≤ due) → due < 2 ^ 54
    → IfSome total (λ n. n < 2 ^ 54)
few_in_all None due behind small = tt
few_in_all (Some n) due behind small = let few = behind n refl in omega (arith, few, small)
