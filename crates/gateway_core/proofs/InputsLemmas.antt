-- One of the inputs changes, and the others stay.
use Rattle.std.proofs.Common.{◌≡◌, ◌≢◌, ℕ, ◌+◌, ◌*◌, ◌<◌, ◌≤◌, Bool, true, false, cond, List, [], ◌∷◌, ◌++◌, length}
use Rattle.std.proofs.Common.{map, refl, ap, sym, subst, ◌∙◌, inl, inr, arith, append-nil, append_assoc, eq-eqb}
use Rattle.std.specs.Prelude.{slice_index_or, slice_index, slice_set, ◌==◌, ◌||◌}
use Rattle.std.proofs.Math.Bool.{or-true}
use Rattle.std.proofs.lemmas.Bool.{cases_eq, cases_lt, ne_eqb, true≢false}
use Rattle.std.proofs.lemmas.Grind.{flat_map-append, same_number_lists, not_there}
use Rattle.std.proofs.lemmas.List.{length-map, map-set, length-set, get_or-set_same, get_or-set_other, get_or-map}
use Rattle.std.proofs.lemmas.List.{get_or_default, get_or_append_left, get_or_push}
use Rattle.std.proofs.lemmas.List.Folds.{list_any-append}
use Rattle.std.proofs.lemmas.List.FromFn.{length-map-range_with_len, get_or-map-range_with_len}
use Rattle.std.proofs.lemmas.List.Sums.{sum_by-append}
use Rattle.terms.specs.Bits.{bits_of}
use Rattle.terms.proofs.CaseLemmas.{bool_cases}
use Rattle.linked_pool.specs.Fits.{ListFits}
use Rattle.linked_pool.specs.Pool.{State, list_at, Others}
use Rattle.plp_config.specs.Capacity.{IsPlan}
use Rattle.plp_config.specs.InterleavingFrames.{interleaving_frame, is_first}
use Rattle.plp_config.specs.Laws.{SpreadDividesFrames}
use Rattle.plp_config.specs.Plps.{plp_at}
use Rattle.plp_config.specs.SlotTime.{slots_by}
use Rattle.plp_config.specs.declared.config.Config.{Config}
use Rattle.scheduler.specs.Laws.{CountsFit}
use Rattle.mode_adapt.specs.Blocks.{plp_blocks, own_blocks, told_count, told_counts}
use Rattle.mode_adapt.specs.Laws.{EarlyFits, BlocksFit}
use Rattle.mode_adapt.specs.Place.{HasPlace}
use Rattle.mode_adapt.specs.Deletion.{packet_at}
use Rattle.gateway_core.specs.Events.{Event, Offered, Ended, Begun, packets_to, offered, ends, has_ended, begins, begun}
use Rattle.gateway_core.specs.IsFed.{IsFed, IsSupplied, wanted, most}
use Rattle.gateway_core.specs.InputsStandFor.{AllFed, AreFor, AllContinue, AreBlocks, HasCut, CutsOne, CutUntil}
use Rattle.gateway_core.specs.InputsStandFor.{HasFrame, SameMost, AreSupplied, GoesOn, CountsStay}
use Rattle.gateway_core.specs.Lists.{bits_in, own_in, later_in}
use Rattle.gateway_core.specs.InputSoFar.{Told, told, with_packet, at_end, in_next, Continues}
use Rattle.gateway_core.specs.declared.input.Input.{Input}
use Rattle.gateway_core.proofs.EpochLemmas.{same_number}

told_is : {p q : List (List ℕ)} {b d : Bool} {m n : ℕ} → p ≡ q → b ≡ d → m ≡ n
    → (let t : Told = record { packets = p; ended = b; frame = m } in t) ≡ record { packets = q; ended = d; frame = n }
told_is e f g = λ i. record { packets = e i; ended = f i; frame = g i }

pub or_false : (b : Bool) → (b || false) ≡ b
or_false true = refl
or_false false = refl

-- an event that is nothing to an input
pub nothing_told : (j : ℕ) (events : List Event) (e : Event) → packets_to j e ≡ [] → ends j e ≡ false → begins e ≡ false
    → told j (events ++ e ∷ []) ≡ told j events
nothing_told j events e none still same =
    told_is (flat_map-append (packets_to j) events (e ∷ []) ∙ rw none (append-nil (offered j events)))
    (list_any-append (ends j) events (e ∷ []) ∙ rw still (or_false (has_ended j events)))
    (let s = sum_by-append (λ (e : Event). cond (begins e) 1 0) events (e ∷ []) in
    omega (arith, s, ap (λ (b : Bool). cond {A = ℕ} b 1 0) same))

pub told_offered : (plp : ℕ) (events : List Event) (packet : List ℕ) → told plp (events ++ Offered plp packet ∷ [])
    ≡ with_packet (told plp events) packet
told_offered plp events packet =
    let self : (plp == plp) ≡ true = eq-eqb plp plp refl in
    told_is (flat_map-append (packets_to plp) events (Offered plp packet ∷ []) ∙ rw self refl)
    (list_any-append (ends plp) events (Offered plp packet ∷ []) ∙ or_false (has_ended plp events))
    (let s = sum_by-append (λ (e : Event). cond (begins e) 1 0) events (Offered plp packet ∷ []) in omega (arith, s))

pub told_ended : (plp : ℕ) (events : List Event) → told plp (events ++ Ended plp ∷ []) ≡ at_end (told plp events)
told_ended plp events =
    let self : (plp == plp) ≡ true = eq-eqb plp plp refl in
    told_is (flat_map-append (packets_to plp) events (Ended plp ∷ []) ∙ append-nil (offered plp events))
    (list_any-append (ends plp) events (Ended plp ∷ []) ∙ rw self (or-true (has_ended plp events)))
    (let s = sum_by-append (λ (e : Event). cond (begins e) 1 0) events (Ended plp ∷ []) in omega (arith, s))

pub told_begun : (j : ℕ) (events : List Event) → told j (events ++ Begun ∷ []) ≡ in_next (told j events)
told_begun j events =
    told_is (flat_map-append (packets_to j) events (Begun ∷ []) ∙ append-nil (offered j events))
    (list_any-append (ends j) events (Begun ∷ []) ∙ or_false (has_ended j events))
    (let s = sum_by-append (λ (e : Event). cond (begins e) 1 0) events (Begun ∷ []) in omega (arith, s))

-- What continues with the begin of a frame continues without it.
pub cont_next : (t : Told) (input : List (List ℕ)) → Continues (in_next t) input → Continues t input
cont_next t input h = record { rest = h.rest; front = h.front; whole = h.whole }

-- So it does with any event that is no packet of an input that ended.
pub back : (c : Config) (events : List Event) (e : Event) (all : ℕ → List (List ℕ))
    → ((j : ℕ) → has_ended j events ≡ true → packets_to j e ≡ []) → AllContinue c (events ++ e ∷ []) all
    → AllContinue c events all
back c events e all none h = λ j lt.
    let more = h j lt in
    let front : offered j (events ++ e ∷ []) ≡ offered j events ++ packets_to j e =
    flat_map-append (packets_to j) events (e ∷ [])
    ∙ ap (λ (l : List (List ℕ)). offered j events ++ l) (append-nil (packets_to j e)) in
    record {
      rest = packets_to j e ++ more.rest;
      front = more.front ∙ ap (λ (l : List (List ℕ)). l ++ more.rest) front
          ∙ append_assoc (offered j events) (packets_to j e) more.rest;
      whole = λ on. rw (none j on) (more.whole (list_any-append (ends j) events (e ∷ []) ∙ rw on refl));
    }

-- one input has one event more, and perhaps put a block; d is any default
one_fed : (items : List Input) (s : ℕ) (d new : Input) (early late : ℕ → List (List Bool)) (c : Config)
    (events : List Event)
    (e : Event) → s < length items
    → ((j : ℕ) → j ≢ s → told j (events ++ e ∷ []) ≡ told j events) → ((j : ℕ) → j ≢ s → late j ≡ early j)
    → (IsFed (slice_index_or items s d) c s (told s events) (early s)
    → IsFed new c s (told s (events ++ e ∷ [])) (late s))
    → AllFed items early c events → AllFed (slice_set items s new) late c (events ++ e ∷ [])
one_fed items s d new early late c events e lt others stays more h = λ j f inside.
    elim (cases_eq j s) [
      | inl same ↦
          let at : slice_index_or (slice_set items s new) s f ≡ new = get_or-set_same items s new f lt in
          subst (λ (k : ℕ). IsFed (slice_index_or (slice_set items s new) k f) c k (told k (events ++ e ∷ [])) (late k))
          (sym same)
          (subst (λ (i : Input). IsFed i c s (told s (events ++ e ∷ [])) (late s)) (sym at) (more (h s d lt)))
      | inr differ ↦
          let at : slice_index_or (slice_set items s new) j f ≡ slice_index_or items j f =
          get_or-set_other items s j new f differ in
          let within : j < length items = simp (length-set) at inside in
          subst (λ (i : Input). IsFed i c j (told j (events ++ e ∷ [])) (late j)) (sym at)
          (subst (λ (t : Told). IsFed (slice_index_or items j f) c j t (late j)) (sym (others j differ))
          (subst (λ (l : List (List Bool)). IsFed (slice_index_or items j f) c j (told j events) l)
          (sym (stays j differ))
          (h j f within)))
    ]

-- what an input put holds no more than a frame
pub list_fits : EarlyFits → (i : Input) (c : Config) (plp : ℕ) (t : Told) (pool : State)
    → IsFed i c plp t (bits_in pool plp)
    → ListFits c plp (list_at pool plp)
list_fits fits i c plp t pool h = fits c plp h.events (list_at pool plp) h.early_is

-- so each has place in the pool
pub has_place : EarlyFits → (items : List Input) (d : Input) (pool : State) (s : ℕ) (c : Config) (events : List Event)
    → length items ≡ length c.plps → HasFrame c pool
    → AllFed items (bits_in pool) c events → HasPlace c s pool s
has_place fits items d pool s c events whole frame h =
    record {
      enough = frame.enough;
      lists = frame.lists;
      place = refl;
      others = λ other lt differ. list_fits fits (slice_index_or items other d) c other (told other events) pool
          (h other d (omega (arith, whole, lt)));
    }

pub fed_offered : EarlyFits → (items : List Input) (s : ℕ) (d new : Input) (packet : List ℕ) (was is : State)
    (c : Config)
    (events : List Event) → s < length items
    → ((c : Config) (plp : ℕ) (t : Told) → HasPlace c plp was s → IsFed (slice_index_or items s d) c
    plp t (bits_in was s)
    → IsFed new c plp (with_packet t packet) (bits_in is s)) → Others was is s
    → length items ≡ length c.plps → HasFrame c was → AllFed items (bits_in was) c events
    → AllFed (slice_set items s new) (bits_in is) c (events ++ Offered s packet ∷ [])
fed_offered fits items s d new packet was is c events lt more o whole frame h =
    one_fed items s d new (bits_in was) (bits_in is) c events (Offered s packet) lt
    (λ j differ. nothing_told j events (Offered s packet) (rw (ne_eqb s j (λ e. differ (sym e))) refl) refl refl)
    (λ j differ. ap (map bits_of) (o.lists j differ))
    (λ old. subst (λ (t : Told). IsFed new c s t (bits_in is s)) (sym (told_offered s events packet))
    (more c s (told s events) (has_place fits items d was s c events whole frame h) old)) h

pub fed_ended : (items : List Input) (s : ℕ) (d new : Input) (early : ℕ → List (List Bool)) (c : Config)
    (events : List Event)
    → s < length items
    → ((c : Config) (plp : ℕ) (t : Told) (early : List (List Bool)) → IsFed (slice_index_or items s d) c plp t early
    → IsFed new c plp (at_end t) early)
    → AllFed items early c events → AllFed (slice_set items s new) early c (events ++ Ended s ∷ [])
fed_ended items s d new early c events lt more h =
    one_fed items s d new early early c events (Ended s) lt
    (λ j differ. nothing_told j events (Ended s) refl (ne_eqb s j (λ e. differ (sym e))) refl)
    (λ j differ. refl)
    (λ old. subst (λ (t : Told). IsFed new c s t (early s)) (sym (told_ended s events))
    (more c s (told s events) (early s) old))
    h

pub same_most : (items : List Input) (s : ℕ) (d new : Input) → s < length items
    → most new ≡ most (slice_index_or items s d)
    → SameMost items (slice_set items s new)
same_most items s d new lt e = λ j f.
    elim (cases_eq j s) [
      | inl same ↦
          let at : slice_index_or (slice_set items s new) s f ≡ new = get_or-set_same items s new f lt in
          subst (λ (k : ℕ). most (slice_index_or (slice_set items s new) k f) ≡ most (slice_index_or items k f))
          (sym same)
          (ap most at ∙ e ∙ ap most (get_or_default items s d f lt))
      | inr differ ↦ ap most (get_or-set_other items s j new f differ)
    ]

-- the same for inputs that stand behind others
pub most_stays : (old new same items : List Input) (c : Config) → same ≡ old → items ≡ new → length new ≡ length old
    → SameMost same new → AreFor old c → AreFor items c
most_stays old new same items c e f len kept are = λ j d lt.
    ap most (ap (λ (l : List Input). slice_index_or l j d) f) ∙ kept j d
    ∙ ap most (ap (λ (l : List Input). slice_index_or l j d) e) ∙ are j d (omega (arith, lt, ap length f, len))

-- any of some items
pub any_of : {X : Type 0} (items : List X) (j : ℕ) → j < length items → X
any_of [] j lt = absurd (omega arith)
any_of (x ∷ items) j lt = x

pub same_wanted : (new old : List Input) (j : ℕ) → length new ≡ length old → j < length new
    → ((d : Input) → slice_index_or new j d ≡ slice_index_or old j d)
    → slice_index (map wanted new) j ≡ slice_index (map wanted old) j
same_wanted new old j len lt h =
    let d : Input = any_of new j lt in
    get_or-map wanted new j d 0 lt ∙ ap wanted (h d) ∙ sym (get_or-map wanted old j d 0 (omega arith))

-- more of a list, one item longer
abbrev pub Below : {X : Type 0} → (ℕ → X → Type 0) → List X → ℕ → Type 0
Below {X = X} P items n = (j : ℕ) (d : X) → j < n → P j (slice_index_or items j d)

pub pushed : {X : Type 0} (P : ℕ → X → Type 0) (items : List X) (n : ℕ) (y : X) → length items ≡ n → Below P items n
    → P n y
    → Below P (items ++ y ∷ []) (n + 1)
pushed {X} P items n y len h here = λ j d lt.
    elim (cases_lt j n) [
      | inl before ↦ let at : slice_index_or (items ++ y ∷ []) j d ≡ slice_index_or items j d =
          get_or_append_left items (y ∷ []) d j (rw len before) in
          subst (λ (x : X). P j x) (sym at) (h j d before)
      | inr from ↦
          let same : j ≡ n = omega arith in
          let at : slice_index_or (items ++ y ∷ []) n d ≡ y = get_or_push items y d n len in
          subst (λ (k : ℕ). P k (slice_index_or (items ++ y ∷ []) k d)) (sym same)
          (subst (λ (x : X). P n x) (sym at) here)
    ]

-- An input that ends an interleaving frame goes on behind the frame.
pub cuts_one : (items : List Input) (s : ℕ) (d new : Input) (c : Config) (frame due : ℕ) (was is : State)
    (before count : ℕ)
    → s < length items → IsPlan c → s < length c.plps → is_first c s frame ≡ true
    → due ≡ slots_by c s ((frame + 1) * c.ticks)
    → ((c : Config) (plp : ℕ) (t : Told) → IsPlan c → plp < length c.plps → HasPlace c plp was s
    → is_first c plp t.frame ≡ true → due ≡ slots_by c plp ((t.frame + 1) * c.ticks)
    → IsFed (slice_index_or items s d) c plp t (bits_in was s) → HasCut new c plp t is count)
    → count ≤ most (slice_index_or items s d) → Others was is s
    → CutsOne c frame items (slice_set items s new) was is s before count
cuts_one items s d new c frame due was is before count lt plan inside on e cut few o =
    let old : (f : Input) → slice_index_or items s f ≡ slice_index_or items s d = λ f. get_or_default items s f d lt in
    record {
      others = λ j f differ. get_or-set_other items s j new f differ;
      lists = o;
      few = λ f blocks most_is _. omega (arith, few, ap most (old f), most_is);
      on = λ f t at place h.
          let here : slice_index_or (slice_set items s new) s f ≡ new = get_or-set_same items s new f lt in
          let first : is_first c s t.frame ≡ true = ap (λ (m : ℕ). is_first c s m) at ∙ on in
          record {
            cut = λ _. subst (λ (i : Input). HasCut i c s t is count) (sym here)
                (cut c s t plan inside place first (e ∙ ap (λ (m : ℕ). slots_by c s ((m + 1) * c.ticks)) (sym at))
                (subst (λ (i : Input). IsFed i c s t (bits_in was s)) (old f) h));
            fed = λ off. absurd (true≢false (sym first ∙ off));
            stays = λ off. absurd (true≢false (sym first ∙ off));
          };
    }

-- packets continue themselves
no_more : (t : Told) → Continues t t.packets
no_more t = record { rest = []; front = sym (append-nil t.packets); whole = λ on. refl }

module _ {i : Input} {c : Config} {plp : ℕ} {t : Told} {pool : State} {before count : ℕ}
    (h : GoesOn i c plp t pool before count) where
  -- what was put stays while its list does
  goes_stays : (is : State) → list_at is plp ≡ list_at pool plp → GoesOn i c plp t is before count
  goes_stays is e = record {
    cut = λ on. record {
      fed = (h.cut on).fed;
      blocks = λ input more. ap (map bits_of) e ∙ (h.cut on).blocks input more;
      count_is = (h.cut on).count_is ∙ ap length (sym e);
    };
    fed = λ off. subst (λ (l : List (List ℕ)). IsFed i c plp (in_next t) (map bits_of l)) (sym e) (h.fed off);
    stays = h.stays;
  }

  -- Its list holds no more than an interleaving frame,
  goes_fits : EarlyFits → BlocksFit → IsPlan c → plp < length c.plps → ListFits c plp (list_at pool plp)
  goes_fits early late plan lt = bool_cases (is_first c plp t.frame)
      (λ on. late c plp (packet_at t.packets) (interleaving_frame c plp t.frame) (list_at pool plp) plan lt
      ((h.cut on).blocks t.packets (no_more t)))
      (λ off. list_fits early i c plp (in_next t) pool (h.fed off))

  -- the blocks that are not sent are what it put for later,
  goes_fed : IsFed i c plp (in_next t) (later_in c t.frame pool plp)
  goes_fed = bool_cases (is_first c plp t.frame) (λ on. rw on (h.cut on).fed) (λ off. rw off (h.fed off))

  -- those that are sent are those of its interleaving frame,
  goes_blocks : (inputs : ℕ → List (List ℕ)) → Continues t (inputs plp)
      → own_in c t.frame pool plp ≡ own_blocks c inputs t.frame plp
  goes_blocks inputs more = bool_cases (is_first c plp t.frame)
      (λ on. rw on ((h.cut on).blocks (inputs plp) more)) (λ off. rw off refl)

  -- and so many it has.
  goes_count : (inputs : ℕ → List (List ℕ)) → Continues t (inputs plp)
      → (is_first c plp t.frame ≡ false → before ≡ told_count c inputs t.frame plp)
      → count ≡ told_count c inputs t.frame plp
  goes_count inputs more stays = bool_cases (is_first c plp t.frame)
      (λ on. (h.cut on).count_is ∙ sym (length-map (list_at pool plp) bits_of)
      ∙ ap length ((h.cut on).blocks (inputs plp) more))
      (λ off. h.stays off ∙ stays off)

-- ---- one behind the other

module _ {c : Config} {frame : ℕ} {old new : List Input} {was is : State} {before counts : List ℕ} {n : ℕ}
    (h : CutUntil c frame old new was is before counts n) (whole : length old ≡ length c.plps)
    (has : HasFrame c was) where
  -- The input at a place has place in the pool: the lists below have the blocks of the frame or those for later, and
  -- those above have what was put before.
  place_next : EarlyFits → BlocksFit → IsPlan c → (events : List Event) (d : Input) → frame ≡ begun events
      → AllFed old (bits_in was) c events → HasPlace c n is n
  place_next early late plan events d e all =
      record {
        enough = rw h.opened has.enough;
        lists = h.lists_count ∙ has.lists;
        place = refl;
        others = λ other lt differ. elim (cases_lt other n) [
          | inl below ↦ goes_fits (h.on events e has all other d below) early late plan lt
          | inr from ↦
              rw (h.lists other from) (list_fits early (slice_index_or old other d) c other (told other events) was
              (all other d (omega (arith, whole, lt))))
        ];
      }

  -- so it is supplied
  pub cut_supplied : EarlyFits → BlocksFit → IsPlan c → (d : Input) → n < length old
      → AreSupplied c frame old (bits_in was) → IsSupplied (slice_index_or new n d) is n
  cut_supplied early late plan d inside s = record {
    config = c;
    plp = n;
    told = told n s.events;
    place = place_next early late plan s.events d s.frame_is s.fed;
    fed = rw (h.rest n d (omega arith), h.lists n (omega arith)) (s.fed n d inside);
  }

  -- once all did
  module _ (all : n ≡ length old) where
    pub cut_fed : (events : List Event) → length new ≡ length old → frame ≡ begun events
        → AllFed old (bits_in was) c events → AllFed new (later_in c frame is) c (events ++ Begun ∷ [])
    cut_fed events len e fed = λ j d lt.
        let on = goes_fed (h.on events e has fed j d (omega arith)) in
        subst (λ (t : Told). IsFed (slice_index_or new j d) c j t (later_in c frame is j)) (sym (told_begun j events))
        (subst (λ (m : ℕ). IsFed (slice_index_or new j d) c j (in_next (told j events)) (later_in c m is j)) (sym e) on)

    pub cut_blocks : (events : List Event) (inputs : ℕ → List (List ℕ)) → frame ≡ begun events
        → AllFed old (bits_in was) c events → AllContinue c events inputs → AreBlocks is c frame inputs
    cut_blocks events inputs e fed more = λ j lt.
        let inside : j < length old = omega (arith, whole, lt) in
        let on = goes_blocks (h.on events e has fed j (any_of old j inside) (omega arith)) inputs (more j lt) in
        subst (λ (m : ℕ). own_in c m is j ≡ own_blocks c inputs m j) (sym e) on

    pub cut_counts : (events : List Event) (inputs : ℕ → List (List ℕ)) → length counts ≡ length c.plps
        → frame ≡ begun events → AllFed old (bits_in was) c events → CountsStay c events frame before
        → AllContinue c events inputs → counts ≡ told_counts c inputs frame
    cut_counts events inputs len e fed stay more =
        let told : length (told_counts c inputs frame) ≡ length c.plps =
        length-map-range_with_len (told_count c inputs frame) 0 (length c.plps) in
        same_number_lists counts (told_counts c inputs frame) (len ∙ sym told) (λ j lt.
        let configured : j < length c.plps = omega (arith, lt, len) in
        let inside : j < length old = omega (arith, whole, configured) in
        let on = goes_count (h.on events e has fed j (any_of old j inside) (omega arith)) inputs (more j configured)
        (subst (λ (m : ℕ). is_first c j m ≡ false → slice_index before j ≡ told_count c inputs m j) e
        (stay inputs more j configured)) in
        subst (λ (m : ℕ). slice_index counts j ≡ told_count c inputs m j) (sym e) on
        ∙ sym (get_or-map-range_with_len (told_count c inputs frame) 0 (length c.plps) j j 0 configured (omega arith)))

    pub cut_fit : length counts ≡ length c.plps → AreFor old c → CountsFit c before → CountsFit c counts
    cut_fit len are fit = record {
      whole = len;
      within = λ plp lt.
          let inside : plp < length old = omega (arith, whole, lt) in
          let d : Input = any_of old plp inside in
          h.few plp d (plp_at c.plps plp).blocks (omega arith) (omega (arith, are plp d inside)) (fit.within plp lt);
    }

    pub cut_within : EarlyFits → BlocksFit → IsPlan c → (plp : ℕ) → plp < length c.plps
        → ∥ AreSupplied c frame old (bits_in was) ∥₁ → length (list_at is plp) ≤ (plp_at c.plps plp).blocks
    cut_within early late plan plp lt supplied =
        let inside : plp < length old = omega (arith, whole, lt) in
        elim (cases_lt (plp_at c.plps plp).blocks (length (list_at is plp))) [
          | inl more ↦ absurd (not_there supplied (λ (s : AreSupplied c frame old (bits_in was)).
              let fits = goes_fits (h.on s.events s.frame_is has s.fed plp (any_of old plp inside) (omega arith))
              early late plan lt in
              omega (arith, more, fits.few)))
          | inr le ↦ le
        ]

-- and so is each input while no frame is given
pub one_supplied : EarlyFits → (items : List Input) (pool : State) (c : Config) (frame plp : ℕ) (d : Input)
    → length items ≡ length c.plps → plp < length items → HasFrame c pool → AreSupplied c frame items (bits_in pool)
    → IsSupplied (slice_index_or items plp d) pool plp
one_supplied early items pool c frame plp d whole lt has s = record {
  config = c;
  plp = plp;
  told = told plp s.events;
  place = has_place early items d pool plp c s.events whole has s.fed;
  fed = s.fed plp d lt;
}

pub cut_step : EarlyFits → BlocksFit → (c : Config) (frame : ℕ) (old new newer : List Input) (was is next : State)
    (before counts : List ℕ) (n count : ℕ) → IsPlan c → length old ≡ length c.plps → n < length old
    → n < length counts → CutUntil c frame old new was is before counts n
    → CutsOne c frame new newer is next n (slice_index counts n) count
    → CutUntil c frame old newer was next before (slice_set counts n count) (n + 1)
cut_step early late c frame old new newer was is next before counts n count plan whole inside room h one =
    let here : (d : Input) → slice_index_or new n d ≡ slice_index_or old n d = λ d. h.rest n d (omega arith) in
    let last : slice_index (slice_set counts n count) n ≡ count = get_or-set_same counts n count 0 room in
    let other : (j : ℕ) → j ≢ n → slice_index (slice_set counts n count) j ≡ slice_index counts j =
    λ j differ. get_or-set_other counts n j count 0 differ in
    let had : slice_index counts n ≡ slice_index before n = h.behind n (omega arith) in
    record {
      rest = λ j d le. one.others j d (omega arith) ∙ h.rest j d (omega arith);
      lists = λ j le. one.lists.lists j (omega arith) ∙ h.lists j (omega arith);
      lists_count = one.lists.count ∙ h.lists_count;
      opened = one.lists.opened ∙ h.opened;
      behind = λ j le. other j (omega arith) ∙ h.behind j (omega arith);
      few = λ j d blocks lt most_is within. elim (cases_lt j n) [
        | inl below ↦ rw (other j (omega arith)) (h.few j d blocks below most_is within)
        | inr from ↦
            let same : n ≡ j = omega arith in
            let most_here : most (slice_index_or new n d) ≤ blocks =
            rw (here d) (subst (λ (k : ℕ). most (slice_index_or old k d) ≤ blocks) (sym same) most_is) in
            let few_here : slice_index counts n ≤ blocks =
            rw had (subst (λ (k : ℕ). slice_index before k ≤ blocks) (sym same) within) in
            subst (λ (k : ℕ). slice_index (slice_set counts n count) k ≤ blocks) same
            (rw last (one.few d blocks most_here few_here))
      ];
      on = λ events e has all j d lt. elim (cases_lt j n) [
        | inl below ↦
            let k = goes_stays (h.on events e has all j d below) next (one.lists.lists j (omega arith)) in
            rw (one.others j d (omega arith), other j (omega arith)) k
        | inr from ↦
            let same : n ≡ j = omega arith in
            let place = place_next h whole has early late plan events d e all in
            let fed : IsFed (slice_index_or new n d) c n (told n events) (bits_in is n) =
            rw (here d, h.lists n (omega arith)) (all n d inside) in
            let on : GoesOn (slice_index_or newer n d) c n (told n events) next (slice_index before n) count =
            subst (λ (b : ℕ). GoesOn (slice_index_or newer n d) c n (told n events) next b count) had
            (one.on d (told n events) (sym e) place fed) in
            subst (λ (k : ℕ). GoesOn (slice_index_or newer k d) c k (told k events) next (slice_index before k)
            (slice_index (slice_set counts n count) k)) same (rw last on)
      ];
    }

pub cut_none : (c : Config) (frame : ℕ) (old : List Input) (pool : State) (counts : List ℕ)
    → CutUntil c frame old old pool pool counts counts 0
cut_none c frame old pool counts = record {
  rest = λ j d le. refl;
  lists = λ j le. refl;
  lists_count = refl;
  opened = refl;
  behind = λ j le. refl;
  few = λ j d blocks lt. absurd (omega arith);
  on = λ events e has all j d lt. absurd (omega arith);
}

-- In the next frame they are the same for each PLP of which no interleaving frame begins in it.
pub counts_stay : SpreadDividesFrames → (c : Config) (frame : ℕ) (counts : List ℕ) (events : List Event) → IsPlan c
    → ((inputs : ℕ → List (List ℕ)) → AllContinue c events inputs → counts ≡ told_counts c inputs frame)
    → CountsStay c (events ++ Begun ∷ []) (frame + 1) counts
counts_stay spreads c frame counts events plan told = λ inputs more plp lt off.
    let cont = back c events Begun inputs (λ j on. refl) more in
    let some = (spreads c plp plan.rules lt).0 in
    ap (λ (l : List ℕ). slice_index l plp) (told inputs cont)
    ∙ get_or-map-range_with_len (told_count c inputs frame) 0 (length c.plps) plp plp 0 lt (omega arith)
    ∙ ap (λ (m : ℕ). length (plp_blocks c inputs m plp)) (sym (same_number c plp frame some off))

-- the same for lists that stand behind others
pub fit_on : (c : Config) (old same : List Input) (before kept counts items : List ℕ) → same ≡ old → kept ≡ before
    → items ≡ counts → (AreFor same c → CountsFit c kept → CountsFit c counts) → AreFor old c → CountsFit c before
    → CountsFit c items
fit_on c old same before kept counts items e f g step are fit =
    subst (λ (l : List ℕ). CountsFit c l) (sym g)
    (step (subst (λ (l : List Input). AreFor l c) (sym e) are) (subst (λ (l : List ℕ). CountsFit c l) (sym f) fit))

-- what the others want stays
pub others_want : (items : List Input) (s : ℕ) (new : Input) (j : ℕ) → j ≢ s
    → slice_index (map wanted (slice_set items s new)) j
    ≡ slice_index (map wanted items) j
others_want items s new j differ = ap (λ (l : List ℕ). slice_index l j) (map-set wanted items s new)
    ∙ get_or-set_other (map wanted items) s j (wanted new) 0 differ

pub one_wants : (items : List Input) (s : ℕ) (new : Input) → s < length items
    → slice_index (map wanted (slice_set items s new)) s
    ≡ wanted new
one_wants items s new lt =
    let inside : s < length (map wanted items) = rw (length-map items wanted) lt in
    ap (λ (l : List ℕ). slice_index l s) (map-set wanted items s new) ∙ get_or-set_same (map wanted items)
    s (wanted new) 0 inside

pub one_fewer : (items : List Input) (s : ℕ) (d new : Input) → s < length items
    → wanted new + 1 ≡ wanted (slice_index_or items s d)
    → slice_index (map wanted (slice_set items s new)) s + 1 ≡ slice_index (map wanted items) s
one_fewer items s d new lt h = ap (λ (n : ℕ). n + 1) (one_wants items s new lt) ∙ h
    ∙ sym (get_or-map wanted items s d 0 lt)
