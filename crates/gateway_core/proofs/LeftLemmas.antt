-- The blocks that are left, one by one.
use Rattle.std.proofs.Common.{◌≡◌, ◌≢◌, ℕ, zero, suc, ◌+◌, ◌-◌, ◌%◌, ◌<◌, ◌≤◌, Bool, true, false, List, [], ◌∷◌, ◌++◌}
use Rattle.std.proofs.Common.{length, map, drop, refl, ap, sym, subst, ◌∙◌, inl, inr, arith, eq-eqb, get_or-set_same}
use Rattle.std.proofs.Common.{get_or-set_other, cond}
use Rattle.std.specs.Prelude.{◌==◌, ◌||◌, not, slice_index_or}
use Rattle.std.specs.List.{flat_map, range_with_len}
use Rattle.std.proofs.lemmas.Bool.{cases_lt, cases_eq, cases_Bool, ne_eqb, lt-ltb, le-ltb}
use Rattle.std.proofs.lemmas.List.Elements.{All-drop}
use Rattle.terms.specs.Bits.{bits_of}
use Rattle.terms.proofs.RangeLemmas.{flat_same}
use Rattle.linked_pool.specs.Pool.{State, list_at, popped}
use Rattle.plp_config.specs.InterleavingFrames.{is_first}
use Rattle.plp_config.specs.Plps.{plp_at}
use Rattle.plp_config.specs.declared.config.Config.{Config}
use Rattle.plp_config.specs.declared.plp.TheConstants.{MOST_BLOCK_BYTES}
use Rattle.mode_adapt.specs.Place.{AreShort}
use Rattle.t2mi_packet.specs.declared.packet.Body.{Body}
use Rattle.t2mi_packet.specs.declared.packet.Body.TheVariants.{Block}
use Rattle.t2mi_packet.specs.T2miPacket.{written_bits}
use Rattle.frame_writer.specs.FramePackets.{l1_body, packet_with}
use Rattle.gateway_core.specs.Packets.{block_bodies, plp_bodies}
use Rattle.frame_writer.specs.Builds.{Builds}
use Rattle.gateway_core.specs.Left.{left, early_until, early_at}
use Rattle.frame_writer.specs.FirstPacket.{from_step, first_step}
use Rattle.frame_writer.specs.Whole.{IsWhole}
use Rattle.frame_writer.specs.declared.step.FrameStep.{FrameStep}
use Rattle.frame_writer.specs.declared.step.FrameStep.TheVariants.{Stamp, Signal, Blocks, Over}
use Rattle.frame_writer.specs.declared.signalling.Signalling.{Signalling}
use Rattle.gateway_core.specs.declared.frame.Frame.{Frame}
use Rattle.gateway_core.specs.BlocksLeft.{blocks_left}
use Rattle.gateway_core.specs.Lists.{bits_in, own_in, later_in, AllShort, IsNext}

-- the PLPs from one on are that one and the others
pub bodies_more : (c : Config) (n : ℕ) (blocks : ℕ → List (List Bool)) (from : ℕ) → from < length c.plps
    → plp_bodies c n blocks from ≡ block_bodies (n % c.frames) (plp_at c.plps from).id true (blocks from)
    ++ plp_bodies c n blocks
    (from + 1)
bodies_more c n blocks from lt = let e : length c.plps - from ≡ suc (length c.plps - (from + 1)) = omega
    arith in rw e refl

bodies_none : (c : Config) (n : ℕ) (blocks : ℕ → List (List Bool)) (from : ℕ) → length c.plps ≤ from
    → plp_bodies c n blocks from
    ≡ []
bodies_none c n blocks from le = let e : length c.plps - from ≡ 0 = omega arith in rw e refl

none_from : (f : ℕ → List Body) (a k : ℕ) → ((j : ℕ) → a ≤ j → f j ≡ []) → flat_map f (range_with_len a k) ≡ []
none_from f a zero h = refl
none_from f a (suc k) h = rw (h a (omega arith)) (none_from f (a + 1) k (λ j le. h j (omega arith)))

-- the PLPs from one on are the same bodies if their blocks are
bodies_same : (c : Config) (n : ℕ) (f g : ℕ → List (List Bool)) (from : ℕ) → ((j : ℕ) → from ≤ j → f j ≡ g j)
    → plp_bodies c n f from ≡ plp_bodies c n g from
bodies_same c n f g from h =
    flat_same _ _ from (length c.plps - from) (λ j le lt. ap (block_bodies (n % c.frames) (plp_at c.plps j).id true)
    (h j le))

-- PLPs without blocks are passed over
bodies_past : (c : Config) (n : ℕ) (blocks : ℕ → List (List Bool)) (from k : ℕ)
    → ((j : ℕ) → from ≤ j → j < from + k → blocks j ≡ []) → plp_bodies c n blocks from ≡ plp_bodies c
    n blocks (from + k)
bodies_past c n blocks from zero h = let z : from ≡ from + 0 = omega arith in ap (plp_bodies c n blocks) z
bodies_past c n blocks from (suc k) h =
    let z : (from + 1) + k ≡ from + suc k = omega arith in
    let rest : plp_bodies c n blocks (from + 1) ≡ plp_bodies c n blocks (from + suc k) =
    bodies_past c n blocks (from + 1) k (λ j le lt. h j (omega arith) (omega arith)) ∙ ap (plp_bodies c n blocks) z in
    elim (cases_lt from (length c.plps)) [
      | inl lt ↦
          let none : blocks from ≡ [] = h from (omega arith) (omega arith) in
          bodies_more c n blocks from lt
          ∙ ap (λ (l : List (List Bool)). block_bodies (n % c.frames) (plp_at c.plps from).id true l
          ++ plp_bodies c n blocks
          (from + 1)) none ∙ rest
      | inr ge ↦ bodies_none c n blocks from ge ∙ sym (bodies_none c n blocks (from + suc k) (omega arith))
    ]

first_same : (first : Bool) (plp : ℕ) → (first || not (plp == plp)) ≡ first
first_same true plp = refl
first_same false plp = let self : (plp == plp) ≡ true = eq-eqb plp plp refl in rw self refl

first_new : (first : Bool) (plp next : ℕ) → plp ≢ next → (first || not (next == plp)) ≡ true
first_new true plp next differ = refl
first_new false plp next differ = let no : (next == plp) ≡ false = ne_eqb next plp (λ e. differ (sym e)) in rw no refl

-- what is left does not change if PLPs without blocks are passed over
skipped : (c : Config) (n : ℕ) (blocks : ℕ → List (List Bool)) (plp next : ℕ) (first : Bool) → plp ≤ next
    → next < length c.plps
    → ((j : ℕ) → plp ≤ j → j < next → blocks j ≡ [])
    → blocks_left c n blocks plp first ≡ blocks_left c n blocks next (first || not (next == plp))
skipped c n blocks plp next first le lt h =
    elim (cases_eq plp next) [
      | inl same ↦
          let stays : (first || not (next == plp)) ≡ first =
          subst (λ (k : ℕ). (first || not (k == plp)) ≡ first) same (first_same first plp) in
          ap (λ (k : ℕ). blocks_left c n blocks k first) same ∙ ap (blocks_left c n blocks next) (sym stays)
      | inr differ ↦
          let none : blocks plp ≡ [] = h plp (omega arith) (omega arith) in
          let gap : (plp + 1) + (next - (plp + 1)) ≡ next = omega arith in
          let past : plp_bodies c n blocks (plp + 1) ≡ plp_bodies c n blocks next =
          bodies_past c n blocks (plp + 1) (next - (plp + 1)) (λ j from to. h j (omega arith) (omega arith))
          ∙ ap (plp_bodies c n blocks) gap in
          ap (λ (l : List (List Bool)). block_bodies (n % c.frames) (plp_at c.plps plp).id first l
          ++ plp_bodies c n blocks
          (plp + 1)) none
          ∙ past ∙ bodies_more c n blocks next lt ∙ ap (blocks_left c n blocks next)
          (sym (first_new first plp next differ))
    ]

none_left : (c : Config) (n : ℕ) (blocks : ℕ → List (List Bool)) (plp : ℕ) (first : Bool)
    → ((j : ℕ) → plp ≤ j → blocks j ≡ []) → blocks_left c n blocks plp first ≡ []
none_left c n blocks plp first h =
    ap (λ (l : List (List Bool)). block_bodies (n % c.frames) (plp_at c.plps plp).id first l
    ++ plp_bodies c n blocks (plp + 1))
    (h plp (omega arith))
    ∙ none_from (λ j. block_bodies (n % c.frames) (plp_at c.plps j).id true (blocks j)) (plp + 1) _
    (λ j le. ap (block_bodies (n % c.frames) (plp_at c.plps j).id true) (h j (omega arith)))

-- a pool without the first block of a list
pop_same : (pool : State) (list : ℕ) → list < length pool.lists → list_at (popped pool list) list ≡ drop
    1 (list_at pool list)
pop_same pool list lt = get_or-set_same pool.lists list (drop 1 (list_at pool list)) [] lt

pop_other : (pool : State) (list j : ℕ) → j ≢ list → list_at (popped pool list) j ≡ list_at pool j
pop_other pool list j differ = get_or-set_other pool.lists list j (drop 1 (list_at pool list)) [] differ

first_and_rest : (blocks : List (List ℕ)) → 0 < length blocks → blocks ≡ slice_index_or blocks 0 [] ∷ drop 1 blocks
first_and_rest [] lt = absurd (omega arith)
first_and_rest (b ∷ bs) lt = refl

-- ---- of the blocks that are sent in a frame

own_is : (c : Config) (n : ℕ) (pool : State) (j : ℕ) → is_first c j n ≡ true → own_in c n pool j ≡ bits_in pool j
own_is c n pool j on = ap (λ (b : Bool). cond {A = List (List Bool)} b (bits_in pool j) []) on

later_none : (c : Config) (n : ℕ) (pool : State) (j : ℕ) → is_first c j n ≡ true → later_in c n pool j ≡ []
later_none c n pool j on = ap (λ (b : Bool). cond {A = List (List Bool)} b [] (bits_in pool j)) on

-- If none are sent, all are for later.
later_is : (c : Config) (n : ℕ) (pool : State) (j : ℕ) → own_in c n pool j ≡ [] → later_in c n pool j ≡ bits_in pool j
later_is c n pool j none =
    elim (cases_Bool (is_first c j n)) [
      | inl on ↦ later_none c n pool j on ∙ sym none ∙ own_is c n pool j on
      | inr off ↦ ap (λ (b : Bool). cond {A = List (List Bool)} b [] (bits_in pool j)) off
    ]

-- A list that gives a block leaves those of the others.
own_other : (c : Config) (n : ℕ) (pool : State) (list j : ℕ) → j ≢ list
    → own_in c n (popped pool list) j ≡ own_in c n pool j
own_other c n pool list j differ =
    ap (λ (l : List (List ℕ)). cond {A = List (List Bool)} (is_first c j n) (map bits_of l) [])
    (pop_other pool list j differ)

later_other : (c : Config) (n : ℕ) (pool : State) (list j : ℕ) → j ≢ list → later_in c n (popped pool list) j
    ≡ later_in c n pool j
later_other c n pool list j differ =
    ap (λ (l : List (List ℕ)). cond {A = List (List Bool)} (is_first c j n) [] (map bits_of l))
    (pop_other pool list j differ)

-- the next block, and what comes behind it
block_left : (c : Config) (n : ℕ) (pool : State) (plp : ℕ) (first : Bool) → plp < length pool.lists
    → is_first c plp n ≡ true → 0 < length (list_at pool plp)
    → blocks_left c n (own_in c n pool) plp first
    ≡ Block (n % c.frames) (plp_at c.plps plp).id first (bits_of (slice_index_or (list_at pool plp) 0 []))
    ∷ blocks_left c n (own_in c n (popped pool plp)) plp false
block_left c n pool plp first lt on some =
    let front : list_at pool plp ≡ slice_index_or (list_at pool plp) 0 [] ∷ list_at (popped pool plp) plp =
    first_and_rest (list_at pool plp) some ∙ ap (λ (l : List (List ℕ)). slice_index_or (list_at pool plp) 0 [] ∷ l)
    (sym (pop_same pool plp lt)) in
    let others : plp_bodies c n (own_in c n pool) (plp + 1) ≡ plp_bodies c n (own_in c n (popped pool plp)) (plp + 1) =
    bodies_same c n (own_in c n pool) (own_in c n (popped pool plp)) (plp + 1)
    (λ j from. sym (own_other c n pool plp j (λ e. absurd (omega arith)))) in
    let own : own_in c n pool plp ≡ map bits_of (slice_index_or (list_at pool plp) 0 [] ∷ list_at (popped pool plp)
    plp) =
    own_is c n pool plp on ∙ ap (map bits_of) front in
    ap (λ (l : List (List Bool)). block_bodies (n % c.frames) (plp_at c.plps plp).id first l
    ++ plp_bodies c n (own_in c n pool) (plp + 1)) own
    ∙ ap (λ (l : List Body). Block (n % c.frames) (plp_at c.plps plp).id first
    (bits_of (slice_index_or (list_at pool plp) 0 []))
    ∷ (block_bodies (n % c.frames) (plp_at c.plps plp).id false (bits_in (popped pool plp) plp) ++ l)) others
    ∙ ap (λ (l : List (List Bool)). Block (n % c.frames) (plp_at c.plps plp).id first
    (bits_of (slice_index_or (list_at pool plp) 0 []))
    ∷ (block_bodies (n % c.frames) (plp_at c.plps plp).id false l ++ plp_bodies c n (own_in c n (popped pool plp))
    (plp + 1)))
    (sym (own_is c n (popped pool plp) plp on))

pub built_block : (c : Config) (n number : ℕ) (step : FrameStep) (signal : Body) (pool : State) (plp next : ℕ)
    (first now : Bool)
    (block : List ℕ) (bits : List Bool) → step ≡ Blocks → length pool.lists ≡ length c.plps → IsNext c n pool plp next
    → now ≡ (first || not (next == plp)) → block ≡ slice_index_or (list_at pool next) 0 []
    → bits ≡ written_bits (packet_with c number n (Block (n % c.frames) (plp_at c.plps next).id now (bits_of block)))
    → IsWhole bits → Builds c n number (from_step c n step signal (blocks_left c n (own_in c n pool) plp first))
    (from_step c n step signal (blocks_left c n (own_in c n (popped pool next)) next false)) bits
built_block c n number step signal pool plp next first now block bits e plps is begins front built whole =
    let inside = is.inside in
    let was : blocks_left c n (own_in c n pool) plp first ≡ Block (n % c.frames) (plp_at c.plps next).id
    now (bits_of block)
    ∷ blocks_left c n (own_in c n (popped pool next)) next false =
    skipped c n (own_in c n pool) plp next first is.order (omega arith) is.none
    ∙ ap (blocks_left c n (own_in c n pool) next) (sym begins) ∙ block_left c n pool next now inside is.own is.some
    ∙ ap (λ (b : List ℕ). Block (n % c.frames) (plp_at c.plps next).id now (bits_of b)
    ∷ blocks_left c n (own_in c n (popped pool next)) next false) (sym front) in
    subst (λ (s : FrameStep). Builds c n number (from_step c n s signal (blocks_left c n (own_in c n pool) plp first))
    (from_step c n s signal (blocks_left c n (own_in c n (popped pool next)) next false)) bits) (sym e)
    (record {
      body = Block (n % c.frames) (plp_at c.plps next).id now (bits_of block);
      was = was;
      built =
          built;
      whole = whole;
    })

-- Nothing is left of a frame without blocks.
pub nothing_left : (c : Config) (n : ℕ) (step : FrameStep) (signal : Body) (pool : State) (plp : ℕ) (first : Bool)
    → step ≡ Blocks
    → ((j : ℕ) → plp ≤ j → own_in c n pool j ≡ [])
    → from_step c n step signal (blocks_left c n (own_in c n pool) plp first) ≡ []
nothing_left c n step signal pool plp first e none =
    ap (λ (s : FrameStep). from_step c n s signal (blocks_left c n (own_in c n pool) plp first)) e
    ∙ none_left c n (own_in c n pool) plp first none

-- Nothing is left of a frame that is over.
pub over_left : (c : Config) (s : Signalling) (f : Frame) → f.step ≡ Over → left c s f ≡ []
over_left c s f e =
    ap (λ (step : FrameStep). from_step c f.number step (l1_body c f.number s.pre s.conf f.dynamic.bits)
    (blocks_left c f.number (own_in c f.number f.blocks) f.plp f.first)) e

-- ---- of those that begin later

is_below : (c : Config) (n plp : ℕ) (pool : State) (j : ℕ) → j < plp → early_until c n plp pool j ≡ bits_in pool j
is_below c n plp pool j lt =
    ap (λ (b : Bool). cond {A = List (List Bool)} b (bits_in pool j) (later_in c n pool j)) (lt-ltb j plp lt)

is_from : (c : Config) (n plp : ℕ) (pool : State) (j : ℕ) → plp ≤ j → early_until c n plp pool j ≡ later_in c n pool j
is_from c n plp pool j le =
    ap (λ (b : Bool). cond {A = List (List Bool)} b (bits_in pool j) (later_in c n pool j)) (le-ltb j plp le)

-- They stay as a list gives its first block,
until_popped : (c : Config) (n plp next : ℕ) (pool : State) → IsNext c n pool plp next → (j : ℕ)
    → early_until c n next (popped pool next) j ≡ early_until c n plp pool j
until_popped c n plp next pool is j =
    elim (cases_lt j next) [
      | inl before ↦ is_below c n next (popped pool next) j before
          ∙ ap (map bits_of) (pop_other pool next j (λ e. absurd (omega arith)))
          ∙ elim (cases_lt j plp) [
            | inl below ↦ sym (is_below c n plp pool j below)
            | inr from ↦ sym (is_from c n plp pool j from ∙ later_is c n pool j (is.none j from before))
          ]
      | inr from ↦ is_from c n next (popped pool next) j from
          ∙ elim (cases_eq j next) [
            | inl same ↦
                let on : is_first c j n ≡ true = ap (λ (k : ℕ). is_first c k n) same ∙ is.own in
                later_none c n (popped pool next) j on ∙ sym (later_none c n pool j on)
            | inr differ ↦ later_other c n pool next j differ
          ]
          ∙ sym (is_from c n plp pool j (let order = is.order in omega arith))
    ]

pub early_popped : (c : Config) (n plp next : ℕ) (step : FrameStep) (pool : State) → step ≡ Blocks
    → IsNext c n pool plp next → (j : ℕ)
    → early_at c n step next (popped pool next) j ≡ early_at c n step plp pool j
early_popped c n plp next step pool e is j =
    ap (λ (s : FrameStep). early_at c n s next (popped pool next) j) e ∙ until_popped c n plp next pool is j
    ∙ sym (ap (λ (s : FrameStep). early_at c n s plp pool j) e)

-- and as it turns out that none has one.
pub early_end : (c : Config) (n plp : ℕ) (step : FrameStep) (pool : State) → step ≡ Blocks
    → ((j : ℕ) → plp ≤ j → own_in c n pool j ≡ []) → (j : ℕ) → bits_in pool j ≡ early_at c n step plp pool j
early_end c n plp step pool e none j =
    elim (cases_lt j plp) [
      | inl below ↦ sym (is_below c n plp pool j below)
      | inr from ↦ sym (is_from c n plp pool j from ∙ later_is c n pool j (none j from))
    ] ∙ sym (ap (λ (s : FrameStep). early_at c n s plp pool j) e)

at_begin : (c : Config) (n : ℕ) (pool : State) (b : Bool) (j : ℕ) → early_at c n (cond b Stamp Signal) 0 pool j
    ≡ early_until c n 0 pool j
at_begin c n pool true j = refl
at_begin c n pool false j = refl

pub early_begin : (c : Config) (n : ℕ) (step : FrameStep) (pool : State) → step ≡ first_step c n → (j : ℕ)
    → early_at c n step 0 pool j ≡ later_in c n pool j
early_begin c n step pool e j =
    ap (λ (s : FrameStep). early_at c n s 0 pool j) e ∙ at_begin c n pool (n % c.frames == 0) j
    ∙ is_from c n 0 pool j (omega arith)

-- The blocks stay short as a list gives its first one.
pub pop_short : (pool : State) (list : ℕ) → list < length pool.lists → AllShort pool → AllShort (popped pool list)
pop_short pool list lt h = λ j.
    elim (cases_eq j list) [
      | inl same ↦ subst (λ (k : ℕ). AreShort (list_at (popped pool list) k)) (sym same)
          (subst AreShort (sym (pop_same pool list lt))
          (All-drop (λ (block : List ℕ). length block ≤ MOST_BLOCK_BYTES) 1 (list_at pool list) (h list)))
      | inr differ ↦ subst AreShort (sym (pop_other pool list j differ)) (h j)
    ]
