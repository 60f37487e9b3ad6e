-- What is noted of the blocks that two streams carry, and where their frames differ by it.
use Rattle.std.proofs.Common.{◌≡◌, ℕ, zero, suc, ◌+◌, ◌-◌, ◌<◌, ◌≤◌, Bool, true, false, List, map, length}
use Rattle.std.proofs.Common.{slice_index_or}
use Rattle.std.proofs.Common.{Option, Some, None, option_map, refl, ap, ap₂, sym, subst, ◌∙◌, ⊎_elim, arith}
use Rattle.std.specs.Prelude.{if◌then◌else◌}
use Rattle.std.specs.List.{range_with_len}
use Rattle.std.specs.Option.{option_or}
use Rattle.std.proofs.lemmas.Bool.{cases_eq}
use Rattle.plp_config.specs.InterleavingFrames.{begin_of}
use Rattle.plp_config.specs.Laws.{BeginIsFirst, BeginIsLast, BeginAlone}
use Rattle.plp_config.specs.Plps.{plp_at}
use Rattle.plp_config.specs.Rules.{AllRules}
use Rattle.plp_config.specs.declared.config.Config.{Config}
use Rattle.t2mi_packet.specs.declared.packet.Packet.{Packet}
use Rattle.frame_groups.specs.Modulated.{Numbered}
use Rattle.frame_groups.specs.Begun.{packets_at}
use Rattle.frame_groups.specs.Carried.{right_blocks}
use Rattle.open_group.specs.Sent.{held_bytes}
use Rattle.feed_merge.specs.Groups.{HasRoom, CarriesRoom}
use Rattle.compare_run.specs.Comparing.{carried, dynamic_at, same_bits, first_other, first_some, place_in}
use Rattle.compare_run.specs.Comparing.{block_place, place_of}
use Rattle.compare_run.specs.AnswerLaws.{CarriesOwn}
use Rattle.compare_run.specs.TallyStandsFor.{blocks_in, Brings, IsOther, CarriedStandsFor, AreOthers, other_in}
use Rattle.compare_run.specs.declared.answer.Other.{Other}
use Rattle.compare_run.specs.declared.answer.Place.{Place}
use Rattle.compare_run.specs.declared.answer.Place.TheVariants as place
use Rattle.compare_run.specs.declared.answering.Carried.{Carried}
use Rattle.compare_run.proofs.BlockLemmas.{bits_equal, bits_same, other_none, none_other}

-- ---- one frame more

-- the blocks of a PLP in a group
abbrev held : Config → ℕ → List Packet → List (List ℕ)
held c plp packets = map held_bytes (right_blocks c plp packets)

-- they are those that are brought, if they have room
brought : (c : Config) (gs : List Numbered) (n plp : ℕ) (lists : Option (List (List (List ℕ)))) → plp < length c.plps
    → Brings c gs n lists → HasRoom c gs n → blocks_in lists plp ≡ held c plp (packets_at gs n)
brought c gs n plp None inside h room = sym (ap (held c plp) (h room))
brought c gs n plp (Some lists) inside h room = h plp inside

-- the same of an interleaving frame that begins in a frame
abbrev DiffersAt : Config → ℕ → ℕ → List Numbered → List Numbered → Option Other → Type 0
DiffersAt c plp b ga gb other =
    HasRoom c ga b → HasRoom c gb b → other ≡ first_other (held c plp (packets_at ga b)) (held c plp (packets_at gb b))

is_other : (c : Config) (plp n b : ℕ) (ga gb : List Numbered) (other : Option Other) → begin_of c plp n ≡ b
    → DiffersAt c plp b ga gb other → IsOther c plp (n + 1) ga gb other
is_other c plp n b ga gb other e h some =
    let last : n ≡ n + 1 - 1 = omega arith in
    subst (λ (k : ℕ). DiffersAt c plp k ga gb other) (sym e ∙ ap (begin_of c plp) last) h

pub noted_here : (c : Config) (plp n : ℕ) (ga gb : List Numbered) (la lb : Option (List (List (List ℕ))))
    (other : Option Other)
    → plp < length c.plps → begin_of c plp n ≡ n → other ≡ first_other (blocks_in la plp) (blocks_in lb plp)
    → Brings c ga n la
    → Brings c gb n lb → IsOther c plp (n + 1) ga gb other
noted_here c plp n ga gb la lb other inside begin is a b =
    is_other c plp n n ga gb other begin
    (λ ra rb. is ∙ ap₂ first_other (brought c ga n plp la inside a ra) (brought c gb n plp lb inside b rb))

-- the frames from the one in which an interleaving frame begins on up to one that carries it carry it
same_begin : BeginIsFirst → BeginIsLast → (c : Config) (plp m n : ℕ) → AllRules c → plp < length c.plps
    → begin_of c plp n ≤ m
    → m ≤ n → begin_of c plp n ≡ begin_of c plp m
same_begin first last c plp m n rules inside low high =
    let here : begin_of c plp m ≤ m = omega arith in
    let a = last c plp m (begin_of c plp n) rules inside (first c plp n rules inside) low in
    let b = last c plp n (begin_of c plp m) rules inside (first c plp m rules inside) (omega (arith, here, high)) in
    omega (arith, a, b)

pub noted_before : BeginIsFirst → BeginIsLast → (c : Config) (plp next n begin : ℕ) (ga gb : List Numbered)
    (other : Option Other)
    → AllRules c → plp < length c.plps → begin_of c plp n ≡ begin → begin < next → next ≤ n
    → IsOther c plp next ga gb other
    → IsOther c plp (n + 1) ga gb other
noted_before first last c plp next n begin ga gb other rules inside is low high h =
    is_other c plp n (begin_of c plp (next - 1)) ga gb other
    (same_begin first last c plp (next - 1) n rules inside (omega (arith, is, low)) (omega (arith, high)))
    (h (omega (arith, low)))

-- ---- the first answer

first_at : {Y : Type 0} (f : ℕ → Option Y) (a len k : ℕ) (y : Y) → ((j : ℕ) → a ≤ j → j < k → f j ≡ None)
    → a ≤ k → k < a + len
    → f k ≡ Some y → first_some f (range_with_len a len) ≡ Some y
first_at f a zero k y none low high e = absurd (omega (arith, low, high))
first_at {Y} f a (suc len) k y none low high e = ⊎_elim
    (λ (s : a ≡ k). ap (λ (o : Option Y). option_or o (first_some f (range_with_len (a + 1) len))) (ap f s ∙ e))
    (λ (ne : a ≡ k → ⊥).
    ap (λ (o : Option Y). option_or o (first_some f (range_with_len (a + 1) len)))
    (none a (omega arith) (omega (arith, low, ne)))
    ∙ first_at f (a + 1) len k y (λ j from to. none j (omega (arith, from)) to) (omega (arith, low, ne))
    (omega (arith, high)) e)
    (cases_eq a k)

first_none : {Y : Type 0} (f : ℕ → Option Y) (a len : ℕ) → ((j : ℕ) → a ≤ j → j < a + len → f j ≡ None)
    → first_some f (range_with_len a len) ≡ None
first_none f a zero none = refl
first_none f a (suc len) none =
    ap₂ option_or (none a (omega arith) (omega arith))
    (first_none f (a + 1) len (λ j low high. none j (omega (arith, low)) (omega (arith, high))))

each_none : {Y : Type 0} (f : ℕ → Option Y) (a len k : ℕ) → first_some f (range_with_len a len) ≡ None
    → a ≤ k → k < a + len
    → f k ≡ None
each_none f a zero k e low high = absurd (omega (arith, low, high))
each_none {Y} f a (suc len) k e low high =
    let both = neither (f a) (first_some f (range_with_len (a + 1) len)) e in
    ⊎_elim (λ (s : a ≡ k). sym (ap f s) ∙ both.0)
    (λ (ne : a ≡ k → ⊥). each_none f (a + 1) len k both.1 (omega (arith, low, ne)) (omega (arith, high)))
    (cases_eq a k)
  where
    neither : (o p : Option Y) → option_or o p ≡ None → (o ≡ None) × (p ≡ None)
    neither None p e = (refl, e)
    neither (Some y) p e = absurd (let z : ◌≡◌ {A = Option Y} (Some y) None = e in cc)

first_same : {Y : Type 0} (f g : ℕ → Option Y) (a len : ℕ) → ((j : ℕ) → a ≤ j → j < a + len → f j ≡ g j)
    → first_some f (range_with_len a len) ≡ first_some g (range_with_len a len)
first_same f g a zero same = refl
first_same f g a (suc len) same =
    ap₂ option_or (same a (omega arith) (omega arith))
    (first_same f g (a + 1) len (λ j low high. same j (omega (arith, low)) (omega (arith, high))))

abbrev place_at : Config → ℕ → Option Other → Option Place
place_at c plp other = option_map (place_in c plp) other

pub block_there : (c : Config) (others : List (Option Other)) (k id : ℕ) (other : Other)
    → ((j : ℕ) → j < k → slice_index_or others j None ≡ None)
    → k < length c.plps → slice_index_or others k None ≡ Some other → id ≡ (plp_at c.plps k).id
    → Some (place.Block id other.number) ≡ block_place c (λ plp. slice_index_or others plp None)
block_there c others k id other none inside e is =
    sym (first_at (λ plp. place_at c plp (slice_index_or others plp None)) 0 (length c.plps) k
    (place.Block id other.number)
    (λ j low high. ap (place_at c j) (none j high)) (omega arith) (omega (arith, inside))
    (ap (place_at c k) e ∙ ap (λ (i : ℕ). Some (place.Block i other.number)) (sym is)))

pub no_block : (c : Config) (other : ℕ → Option Other) → ((j : ℕ) → j < length c.plps → other j ≡ None)
    → block_place c other ≡ None
no_block c other none = first_none (λ plp. place_at c plp (other plp)) 0 (length c.plps)
    (λ j low high. ap (place_at c j) (none j (omega (arith, high))))

-- ---- where a frame differs

-- what is noted of each PLP is of the frame before the number, if what it carries has room
pub are_others : (c : Config) (n : ℕ) (ga gb : List Numbered) (x : Carried) → CarriedStandsFor x c (n + 1) ga gb
    → CarriesRoom c ga n → CarriesRoom c gb n → AreOthers x c n ga gb
are_others c n ga gb x stands ra rb plp inside =
    let last : n + 1 - 1 ≡ n = omega arith in
    subst (λ (k : ℕ). DiffersAt c plp (begin_of c plp k) ga gb (other_in x plp)) last (stands plp inside (omega arith))
    (ra plp inside) (rb plp inside)

module _ (c : Config) (n : ℕ) (ga gb : List Numbered) (a b : List Bool) (da : a ≡ dynamic_at ga n)
    (db : b ≡ dynamic_at gb n) where
  abbrev blocks_place : Option Place
  blocks_place = block_place c (λ plp. first_other (carried c ga plp n) (carried c gb plp n))

  pub same_by : (t : Bool) → same_bits a b ≡ t → place_of c n ga gb ≡ (if t then blocks_place else Some place.L1)
  unfolding place_of
  same_by t e = ap (λ (s : Bool). if s then blocks_place else Some place.L1) (ap₂ same_bits (sym da) (sym db) ∙ e)

  pub l1_differs : same_bits a b ≡ false → Some place.L1 ≡ place_of c n ga gb
  l1_differs e = sym (same_by false e)

  pub block_differs : same_bits a b ≡ true → (x : Carried) → AreOthers x c n ga gb
      → block_place c (λ plp. slice_index_or x.others.items plp None) ≡ place_of c n ga gb
  block_differs e x are =
      first_same (λ plp. place_at c plp (slice_index_or x.others.items plp None))
      (λ plp. place_at c plp (first_other (carried c ga plp n) (carried c gb plp n))) 0 (length c.plps)
      (λ plp low high. ap (place_at c plp) (are plp (omega (arith, high))))
      ∙ sym (same_by true e)

-- frames with one dynamic part that carry the same
pub nothing_differs : (c : Config) (n : ℕ) (ga gb : List Numbered) → dynamic_at ga n ≡ dynamic_at gb n
    → ((plp : ℕ) → plp < length c.plps → carried c ga plp n ≡ carried c gb plp n) → place_of c n ga gb ≡ None
nothing_differs c n ga gb dynamic blocks =
    same_by c n ga gb (dynamic_at ga n) (dynamic_at gb n) refl refl true (bits_same (dynamic_at ga n)
    (dynamic_at gb n) dynamic)
    ∙ no_block c (λ plp. first_other (carried c ga plp n) (carried c gb plp n))
    (λ plp inside. ap (first_other (carried c ga plp n)) (sym (blocks plp inside)) ∙ other_none (carried c ga plp n))

pub same_parts : (c : Config) (n : ℕ) (ga gb : List Numbered) → place_of c n ga gb ≡ None
    → (dynamic_at ga n ≡ dynamic_at gb n) × ((plp : ℕ) → plp < length c.plps → carried c ga plp n ≡ carried c gb plp n)
same_parts c n ga gb none = go (same_bits da db) refl
  where
    da : List Bool
    da = dynamic_at ga n

    db : List Bool
    db = dynamic_at gb n

    unmapped : (plp : ℕ) (o : Option Other) → place_at c plp o ≡ None → o ≡ None
    unmapped plp None e = refl
    unmapped plp (Some o) e = absurd (let z : ◌≡◌ {A = Option Place} (Some (place_in c plp o)) None = e in cc)

    go : (t : Bool) → same_bits da db ≡ t
        → (da ≡ db) × ((plp : ℕ) → plp < length c.plps → carried c ga plp n ≡ carried c gb plp n)
    go false e = absurd (let z : ◌≡◌ {A = Option Place} (Some place.L1) None = sym
        (same_by c n ga gb da db refl refl false e) ∙ none in cc)
    go true e = (
      bits_equal da db e,
      λ plp inside.
          none_other (carried c ga plp n) (carried c gb plp n)
          (unmapped plp (first_other (carried c ga plp n) (carried c gb plp n))
          (each_none (λ k. place_at c k (first_other (carried c ga k n) (carried c gb k n))) 0 (length c.plps) plp
          (sym (same_by c n ga gb da db refl refl true e) ∙ none) (omega arith) (omega (arith, inside)))),
    )

-- interleaving frames of single frames
pub carries_own : BeginAlone → CarriesOwn
carries_own law c gs plp n alone inside = ap (λ (b : ℕ). held c plp (packets_at gs b))
    (law c plp n (alone plp inside)).2
