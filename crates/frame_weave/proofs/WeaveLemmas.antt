-- One group more is looked at, or placed.
use Rattle.std.proofs.Common.{◌≡◌, ℕ, ◌<◌, ◌&&◌, Bool, true, false, List, [], ◌∷◌, ◌++◌, length, Option, Some, refl, ap}
use Rattle.std.proofs.Common.{ap₂, sym, subst, ◌∙◌, arith, append-nil}
use Rattle.std.specs.Bool.{beq}
use Rattle.std.specs.Cmp.Lexicographic.{pointwise}
use Rattle.std.specs.List.{flat_map, list_all}
use Rattle.std.specs.Option.{unwrap_or, option_map_or}
use Rattle.std.specs.Prelude.{if◌then◌else◌}
use Rattle.std.proofs.lemmas.Bool.{and_parts, both_ways, false≢true}
use Rattle.std.proofs.lemmas.Grind.{flat_map-append}
use Rattle.std.proofs.lemmas.List.{length-append}
use Rattle.std.proofs.lemmas.List.Elements.{filter-append}
use Rattle.std.proofs.lemmas.List.Folds.{list_all-append}
use Rattle.linked_pool.specs.Pool.{State as Pool, list_at, chunks_of}
use Rattle.plp_config.specs.declared.config.Config.{Config}
use Rattle.t2mi_packet.specs.declared.packet.Body.{Body}
use Rattle.frame_groups.specs.Groups.{Group}
use Rattle.frame_groups.specs.Carried.{L1Parts}
use Rattle.frame_groups.specs.Tests.{pool_chunks}
use Rattle.open_group.specs.Holds.{Holds}
use Rattle.open_group.specs.Signals.{first_parts, signals, fits_pool}
use Rattle.open_group.specs.declared.group.PooledGroup.{PooledGroup}
use Rattle.frame_weave.specs.Marked.{marked_blocks, first_count}
use Rattle.frame_weave.proofs.SlotLemmas.{with_true}
use Rattle.frame_weave.proofs.SignalLemmas.{has_parts, made_parts}
use Rattle.frame_weave.specs.Made.{HoldsBodies, HoldsMade}
use Rattle.frame_weave.specs.Placed.{Placed, placed_from}
use Rattle.frame_weave.specs.Places.{has_room}
use Rattle.frame_weave.specs.Slots.{IsLaid, HoldsPlaced, AreSized, Fills}
use Rattle.frame_weave.specs.Weaves.{State, Signalled, TakesFirst}
use Rattle.frame_weave.specs.Woven.{signalling, same_dynamic, counts_by, placed_in, placed_by, placed_of, origin_of}
use Rattle.frame_weave.specs.Woven.{stamp_bodies, front_bodies, l1_bodies, group_with}
use Rattle.frame_weave.specs.declared.slots.Slots.{Slots}

-- the signalling groups, with one more
pub signals_more : (c : Config) (n : ℕ) (looked : List Group) (h : Group) → signals c n h.packets ≡ true
    → signalling c n (looked ++ h ∷ []) ≡ signalling c n looked ++ h ∷ []
signals_more c n looked h e =
    filter-append (λ (g : Group). signals c n g.packets) looked (h ∷ [])
    ∙ ap (λ (t : Bool). signalling c n looked ++ (if t then h ∷ [] else [])) e

-- nothing is placed of no groups
pub none_placed : (c : Config) (n : ℕ) (gs : List Group) → placed_of c n gs [] ≡ []
none_placed c n [] = refl
none_placed c n (t ∷ more) = go (has_room c (counts_by c n t))
  where
    go : (b : Bool) → (if b then flat_map (placed_in c (counts_by c n t) (unwrap_or (first_count t.packets) 0))
        [] else []) ≡ []
    go true = refl
    go false = refl

-- a group that has packets
pub made_group : (c : Config) (n : ℕ) (begun : Bool) (group : PooledGroup) (bodies : List Body) → 0 < length bodies
    → HoldsBodies c n begun group bodies → Holds group [] (Some (group_with c n bodies))
made_group c n begun group [] some h = absurd (omega (arith, some))
made_group c n begun group (b ∷ bodies) some h = h.1

pub some_front : (c : Config) (n : ℕ) (t : Group) (l1 : L1Parts) → first_parts t.packets ≡ Some l1
    → 0 < length (front_bodies c n t)
some_front c n t l1 is =
    let size = length-append (stamp_bodies c n) (l1_bodies c n (first_parts t.packets)) in
    let one = ap (λ (o : Option L1Parts). length (l1_bodies c n o)) is in
    omega (arith, size, one)

-- another dynamic part is compared with the one that was taken
pub compared : (c : Config) (n : ℕ) (old new : State) (gs : List Group) (h : Group) → old.is_taken ≡ true
    → new ≡ record old { agree = new.agree }
    → ((t : Group) (x y : L1Parts) → Holds old.made.group [] (Some t) → first_parts t.packets ≡ Some x
    → first_parts h.packets ≡ Some y → new.agree ≡ (old.agree && pointwise beq x.dynamic y.dynamic))
    → signals c n h.packets ≡ true → TakesFirst c old n gs → TakesFirst c new n (gs ++ h ∷ [])
compared c n old new [] h taken rest told signal first = absurd (both_ways old.is_taken first.0 taken)
compared c n old new (t ∷ more) h taken rest told signal first =
    let s = first.signalled in
    let own = has_parts c n t.packets s.has in
    let other = has_parts c n h.packets signal in
    let made : Holds old.made.group [] (Some (group_with c n (front_bodies c n t))) =
    made_group c n old.made.is_begun old.made.group (front_bodies c n t) (some_front c n t own.0 own.1) s.front in
    let held = ap (λ (o : Option L1Parts). first_parts (group_with c n (stamp_bodies c n ++ l1_bodies c n o)).packets)
    own.1
    ∙ made_parts c n own.0 in
    let agree : new.agree ≡ (old.agree && pointwise beq own.0.dynamic other.0.dynamic) =
    told (group_with c n (front_bodies c n t)) _ other.0 made held other.1 in
    let same : same_dynamic t h ≡ pointwise beq own.0.dynamic other.0.dynamic =
    ap₂ (λ (x y : Option L1Parts). pointwise beq (option_map_or (λ l1. l1.dynamic) x [])
    (option_map_or (λ l1. l1.dynamic) y []))
    own.1 other.1 in
    record {
      signalled = subst (λ (x : State). Signalled c x n t) (sym rest)
          (record { taken = s.taken; has = s.has; origin = s.origin; laid = s.laid; front = s.front });
      agree = agree ∙ ap (λ (b : Bool). b && pointwise beq own.0.dynamic other.0.dynamic) first.agree
          ∙ ap (λ (b : Bool). list_all (same_dynamic t) more && b) (sym same ∙ with_true (same_dynamic t h))
          ∙ sym (list_all-append (same_dynamic t) more (h ∷ []));
      sized = subst (λ (x : State). AreSized c (counts_by c n t) x.slots.pool) (sym rest) first.sized;
    }

-- places without blocks
none_sized : (c : Config) (counts : List ℕ) (pool : Pool) → ((k : ℕ) → list_at pool k ≡ [])
    → pool.opened ≡ pool_chunks c
    → length pool.lists ≡ pool_chunks c → AreSized c counts pool
none_sized c counts pool none opened lists = record {
  each = λ plp inside k low high. let e = ap chunks_of (none k) in omega (arith, e);
  none = λ k l. none k;
  opened = opened;
  lists = lists;
}

-- the first L1 signalling is taken
pub taken_first : (c : Config) (n : ℕ) (old new : State) (gs : List Group) (h : Group) → old.is_taken ≡ false
    → new.agree ≡ old.agree → new.slots ≡ old.slots → (HoldsMade c n old.made (stamp_bodies c n) → Signalled c new n h)
    → HoldsPlaced old.slots (placed_of c n gs []) → old.slots.pool.opened ≡ pool_chunks c
    → length old.slots.pool.lists ≡ pool_chunks c → TakesFirst c old n gs → TakesFirst c new n (gs ++ h ∷ [])
taken_first c n old new [] h taken agree slots takes blocks opened lists first = record {
  signalled = takes first.2;
  agree = agree ∙ first.1;
  sized = subst (λ (s : Slots). AreSized c (counts_by c n h) s.pool) (sym slots)
      (none_sized c (counts_by c n h) old.slots.pool blocks.first opened lists);
}
taken_first c n old new (t ∷ more) h taken agree slots takes blocks opened lists first =
    absurd (both_ways old.is_taken taken first.signalled.taken)

-- the blocks of one group more
in_more : (c : Config) (counts : List ℕ) (other : ℕ) (placed : List Group) (h : Group)
    → flat_map (placed_in c counts other) (placed ++ h ∷ []) ≡ flat_map (placed_in c counts other) placed
    ++ placed_in c counts other h
in_more c counts other placed h =
    flat_map-append (placed_in c counts other) placed (h ∷ [])
    ∙ ap (λ (l : List Placed). flat_map (placed_in c counts other) placed ++ l)
    (append-nil (placed_in c counts other h))

-- a group whose blocks are not placed
pub not_placed : (c : Config) (n : ℕ) (s : State) (gs placed : List Group) (h : Group) → TakesFirst c s n gs
    → false ≡ (s.is_taken && s.layout.is_room && fits_pool c h.packets)
    → placed_of c n gs placed ≡ placed_of c n gs (placed ++ h ∷ [])
not_placed c n s [] placed h first none = refl
not_placed c n s (t ∷ more) placed h first none =
    go (has_room c counts) (fits_pool c h.packets) refl refl
    (none ∙ ap₂ (λ (a b : Bool). a && b && fits_pool c h.packets) first.signalled.taken first.signalled.laid.room)
  where
    counts : List ℕ
    counts = counts_by c n t

    other : ℕ
    other = unwrap_or (first_count t.packets) 0

    go : (a b : Bool) → has_room c counts ≡ a → fits_pool c h.packets ≡ b → false ≡ (a && fits_pool c h.packets)
        → placed_by c n t placed ≡ placed_by c n t (placed ++ h ∷ [])
    go false b x y e =
        ap (λ (u : Bool). if u then flat_map (placed_in c counts other) placed else []) x
        ∙ sym (ap (λ (u : Bool). if u then flat_map (placed_in c counts other) (placed ++ h ∷ []) else []) x)
    go true true x y e = absurd (false≢true (e ∙ y))
    go true false x y e =
        ap (λ (u : Bool). if u then flat_map (placed_in c counts other) placed else []) x
        ∙ sym (ap (λ (u : Bool). if u then flat_map (placed_in c counts other) (placed ++ h ∷ []) else []) x
        ∙ in_more c counts other placed h
        ∙ ap (λ (u : Bool). flat_map (placed_in c counts other) placed
        ++ (if u then placed_from counts (origin_of other h) 0 (marked_blocks c h.packets) else [])) y
        ∙ append-nil (flat_map (placed_in c counts other) placed))

-- a group whose blocks are placed
pub one_placed : (c : Config) (n : ℕ) (t h : Group) (placed : List Group) → has_room c (counts_by c n t) ≡ true
    → fits_pool c h.packets ≡ true → placed_by c n t placed
    ++ placed_from (counts_by c n t) (origin_of (unwrap_or (first_count t.packets) 0) h) 0 (marked_blocks c h.packets)
    ≡ placed_by c n t (placed ++ h ∷ [])
one_placed c n t h placed room fits =
    let counts = counts_by c n t in
    let other = unwrap_or (first_count t.packets) 0 in
    let last = placed_from counts (origin_of other h) 0 (marked_blocks c h.packets) in
    ap (λ (u : Bool). (if u then flat_map (placed_in c counts other) placed else []) ++ last) room
    ∙ ap (λ (u : Bool). flat_map (placed_in c counts other) placed ++ (if u then last else [])) (sym fits)
    ∙ sym (in_more c counts other placed h)
    ∙ ap (λ (u : Bool). if u then flat_map (placed_in c counts other) (placed ++ h ∷ []) else []) (sym room)

-- it is placed besides those that were
pub placed_more : (c : Config) (n : ℕ) (s : State) (new : Slots) (gs placed : List Group) (h : Group)
    → TakesFirst c s n gs
    → (s.is_taken && s.layout.is_room && fits_pool c h.packets) ≡ true → HoldsPlaced s.slots (placed_of c n gs placed)
    → ((counts : List ℕ) (before : List Placed) → IsLaid c counts s.layout → has_room c counts ≡ true
    → Fills c counts s.slots before
    → Fills c counts new (before ++ placed_from counts (origin_of s.origin h) 0 (marked_blocks c h.packets)))
    → TakesFirst c (record s { slots = new }) n gs × HoldsPlaced new (placed_of c n gs (placed ++ h ∷ []))
placed_more c n s new [] placed h first can blocks more =
    absurd (both_ways s.is_taken first.0
    (and_parts s.is_taken s.layout.is_room (and_parts (s.is_taken && s.layout.is_room) (fits_pool c h.packets)
    can).0).0)
placed_more c n s new (t ∷ others) placed h first can blocks more =
    let counts = counts_by c n t in
    let g = first.signalled in
    let parts = and_parts (s.is_taken && s.layout.is_room) (fits_pool c h.packets) can in
    let room : has_room c counts ≡ true = sym g.laid.room ∙ (and_parts s.is_taken s.layout.is_room parts.0).1 in
    let all = more counts (placed_by c n t placed) g.laid room (record { sized = first.sized; holds = blocks }) in (
      record {
        signalled = record { taken = g.taken; has = g.has; origin = g.origin; laid = g.laid; front = g.front };
        agree = first.agree;
        sized = all.sized;
      },
      subst (HoldsPlaced new)
          (ap (λ (o : ℕ). placed_by c n t placed ++ placed_from counts (origin_of o h) 0 (marked_blocks c h.packets))
          g.origin
          ∙ one_placed c n t h placed room parts.1)
          all.holds,
    )
