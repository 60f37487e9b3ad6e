-- The groups before: none, and one more.
use Rattle.std.proofs.Common.{◌≡◌, ◌≢◌, ℕ, zero, suc, ◌+◌, ◌-◌, ◌*◌, ◌/◌, ◌%◌, ◌<◌, ◌≤◌, ◌^◌, true, false, List, []}
use Rattle.std.proofs.Common.{◌∷◌, length, replicate, Option, Some, None, is_some, refl, ap, sym, subst, ◌∙◌, ⊎_elim}
use Rattle.std.proofs.Common.{arith}
use Rattle.std.specs.Prelude.{slice_index, slice_index_or}
use Rattle.std.specs.List.{range_with_len}
use Rattle.std.proofs.Math.Nat.{mul-le-mul_right, zero-mod}
use Rattle.std.proofs.lemmas.Bool.{cases_eq, cases_lt, cond_both, cond-true, cond-false, eq-eqb, true≢false}
use Rattle.std.proofs.lemmas.Nat.{div-add-mod', mod_below, mod-mul-add}
use Rattle.plp_config.specs.InterleavingFrames.{is_first, begin_of}
use Rattle.plp_config.specs.Laws.{BeginIsFirst, BeginIsLast, BeginsInSuperframe}
use Rattle.plp_config.specs.Plps.{spread}
use Rattle.plp_config.specs.Rules.{AllRules}
use Rattle.plp_config.specs.declared.config.Config.{Config}
use Rattle.t2mi_packet.specs.declared.packet.Packet.{Packet}
use Rattle.frame_groups.specs.Groups.{Group}
use Rattle.frame_groups.specs.Modulated.{Numbered}
use Rattle.frame_groups.specs.Sequenced.{IsAbove}
use Rattle.frame_groups.specs.declared.cause.MuteCause.{MuteCause}
use Rattle.frame_groups.specs.declared.cause.MuteCause.TheVariants.{PoolFull}
use Rattle.frame_groups.specs.Begun.{is_begin, packets_at}
use Rattle.frame_groups.specs.Carried.{blocks_of, right_blocks}
use Rattle.frame_groups.specs.Tally.{tally}
use Rattle.frame_groups.specs.Tests.{pool_chunks, pool_need, capped, room_test, begun_test, first_failure}
use Rattle.frame_groups.proofs.BegunLemmas.{at_own, at_other, no_need, none_begins, none_fails, one_fails, has_room}
use Rattle.frame_groups.proofs.BegunLemmas.{lacks_room, no_room_asked}
use Rattle.frame_groups.proofs.TallyLemmas.{at_place, need_is}
use Rattle.open_group.specs.HoldsBlocks.{HoldsCounts}
use Rattle.open_group.specs.HoldsPast.{begun_at, need_at, noted, AreFalling, IsBegun, IsNeeded, HoldsPast}
use Rattle.open_group.specs.declared.blocks.HeldBlocks.{HeldBlocks}
use Rattle.open_group.specs.declared.past.Begun.{Begun}
use Rattle.open_group.specs.declared.past.HeldPast.{HeldPast}
use Rattle.open_group.specs.declared.past.Need.{Need}

-- ---- numbers

-- a later number with another quotient has a greater one
later-quotient : (n m f place : ℕ) → 0 < f → n < m → m / f ≢ n / f → n < m / f * f + place
later-quotient n m f place some low other =
    let first : n / f * f + n % f ≡ n = div-add-mod' n f in
    let second : m / f * f + m % f ≡ m = div-add-mod' m f in
    let rest : n % f < f = mod_below n f some in
    let behind : m % f < f = mod_below m f some in
    ⊎_elim
    (λ (l : n / f < m / f).
    let next : n / f + 1 ≤ m / f = omega (arith, l) in
    let more : (n / f + 1) * f ≤ m / f * f = mul-le-mul_right f next in
    let turn : (n / f + 1) * f ≡ n / f * f + f = omega arith in
    omega (arith, first, rest, more, turn))
    (λ (l : m / f ≤ n / f).
    let l : m / f + 1 ≤ n / f = omega (arith, l, other) in
    let more : (m / f + 1) * f ≤ n / f * f = mul-le-mul_right f l in
    let turn : (m / f + 1) * f ≡ m / f * f + f = omega arith in
    absurd (omega (arith, first, second, behind, more, turn, low)))
    (cases_lt (n / f) (m / f))

-- ---- groups before

above_less : (past : List Numbered) (n m : ℕ) → IsAbove past n → n ≤ m → IsAbove past m
above_less [] n m above low = tt
above_less (b ∷ past) n m above low = omega (arith, above, low)

-- no group has a number above all
pub none_above : (past : List Numbered) (n m : ℕ) → AreFalling past → IsAbove past n → n ≤ m → packets_at past m ≡ []
none_above [] n m falling above low = refl
none_above (b ∷ past) n m falling above low = at_other b past m (λ e. omega (arith, above, low, e))
    ∙ none_above past b.number m falling.1 falling.0 (omega (arith, above, low))

-- ---- none

same_at : {X : Type 0} (n k : ℕ) (x : X) → slice_index_or (replicate n x) k x ≡ x
same_at zero k x = refl
same_at (suc n) zero x = refl
same_at (suc n) (suc k) x = same_at n k x

none_began : (c : Config) (plp : ℕ) → IsBegun c [] plp (record { number = 0; blocks = 0; right = 0 })
none_began c plp = record {
  first = eq-eqb (0 % spread c.plps plp) 0 (zero-mod (spread c.plps plp));
  blocks = refl;
  right = refl;
  others = λ n above other. refl;
}

nothing_needed : (c : Config) (place : ℕ) → IsNeeded c [] place (record { superframe = 0; chunks = 0 })
nothing_needed c place = record {
  chunks = let e = no_need c in omega (arith, e);
  others = λ n above inside other. refl;
}

pub no_past : (c : Config) (held : HeldPast) (n m : ℕ)
    → held.begun.items ≡ replicate n (record { number = 0; blocks = 0; right = 0 })
    → held.needs.items ≡ replicate m (record { superframe = 0; chunks = 0 }) → HoldsPast c held []
no_past c held n m begun needs = record {
  falling = tt;
  begun = λ plp inside.
      subst (IsBegun c [] plp)
      (sym (ap (λ (l : List Begun). slice_index_or l plp (record { number = 0; blocks = 0; right = 0 })) begun
      ∙ same_at n plp (record { number = 0; blocks = 0; right = 0 }))) (none_began c plp);
  needs = λ place inside.
      subst (IsNeeded c [] place)
      (sym (ap (λ (l : List Need). slice_index_or l place (record { superframe = 0; chunks = 0 })) needs
      ∙ same_at m place (record { superframe = 0; chunks = 0 }))) (nothing_needed c place);
}

-- ---- one more

module _ (law : BeginIsFirst) (last : BeginIsLast) (c : Config) (rules : AllRules c) (past : List Numbered)
    (n : ℕ) (g : Group)
    (falling : AreFalling past) (above : IsAbove past n) (blocks : HeldBlocks)
    (counts : HoldsCounts c blocks (tally c g.packets)) where
  abbrev more : List Numbered
  more = record { number = n; group = g } ∷ past

  own_packets : packets_at more n ≡ g.packets
  own_packets = at_own (record { number = n; group = g }) past

  other_packets : (m : ℕ) → n ≢ m → packets_at more m ≡ packets_at past m
  other_packets m other = at_other (record { number = n; group = g }) past m other

  begun_new : (plp : ℕ) → plp < length c.plps → is_first c plp n ≡ true
      → IsBegun c more plp
      (record {
        number = n;
        blocks = slice_index blocks.counts.items plp;
        right = slice_index blocks.rights.items plp;
      })
  begun_new plp inside e = record {
    first = e;
    blocks = counts.counts plp inside
        ∙ ap capped (at_place c (λ plp. length (blocks_of c plp g.packets)) plp inside
        ∙ ap (λ (l : List Packet). length (blocks_of c plp l)) (sym own_packets));
    right = counts.rights plp inside
        ∙ ap capped (at_place c (λ plp. length (right_blocks c plp g.packets)) plp inside
        ∙ ap (λ (l : List Packet). length (right_blocks c plp l)) (sym own_packets));
    others = λ m later other.
        other_packets (begin_of c plp m) (λ s. other (sym s))
        ∙ none_above past n (begin_of c plp m) falling above (last c plp m n rules inside e (omega (arith, later)));
  }

  begun_old : (plp : ℕ) (begun : Begun) → plp < length c.plps → is_first c plp n ≡ false → IsBegun c past plp begun
      → IsBegun c more plp begun
  begun_old plp begun inside e h =
      let other : n ≢ begun.number = λ s. absurd (true≢false (sym (ap (is_first c plp) s ∙ h.first) ∙ e)) in
      record {
        first = h.first;
        blocks = h.blocks ∙ ap (λ (l : List Packet). capped (length (blocks_of c plp l)))
            (sym (other_packets begun.number other));
        right = h.right
            ∙ ap (λ (l : List Packet). capped (length (right_blocks c plp l))) (sym (other_packets begun.number other));
        others = λ m later ne.
            other_packets (begin_of c plp m)
            (λ s. absurd (true≢false (sym (ap (is_first c plp) s ∙ law c plp m rules inside) ∙ e)))
            ∙ h.others m (above_less past n m above (omega (arith, later))) ne;
      }

  pub begun_more : (plp : ℕ) (old new : Begun) → plp < length c.plps → IsBegun c past plp old
      → new ≡ noted c n blocks plp old → IsBegun c more plp new
  begun_more plp old new inside h is =
      subst (IsBegun c more plp) (sym is)
      (cond_both (is_first c plp n) _ _ (IsBegun c more plp) (λ e. begun_new plp inside e)
      (λ e. begun_old plp old inside e h))

  needed_new : (place : ℕ) → place ≡ n % c.frames → 0 < c.frames
      → IsNeeded c more place (record { superframe = n / c.frames; chunks = blocks.need })
  needed_new place at some =
      let parts : n / c.frames * c.frames + n % c.frames ≡ n = div-add-mod' n c.frames in
      let is : n / c.frames * c.frames + place ≡ n = omega (arith, parts, at) in
      record {
        chunks = counts.need
            ∙ ap capped (sym (need_is c g.packets)
            ∙ ap (pool_need c) (sym (ap (packets_at more) is ∙ own_packets)));
        others = λ m later inside other.
            none_above more (n + 1) (m / c.frames * c.frames + place) (above, falling) (omega arith)
            (let l = later-quotient n m c.frames place some later other in omega (arith, l));
      }

  needed_old : (place : ℕ) (need : Need) → place ≢ n % c.frames → place < c.frames → IsNeeded c past place need
      → IsNeeded c more place need
  needed_old place need at small h =
      let other : (s : ℕ) → n ≢ s * c.frames + place = λ s e.
      at (sym (mod-mul-add s c.frames place small) ∙ ap (λ (k : ℕ). k % c.frames) (sym e)) in
      record {
        chunks = h.chunks
            ∙ ap (λ (l : List Packet). capped (pool_need c l))
            (sym (other_packets (need.superframe * c.frames + place) (other need.superframe)));
        others = λ m later inside ne.
            other_packets (m / c.frames * c.frames + place) (other (m / c.frames))
            ∙ h.others m (above_less past n m above (omega (arith, later))) inside ne;
      }

  pub past_more : (old new : HeldPast) → 0 < c.frames
      → HoldsPast c old past
      → ((plp : ℕ) → plp < length c.plps → begun_at new plp ≡ noted c n blocks plp (begun_at old plp))
      → need_at new (n % c.frames) ≡ record { superframe = n / c.frames; chunks = blocks.need }
      → ((place : ℕ) → place ≢ n % c.frames → need_at new place ≡ need_at old place)
      → HoldsPast c new more
  past_more old new some h begun own others = record {
    falling = (above, falling);
    begun = λ plp inside.
        begun_more plp (begun_at old plp) (begun_at new plp) inside (h.begun plp inside) (begun plp inside);
    needs = λ place small.
        ⊎_elim
        (λ (e : place ≡ n % c.frames).
        subst (IsNeeded c more place) (sym (ap (need_at new) e ∙ own)) (needed_new place e some))
        (λ (ne : place ≡ n % c.frames → ⊥).
        subst (IsNeeded c more place) (sym (others place ne))
        (needed_old place (need_at old place) ne small (h.needs place small)))
        (cases_eq place (n % c.frames));
  }

-- ---- the pool

-- a group where nothing begins is not asked
pub not_begun : (c : Config) (past : List Numbered) (n b : ℕ) → is_begin c n b ≡ false → begun_test c past n b ≡ None
not_begun c past n b e = cond-false (is_begin c n b) (room_test c (packets_at past b)) None e

-- and one whose blocks have room passes
roomy : (c : Config) (past : List Numbered) (n b : ℕ) → room_test c (packets_at past b) ≡ None
    → begun_test c past n b ≡ None
roomy c past n b e = cond_both (is_begin c n b) (room_test c (packets_at past b)) None (λ o. o ≡ None)
    (λ _. e) (λ _. refl)

-- what is held for a frame_idx before that of a later frame
pub needed_at : (c : Config) (held : HeldPast) (past : List Numbered) (place n : ℕ) (need : Need)
    → HoldsPast c held past
    → 0 < c.frames → place < n % c.frames → need ≡ need_at held place → IsNeeded c past place need
needed_at c held past place n need h some inside is =
    let low = mod_below n c.frames some in
    subst (IsNeeded c past place) (sym is) (h.needs place (omega (arith, inside, low)))

-- what is held of the frames with a frame_idx tells whether the group of one before lacks room
pub has_room_there : (c : Config) (past : List Numbered) (place : ℕ) (need : Need) (n : ℕ) → IsNeeded c past place need
    → IsAbove past n → place < n % c.frames → pool_chunks c < 2 ^ 32
    → (need.superframe ≡ n / c.frames → need.chunks ≤ pool_chunks c)
    → begun_test c past n (n / c.frames * c.frames + place) ≡ None
has_room_there c past place need n h above inside few low =
    let b : ℕ = n / c.frames * c.frames + place in
    roomy c past n b
    (⊎_elim
    (λ (e : n / c.frames ≡ need.superframe).
    let held : need.chunks ≡ capped (pool_need c (packets_at past b)) =
    h.chunks ∙ ap (λ (k : ℕ). capped (pool_need c (packets_at past (k * c.frames + place)))) (sym e) in
    has_room c (packets_at past b) need.chunks held few (low (sym e)))
    (λ (ne : n / c.frames ≡ need.superframe → ⊥).
    ap (room_test c) (h.others n above inside ne) ∙ no_room_asked c few)
    (cases_eq (n / c.frames) need.superframe))

pub lacks_room_there : (c : Config) (past : List Numbered) (place : ℕ) (need : Need) (n : ℕ)
    → IsNeeded c past place need
    → pool_chunks c < 2 ^ 32 → need.superframe ≡ n / c.frames → pool_chunks c < need.chunks
    → is_begin c n (n / c.frames * c.frames + place) ≡ true
    → begun_test c past n (n / c.frames * c.frames + place) ≡ Some (PoolFull need.chunks (pool_chunks c))
lacks_room_there c past place need n h few e high begins =
    let b : ℕ = n / c.frames * c.frames + place in
    let held : need.chunks ≡ capped (pool_need c (packets_at past b)) =
    h.chunks ∙ ap (λ (k : ℕ). capped (pool_need c (packets_at past (k * c.frames + place)))) e in
    cond-true (is_begin c n b) (room_test c (packets_at past b)) None begins
    ∙ lacks_room c (packets_at past b) need.chunks held few high

-- of the frames before one, only those of its superframe are asked
module _ (law : BeginsInSuperframe) (c : Config) (rules : AllRules c) (past : List Numbered) (n : ℕ) where
  none_before : (place : ℕ) → ((k : ℕ) → k < place → begun_test c past n (n / c.frames * c.frames + k) ≡ None) → (b : ℕ)
      → b < n / c.frames * c.frames + place → begun_test c past n b ≡ None
  none_before place none b low =
      let parts : n / c.frames * c.frames + n % c.frames ≡ n = div-add-mod' n c.frames in
      ⊎_elim
      (λ (l : b < n / c.frames * c.frames). not_begun c past n b (none_begins law c n b rules
      (omega (arith, l, parts))))
      (λ (l : n / c.frames * c.frames ≤ b).
      let at : n / c.frames * c.frames + (b - n / c.frames * c.frames) ≡ b = omega (arith, l) in
      ap (begun_test c past n) (sym at) ∙ none (b - n / c.frames * c.frames) (omega (arith, l, low)))
      (cases_lt b (n / c.frames * c.frames))

  pub none_lacks : (place : ℕ) → n % c.frames ≤ place
      → ((k : ℕ) → k < place → begun_test c past n (n / c.frames * c.frames + k) ≡ None)
      → first_failure (begun_test c past n) (range_with_len 0 n) ≡ None
  none_lacks place all none =
      let parts : n / c.frames * c.frames + n % c.frames ≡ n = div-add-mod' n c.frames in
      none_fails (begun_test c past n) 0 n (λ b from to. none_before place none b (omega (arith, to, parts, all)))

  pub first_lacks : (place : ℕ) (fault : Option MuteCause) → place < n % c.frames
      → ((k : ℕ) → k < place → begun_test c past n (n / c.frames * c.frames + k) ≡ None)
      → fault ≡ begun_test c past n (n / c.frames * c.frames + place) → is_some fault ≡ true
      → fault ≡ first_failure (begun_test c past n) (range_with_len 0 n)
  first_lacks place None inside none is some = absurd (true≢false (sym some))
  first_lacks place (Some cause) inside none is some =
      let parts : n / c.frames * c.frames + n % c.frames ≡ n = div-add-mod' n c.frames in
      sym (one_fails (begun_test c past n) 0 n (n / c.frames * c.frames + place) cause
      (λ b from to. none_before place none b to) (omega arith) (omega (arith, parts, inside)) (sym is))
