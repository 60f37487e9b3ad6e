-- Where interleaving frames begin, and the groups there.
use Rattle.std.proofs.Common.{◌≡◌, ◌≢◌, ℕ, zero, suc, ◌+◌, ◌-◌, ◌%◌, ◌<◌, ◌≤◌, ◌==◌, ◌^◌, false, List, []}
use Rattle.std.proofs.Common.{◌∷◌, length, get_or, sum_by, Option, Some, None, refl, ap, ap₂, ◌∙◌, ⊎_elim}
use Rattle.std.proofs.Common.{arith}
use Rattle.std.specs.List.{range_with_len}
use Rattle.std.specs.Option.{option_or}
use Rattle.std.proofs.lemmas.Bool.{cases_eq, cond-true, cond-false, eq-eqb, ne_eqb, le-leb, lt-leb}
use Rattle.std.proofs.lemmas.List.Folds.{list_any_none}
use Rattle.std.proofs.lemmas.List.FromFn.{length-range_with_len, get_or-range_with_len}
use Rattle.std.proofs.lemmas.List.Sums.{sum_by-cons}
use Rattle.plp_config.specs.Laws.{BeginsInSuperframe}
use Rattle.plp_config.specs.Places.{places}
use Rattle.plp_config.specs.Rules.{AllRules}
use Rattle.plp_config.specs.declared.config.Config.{Config}
use Rattle.t2mi_packet.specs.declared.packet.Packet.{Packet}
use Rattle.frame_groups.specs.Modulated.{Numbered}
use Rattle.frame_groups.specs.declared.cause.MuteCause.{MuteCause}
use Rattle.frame_groups.specs.declared.cause.MuteCause.TheVariants.{PoolFull}
use Rattle.frame_groups.specs.Begun.{is_begin, packets_at}
use Rattle.frame_groups.specs.Tests.{pool_chunks, pool_need, capped, room_test, first_failure}

-- ---- where none begins

pub place_there : (c : Config) (k d : ℕ) → k < length (places c) → (get_or (places c) k d ≡ k) × (k < length c.plps)
place_there c k d l = grind (arith, length-range_with_len, get_or-range_with_len)

-- in a superframe before none begins that a frame carries
pub none_begins : BeginsInSuperframe → (c : Config) (n b : ℕ) → AllRules c → b < n - n % c.frames
    → is_begin c n b ≡ false
none_begins inside c n b rules low = grind (arith, list_any_none, place_there, ne_eqb)

-- ---- the first test that fails

pub none_fails : (test : ℕ → Option MuteCause) (a len : ℕ) → ((b : ℕ) → a ≤ b → b < a + len → test b ≡ None)
    → first_failure test (range_with_len a len) ≡ None
none_fails test a zero h = refl
none_fails test a (suc len) h = ap₂ option_or (h a (omega arith) (omega arith))
    (none_fails test (a + 1) len (λ b low high. h b (omega (arith, low)) (omega (arith, high))))

pub one_fails : (test : ℕ → Option MuteCause) (a len k : ℕ) (cause : MuteCause)
    → ((b : ℕ) → a ≤ b → b < k → test b ≡ None) → a ≤ k → k < a + len → test k ≡ Some cause
    → first_failure test (range_with_len a len) ≡ Some cause
one_fails test a zero k cause h low high e = absurd (omega (arith, low, high))
one_fails test a (suc len) k cause h low high e =
    ⊎_elim
    (λ (s : a ≡ k). ap (λ (o : Option MuteCause). option_or o (first_failure test (range_with_len (a + 1) len)))
    (ap test s ∙ e))
    (λ (ne : a ≡ k → ⊥).
    ap (λ (o : Option MuteCause). option_or o (first_failure test (range_with_len (a + 1) len)))
    (h a (omega arith) (omega (arith, low, ne)))
    ∙ one_fails test (a + 1) len k cause (λ b from to. h b (omega (arith, from)) to) (omega (arith, low, ne))
    (omega (arith, high)) e)
    (cases_eq a k)

-- ---- the packets of a frame before

pub at_own : (b : Numbered) (past : List Numbered) → packets_at (b ∷ past) b.number ≡ b.group.packets
at_own b past = cond-true (b.number == b.number) b.group.packets (packets_at past b.number)
    (eq-eqb b.number b.number refl)

pub at_other : (b : Numbered) (past : List Numbered) (n : ℕ) → b.number ≢ n
    → packets_at (b ∷ past) n ≡ packets_at past n
at_other b past n ne = cond-false (b.number == n) b.group.packets (packets_at past n) (ne_eqb b.number n ne)

-- no packets need no chunk
none_needed : (f : ℕ → ℕ) (a n : ℕ) → ((j : ℕ) → f j ≡ 0) → sum_by f (range_with_len a n) ≡ 0
none_needed f a zero h = refl
none_needed f a (suc n) h =
    let x = sum_by-cons f a (range_with_len (a + 1) n) in
    let one = h a in
    let rest = none_needed f (a + 1) n h in
    omega (arith, x, one, rest)

pub no_need : (c : Config) → pool_need c [] ≡ 0
no_need c = grind (arith, none_needed)

-- whether packets have room, by the number that is held of the chunks that they need
pub has_room : (c : Config) (packets : List Packet) (held : ℕ) → held ≡ capped (pool_need c packets)
    → pool_chunks c < 2 ^ 32
    → held ≤ pool_chunks c → room_test c packets ≡ None
unfolding room_test
has_room c packets held is few low = grind (arith, le-leb)

pub lacks_room : (c : Config) (packets : List Packet) (held : ℕ) → held ≡ capped (pool_need c packets)
    → pool_chunks c < 2 ^ 32
    → pool_chunks c < held → room_test c packets ≡ Some (PoolFull held (pool_chunks c))
unfolding room_test
lacks_room c packets held is few high = grind (arith, lt-leb)

pub no_room_asked : (c : Config) → pool_chunks c < 2 ^ 32 → room_test c [] ≡ None
no_room_asked c few = has_room c [] 0 (let e = no_need c in omega (arith, e)) few (omega arith)
