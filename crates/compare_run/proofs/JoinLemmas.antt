-- The first whole frame that begins a superframe is the join, and the groups from there on have the numbers of their
-- frames.
use Rattle.std.proofs.Common.{◌≡◌, ◌≢◌, ℕ, zero, suc, ◌+◌, ◌%◌, ◌<◌, ◌≤◌, ◌==◌, ◌&&◌, Bool, true, false, List, []}
use Rattle.std.proofs.Common.{find, length, Option, Some, None, refl, ap, sym, ◌∙◌, ⊎_elim, arith}
use Rattle.std.specs.List.{items_where_true, range_with_len}
use Rattle.std.proofs.lemmas.Bool.{cases_eq, cond_both, cond-true, cond-false, and_parts, and_cases}
use Rattle.std.proofs.lemmas.Bool.{eqb-true}
use Rattle.std.proofs.lemmas.Option.{same_Some}
use Rattle.terms.proofs.CaseLemmas.{bool_cases}
use Rattle.plp_config.specs.declared.config.Config.{Config}
use Rattle.t2mi_packet.specs.declared.packet.Packet.{Packet}
use Rattle.frame_groups.specs.Groups.{Group}
use Rattle.frame_groups.specs.Modulated.{unless_fault, passing, join_number}
use Rattle.frame_groups.specs.Tests.{rules}
use Rattle.stream_laws.specs.GroupNumbers.{JoinsAt}
use Rattle.stream_laws.specs.DamageLaws.{WholeIsAll, RulesMeet}
use Rattle.stream_laws.specs.SentPackets.{Sent, packets_of, frame_packets, frame_group}
use Rattle.stream_laws.specs.Survivors.{is_whole}
use Rattle.stream_laws.proofs.DamageRecordLemmas.{own_carried, met_first, none_with}

-- ---- what is found

-- the first number of a range that passes a test
pub record IsFound (test : ℕ → Bool) (a len k : ℕ) : Type 0 where
  pub passes : test k ≡ true
  pub low : a ≤ k
  pub high : k < a + len
  pub before : (j : ℕ) → a ≤ j → j < k → test j ≡ false

pub is_found : (test : ℕ → Bool) (a len k : ℕ) → find test (range_with_len a len) ≡ Some k → IsFound test a len k
is_found test a zero k e = absurd (let z : ◌≡◌ {A = Option ℕ} None (Some k) = e in cc)
is_found test a (suc len) k e =
    bool_cases (test a)
    (λ t. let same : a ≡ k = same_Some a k (rw t at e) in record {
      passes = sym (ap test same) ∙ t;
      low = omega (arith, same);
      high = omega (arith, same);
      before = λ j low high. absurd (omega (arith, low, high, same));
    })
    (λ t. let later = is_found test (a + 1) len k (rw t at e) in
    let low = later.low in
    let high = later.high in
    record {
      passes = later.passes;
      low = omega (arith, low);
      high = omega (arith, high);
      before = λ j from to. ⊎_elim (λ (s : a ≡ j). sym (ap test s) ∙ t)
          (λ (ne : a ≢ j). later.before j (omega (arith, from, ne)) to) (cases_eq a j);
    })

-- ---- the join

-- all of it survives, if the frame is whole
pub own_survive : WholeIsAll → (c : Config) (sent : List Sent) (survival : List Bool) (n : ℕ)
    → length survival ≡ length sent
    → is_whole c sent survival n ≡ true → frame_packets n (items_where_true survival sent) ≡ frame_packets n sent
own_survive all c sent survival n len w =
    ap packets_of (all c sent survival n (λ s. s.frame == n) len w (own_carried c n))

module _ (all : WholeIsAll) (c : Config) (count : ℕ) (sent : List Sent) (survival : List Bool)
    (len : length survival ≡ length sent)
    (some : (n : ℕ) → n < count → frame_packets n sent ≢ []) (meet : RulesMeet (rules c) count sent survival) where
  abbrev left : List Sent
  left = items_where_true survival sent

  abbrev whole : ℕ → Bool
  whole n = is_whole c sent survival n

  abbrev joins : ℕ → Bool
  joins n = whole n && (n % c.frames == 0)

  abbrev left_group : ℕ → Group
  left_group n = frame_group c.frames left n

  some_left : (n : ℕ) → n < count → whole n ≡ true → frame_packets n left ≢ []
  some_left n l w none = some n l (sym (own_survive all c sent survival n len w) ∙ none)

  joined : (n : ℕ) → n < count → joins n ≡ true → join_number (rules c) (left_group n) ≡ Some n
  joined n l t =
      let parts = and_parts (whole n) (n % c.frames == 0) t in
      let begins : n % c.frames ≡ 0 = eqb-true (n % c.frames) 0 parts.1 in
      let g : Group = frame_group c.frames sent n in
      let same : left_group n ≡ g = ap (λ (ps : List Packet). group_of n ps)
      (own_survive all c sent survival n len parts.0) in
      cond-true (n % c.frames == 0) (passing (rules c) (left_group n) ((rules c).named (left_group n))) None parts.1
      ∙ ap (λ (h : Group). passing (rules c) h ((rules c).named h)) same
      ∙ ap (passing (rules c) g) (meet.names n l begins parts.0)
      ∙ ap (unless_fault n)
      (meet.passes n n [] l
      (record { before = omega arith; begins = begins; groups = met_first n left; some = some_left n l parts.0 })
      parts.0)
    where
      group_of : ℕ → List Packet → Group
      group_of n ps = record { key = (left_group n).key; packets = ps }

  -- what survives of a frame that is not whole is none
  fails : (n : ℕ) → n < count → n % c.frames ≡ 0 → frame_packets n left ≢ [] → whole n ≡ false → (o : Option ℕ)
      → (rules c).named (left_group n) ≡ o → passing (rules c) (left_group n) o ≡ None
  fails n l begins there w None e = refl
  fails n l begins there w (Some m) e =
      none_with m ((rules c).fault [] (left_group n) m) (meet.fails n m l begins (meet.key (left_group n) m e) w there)

  not_joined : (n : ℕ) → n < count → frame_packets n left ≢ [] → joins n ≡ false
      → join_number (rules c) (left_group n) ≡ None
  not_joined n l there t = ⊎_elim
      (λ (w : whole n ≡ false).
      cond_both (n % c.frames == 0) _ _ (λ o. o ≡ None)
      (λ e. fails n l (eqb-true (n % c.frames) 0 e) there w ((rules c).named (left_group n)) refl) (λ e. refl))
      (λ (e : (n % c.frames == 0) ≡ false).
      cond-false (n % c.frames == 0) (passing (rules c) (left_group n) ((rules c).named (left_group n))) None e)
      (and_cases (whole n) (n % c.frames == 0) t)

  pub joins_at : (end first : ℕ) → end ≤ count → IsFound joins 0 end first → JoinsAt (rules c) left first
  joins_at end first most found =
      let high = found.high in
      let inside : first < count = omega (arith, high, most) in
      record {
        some = some_left first inside (and_parts (whole first) (first % c.frames == 0) found.passes).0;
        number = joined first inside found.passes;
        before = λ n low there. not_joined n (omega (arith, low, inside)) there (found.before n (omega arith) low);
      }
