-- The groups of a network, and what the stream of a PLP depends on.
use Rattle.std.proofs.Common.{◌≡◌, ℕ, zero, suc, ◌+◌, ◌<◌, ◌≤◌, ◌==◌, not, Bool, true, false, List, [], ◌∷◌, length}
use Rattle.std.proofs.Common.{map, take, Some, None, refl, ap, ap₂, sym, subst, ◌∙◌, inl, inr, arith}
use Rattle.std.specs.Prelude.{filter, unwrap_or}
use Rattle.std.specs.declared.option.Option.{Option}
use Rattle.std.specs.List.{find, range_with_len}
use Rattle.std.proofs.lemmas.Bool.{and_parts}
use Rattle.std.proofs.lemmas.Bool.Decides.{Decides-eqb}
use Rattle.terms.proofs.CaseLemmas.{bool_cases}
use Rattle.terms.proofs.OptionLemmas.{none_some}
use Rattle.plp_config.specs.Plps.{plp_at}
use Rattle.plp_config.specs.Rules.{AllRules}
use Rattle.plp_config.specs.Rules.Rule.{OneCommon}
use Rattle.plp_config.specs.declared.config.Config.{Config}
use Rattle.common_plp.specs.Groups.{is_common, group_of, is_common_in, is_own_in, common_of, own_places}
use Rattle.common_plp.specs.Split.{longest, common_stream, own_stream, group_streams, split}
use Rattle.common_plp.proofs.LawLemmas.{split_front, has_common}
use Rattle.common_plp.proofs.MemberLemmas.{not_true}
use Rattle.common_plp.proofs.PlaceLemmas.{found_none, found_first, IsIn, in_kept, in_range}
use Rattle.common_plp.proofs.StepLemmas.{type_is}
use Rattle.gateway_core.specs.Order.{IsInput, turn_of, is_member}

-- ---- members of groups

pub of_common : (c : Config) (turn plp : ℕ) → is_common c turn ≡ true → is_own_in c (group_of c turn) plp ≡ true
    → is_member c turn plp ≡ true
of_common c turn plp common own = rw common own

pub alone_is : (c : Config) (turn : ℕ) → is_common c turn ≡ false → is_member c turn turn ≡ true
alone_is c turn own = rw own ((Decides-eqb turn turn).1 refl)

pub alone_same : (c : Config) (turn plp : ℕ) → is_common c turn ≡ false → is_member c turn plp ≡ true → plp ≡ turn
alone_same c turn plp own member = let e : (plp == turn) ≡ true = rw own at member in (Decides-eqb plp turn).0 e

pub own_of : (c : Config) (turn plp : ℕ) → is_common c turn ≡ true → is_member c turn plp ≡ true
    → (is_common c plp ≡ false) × (group_of c plp ≡ group_of c turn)
own_of c turn plp common member =
    let own : is_own_in c (group_of c turn) plp ≡ true = rw common at member in
    let b = and_parts (not (is_common c plp)) (group_of c plp == group_of c turn) own in
    (not_true (is_common c plp) b.0, (Decides-eqb (group_of c plp) (group_of c turn)).0 b.1)

-- they have inputs
pub member_input : (c : Config) (turn plp : ℕ) → plp < length c.plps → is_member c turn plp ≡ true → IsInput c plp
member_input c turn plp inside member =
    bool_cases (is_common c turn) (λ common. (inside, (own_of c turn plp common member).0))
    (λ own. (inside, ap (is_common c) (alone_same c turn plp own member) ∙ own))

turn_by : (c : Config) (plp : ℕ) (o : Option ℕ) → common_of c plp ≡ o → turn_of c plp ≡ unwrap_or o plp
turn_by c plp o e = ap (λ (x : Option ℕ). unwrap_or x plp) e

pub turn_common : (c : Config) (plp : ℕ) → is_common c plp ≡ true → turn_of c plp ≡ plp
turn_common c plp common = turn_by c plp None (rw common refl)

-- each input is in the group of its turn
self_by : (c : Config) (plp : ℕ) → is_common c plp ≡ false → (o : Option ℕ) → common_of c plp ≡ o
    → is_member c (unwrap_or o plp) plp ≡ true
self_by c plp own None e = alone_is c plp own
self_by c plp own (Some common) e =
    let h = has_common c plp common e in
    of_common c common plp h.is (rw (own, h.same) ((Decides-eqb (group_of c plp) (group_of c plp)).1 refl))

pub self_member : (c : Config) (plp : ℕ) → IsInput c plp → is_member c (turn_of c plp) plp ≡ true
self_member c plp i = self_by c plp i.1 (common_of c plp) refl

-- and of no other: a group has one common PLP
none_before : (c : Config) (group common n : ℕ) → AllRules c → common < length c.plps → is_common c common ≡ true
    → group_of c common ≡ group
    → n ≤ common → find (is_common_in c group) (range_with_len 0 n) ≡ None
none_before c group common zero rules inside is same le = refl
none_before c group common (suc n) rules inside is same le =
    let step = found_none (is_common_in c group) n (none_before c group common n rules inside is same
    (omega (arith, le)))
    (bool_cases (is_common_in c group n)
    (λ on. absurd (let b = and_parts (is_common c n) (group_of c n == group) on in
    rules OneCommon common inside (type_is (plp_at c.plps common).plp_type is) n (omega (arith, le))
    (type_is (plp_at c.plps n).plp_type b.0, (Decides-eqb (group_of c n) group).0 b.1 ∙ sym same)))
    (λ off. off)) in
    let e : n + 1 ≡ suc n = omega arith in
    subst (λ (m : ℕ). find (is_common_in c group) (range_with_len 0 m) ≡ None) e step

pub common_is : (c : Config) (turn plp : ℕ) → AllRules c → turn < length c.plps → is_common c turn ≡ true
    → is_common c plp ≡ false
    → group_of c plp ≡ group_of c turn → common_of c plp ≡ Some turn
common_is c turn plp rules inside common own same =
    rw own (found_first (is_common_in c (group_of c plp)) (length c.plps) turn inside
    (none_before c (group_of c plp) turn turn rules inside common (sym same) (omega arith))
    (rw (common, same) ((Decides-eqb (group_of c turn) (group_of c turn)).1 refl)))

pub turn_is : (c : Config) (turn plp : ℕ) → AllRules c → turn < length c.plps → common_of c turn ≡ None
    → is_member c turn plp ≡ true
    → turn_of c plp ≡ turn
turn_is c turn plp rules inside first member =
    bool_cases (is_common c turn)
    (λ common. let o = own_of c turn plp common member in
    turn_by c plp (Some turn) (common_is c turn plp rules inside common o.0 o.1))
    (λ own. let same = alone_same c turn plp own member in
    turn_by c plp None (ap (common_of c) same ∙ first) ∙ same)

-- ---- what a stream depends on

kept_same : {X : Type 0} (test : ℕ → Bool) (f g : ℕ → X) (a n : ℕ)
    → ((plp : ℕ) → plp < a + n → test plp ≡ true → f plp ≡ g plp)
    → map f (filter test (range_with_len a n)) ≡ map g (filter test (range_with_len a n))
kept_same test f g a zero same = refl
kept_same test f g a (suc n) same =
    let later = kept_same test f g (a + 1) n (λ plp lt on. same plp (omega (arith, lt)) on) in
    bool_cases (test a) (λ on. rw on (ap₂ (λ x l. x ∷ l) (same a (omega arith) on) later)) (λ off. rw off later)

pub own_same : {X : Type 0} (c : Config) (f g : ℕ → X) (group : ℕ)
    → ((plp : ℕ) → plp < length c.plps → is_own_in c group plp ≡ true → f plp ≡ g plp)
    → map f (own_places c group) ≡ map g (own_places c group)
own_same c f g group same =
    kept_same (is_own_in c group) f g 0 (length c.plps) (λ plp lt on. same plp (omega (arith, lt)) on)

depends_by : (c : Config) (f g : ℕ → List (List ℕ)) (plp : ℕ) (o : Option ℕ) (common : Bool) → is_common c plp ≡ common
    → common_of c plp ≡ o → plp < length c.plps
    → ((source : ℕ) → source < length c.plps → is_member c (unwrap_or o plp) source ≡ true → f source ≡ g source)
    → split c f plp ≡ split c g plp
unfolding split
depends_by c f g plp None true e is inside same =
    rw e (ap common_stream (own_same c f g (group_of c plp) (λ q lt own. same q lt (of_common c plp q e own))))
depends_by c f g plp (Some m) true e is inside same = absurd
    (let z : None ≡ Some m = (let n : common_of c plp ≡ None = rw e refl in sym n ∙ is) in none_some m z)
depends_by c f g plp None false e is inside same =
    rw e (rw (let k : find (is_common_in c (group_of c plp)) (range_with_len 0 (length c.plps)) ≡ None =
    rw e at is in k)
    (same plp inside (alone_is c plp e)))
depends_by c f g plp (Some m) false e is inside same =
    let h = has_common c plp m is in
    let found : find (is_common_in c (group_of c plp)) (range_with_len 0 (length c.plps)) ≡ Some m = rw e at is in
    rw e (rw found
    (ap₂ own_stream
    (own_same c f g (group_of c plp) (λ q lt own. same q lt (of_common c m q h.is (rw h.same own))))
    (same plp inside (self_by c plp e (Some m) is))))

pub split_depends : (c : Config) (f g : ℕ → List (List ℕ)) (plp : ℕ) → plp < length c.plps
    → ((source : ℕ) → source < length c.plps → is_member c (turn_of c plp) source ≡ true → f source ≡ g source)
    → split c f plp ≡ split c g plp
split_depends c f g plp inside same = depends_by c f g plp (common_of c plp) (is_common c plp) refl refl inside same

pub front_decided : (c : Config) (f g : ℕ → List (List ℕ)) (plp n : ℕ) → plp < length c.plps
    → ((source : ℕ) → source < length c.plps → is_member c (turn_of c plp) source ≡ true
    → take n (f source) ≡ take n (g source))
    → take n (split c f plp) ≡ take n (split c g plp)
front_decided c f g plp n inside same =
    split_front c f plp n ∙ split_depends c (λ q. take n (f q)) (λ q. take n (g q)) plp inside same
    ∙ sym (split_front c g plp n)

-- ---- the longest stream of a group

longest_kept : (test : ℕ → Bool) (f : ℕ → List (List ℕ)) (a n most : ℕ)
    → ((plp : ℕ) → plp < a + n → test plp ≡ true → length (f plp) ≤ most)
    → longest (map f (filter test (range_with_len a n))) ≤ most
longest_kept test f a zero most few = omega arith
longest_kept test f a (suc n) most few =
    let later = longest_kept test f (a + 1) n most (λ plp lt on. few plp (omega (arith, lt)) on) in
    bool_cases (test a)
    (λ on. rw on (let here = few a (omega arith) on in omega (arith, here, later)))
    (λ off. rw off later)

pub longest_few : (c : Config) (f : ℕ → List (List ℕ)) (group most : ℕ)
    → ((plp : ℕ) → plp < length c.plps → is_own_in c group plp ≡ true → length (f plp) ≤ most)
    → longest (group_streams c f group) ≤ most
longest_few c f group most few =
    longest_kept (is_own_in c group) f 0 (length c.plps) most (λ plp lt on. few plp (omega (arith, lt)) on)

longest_in : (f : ℕ → List (List ℕ)) (places : List ℕ) (plp : ℕ) → IsIn plp places
    → length (f plp) ≤ longest (map f places)
longest_in f [] plp is = absurd is
longest_in f (place ∷ places) plp (inl same) = omega (arith, ap (λ (k : ℕ). length (f k)) same)
longest_in f (place ∷ places) plp (inr later) = omega (arith, longest_in f places plp later)

pub longest_some : (c : Config) (f : ℕ → List (List ℕ)) (group plp : ℕ) → plp < length c.plps
    → is_own_in c group plp ≡ true
    → length (f plp) ≤ longest (group_streams c f group)
longest_some c f group plp inside own =
    longest_in f (own_places c group) plp
    (in_kept (is_own_in c group) plp (range_with_len 0 (length c.plps)) own
    (in_range 0 (length c.plps) plp (omega arith) (omega (arith, inside))))
