-- What a move of chunks does to the chains.
use Rattle.std.proofs.Common.{◌≡◌, ◌≢◌, ℕ, suc, ◌+◌, ◌-◌, ◌<◌, ◌≤◌, eqb, List, [], ◌++◌, length, take, drop, get_or}
use Rattle.std.proofs.Common.{set, refl}
use Rattle.std.proofs.Common.{ap, sym, ◌∙◌, subst, arith, length-set}
use Rattle.std.proofs.lemmas.Bool.{eqb-true, eqb-false}
use Rattle.std.proofs.lemmas.List.{get_or-set_same, get_or-set_other, take_at, drop_at}
use Rattle.linked_pool.specs.Chains.{walk, last_on, chains_of, count, occurs, total, IsSound, moved, Moves}
use Rattle.terms.proofs.CaseLemmas.{bool_cases}
use Rattle.linked_pool.proofs.WalkLemmas.{length-walk, walk_split, last_on_more, last_on_split, count-append, count_one}
use Rattle.linked_pool.proofs.WalkLemmas.{walk-set}
use Rattle.linked_pool.proofs.WalkLemmas.{walk-set_all, last_on-set, passed, get_or-chains_of, length-chains_of}
use Rattle.linked_pool.proofs.WalkLemmas.{chains-set}
use Rattle.linked_pool.proofs.WalkLemmas.{occurs-at, occurs-two, total-set, occurs-moved, count_prefix, count_suffix}
use Rattle.linked_pool.proofs.WalkLemmas.{chains_kept}

-- the chain of a list
pub chain_at : (next heads tails sizes : List ℕ) (i : ℕ) → IsSound next heads tails sizes → i < length sizes →
    get_or (chains_of next heads sizes) i [] ≡ walk next (get_or sizes i 0) (get_or heads i 0)
chain_at next heads tails sizes i s h = get_or-chains_of next heads sizes i s.heads_too h

pub count_at : (next heads tails sizes : List ℕ) (x i : ℕ) → IsSound next heads tails sizes → i < length sizes →
    count x (walk next (get_or sizes i 0) (get_or heads i 0)) ≤ occurs x (chains_of next heads sizes)
count_at next heads tails sizes x i s h =
    let long : i < length (chains_of next heads sizes) = rw (length-chains_of next heads sizes s.heads_too) h in
    let m = occurs-at x (chains_of next heads sizes) i long in
    rw (chain_at next heads tails sizes i s h) at m

pub count_two : (next heads tails sizes : List ℕ) (x i j : ℕ) → IsSound next heads tails sizes → i < length sizes
    → j < length sizes → i ≢ j →
    count x (walk next (get_or sizes i 0) (get_or heads i 0)) + count x (walk next (get_or sizes j 0)
    (get_or heads j 0))
    ≤ occurs x (chains_of next heads sizes)
count_two next heads tails sizes x i j s h k ne =
    let e = length-chains_of next heads sizes s.heads_too in
    let m = occurs-two x (chains_of next heads sizes) i j (rw e h) (rw e k) ne in
    rw (chain_at next heads tails sizes i s h, chain_at next heads tails sizes j s k) at m

-- the chunks of a chain are there
pub in_range : (next heads tails sizes : List ℕ) (i n : ℕ) → IsSound next heads tails sizes → i < length sizes
    → n < get_or sizes i 0 →
    last_on next n (get_or heads i 0) < length next
in_range next heads tails sizes i n s h k =
    let x = last_on next n (get_or heads i 0) in
    let some = passed next (get_or sizes i 0) n (get_or heads i 0) k in
    let most = count_at next heads tails sizes x i s h in
    bool_cases (eqb (length next - x) 0)
    (λ e. let out : length next ≤ x = (let z = eqb-true (length next - x) 0 e in omega (arith, z)) in
    let none = s.within x out in
    absurd (omega (arith, some, most, none)))
    (λ e. let z = eqb-false (length next - x) 0 e in omega (arith, z))

-- a chain's last chunk is passed by no walk before its end
pub end_inner : (next heads tails sizes : List ℕ) (b i : ℕ) → IsSound next heads tails sizes → b < length sizes
    → 0 < get_or sizes b 0 → i < length sizes →
    count (last_on next (get_or sizes b 0 - 1) (get_or heads b 0)) (walk next (get_or sizes i 0 - 1) (get_or heads i 0))
    ≡ 0
end_inner next heads tails sizes b i s hb some hi =
    let sb = get_or sizes b 0 in
    let h = get_or heads b 0 in
    let t = last_on next (sb - 1) h in
    let one = s.apart t in
    bool_cases (eqb i b)
    (λ e. let same : b ≡ i = sym (eqb-true i b e) in
    let whole : sb - 1 + 1 ≡ sb = omega arith in
    let split : walk next sb h ≡ walk next (sb - 1) h ++ walk next 1 t = ap (λ (n : ℕ). walk next n h) (sym whole)
    ∙ walk_split next (sb - 1) 1 h in
    let sum = ap (count t) split ∙ count-append t (walk next (sb - 1) h) (walk next 1 t) in
    let last = count_one t [] in
    let all = count_at next heads tails sizes t b s hb in
    let none : count t (walk next (sb - 1) h) ≡ 0 = omega (arith, one, sum, last, all) in
    subst (λ (k : ℕ). count t (walk next (get_or sizes k 0 - 1) (get_or heads k 0)) ≡ 0) same none)
    (λ e. let ne = eqb-false i b e in
    let two = count_two next heads tails sizes t i b s hi hb ne in
    let there = passed next sb (sb - 1) h (omega arith) in
    let part = count_prefix t next (get_or sizes i 0 - 1) (get_or sizes i 0) (get_or heads i 0) (omega arith) in
    omega (arith, one, two, there, part))

-- what a chain's last chunk is to another chain
pub end_other : (next heads tails sizes : List ℕ) (b i : ℕ) → IsSound next heads tails sizes → b < length sizes
    → 0 < get_or sizes b 0 → i < length sizes → i ≢ b →
    count (last_on next (get_or sizes b 0 - 1) (get_or heads b 0)) (walk next (get_or sizes i 0) (get_or heads i 0)) ≡ 0
end_other next heads tails sizes b i s hb some hi ne =
    let sb = get_or sizes b 0 in
    let h = get_or heads b 0 in
    let t = last_on next (sb - 1) h in
    let one = s.apart t in
    let two = count_two next heads tails sizes t i b s hi hb ne in
    let there = passed next sb (sb - 1) h (omega arith) in
    omega (arith, one, two, there)

-- what has to hold of the links after the move
pub record Linked (next heads sizes next' : List ℕ) (a b k first rest last front : ℕ) : Type 0 where
  pub len : length next' ≡ length next
  pub kept : chains_of next' heads sizes ≡ chains_of next heads sizes
  pub behind : walk next' (get_or sizes a 0 - k) rest ≡ walk next (get_or sizes a 0 - k) rest
  pub joined : walk next' (get_or sizes b 0 + k) front ≡ walk next (get_or sizes b 0) (get_or heads b 0)
      ++ walk next k first
  pub ends : (i : ℕ) → i < length sizes → i ≢ b → 0 < get_or sizes i 0
      → last_on next' (get_or sizes i 0 - 1) (get_or heads i 0)
      ≡ last_on next (get_or sizes i 0 - 1) (get_or heads i 0)
  pub joined_end : last_on next' (get_or sizes b 0 + k - 1) front ≡ last
  pub behind_end : 0 < get_or sizes a 0 - k → last_on next' (get_or sizes a 0 - k - 1) rest
      ≡ last_on next (get_or sizes a 0 - k - 1) rest

abbrev pub new_heads : List ℕ → ℕ → ℕ → ℕ → ℕ → List ℕ
new_heads heads a b rest front = set (set heads a rest) b front

abbrev pub new_sizes : List ℕ → ℕ → ℕ → ℕ → List ℕ
new_sizes sizes a b k = set (set sizes a (get_or sizes a 0 - k)) b (get_or sizes b 0 + k)

pub linked_chains : (next heads tails sizes next' : List ℕ) (a b k rest last front : ℕ) → IsSound next heads tails sizes
    → a < length sizes → b < length sizes → k ≤ get_or sizes a 0 →
    rest ≡ last_on next k (get_or heads a 0) → Linked next heads sizes next' a b k (get_or heads a 0) rest last front →
    chains_of next' (new_heads heads a b rest front) (new_sizes sizes a b k) ≡ moved (chains_of next heads sizes) a b k
linked_chains next heads tails sizes next' a b k rest last front s ha hb enough r l =
    let sa = get_or sizes a 0 in
    let ca = walk next sa (get_or heads a 0) in
    let whole : k + (sa - k) ≡ sa = omega arith in
    let split : ca ≡ walk next k (get_or heads a 0) ++ walk next (sa - k) rest =
    rw r (ap (λ (n : ℕ). walk next n (get_or heads a 0)) (sym whole) ∙ walk_split next k (sa - k) (get_or heads a 0)) in
    let len = length-walk next k (get_or heads a 0) in
    let front_part : take k ca ≡ walk next k (get_or heads a 0) = ap (take k) split
    ∙ take_at (walk next k (get_or heads a 0))
    (walk next (sa - k) rest) k len in
    let back_part : drop k ca ≡ walk next (sa - k) rest = ap (drop k) split ∙ drop_at (walk next k (get_or heads a 0))
    (walk next (sa - k) rest) k len in
    chains-set next' (set heads a rest) (set sizes a (sa - k)) b front (get_or sizes b 0 + k)
    ∙ rw (
      l.joined,
      chains-set next' heads sizes a rest (sa - k),
      l.behind,
      l.kept,
      chain_at next heads tails sizes a s ha,
      chain_at next heads tails sizes b s hb,
      front_part,
      back_part,
    ) refl

-- an empty chain takes the chunks as they are
pub linked_empty : (next heads tails sizes : List ℕ) (a b k rest last : ℕ) → get_or sizes b 0 ≡ 0 → 0 < k
    → last ≡ last_on next (k - 1) (get_or heads a 0) →
    Linked next heads sizes next a b k (get_or heads a 0) rest last (get_or heads a 0)
linked_empty next heads tails sizes a b k rest last none some e =
    let size : get_or sizes b 0 + k ≡ k = omega (arith, none) in
    record {
      len = refl;
      kept = refl;
      behind = refl;
      joined = rw (size, none) refl;
      ends = λ i h ne p. refl;
      joined_end = rw size (sym e);
      behind_end = λ p. refl;
    }

-- else its last chunk names the first of them
pub linked_full : (next heads tails sizes : List ℕ) (a b k rest last t : ℕ) → IsSound next heads tails sizes
    → a < length sizes
    → b < length sizes → a ≢ b →
    0 < get_or sizes b 0 → 0 < k → k ≤ get_or sizes a 0 → rest ≡ last_on next k (get_or heads a 0)
    → last ≡ last_on next (k - 1) (get_or heads a 0) →
    t ≡ last_on next (get_or sizes b 0 - 1) (get_or heads b 0) →
    Linked next heads sizes (set next t (get_or heads a 0)) a b k (get_or heads a 0) rest last (get_or heads b 0)
linked_full next heads tails sizes a b k rest last t s ha hb ne full some enough r e is =
    let sa = get_or sizes a 0 in
    let sb = get_or sizes b 0 in
    let first = get_or heads a 0 in
    let h = get_or heads b 0 in
    let v = first in
    let next' = set next t v in
    let inner : (i : ℕ) → i < length sizes → count t (walk next (get_or sizes i 0 - 1) (get_or heads i 0)) ≡ 0 =
    λ i lt. rw is (end_inner next heads tails sizes b i s hb full lt) in
    let apart : count t (walk next sa first) ≡ 0 = rw is (end_other next heads tails sizes b a s hb full ha ne) in
    let whole : k + (sa - k) ≡ sa = omega arith in
    let suffix = count_suffix t next k (sa - k) first in
    let suffix' : count t (walk next (sa - k) rest) ≤ count t (walk next sa first) = rw (← r, whole) at suffix in
    let behind : count t (walk next (sa - k) rest) ≡ 0 = omega (arith, suffix', apart) in
    let prefix = count_prefix t next k sa first enough in
    let front : count t (walk next k first) ≡ 0 = omega (arith, prefix, apart) in
    let prefix' = count_prefix t next (k - 1) k first (omega arith) in
    let front' : count t (walk next (k - 1) first) ≡ 0 = omega (arith, prefix', front) in
    let prefix'' = count_prefix t next (sa - k - 1) (sa - k) rest (omega arith) in
    let behind' : count t (walk next (sa - k - 1) rest) ≡ 0 = omega (arith, prefix'', behind) in
    let own : count t (walk next (sb - 1) h) ≡ 0 = inner b hb in
    let more : suc (sb - 1) ≡ sb = omega arith in
    let there : t < length next = rw is (in_range next heads tails sizes b (sb - 1) s hb (omega arith)) in
    let kept_own : walk next' sb h ≡ walk next sb h =
    subst (λ (n : ℕ). walk next' n h ≡ walk next n h) more (walk-set next t v (sb - 1) h own) in
    let at_end : last_on next' sb h ≡ first =
    subst (λ (n : ℕ). last_on next' n h ≡ first) more
    (last_on_more next' (sb - 1) h ∙ ap (λ (x : ℕ). get_or next' x 0) (last_on-set next t v (sb - 1) h own ∙ sym is)
    ∙ get_or-set_same next t v 0 there) in
    let sum : sb + (k - 1) ≡ sb + k - 1 = omega arith in
    record {
      len = length-set next t v;
      kept = chains_kept next t v heads sizes s.heads_too inner;
      behind = walk-set_all next t v (sa - k) rest behind;
      joined = walk_split next' sb k h ∙ rw (kept_own, at_end, walk-set_all next t v k first front) refl;
      ends = λ i lt n p. last_on-set next t v (get_or sizes i 0 - 1) (get_or heads i 0) (inner i lt);
      joined_end = ap (λ (n : ℕ). last_on next' n h) (sym sum) ∙ last_on_split next' sb (k - 1) h
          ∙ rw (at_end, last_on-set next t v (k - 1) first front') (sym e);
      behind_end = λ p. last_on-set next t v (sa - k - 1) rest behind';
    }

pub linked_sound : (next heads tails sizes next' : List ℕ) (a b k rest last front : ℕ) → IsSound next heads tails sizes
    → a < length sizes → b < length sizes → a ≢ b → 0 < k → k ≤ get_or sizes a 0 →
    rest ≡ last_on next k (get_or heads a 0) → Linked next heads sizes next' a b k (get_or heads a 0) rest last front →
    IsSound next' (new_heads heads a b rest front) (set tails b last) (new_sizes sizes a b k)
linked_sound next heads tails sizes next' a b k rest last front s ha hb ne some enough r l =
    let sa = get_or sizes a 0 in
    let sb = get_or sizes b 0 in
    let chains = linked_chains next heads tails sizes next' a b k rest last front s ha hb enough r l in
    let sizes1 = set sizes a (sa - k) in
    let long1 : length sizes1 ≡ length sizes = length-set sizes a (sa - k) in
    let long2 : length (new_sizes sizes a b k) ≡ length sizes = length-set sizes1 b (sb + k) ∙ long1 in
    let hb1 : b < length sizes1 = rw long1 hb in
    let back : b ≢ a = λ e. ne (sym e) in
    let other : get_or sizes1 b 0 ≡ sb = get_or-set_other sizes a b (sa - k) 0 back in
    let sum1 = total-set sizes a (sa - k) ha in
    let sum2 : total (new_sizes sizes a b k) + sb ≡ total sizes1 + (sb + k) = rw other at
    (total-set sizes1 b (sb + k) hb1) in
    let cs = length-chains_of next heads sizes s.heads_too in
    let occ : (x : ℕ) → occurs x (chains_of next' (new_heads heads a b rest front) (new_sizes sizes a b k))
    ≡ occurs x (chains_of next heads sizes) =
    λ x. ap (occurs x) chains ∙ occurs-moved x (chains_of next heads sizes) a b k (rw cs ha) (rw cs hb) ne in
    let hh : length heads ≡ length sizes = s.heads_too in
    let heads1 = set heads a rest in
    let lh1 : length heads1 ≡ length sizes = length-set heads a rest ∙ hh in
    let last_law : (i : ℕ) → i < length (new_sizes sizes a b k) → 0 < get_or (new_sizes sizes a b k) i 0 →
    get_or (set tails b last) i 0 ≡ last_on next' (get_or (new_sizes sizes a b k) i 0 - 1)
    (get_or (new_heads heads a b rest front) i 0) =
    λ i h0 p. let h : i < length sizes = rw long2 at h0 in
    bool_cases (eqb i b)
    (λ e. let same : b ≡ i = sym (eqb-true i b e) in
    let size : get_or (new_sizes sizes a b k) b 0 ≡ sb + k = get_or-set_same sizes1 b (sb + k) 0 hb1 in
    let head : get_or (new_heads heads a b rest front) b 0 ≡ front = get_or-set_same heads1 b front 0 (rw lh1 hb) in
    let tail : get_or (set tails b last) b 0 ≡ last = get_or-set_same tails b last 0 (rw s.tails_too hb) in
    let here : get_or (set tails b last) b 0 ≡ last_on next' (get_or (new_sizes sizes a b k) b 0 - 1)
    (get_or (new_heads heads a b rest front) b 0) = rw (tail, size, head) (sym l.joined_end) in
    subst (λ (j : ℕ). get_or (set tails b last) j 0 ≡ last_on next' (get_or (new_sizes sizes a b k) j 0 - 1)
    (get_or (new_heads heads a b rest front) j 0)) same here)
    (λ e. let nb : i ≢ b = eqb-false i b e in
    let size : get_or (new_sizes sizes a b k) i 0 ≡ get_or sizes1 i 0 = get_or-set_other sizes1 b i (sb + k) 0 nb in
    let head : get_or (new_heads heads a b rest front) i 0 ≡ get_or heads1 i 0 = get_or-set_other heads1
    b i front 0 nb in
    let tail : get_or (set tails b last) i 0 ≡ get_or tails i 0 = get_or-set_other tails b i last 0 nb in
    let p1 : 0 < get_or sizes1 i 0 = rw size at p in
    rw (tail, size, head)
    (bool_cases (eqb i a)
    (λ f. let same : a ≡ i = sym (eqb-true i a f) in
    let size_a : get_or sizes1 a 0 ≡ sa - k = get_or-set_same sizes a (sa - k) 0 ha in
    let head_a : get_or heads1 a 0 ≡ rest = get_or-set_same heads a rest 0 (rw hh ha) in
    let p2 : 0 < get_or sizes1 a 0 = subst (λ (j : ℕ). 0 < get_or sizes1 j 0) (sym same) p1 in
    let left : 0 < sa - k = rw size_a at p2 in
    let whole : k + (sa - k - 1) ≡ sa - 1 = omega arith in
    let old : get_or tails a 0 ≡ last_on next (sa - k - 1) rest =
    s.last a ha (omega arith) ∙ ap (λ (n : ℕ). last_on next n (get_or heads a 0)) (sym whole)
    ∙ last_on_split next k (sa - k - 1) (get_or heads a 0) ∙ ap (last_on next (sa - k - 1)) (sym r) in
    let here : get_or tails a 0 ≡ last_on next' (get_or sizes1 a 0 - 1) (get_or heads1 a 0) =
    rw (size_a, head_a) (old ∙ sym (l.behind_end left)) in
    subst (λ (j : ℕ). get_or tails j 0 ≡ last_on next' (get_or sizes1 j 0 - 1) (get_or heads1 j 0)) same here)
    (λ f. let na : i ≢ a = eqb-false i a f in
    let size_i : get_or sizes1 i 0 ≡ get_or sizes i 0 = get_or-set_other sizes a i (sa - k) 0 na in
    let head_i : get_or heads1 i 0 ≡ get_or heads i 0 = get_or-set_other heads a i rest 0 na in
    let p2 : 0 < get_or sizes i 0 = rw size_i at p1 in
    rw (size_i, head_i) (s.last i h p2 ∙ sym (l.ends i h nb p2))))) in
    record {
      few = rw l.len s.few;
      heads_too = length-set heads1 b front ∙ lh1 ∙ sym long2;
      tails_too = length-set tails b last ∙ s.tails_too ∙ sym long2;
      all = (let all = s.all in let len = l.len in omega (arith, sum1, sum2, all, len));
      apart = λ x. rw (occ x) (s.apart x);
      within = λ x h. let h' : length next ≤ x = rw l.len at h in rw (occ x) (s.within x h');
      last = last_law;
    }

pub moves : (next heads tails sizes next' : List ℕ) (a b k rest last front less more : ℕ)
    → IsSound next heads tails sizes
    → a < length sizes → b < length sizes → a ≢ b → 0 < k → k ≤ get_or sizes a 0 →
    rest ≡ get_or next last 0 → last ≡ last_on next (k - 1) (get_or heads a 0) → less ≡ get_or sizes a 0 - k
    → more ≡ get_or sizes b 0 + k →
    (rest ≡ last_on next k (get_or heads a 0) → Linked next heads sizes next' a b k (get_or heads a 0) rest last front)
    →
    Moves next heads sizes next' (set (set heads a rest) b front) (set tails b last) (set (set sizes a less) b more)
    a b k
moves next heads tails sizes next' a b k rest last front less more s ha hb ne some enough is e le mo l =
    let n : suc (k - 1) ≡ k = omega arith in
    let r : rest ≡ last_on next k (get_or heads a 0) =
    is ∙ ap (λ (x : ℕ). get_or next x 0) e ∙ sym (last_on_more next (k - 1) (get_or heads a 0))
    ∙ ap (λ (m : ℕ). last_on next m (get_or heads a 0)) n in
    rw (le, mo) (record {
      sound = linked_sound next heads tails sizes next' a b k rest last front s ha hb ne some enough r (l r);
      chains = linked_chains next heads tails sizes next' a b k rest last front s ha hb enough r (l r);
    })
