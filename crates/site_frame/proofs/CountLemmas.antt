-- Heads that are counted, step by step.
use Rattle.std.proofs.Common.{◌≡◌, ◌⊎◌, ℕ, zero, suc, ◌+◌, ◌-◌, ◌<◌, ◌≤◌, inl, inr, ⊎_elim, List, [], ◌++◌, length}
use Rattle.std.proofs.Common.{take, drop, min}
use Rattle.std.proofs.Common.{refl, ap, sym, subst, ◌∙◌, arith, take-add, length-append, length-drop, append_assoc}
use Rattle.std.proofs.lemmas.List.{take-append-le, drop-append-le}
use Rattle.std.proofs.Math.ListN.{drop_of_length-le}
use Rattle.std.proofs.Math.Seq.{take-length}
use Rattle.site_frame.specs.Record.{head_len}
use Rattle.site_frame.specs.RecordCount.{Tells, EndsWithin, HasHeads, RecordCountStandsFor, greatest_count}
use Rattle.site_frame.specs.declared.count.RecordCount.{RecordCount}

-- heads behind heads
heads_on : (n m : ℕ) (bytes piece part next : List ℕ) (left : ℕ) → HasHeads n bytes part 0
    → HasHeads m (part ++ piece) next left
    → HasHeads (n + m) (bytes ++ piece) next left
heads_on zero m bytes piece part next left h more =
    subst (λ (k : ℕ). HasHeads k (bytes ++ piece) next left) (omega arith)
    (subst (λ (l : List ℕ). HasHeads m (l ++ piece) next left) (sym h.0) more)
heads_on (suc n) m bytes piece part next left (len, long, tells, inl lacks) more = absurd
    (let some = lacks.1.1 in omega (arith, some))
heads_on (suc n) m bytes piece part next left (len, long, tells, inr (inside, h)) more =
    let sum : suc (n + m) ≡ suc n + m = omega arith in
    subst (λ (k : ℕ). HasHeads k (bytes ++ piece) next left) sum (
      len,
      omega (arith, long, length-append bytes piece),
      subst (λ (l : List ℕ). Tells l len) (sym (take-append-le head_len bytes piece long)) tells,
      inr (
        omega (arith, inside, length-append bytes piece),
        subst (λ (l : List ℕ). HasHeads (n + m) l next left) (sym (drop-append-le (head_len + len) bytes piece inside))
            (heads_on n m (drop (head_len + len) bytes) piece part next left h more),
      ),
    )

-- a part of the next head
heads_part : (n : ℕ) (bytes piece part : List ℕ) → HasHeads n bytes part 0 → length (part ++ piece) < head_len
    → HasHeads n (bytes ++ piece) (part ++ piece) 0
heads_part n bytes piece part h few =
    subst (λ (k : ℕ). HasHeads k (bytes ++ piece) (part ++ piece) 0) (omega arith)
    (heads_on n 0 bytes piece part (part ++ piece) 0 h (refl, few, refl))

-- a head alone
one_head : (head : List ℕ) (len : ℕ) → length head ≡ head_len → Tells head len → HasHeads 1 head [] len
one_head head len size tells =
    let all : take head_len head ≡ head = ap (λ (k : ℕ). take k head) (sym size) ∙ take-length head in
    (len, omega (arith, size), subst (λ (l : List ℕ). Tells l len) (sym all) tells, behind len)
  where
    behind : (k : ℕ) → (◌≡◌ {A = ℕ} 0 0 × EndsWithin head k [] k) ⊎ ((head_len + k ≤ length head)
        × HasHeads 0 (drop (head_len + k) head) [] k)
    behind zero = inr (
      omega (arith, size),
      (
        drop_of_length-le head {i = head_len + 0} (omega (arith, size)),
        omega arith,
        refl,
      ),
    )
    behind (suc k) = inl (refl, (refl, omega arith, omega (arith, size)))

-- the last bytes of a head
heads_more : (n : ℕ) (bytes piece part : List ℕ) (len : ℕ) → HasHeads n bytes part 0 → length (part ++ piece) ≡ head_len
    → Tells (part ++ piece) len → HasHeads (n + 1) (bytes ++ piece) [] len
heads_more n bytes piece part len h size tells = heads_on n 1 bytes piece part [] len h
    (one_head (part ++ piece) len size tells)

-- bytes behind the last head
heads_pass : (n : ℕ) (bytes piece part : List ℕ) (left now : ℕ) → 0 < left → now + length piece ≡ left
    → HasHeads n bytes part left
    → HasHeads n (bytes ++ piece) part now
heads_pass zero bytes piece part left now some is h = absurd (let none = h.2 in omega (arith, some, none))
heads_pass (suc n) bytes piece part left now some is (len, long, tells, behind) = (
  len,
  omega (arith, long, length-append bytes piece),
  subst (λ (l : List ℕ). Tells l len) (sym (take-append-le head_len bytes piece long)) tells,
  ⊎_elim (passed now is)
      (λ (b : (head_len + len ≤ length bytes) × HasHeads n (drop (head_len + len) bytes) part left).
      let inside = b.0 in
      inr (
        omega (arith, inside, length-append bytes piece),
        subst (λ (l : List ℕ). HasHeads n l part now) (sym (drop-append-le (head_len + len) bytes piece inside))
            (heads_pass n (drop (head_len + len) bytes) piece part left now some is b.1),
      ))
      behind,
)
  where
    size : length (bytes ++ piece) ≡ length bytes + length piece
    size = length-append bytes piece

    Behind : ℕ → Type 0
    Behind k = ((n ≡ 0) × EndsWithin (bytes ++ piece) len part k)
        ⊎ ((head_len + len ≤ length (bytes ++ piece)) × HasHeads n (drop (head_len + len) (bytes ++ piece)) part k)

    passed : (k : ℕ) → k + length piece ≡ left → (n ≡ 0) × EndsWithin bytes len part left → Behind k
    passed zero all (last, (none, more, sum)) = inr (
      omega (arith, all, sum, size),
      subst (λ (m : ℕ). HasHeads m (drop (head_len + len) (bytes ++ piece)) part 0) (sym last) (
        drop_of_length-le (bytes ++ piece) {i = head_len + len} (omega (arith, all, sum, size)) ∙ sym none,
        (let e = ap length none in omega (arith, e)),
        refl,
      ),
    )
    passed (suc k) all (last, (none, more, sum)) = inl (last, (none, omega arith, omega (arith, all, sum, size)))

-- ---- what a count stands for

pub passes : (f g : RecordCount) (piece came : List ℕ) → 0 < f.left → g.left + length piece ≡ f.left → g.head ≡ f.head
    → g.count ≡ f.count → RecordCountStandsFor f came → RecordCountStandsFor g (came ++ piece)
passes f g piece came some left head count s = grind (arith, heads_pass)

pub part_came : (f g : RecordCount) (piece came : List ℕ) → f.left ≡ 0 → g.left ≡ 0 → g.head ≡ f.head ++ piece
    → length g.head < head_len → g.count ≡ f.count → RecordCountStandsFor f came
    → RecordCountStandsFor g (came ++ piece)
part_came f g piece came was none head few count s = grind (arith, heads_part)

capped : (n count next : ℕ) → count ≡ min n greatest_count → next ≡ min (count + 1) greatest_count
    → next ≡ min (n + 1) greatest_count
capped n count next is so = omega (arith, is, so)

pub head_came : (f g : RecordCount) (piece came whole : List ℕ) → f.left ≡ 0 → whole ≡ f.head ++ piece
    → length whole ≡ head_len
    → Tells whole g.left → g.head ≡ [] → g.count ≡ min (f.count + 1) greatest_count → RecordCountStandsFor f came
    → RecordCountStandsFor g (came ++ piece)
head_came f g piece came whole was is size tells none count s = record {
  heads = s.heads + 1;
  has = subst (λ (l : List ℕ). HasHeads (s.heads + 1) (came ++ piece) l g.left) (sym none)
      (heads_more s.heads came piece f.head g.left (subst (HasHeads s.heads came f.head) was s.has) (sym (ap length is)
      ∙ size)
      (subst (λ (l : List ℕ). Tells l g.left) is tells));
  count = capped s.heads f.count g.count s.count count;
}

-- ---- pieces one behind the other

pub goes_on : (g : RecordCount) (bytes came : List ℕ) (at count : ℕ)
    → RecordCountStandsFor g ((came ++ take at bytes) ++ take count (take (length bytes - at) (drop at bytes)))
    → RecordCountStandsFor g (came ++ take (at + count) bytes)
goes_on g bytes came at count s =
    let rest : take (length bytes - at) (drop at bytes) ≡ drop at bytes =
    ap (λ (k : ℕ). take k (drop at bytes)) (sym (length-drop at bytes)) ∙ take-length (drop at bytes) in
    subst (RecordCountStandsFor g)
    (append_assoc came (take at bytes) (take count (take (length bytes - at) (drop at bytes)))
    ∙ ap (λ (l : List ℕ). came ++ (take at bytes ++ take count l)) rest
    ∙ ap (λ (l : List ℕ). came ++ l) (sym (take-add at count bytes)))
    s
