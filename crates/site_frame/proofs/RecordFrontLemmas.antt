-- What is refused of a record that has come whole is refused whatever follows.
use Rattle.std.proofs.Common.{◌≡◌, ℕ, ◌+◌, ◌^◌, ◌<◌, List, ◌++◌, length, take, drop, sym, ap, subst, ◌∙◌, arith}
use Rattle.std.proofs.Common.{append_assoc}
use Rattle.std.proofs.lemmas.List.{take-append-le, take-append-drop, drop-append-le, drop_at, length-append}
use Rattle.std.proofs.lemmas.List.{length-drop}
use Rattle.std.proofs.lemmas.List.{length-take-le}
use Rattle.site_frame.proofs.HeadLemmas.{same_at, told_on, head_on, head_back, kind_on, kind_back}
use Rattle.plp_config.specs.declared.moment.Moment.{Moment}
use Rattle.site_frame.specs.Record.{head_len, head_bytes}
use Rattle.site_frame.specs.Whole.{kind_of, moment_of, HasRest, told_len, told_rest, HasLength, Refuses, Follow}
use Rattle.site_frame.specs.declared.fault.RecordWhy.{RecordWhy}
use Rattle.site_frame.specs.declared.fault.RecordWhy.TheVariants.{Head, Kind, Length, Order, OffGrid}
use Rattle.site_frame.specs.RecordFile.{Announces}

-- what a head tells is the length of the rest
told_in : (kind : ℕ) (moment : Moment) (len : ℕ) (rest : List ℕ) → len < 256 ^ 4
    → told_len (head_bytes kind moment len ++ rest)
    ≡ len
told_in kind moment len rest small = grind (arith, length-append, append_assoc, drop_at)

head_size : (kind : ℕ) (moment : Moment) (len : ℕ) → length (head_bytes kind moment len) ≡ head_len
head_size kind moment len = grind (arith, length-append)

-- a head tells how many bytes follow
follow_told : (head : List ℕ) (len : ℕ) → length head ≡ head_len → Follow head len → told_len head ≡ len
follow_told head len size f =
    let whole : List ℕ = head ++ f.some.more in
    let begins = f.some.begins in
    let bytes : List ℕ = take (head_len + len) whole in
    let s = begins.spells in
    let n = length-take-le (head_len + len) whole begins.inside in
    let spelled : bytes ≡ head_bytes (kind_of f.some.view) (moment_of f.some.view) (length s.rest)
    ++ s.rest = s.spelled in
    let sum = ap length spelled in
    let both = length-append (head_bytes (kind_of f.some.view) (moment_of f.some.view) (length s.rest)) s.rest in
    let first = head_size (kind_of f.some.view) (moment_of f.some.view) (length s.rest) in
    let rest : length s.rest ≡ len = omega (arith, n, sum, both, first) in
    let told : told_len bytes ≡ length s.rest = ap told_len spelled ∙ told_in (kind_of f.some.view)
    (moment_of f.some.view)
    (length s.rest) s.rest (let few = s.small in omega (arith, few)) in
    let front : told_len whole ≡ told_len bytes = ap told_len (sym (take-append-drop (head_len + len) whole))
    ∙ told_on bytes (drop (head_len + len) whole) (omega (arith, n)) in
    sym (told_on head f.some.more (omega (arith, size))) ∙ front ∙ told ∙ rest

-- so does the head of bytes
announced : (bytes : List ℕ) (len : ℕ) → Announces bytes len → told_len bytes ≡ len
announced bytes len a =
    let n = length-take-le head_len bytes a.0 in
    ap told_len (sym (take-append-drop head_len bytes)) ∙ told_on (take head_len bytes) (drop head_len bytes)
    (omega (arith, n))
    ∙ follow_told (take head_len bytes) len n a.1

length_back : (bytes more : List ℕ) (len : ℕ) → Announces bytes len → length bytes ≡ head_len + len
    → HasLength (bytes ++ more)
    → HasLength bytes
length_back bytes more len a whole h =
    let told : told_len bytes ≡ len = announced bytes len a in
    let same : told_len (bytes ++ more) ≡ told_len bytes = told_on bytes more a.0 in
    let n = length-drop {A = ℕ} head_len bytes in
    let rest : told_rest (bytes ++ more) ≡ told_rest bytes =
    ap (λ (k : ℕ). take k (drop head_len (bytes ++ more))) same
    ∙ ap (take (told_len bytes)) (drop-append-le head_len bytes more a.0)
    ∙ take-append-le (told_len bytes) (drop head_len bytes) more (omega (arith, told, whole, n)) in
    record {
      small = (let s = h.small in omega (arith, s, same));
      inside = omega (arith, told, whole);
      view = h.view;
      kind = h.kind ∙ same_at bytes more a.0 4 (omega arith);
      parts = subst (HasRest h.view) rest h.parts;
    }

pub refused_whole : (bytes more : List ℕ) (len : ℕ) (why : RecordWhy) → Announces bytes len
    → length bytes ≡ head_len + len
    → Refuses bytes why → Refuses (bytes ++ more) why
refused_whole bytes more len Head a whole r = λ h. r (head_back bytes more a.0 h)
refused_whole bytes more len Kind a whole r = (head_on bytes more a.0 r.0, λ h. r.1 (kind_back bytes more a.0 h))
refused_whole bytes more len Length a whole r =
    (head_on bytes more a.0 r.0, kind_on bytes more a.0 r.1, λ h. r.2 (length_back bytes more len a whole h))
refused_whole bytes more len Order a whole r = r
refused_whole bytes more len OffGrid a whole r = r

-- a file that ends within a head has none there
pub short_refused : (bytes : List ℕ) → length bytes < head_len → Refuses bytes Head
short_refused bytes few = λ h. let w = h.whole in absurd (omega (arith, w, few))

-- and within the bytes that a head tells, none that has them
pub cut_refused : (bytes : List ℕ) (len : ℕ) → Announces bytes len → length bytes < head_len + len
    → Refuses bytes Length
cut_refused bytes len a few =
    let n = length-drop {A = ℕ} head_len bytes in
    let long = a.0 in
    subst (λ (l : List ℕ). Refuses l Length) (take-append-drop head_len bytes)
    (a.1.fewer (drop head_len bytes) (omega (arith, n, few, long)))
