-- Facts of a value that may be there, besides std's `IfSome_then`.
use Rattle.std.proofs.Common.{◌≡◌, Bool, true, false, cond, List, ◌++◌, [], Option, Some, None, is_some, refl, ap, sym}
use Rattle.std.proofs.Common.{append-nil, append_assoc, true≢false}
use Rattle.std.proofs.lemmas.Bool.{false≢true}
use Rattle.std.specs.Prelude.{IfSome, IsSome, option_map, unwrap_or, not}

-- what is so of every value
pub if_any : {A : Type 0} (o : Option A) (P : A → Type 0) → ((x : A) → P x) → IfSome o P
if_any None P f = tt
if_any (Some x) P f = f x

-- what follows from two facts of the value
pub if_both : {A : Type 0} (o : Option A) (P Q R : A → Type 0) → ((x : A) → P x → Q x → R x) → IfSome o P → IfSome o Q
    → IfSome o R
if_both None P Q R f p q = tt
if_both (Some x) P Q R f p q = f x p q

-- behind a text that may be told comes nothing
pub append-none : {A : Type 0} (o : Option (List A)) → o ≡ option_map (λ text. text ++ []) o
append-none None = refl
append-none (Some text) = ap Some (sym (append-nil text))

-- what is there is what `unwrap_or` gives
pub was_some : {A : Type 0} (o : Option A) (other : A) → IsSome o → o ≡ Some (unwrap_or o other)
was_some None other h = cc
was_some (Some x) other h = refl

pub none_some : {A : Type 0} {P : Type 0} (x : A) → None ≡ Some x → P
none_some x e = absurd (true≢false (sym (ap is_some e)))

-- what is there under one of two tests is not there if neither holds
pub neither : {A : Type 0} (t u : Bool) (a b : A) → is_some (cond t (Some a) (cond u (Some b) None)) ≡ false
    → (t ≡ false)
    × (u ≡ false)
neither true u a b e = absurd (true≢false e)
neither false true a b e = absurd (true≢false e)
neither false false a b e = (refl, refl)

-- texts that come behind a text that may be told
pub append_twice : {A : Type 0} (o : Option (List A)) (x y : List A)
    → option_map (λ text. text ++ y) (option_map (λ text. text ++ x) o) ≡ option_map (λ text. text ++ (x ++ y)) o
append_twice None x y = refl
append_twice (Some text) x y = ap Some (append_assoc text x y)

-- what is not there
pub none_if_not : {A : Type 0} (o : Option A) → not (is_some o) ≡ true → o ≡ None
none_if_not None e = refl
none_if_not (Some x) e = absurd (false≢true e)

-- nothing is there only if the test that rules it out holds
pub none_if : {A : Type 0} (t : Bool) (x : A) → ◌≡◌ {A = Option A} (cond t None (Some x)) None → t ≡ true
none_if true x e = refl
none_if false x e = none_some x (sym e)
