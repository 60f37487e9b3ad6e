-- Writes, one behind another.
use Rattle.std.proofs.Common.{◌≡◌, ◌≢◌, ℕ, ◌+◌, Bool, List, [], ◌++◌, take, drop, slice_index_or, Option, Some, None}
use Rattle.std.proofs.Common.{refl, ap, sym, subst, ◌∙◌, append_assoc, append-nil, take-add, length, ◌<◌, arith}
use Rattle.std.specs.Prelude.{IfSome, IsSome, option_map}
use Rattle.std.specs.Ordering.{nat_cmp, eq_by_cmp}
use Rattle.std.specs.Cmp.Lexicographic.{slice_cmp}
use Rattle.std.specs.FinMap.{get, insert}
use Rattle.std.proofs.lemmas.List.{take-append-drop, length-drop}
use Rattle.file_run.proofs.InputLemmas.{left_kept}
use Rattle.ports.proofs.WriteLemmas.{get_set, get_other}
use Rattle.ports.specs.Desk.{Held, State, Keeps, Writes, IsApart, out_name, written_of, with_bytes, with_empty}
use Rattle.ports.specs.Desk.{bytes_of}
use Rattle.file_run.specs.DeskLaws.{CreatesEmpty}
use Rattle.file_run.specs.Writing.{OnlyOut, Appends, AppendsFront}

same : List ℕ → List ℕ → Bool
same a b = eq_by_cmp (slice_cmp nat_cmp) a b

only_same : (out : ℕ) (held : Option Held) → OnlyOut out held held
only_same out None = refl
only_same out (Some h) = (h, refl, refl, refl, λ other apart. refl)

only_written : (out : ℕ) (bytes : List ℕ) (old new : Option Held) → new ≡ option_map (with_bytes out bytes) old
    → OnlyOut out old new
only_written out bytes None new e = e
only_written out bytes (Some h) new e = (
  with_bytes out bytes h,
  e,
  refl,
  refl,
  λ other apart. get_other h.files (out_name h out)
      (bytes_of h.files (out_name h out) ++ bytes) other apart,
)

only_then : (out : ℕ) (a b c : Option Held) → OnlyOut out a b → OnlyOut out b c → OnlyOut out a c
only_then out None b c p q = subst (λ (o : Option Held). OnlyOut out o c) p q
only_then out (Some h) b c p q =
    let k : Held = p.0 in
    let l = subst (λ (o : Option Held). OnlyOut out o c) p.1 q in
    let named : out_name k out ≡ out_name h out = ap (λ (outs : List (List ℕ)). slice_index_or outs out []) p.3 in
    (l.0, l.1, l.2 ∙ p.2, l.3 ∙ p.3, λ other apart. l.4 other (λ e. apart (e ∙ named)) ∙ p.4 other apart)

pub creates_empty : CreatesEmpty
creates_empty old new name out h c told = (
  with_empty name h,
  c.held ∙ ap (option_map (with_empty name)) told,
  record {
    names = refl;
    there = get_set h.files name [];
    others = λ other apart. get_other h.files name
        [] other apart;
  },
)

-- a file that is written is there
there_written : (out : ℕ) (bytes : List ℕ) (old new : Option Held) → new ≡ option_map (with_bytes out bytes) old
    → IfSome new (λ h. IsSome (get h.files (out_name h out)))
there_written out bytes None new e = subst (λ (o : Option Held). IfSome o (λ h. IsSome (get h.files (out_name h out))))
    (sym e) tt
there_written out bytes (Some h) new e =
    let all : List ℕ = bytes_of h.files (out_name h out) ++ bytes in
    let found : IsSome (get (insert h.files (out_name h out) all) (out_name h out)) =
    subst (λ (o : Option (List ℕ)). IsSome o) (sym (get_set h.files (out_name h out) all)) refl in
    subst (λ (o : Option Held). IfSome o (λ h. IsSome (get h.files (out_name h out)))) (sym e) found

behind_then : (a b c : Option (List ℕ)) (x y : List ℕ) → b ≡ option_map (λ w. w ++ x) a → c ≡ option_map (λ w. w ++ y) b
    → c ≡ option_map (λ w. w ++ (x ++ y)) a
behind_then None b c x y p q = rw p at q
behind_then (Some w) b c x y p q = (rw p at q) ∙ ap Some (append_assoc w x y)

behind_none : (a : Option (List ℕ)) → a ≡ option_map (λ w. w ++ []) a
behind_none None = refl
behind_none (Some w) = ap Some (sym (append-nil w))

-- a handle of another file is so after a write
apart_then : (out handle : ℕ) (a b : Option Held) → OnlyOut out a b → IfSome a (λ h. IsApart a handle (out_name h out))
    → IfSome b (λ h. IsApart b handle (out_name h out))
apart_then out handle None b o p = subst (λ (held : Option Held). IfSome held
    (λ h. IsApart held handle (out_name h out)))
    (sym o) tt
apart_then out handle (Some h) b o p =
    let names = ap (λ (names : List (List ℕ)). slice_index_or names handle []) o.2 in
    let outs = ap (λ (outs : List (List ℕ)). slice_index_or outs out []) o.3 in
    let there : IfSome (Some o.0) (λ k. IsApart (Some o.0) handle (out_name k out)) = λ e. p (sym names ∙ e ∙ outs) in
    subst (λ (held : Option Held). IfSome held (λ k. IsApart held handle (out_name k out))) (sym o.1) there

pub appends_none : (s : State) (out : ℕ) → Appends s s out []
appends_none s out = search (arith, only_same, behind_none)

pub appends_written : (old new : State) (out : ℕ) (bytes : List ℕ) → Writes old new out bytes
    → Appends old new out bytes
appends_written old new out bytes w = grind (arith, only_written, there_written)

pub appends_then : (a b c : State) (out : ℕ) (x y : List ℕ) → Appends a b out x → Appends b c out y
    → Appends a c out (x ++ y)
appends_then a b c out x y p q = record {
  held = only_then out a.held b.held c.held p.held q.held;
  said = q.said ∙ p.said;
  opened = q.opened ∙ p.opened;
  ended = q.ended ∙ p.ended;
  created = q.created ∙ p.created;
  behind = behind_then (written_of a out) (written_of b out) (written_of c out) x y p.behind q.behind;
  there = λ was. q.there (p.there was);
  others = λ handle apart. q.others handle (apart_then out handle a.held b.held p.held apart) ∙ p.others handle apart;
}

-- after a fault the state is as it was
pub appends_kept : (a b c : State) (out : ℕ) (x : List ℕ) → Appends a b out x → Keeps b c → Appends a c out x
appends_kept a b c out x p k = grind (arith, Option, left_kept)

-- one more write of a piece
pub more_written : (a b c : State) (out : ℕ) (piece : List ℕ) (m n : ℕ) → Appends a b out (take m piece)
    → Writes b c out (take n (drop m piece)) → Appends a c out (take (m + n) piece)
more_written a b c out piece m n p w = search (arith, take-add, appends_then, appends_written)

some_left : (piece : List ℕ) (m : ℕ) → m < length piece → drop m piece ≢ []
some_left piece m lt e = let n = ap length e in omega (arith, n, lt, length-drop m piece)

-- a front of a piece was written
pub front_written : (a b c : State) (out : ℕ) (piece : List ℕ) (m : ℕ) → m < length piece
    → Appends a b out (take m piece)
    → Keeps b c → AppendsFront a c out piece
front_written a b c out piece m lt p k =
    record {
      front = take m piece;
      more = drop m piece;
      some = some_left piece m lt;
      parts = sym (take-append-drop m piece);
      appends = appends_kept a b c out (take m piece) p k;
    }
