-- What a file that is set or written leaves: two writes of a handle are one, and other names keep their bytes.
use Rattle.std.proofs.Common.{◌≡◌, ◌≢◌, ℕ, ◌+◌, Bool, true, false, cond, List, [], ◌∷◌, ◌++◌, length, drop, get_or}
use Rattle.std.proofs.Common.{Option, Some, None, refl, ap, sym, ◌∙◌, append_assoc, length-append, inl, inr, Vec}
use Rattle.std.proofs.Common.{String, Global, string_bytes}
use Rattle.std.specs.Prelude.{IfSome, slice_index, slice_index_or, unwrap_or, option_map}
use Rattle.std.specs.Ordering.{nat_cmp, eq_by_cmp}
use Rattle.std.specs.Cmp.Lexicographic.{slice_cmp, nat_list_cmp_total}
use Rattle.std.specs.FinMap.{get, insert, get-insert, same_map, slice_cmp-IsAntisymmetric, nat_cmp-IsAntisymmetric}
use Rattle.std.proofs.lemmas.Bool.{cases_Bool}
use Rattle.std.proofs.lemmas.Map.Text.{is_eq-slice_cmp}
use Rattle.std.proofs.lemmas.Slice.Eq.{bytes_eq-Decides}
use Rattle.std.specs.BTreeMap as tree
use Rattle.std.specs.BTreeMap.{BTreeMap}
use Rattle.std.specs.String.{string_cmp}
use Rattle.terms.proofs.OptionLemmas.{append_twice}
use Rattle.ports.specs.declared.counts.Counts.{Counts}
use Rattle.ports.specs.Stored.{files_of}
use Rattle.ports.proofs.FileLemmas.{files_of-insert, get-files_of}
use Rattle.ports.specs.Desk.{Files, Held, State, Creates, IsApart, Writes, bytes_of, out_name, with_bytes, written_of}

abbrev same : List ℕ → List ℕ → Bool
same a b = eq_by_cmp (slice_cmp nat_cmp) a b

one_name : (a b : List ℕ) → same a b ≡ true → a ≡ b
one_name a b e = (bytes_eq-Decides a b).0 (sym (is_eq-slice_cmp a b) ∙ e)

same_self : (a : List ℕ) → same a a ≡ true
same_self a = is_eq-slice_cmp a a ∙ (bytes_eq-Decides a a).1 refl

twice : {A : Type 0} (b : Bool) (u v w : A) → cond b u (cond b v w) ≡ cond b u w
twice true u v w = refl
twice false u v w = refl

-- of two inserts at a name the last one stays
insert_twice : (m : Files) (name x y : List ℕ) → insert (insert m name x) name y ≡ insert m name y
insert_twice m name x y =
    same_map nat_list_cmp_total (slice_cmp-IsAntisymmetric nat_cmp-IsAntisymmetric) (insert (insert m name x) name y)
    (insert m name y)
    (λ q. get-insert nat_list_cmp_total (insert m name x) name y q
    ∙ ap (cond (same q name) (Some y)) (get-insert nat_list_cmp_total m name x q)
    ∙ twice (same q name) (Some y) (Some x) (get m q)
    ∙ sym (get-insert nat_list_cmp_total m name y q))

-- what is found at the name that was set
pub get_set : (m : Files) (name x : List ℕ) → get (insert m name x) name ≡ Some x
get_set m name x = get-insert nat_list_cmp_total m name x name ∙ ap (λ (b : Bool). cond b (Some x) (get m name))
    (same_self name)

-- another name has what it had
pub get_other : (m : Files) (name x q : List ℕ) → q ≢ name → get (insert m name x) q ≡ get m q
get_other m name x q apart =
    elim (cases_Bool (same q name)) [
      | inl here ↦ absurd (apart (one_name q name here))
      | inr other ↦ get-insert nat_list_cmp_total m name x q ∙ ap (λ (b : Bool). cond b (Some x) (get m q)) other
    ]

kept_at : (m : Files) (name x q : List ℕ) → get m name ≡ Some x → get (insert m name x) q ≡ get m q
kept_at m name x q is =
    elim (cases_Bool (same q name)) [
      | inl here ↦ ap (get (insert m name x)) (one_name q name here) ∙ get_set m name x ∙ sym is
          ∙ ap (get m) (sym (one_name q name here))
      | inr other ↦ get-insert nat_list_cmp_total m name x q ∙ ap (λ (b : Bool). cond b (Some x) (get m q)) other
    ]

-- to set a file to the bytes that it has changes nothing
pub insert_kept : (m : Files) (name x : List ℕ) → get m name ≡ Some x → insert m name x ≡ m
insert_kept m name x is = same_map nat_list_cmp_total (slice_cmp-IsAntisymmetric nat_cmp-IsAntisymmetric)
    (insert m name x) m
    (λ q. kept_at m name x q is)

-- what handles for reading have left, if another file was set
left_beside : (files : Files) (names : List (List ℕ)) (handle place : ℕ) (name x : List ℕ)
    → slice_index_or names handle [] ≢ name
    → drop place (bytes_of (insert files name x) (slice_index_or names handle []))
    ≡ drop place (bytes_of files (slice_index_or names handle []))
left_beside files names handle place name x apart =
    ap (λ (o : Option (List ℕ)). drop place (unwrap_or o [])) (get_other files name x (slice_index_or names handle [])
    apart)

bytes_twice : (h : Held) (out : ℕ) (x y : List ℕ) → with_bytes out y (with_bytes out x h) ≡ with_bytes out (x ++ y) h
bytes_twice h out x y =
    ap (λ (b : List ℕ). record h {
      files = insert (insert h.files (out_name h out) (bytes_of h.files (out_name h out) ++ x))
          (out_name h out) (b ++ y);
    })
    (ap (λ (o : Option (List ℕ)). unwrap_or o []) (get_set h.files (out_name h out) (bytes_of h.files (out_name h out)
    ++ x)))
    ∙ ap (λ (f : Files). record h { files = f })
    (insert_twice h.files (out_name h out) (bytes_of h.files (out_name h out) ++ x) _)
    ∙ ap (λ (b : List ℕ). record h { files = insert h.files (out_name h out) b })
    (append_assoc (bytes_of h.files (out_name h out)) x y)

held_twice : (o : Option Held) (out : ℕ) (x y : List ℕ)
    → option_map (with_bytes out y) (option_map (with_bytes out x) o)
    ≡ option_map (with_bytes out (x ++ y)) o
held_twice None out x y = refl
held_twice (Some h) out x y = ap Some (bytes_twice h out x y)

-- a handle that is apart from an out is so after a write too
apart_after : (o p : Option Held) (handle out : ℕ) (x : List ℕ) → p ≡ option_map (with_bytes out x) o
    → IfSome o (λ h. IsApart o handle (out_name h out))
    → IfSome p (λ h. IsApart p handle (out_name h out))
apart_after None p handle out x is apart = rw is tt
apart_after (Some h) p handle out x is apart = rw is apart

pub writes_join : (a b c : State) (out : ℕ) (x y : List ℕ) → Writes a b out x → Writes b c out y
    → Writes a c out (x ++ y)
writes_join a b c out x y p q = record {
  held = q.held ∙ ap (option_map (with_bytes out y)) p.held ∙ held_twice a.held out x y;
  said = q.said ∙ p.said;
  opened = q.opened ∙ p.opened;
  ended = q.ended ∙ p.ended;
  created = q.created ∙ p.created;
  behind = q.behind ∙ ap (option_map (λ w. w ++ y)) p.behind ∙ append_twice (written_of a out) x y;
  others = λ handle apart. q.others handle (apart_after a.held b.held handle out x p.held apart)
      ∙ p.others handle apart;
}

-- a desk in memory
abbrev desk : Files → List (List ℕ) → List (List ℕ) → List (List ℕ) → List ℕ → List Bool → ℕ → Counts → State
desk files names outs said opened ended created counts = record {
  held = Some (record { files = files; names = names; outs = outs });
  said = Some said;
  opened = opened;
  ended = ended;
  created = created;
  counts = counts;
}

-- a desk after bytes were put behind those of an out
pub writes_on : (files new : Files) (names outs said : List (List ℕ)) (opened : List ℕ) (ended : List Bool)
    (created : ℕ)
    (counts : Counts) (out : ℕ)
    (name bytes : List ℕ)
    → name ≡ slice_index_or outs out [] → new ≡ insert files name (bytes_of files name ++ bytes)
    → Writes (desk files names outs said opened ended created counts) (desk new names outs said opened
    ended created counts)
    out bytes
writes_on files new names outs said opened ended created counts out name bytes named set =
    let files_are : new ≡ insert files (slice_index_or outs out []) (bytes_of files (slice_index_or outs out [])
    ++ bytes) =
    rw (← named) set in
    record {
      held = ap (λ (f : Files). Some (record { files = f; names = names; outs = outs })) files_are;
      said = refl;
      opened = refl;
      ended = refl;
      created = refl;
      behind = ap (λ (f : Files). Some (bytes_of f (slice_index_or outs out []))) files_are
          ∙ ap (λ (o : Option (List ℕ)). Some (unwrap_or o []))
          (get_set files (slice_index_or outs out []) (bytes_of files (slice_index_or outs out []) ++ bytes));
      others =
          λ handle apart.
          ap (λ (f : Files). Some (drop (slice_index opened handle) (bytes_of f (slice_index_or names handle []))))
          files_are
          ∙ ap Some (left_beside files names handle (slice_index opened handle) (slice_index_or outs out [])
          (bytes_of files (slice_index_or outs out []) ++ bytes) apart);
    }

last_of : (outs : List (List ℕ)) (name : List ℕ) → get_or (outs ++ name ∷ []) (length outs) [] ≡ name
last_of [] name = refl
last_of (out ∷ outs) name = last_of outs name

-- a desk after an empty file was made for one more out
pub creates_on : (files new : Files) (names outs outs_new said : List (List ℕ)) (opened : List ℕ) (ended : List Bool)
    (created created_new : ℕ)
    (counts : Counts) (out : ℕ) (name : List ℕ)
    → out ≡ created → length outs ≡ created → outs_new ≡ outs ++ name ∷ [] → created_new ≡ created + 1
    → new ≡ insert files name []
    → Creates (desk files names outs said opened ended created counts)
    (desk new names outs_new said opened ended created_new counts) name out
creates_on files new names outs outs_new said opened ended created created_new counts out name is len more one set =
    let last : slice_index_or (outs ++ name ∷ []) out [] ≡ name = rw (is, ← len) (last_of outs name) in
    record {
      number = is;
      held = rw (set, more) refl;
      named = rw more last;
      outs = rw (more, one) (length-append outs (name ∷ []) ∙ ap (λ (k : ℕ). k + 1) len);
      said = refl;
      opened = refl;
      ended = refl;
      created = one;
      others = λ handle apart. rw set (ap Some (left_beside files names handle (slice_index opened handle)
          name [] apart));
    }

-- what was written through to a text's value, if it has the bytes that it had, changes no file
pub kept_files : (old new : BTreeMap (String Global) (Vec ℕ Global)) (name : List ℕ) (before after : Vec ℕ Global)
    → Some before ≡ tree.get_by_text old name
    → after.items ≡ before.items → tree.UpdatesBy string_cmp (λ k. slice_cmp nat_cmp name (string_bytes k))
    old new (Some after)
    → files_of new ≡ files_of old
kept_files old new name before after is same_bytes updates =
    files_of-insert old new name after updates
    ∙ ap (insert (files_of old) name) same_bytes
    ∙ insert_kept (files_of old) name before.items (get-files_of old name ∙ ap (option_map (λ v. v.items)) (sym is))

pub not_extended : (b : Bool) (new old piece : List ℕ) → new ≡ cond b (old ++ piece) old → b ≡ false → new ≡ old
not_extended b new old piece is e = is ∙ ap (λ (c : Bool). cond c (old ++ piece) old) e
