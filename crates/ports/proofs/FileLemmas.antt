-- A map of texts to vectors, seen as a finite map of names to bytes.
use Rattle.std.proofs.Common.{◌≡◌, ℕ, Bool, true, false, cond, List, [], ◌∷◌, Option, Some, map, refl, ap, sym, ◌∙◌}
use Rattle.std.proofs.Common.{Vec, String, Global, string_bytes}
use Rattle.std.specs.Prelude.{option_map}
use Rattle.std.specs.Ordering.{nat_cmp, is_eq, eq_by_cmp}
use Rattle.std.specs.Cmp.{eq_by_cmp_equiv}
use Rattle.std.specs.Cmp.Lexicographic.{slice_cmp, nat_list_cmp_total}
use Rattle.std.specs.FinMap.{get, find, insert, get-from_entries, get-insert, same_map, slice_cmp-IsAntisymmetric}
use Rattle.std.specs.FinMap.{nat_cmp-IsAntisymmetric}
use Rattle.std.specs.BTreeMap as tree
use Rattle.std.specs.BTreeMap.{BTreeMap, is_at}
use Rattle.std.specs.Map.{lookup}
use Rattle.std.specs.Str.{bytes_eq}
use Rattle.std.specs.String.{string_cmp}
use Rattle.std.proofs.lemmas.Map.Text.{is_eq-slice_cmp, btree_map_updates_text}
use Rattle.ports.specs.Stored.{entry_of, files_of}

abbrev Stored : Type 0
Stored = BTreeMap (String Global) (Vec ℕ Global)

abbrev items : Vec ℕ Global → List ℕ
items v = v.items

-- a map of a choice is a choice of maps
option_map-cond : {A B : Type 0} (f : A → B) (b : Bool) (x y : Option A) → option_map f (cond b x y)
    ≡ cond b (option_map f x) (option_map f y)
option_map-cond f true x y = refl
option_map-cond f false x y = refl

-- what is found among the names is the value at that text
find-entries : (name : List ℕ) (es : List (String Global × Vec ℕ Global)) →
    find (slice_cmp nat_cmp) name (map entry_of es)
    ≡ option_map items (lookup (is_at (λ k. slice_cmp nat_cmp name (string_bytes k))) es)
find-entries name [] = refl
find-entries name (e ∷ es) =
    let b = is_eq (slice_cmp nat_cmp name (string_bytes e.0)) in
    ap (cond b (Some e.1.items)) (find-entries name es)
    ∙ sym (option_map-cond items b (Some e.1) (lookup (is_at (λ k. slice_cmp nat_cmp name (string_bytes k))) es))

-- the file of a name is the value at that text
pub get-files_of : (files : Stored) (name : List ℕ) → get (files_of files) name ≡ option_map items
    (tree.get_by_text files name)
get-files_of files name = get-from_entries nat_list_cmp_total (map entry_of files.entries) name
    ∙ find-entries name files.entries

-- to set the value at a text is to set the file of that name
pub files_of-insert : (old new : Stored) (name : List ℕ) (value : Vec ℕ Global) →
    tree.UpdatesBy string_cmp (λ k. slice_cmp nat_cmp name (string_bytes k)) old new (Some value)
    → files_of new ≡ insert (files_of old) name value.items
files_of-insert old new name value updates =
    same_map nat_list_cmp_total (slice_cmp-IsAntisymmetric nat_cmp-IsAntisymmetric) (files_of new)
    (insert (files_of old) name value.items)
    (λ q. let test : bytes_eq name q ≡ eq_by_cmp (slice_cmp nat_cmp) q name =
    sym (is_eq-slice_cmp name q) ∙ (eq_by_cmp_equiv nat_list_cmp_total).symm name q in
    get-files_of new q
    ∙ ap (option_map items) (btree_map_updates_text name old new (Some value) updates q)
    ∙ option_map-cond items (bytes_eq name q) (Some value) (tree.get_by_text old q)
    ∙ ap (λ (o : Option (List ℕ)). cond (bytes_eq name q) (Some value.items) o) (sym (get-files_of old q))
    ∙ ap (λ (b : Bool). cond b (Some value.items) (get (files_of old) q)) test
    ∙ sym (get-insert nat_list_cmp_total (files_of old) name value.items q))

pub ruleset files = (get-files_of, files_of-insert)
