-- What the places of handles are, and what a handle has left, after it was read.
use Rattle.std.proofs.Common.{◌≡◌, ◌==◌, ℕ, Bool, false, ◌+◌, ◌-◌, ◌<◌, ◌≤◌, List, [], ◌++◌, length, take, drop, map}
use Rattle.std.proofs.Common.{set, get_or, Some, refl, ap, sym, ◌∙◌, arith, ◌↔◌, string_bytes}
use Rattle.std.proofs.lemmas.List.{map-set, get_or-map, get_or-set_same, get_or-set_other, take_all, take-append-drop}
use Rattle.std.proofs.lemmas.List.{drop-drop, length-map, length-drop, length-take-le}
use Rattle.std.proofs.Math.Seq.{map-set_same, take-append_seam}
use Rattle.ports.specs.declared.counts.Counts.{Counts}
use Rattle.ports.specs.declared.memory_files.Handle.{Handle}
use Rattle.ports.specs.Desk.{Files, State, bytes_of, Reads}

-- one value moved by n
pub map-set_moved : {A : Type 0} (f : A → ℕ) (xs : List A) (i n : ℕ) (x y : A) → i < length xs → x ≡ get_or xs i x
    → f y ≡ f x + n
    →
    map f (set xs i y) ≡ set (map f xs) i (get_or (map f xs) i 0 + n)
map-set_moved f xs i n x y inside is moved =
    map-set f xs i y
    ∙ ap (set (map f xs) i) (moved ∙ ap (λ (k : ℕ). k + n) (ap f is ∙ sym (get_or-map f xs i x 0 inside)))

-- no value moved
pub map-set_stayed : {A B : Type 0} (f : A → B) (xs : List A) (i : ℕ) (x y : A) → x ≡ get_or xs i x → f y ≡ f x
    → map f (set xs i y) ≡ map f xs
map-set_stayed f xs i x y is same = map-set_same f xs i y x (same ∙ ap f is)

-- a piece that was copied, and what stands after it
pub copied : (bytes piece kept : List ℕ) (place n : ℕ) → n ≤ length bytes - place
    → piece ≡ take n (take (length bytes - place) (drop place bytes)) →
    drop place bytes ≡ take n (piece ++ kept) ++ drop (place + n) bytes
copied bytes piece kept place n inside is =
    let all : take (length bytes - place) (drop place bytes) ≡ drop place bytes =
    take_all (length bytes - place) (drop place bytes) (omega (arith, length-drop place bytes)) in
    let front : piece ≡ take n (drop place bytes) = is ∙ ap (take n) all in
    let size : length piece ≡ n =
    ap length front ∙ length-take-le n (drop place bytes) (omega (arith, length-drop place bytes)) in
    let whole : take n (piece ++ kept) ≡ piece = ap (λ (k : ℕ). take k (piece ++ kept)) (sym size)
    ∙ take-append_seam piece kept in
    sym (take-append-drop n (drop place bytes))
    ∙ rw (whole, drop-drop n place bytes) (ap (λ (x : List ℕ). x ++ drop (place + n) bytes) (sym front))

abbrev pub name_of : Handle → List ℕ
name_of handle = string_bytes handle.name

abbrev pub place_of : Handle → ℕ
place_of handle = handle.place

abbrev pub ended_of : Handle → Bool
ended_of handle = handle.ended

-- a desk with these files and handles
abbrev desk : Files → List Handle → List (List ℕ) → List (List ℕ) → ℕ → Counts → State
desk files handles outs said created counts = record {
  held = Some (record { files = files; names = map name_of handles; outs = outs });
  said = Some said;
  opened = map place_of handles;
  ended = map ended_of handles;
  created = created;
  counts = counts;
}

-- a desk after the handle x at a place was read on to y
pub reads_on : (files : Files) (xs : List Handle) (outs said : List (List ℕ)) (created : ℕ) (counts : Counts)
    (at n : ℕ) (x y : Handle) (buffer : List ℕ) →
    at < length xs → x ≡ get_or xs at x → y.name ≡ x.name → y.place ≡ x.place + n → y.ended ≡ (n == 0) →
    drop x.place (bytes_of files (name_of x)) ≡ take n buffer ++ drop y.place (bytes_of files (name_of x)) →
    ((n ≡ 0) ↔ (drop x.place (bytes_of files (name_of x)) ≡ [])) →
    Reads (desk files xs outs said created counts) (desk files (set xs at y) outs said created counts) at n buffer
reads_on files xs outs said created counts at n x y buffer came is name moved over next end =
    let names : map name_of (set xs at y) ≡ map name_of xs = map-set_stayed name_of xs at x y is
    (ap string_bytes name) in
    let places : map place_of (set xs at y) ≡ set (map place_of xs) at y.place = map-set place_of xs at y in
    let ended : map ended_of (set xs at y) ≡ set (map ended_of xs) at (n == 0) = map-set ended_of xs at y
    ∙ ap (set (map ended_of xs) at) over in
    let called : get_or (map name_of xs) at [] ≡ name_of x = get_or-map name_of xs at x [] came ∙ ap name_of (sym is) in
    let before : get_or (map place_of xs) at 0 ≡ x.place = get_or-map place_of xs at x 0 came ∙ ap place_of (sym is) in
    let after : get_or (map place_of (set xs at y)) at 0 ≡ y.place =
    ap (λ (ps : List ℕ). get_or ps at 0) places ∙ get_or-set_same (map place_of xs) at y.place 0 (rw length-map came) in
    record {
      held = ap (λ (ns : List (List ℕ)). Some (record { files = files; names = ns; outs = outs })) names;
      said = refl;
      opened = map-set_moved place_of xs at n x y came is moved;
      ended = ended;
      created = refl;
      next = rw (names, called, before, after) (ap Some next);
      end = rw (called, before) end;
      runs_out = ap (λ (l : List Bool). get_or l at false) ended
          ∙ get_or-set_same (map ended_of xs) at (n == 0) false (rw length-map came);
      others = λ other apart.
          let same : get_or (map place_of (set xs at y)) other 0 ≡ get_or (map place_of xs) other 0 =
          ap (λ (ps : List ℕ). get_or ps other 0) places ∙ get_or-set_other (map place_of xs) at other
          y.place 0 apart in
          rw (names, same) refl;
    }
