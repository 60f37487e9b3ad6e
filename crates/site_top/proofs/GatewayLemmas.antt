-- The output of `gateway` is none of its inputs.
use Rattle.std.proofs.Common.{◌≡◌, ◌≢◌, ℕ, zero, suc, ◌<◌, Bool, true, false, List, [], ◌∷◌, length, refl}
use Rattle.std.proofs.Common.{arith}
use Rattle.std.specs.Prelude.{not, slice_index_or}
use Rattle.std.specs.Str.{bytes_eq}
use Rattle.std.proofs.lemmas.Slice.Eq.{bytes_eq-Decides}
use Rattle.std.proofs.lemmas.Bool.{and_parts}
use Rattle.site_top.specs.Commands.{is_empty, is_input, are_inputs}

not_true : (b : Bool) → not b ≡ true → b ≡ false
not_true true e = cc
not_true false e = refl

pub other_name : (file out : List ℕ) → is_input out file ≡ true → file ≢ out
other_name file out e same =
    let differs : bytes_eq file out ≡ false =
    not_true (bytes_eq file out) (and_parts (not (is_empty file)) (not (bytes_eq file out)) e).1 in
    let equal : bytes_eq file out ≡ true = (bytes_eq-Decides file out).1 same in
    cc

-- the output is none of the inputs
pub apart : (out : List ℕ) (ins : List (List ℕ)) → are_inputs out ins ≡ true → (plp : ℕ) → plp < length ins
    → slice_index_or ins plp [] ≢ out
apart out [] e plp inside = absurd (omega arith)
apart out (file ∷ files) e zero inside = other_name file out (and_parts (is_input out file) (are_inputs out files) e).0
apart out (file ∷ files) e (suc plp) inside = apart out files (and_parts (is_input out file) (are_inputs out files) e).1
    plp
    (omega arith)
