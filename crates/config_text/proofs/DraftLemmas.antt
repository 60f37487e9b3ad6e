-- A configuration is filled in: the lines of PLPs.
use Rattle.std.proofs.Common.{ℕ, suc, ◌≡◌, ◌≤◌, ◌+◌, ◌-◌, ◌∷◌, ◌++◌, ◌∙◌, List, [], length, take, ap, sym, arith, map}
use Rattle.std.proofs.Common.{length-append, append_assoc}
use Rattle.std.proofs.lemmas.List.{get_or_past, take_all, map-append, length-map}
use Rattle.plp_config.specs.declared.config.Config.{Config}
use Rattle.plp_config.specs.declared.plp.Plp.{Plp}
use Rattle.config_text.specs.Fields.{fields_at, plp_fields}
use Rattle.config_text.specs.Rows.{plp_row, first_rows, rows_of}
use Rattle.config_text.specs.Drafts.{Puts}
use Rattle.config_text.specs.Words.{first_values, row_of}

-- behind the first eight lines a PLP is due
pub fields_later : (due : ℕ) → 8 ≤ due → fields_at due ≡ plp_fields
fields_later due later = get_or_past (_ ∷ _ ∷ _ ∷ _ ∷ _ ∷ _ ∷ _ ∷ _ ∷ []) due plp_fields later

pub row_later : (due : ℕ) (values : List ℕ) → 8 ≤ due → row_of due values ≡ first_values 12 values
row_later due values later = ap (λ fs. first_values (length fs) values) (fields_later due later)

pub length-rows_of : (v : ℕ) (c : Config) → length (rows_of v c) ≡ 8 + length c.plps
length-rows_of v c = length-append (first_rows v c) (map plp_row c.plps)
    ∙ ap (λ (n : ℕ). 8 + n) (length-map c.plps plp_row)

-- the rows of a configuration with one PLP more
more_rows : (front : List (List ℕ)) (plps : List Plp) (p : Plp) → front ++ map plp_row (plps ++ p ∷ [])
    ≡ (front ++ map plp_row plps) ++ plp_row p ∷ []
more_rows front plps p = ap (λ (l : List (List ℕ)). front ++ l) (map-append plp_row plps (p ∷ []))
    ∙ sym (append_assoc front (map plp_row plps) (plp_row p ∷ []))

pub puts_plp : (v due : ℕ) (old : Config) (p : Plp) (more : List Plp) (row : List ℕ) → 8 ≤ due
    → length old.plps ≡ due - 8
    → more ≡ old.plps ++ p ∷ [] → plp_row p ≡ row
    → Puts v due row old (record old { plps = more })
puts_plp v due old p more row later count are is =
    let size : length more ≡ length old.plps + 1 = ap length are ∙ length-append old.plps (p ∷ []) in
    let whole : take (suc due) (rows_of v (record old { plps = more })) ≡ rows_of v (record old { plps = more }) =
    take_all (suc due) (rows_of v (record old { plps = more }))
    (omega (arith, length-rows_of v (record old { plps = more }))) in
    let before : take due (rows_of v old) ≡ rows_of v old = take_all due (rows_of v old)
    (omega (arith, length-rows_of v old)) in
    let joined : rows_of v (record old { plps = more }) ≡ rows_of v old ++ row ∷ [] =
    ap (λ (l : List Plp). first_rows v old ++ map plp_row l) are ∙ more_rows (first_rows v old) old.plps p
    ∙ ap (λ (r : List ℕ). rows_of v old ++ r ∷ []) is in
    record { rows = whole ∙ joined ∙ ap (λ (l : List (List ℕ)). l ++ row ∷ []) (sym before); plps = omega arith }
