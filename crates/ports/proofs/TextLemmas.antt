-- Texts that are joined.
use Rattle.std.proofs.Common.{◌≡◌, ℕ, List, [], ◌∷◌, ◌++◌, ap, sym, ◌∙◌, append-nil}
use Rattle.std.specs.List.{concat}
use Rattle.std.proofs.lemmas.List.Folds.{concat-append}

-- a text more
pub joined_more : (old new : List (List ℕ)) (was is text : List ℕ) → concat old ≡ was → new ≡ old ++ text ∷ []
    → is ≡ was ++ text
    → concat new ≡ is
joined_more old new was is text joined more said =
    ap concat more ∙ concat-append old (text ∷ []) ∙ ap (λ (l : List ℕ). concat old ++ l) (append-nil text)
    ∙ ap (λ (l : List ℕ). l ++ text) joined ∙ sym said
