-- Packets, joined.
use Rattle.std.proofs.Common.{◌≡◌, ℕ, List, [], ◌∷◌, ◌++◌, ap, ◌∙◌, append-nil}
use Rattle.std.proofs.lemmas.List.Concat.{flat_map-append}
use Rattle.ts_packet.specs.TsFile.{joined}

pub joined_append : (packets more : List (List ℕ)) → joined (packets ++ more) ≡ joined packets ++ joined more
joined_append packets more = flat_map-append (λ (q : List ℕ). q) packets more

pub joined_push : (packets : List (List ℕ)) (p : List ℕ) → joined (packets ++ p ∷ []) ≡ joined packets ++ p
joined_push packets p = joined_append packets (p ∷ []) ∙ ap (λ (l : List ℕ). joined packets ++ l) (append-nil p)
