-- The words of cells, in parts.
use Rattle.std.proofs.Common.{◌≡◌, ℕ, zero, suc, ◌+◌, ◌*◌, List, ◌++◌, length, refl, ap, ap₂, sym, ◌∙◌, arith}
use Rattle.std.proofs.Common.{append_assoc}
use Rattle.std.proofs.Common.{append-nil, length-append}
use Rattle.std.specs.FinMap.{get}
use Rattle.plp_config.specs.declared.config.Config.{Config}
use Rattle.scheduler.specs.Shape.{FrameShape}
use Rattle.cell_map.specs.CellMap.{cell_map}
use Rattle.site_frame.specs.Record.{cell_bytes}
use Rattle.site_frame.specs.Words.{words}

-- the word at an address
abbrev pub word_at : Config → FrameShape → ℕ → ℕ → List ℕ
word_at c shape frame address = cell_bytes (get (cell_map c shape frame) address)

-- the cells from an address on, in two parts
pub words_split : (c : Config) (shape : FrameShape) (frame : ℕ) (n m address : ℕ) → words c shape frame address (n + m)
    ≡ words c shape frame address n
    ++ words c shape frame (address + n) m
words_split c shape frame zero m address =
    let e : 0 + m ≡ m = omega arith in
    let f : address ≡ address + 0 = omega arith in
    ap₂ (λ (a n : ℕ). words c shape frame a n) f e
words_split c shape frame (suc n) m address =
    let e : suc n + m ≡ suc (n + m) = omega arith in
    let f : address + 1 + n ≡ address + suc n = omega arith in
    ap (words c shape frame address) e
    ∙ ap (λ (l : List ℕ). word_at c shape frame address ++ l) (words_split c shape frame n m (address + 1))
    ∙ sym (append_assoc (word_at c shape frame address) (words c shape frame (address + 1) n) (words c shape frame
    (address + 1 + n) m))
    ∙ ap (λ (a : ℕ). (word_at c shape frame address ++ words c shape frame (address + 1) n) ++ words c shape frame a m)
    f

-- one cell more
pub words_more : (c : Config) (shape : FrameShape) (frame : ℕ) (n address : ℕ) → words c shape frame address (n + 1)
    ≡ words c shape frame address n
    ++ word_at c shape frame (address + n)
words_more c shape frame n address = grind (arith, words_split, append-nil)

pub length-words : (c : Config) (shape : FrameShape) (frame : ℕ) (n address : ℕ)
    → length (words c shape frame address n) ≡ 4 * n
length-words c shape frame zero address = refl
length-words c shape frame (suc n) address = length-append (word_at c shape frame address)
    (words c shape frame (address + 1) n)
    ∙ (let h = length-words c shape frame n (address + 1) in omega (arith, h))
