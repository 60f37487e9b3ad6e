-- The tables have the right entries: the check computes each one, and an induction makes a law of it.
use Rattle.std.proofs.Common.{◌≡◌, ℕ, zero, suc, ◌+◌, ◌-◌, ◌*◌, ◌^◌, ◌<◌, ◌==◌, Bool, true, ◌&&◌, List, [], ◌∷◌, length}
use Rattle.std.proofs.Common.{get_or}
use Rattle.std.proofs.Common.{refl, ap, ◌∙◌, arith}
use Rattle.std.proofs.lemmas.Bool.Decides.{Decides-eqb}
use Rattle.std.proofs.lemmas.Bool.{and_parts}
use Rattle.bit_slice.specs.declared.tables.TheConstants.{TABLES, BYTE_TABLE}
use Rattle.bit_slice.specs.Register.{zeros}

-- what n zero bits make of a byte at the top of the register
abbrev entry_of : (degree low n byte : ℕ) → ℕ
entry_of degree low n byte = zeros degree low n (byte * 2 ^ (degree - 8))

-- whether each entry from a byte on is right
right : (degree low n byte : ℕ) → List ℕ → Bool
right degree low n byte [] = true
right degree low n byte (x ∷ xs) = (x == entry_of degree low n byte) && right degree low n (byte + 1) xs

-- whether tables are whole and right, the first for n zero bits and each next one for eight more
all_right : (degree low n : ℕ) → List (List ℕ) → Bool
all_right degree low n [] = true
all_right degree low n (t ∷ ts) = (length t == 256) && right degree low n 0 t && all_right degree low (n + 8) ts

tables_right : all_right 32 0x04C1_1DB7 8 TABLES ≡ true
unfolding zeros right all_right
tables_right = refl

right_at : (degree low n : ℕ) (xs : List ℕ) (byte j : ℕ) → right degree low n byte xs ≡ true → j < length xs
    → get_or xs j 0 ≡ entry_of degree low n (byte + j)
unfolding right
right_at degree low n [] byte j e h = absurd (omega arith)
right_at degree low n (x ∷ xs) byte zero e h =
    let here = and_parts (x == entry_of degree low n byte) (right degree low n (byte + 1) xs) e in
    let sum : byte ≡ byte + 0 = omega arith in
    (Decides-eqb x (entry_of degree low n byte)).0 here.0 ∙ ap (entry_of degree low n) sum
right_at degree low n (x ∷ xs) byte (suc j) e h =
    let here = and_parts (x == entry_of degree low n byte) (right degree low n (byte + 1) xs) e in
    let sum : byte + 1 + j ≡ byte + suc j = omega arith in
    right_at degree low n xs (byte + 1) j here.1 (omega arith) ∙ ap (entry_of degree low n) sum

all_right_at : (degree low : ℕ) (ts : List (List ℕ)) (n t byte : ℕ) → all_right degree low n ts ≡ true → t < length ts
    → byte < 256 →
    get_or (get_or ts t []) byte 0 ≡ entry_of degree low (n + 8 * t) byte
unfolding all_right
all_right_at degree low [] n t byte e h small = absurd (omega arith)
all_right_at degree low (x ∷ ts) n zero byte e h small =
    let here = and_parts ((length x == 256) && right degree low n 0 x) (all_right degree low (n + 8) ts) e in
    let table = and_parts (length x == 256) (right degree low n 0 x) here.0 in
    let inside : byte < length x = rw ((Decides-eqb (length x) 256).0 table.0) small in
    let count : n ≡ n + 8 * 0 = omega arith in
    let sum : 0 + byte ≡ byte = omega arith in
    right_at degree low n x 0 byte table.1 inside ∙ ap (entry_of degree low n) sum
    ∙ ap (λ (k : ℕ). entry_of degree low k byte) count
all_right_at degree low (x ∷ ts) n (suc t) byte e h small =
    let count : n + 8 + 8 * t ≡ n + 8 * suc t = omega arith in
    all_right_at degree low ts (n + 8) t byte
    ((and_parts ((length x == 256) && right degree low n 0 x) (all_right degree low (n + 8) ts) e).1)
    (omega arith) small
    ∙ ap (λ (k : ℕ). entry_of degree low k byte) count

pub entry_is : (t byte : ℕ) → t < 16 → byte < 256 → get_or (get_or TABLES t []) byte 0 ≡ zeros 32 0x04C1_1DB7
    (8 * (t + 1))
    (byte * 2 ^ 24)
entry_is t byte h small =
    let count : 8 + 8 * t ≡ 8 * (t + 1) = omega arith in
    all_right_at 32 0x04C1_1DB7 TABLES 8 t byte tables_right h small ∙ ap (λ (k : ℕ). entry_of 32 0x04C1_1DB7 k byte)
    count

byte_table_right : right 8 0xD5 8 0 BYTE_TABLE ≡ true
unfolding zeros right
byte_table_right = refl

pub byte_entry_is : (byte : ℕ) → byte < 256 → get_or BYTE_TABLE byte 0 ≡ zeros 8 0xD5 8 (byte * 2 ^ (8 - 8))
byte_entry_is byte small =
    let sum : 0 + byte ≡ byte = omega arith in
    right_at 8 0xD5 8 BYTE_TABLE 0 byte byte_table_right small ∙ ap (entry_of 8 0xD5 8) sum
