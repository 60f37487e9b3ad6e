-- Numbers that cut others evenly.
use Rattle.std.proofs.Common.{◌≡◌, ℕ, ◌+◌, ◌*◌, ◌/◌, ◌%◌, ◌<◌, ◌≤◌, ap, sym, ◌∙◌, arith}
use Rattle.std.proofs.Math.Nat.{div-mul-le_self, mul_assoc, mul-mod_left}
use Rattle.std.proofs.lemmas.Nat.{div-add-mod', div-mul-add, le-div}

-- a number that cuts another one evenly cuts its multiples evenly
pub cut_whole : (n cells slices : ℕ) → 0 < slices → cells % slices ≡ 0 → slices * (n * cells / slices) ≡ n * cells
cut_whole n cells slices some h =
    let m : ℕ = cells / slices in
    let all = div-add-mod' cells slices in
    let whole : m * slices ≡ cells = omega (arith, all, h) in
    let product : n * cells ≡ n * m * slices + 0 = omega (arith, ap (λ (k : ℕ). n * k) whole) in
    let quotient : n * cells / slices ≡ n * m = ap (λ (k : ℕ). k / slices) product
    ∙ div-mul-add (n * m) slices 0 some in
    rw quotient (omega (arith, product))

-- what a product cuts evenly, its factors cut evenly
pub divides : (n a b : ℕ) → n % (a * b) ≡ 0 → n % b ≡ 0
divides n a b whole =
    let parts : n / (a * b) * (a * b) + n % (a * b) ≡ n = div-add-mod' n (a * b) in
    let regroup : n / (a * b) * (a * b) ≡ n / (a * b) * a * b = sym (mul_assoc (n / (a * b)) a b) in
    let is : n ≡ n / (a * b) * a * b = omega arith in
    ap (λ (k : ℕ). k % b) is ∙ mul-mod_left (n / (a * b) * a) b

-- a part of each block makes the part of all
pub whole_part : (n cells parts : ℕ) → 0 < parts → cells % parts ≡ 0 → n * cells / parts ≡ n * (cells / parts)
whole_part n cells parts some whole =
    let all : cells / parts * parts + cells % parts ≡ cells = div-add-mod' cells parts in
    let is : cells / parts * parts ≡ cells = omega arith in
    let product : n * cells ≡ n * (cells / parts) * parts + 0 =
    omega (arith, ap (λ (k : ℕ). n * k) is, mul_assoc n (cells / parts) parts) in
    ap (λ (k : ℕ). k / parts) product ∙ div-mul-add (n * (cells / parts)) parts 0 some

-- the slices of the part of a frame are of one length, if each block has such parts for all slices of all frames
pub cut_parts : (n cells slices frames : ℕ) → 0 < slices → 0 < frames → cells % (slices * frames) ≡ 0
    → slices * (n * cells / frames / slices) ≡ n * cells / frames
cut_parts n cells slices frames some long whole =
    let all : cells / (slices * frames) * (slices * frames) + cells % (slices * frames) ≡ cells =
    div-add-mod' cells (slices * frames) in
    let regroup : cells / (slices * frames) * (slices * frames) ≡ cells / (slices * frames) * slices * frames =
    sym (mul_assoc (cells / (slices * frames)) slices frames) in
    let is : cells ≡ cells / (slices * frames) * slices * frames + 0 = omega arith in
    let part : cells / frames ≡ cells / (slices * frames) * slices =
    ap (λ (k : ℕ). k / frames) is ∙ div-mul-add (cells / (slices * frames) * slices) frames 0 long in
    let even : cells / frames % slices ≡ 0 =
    ap (λ (k : ℕ). k % slices) part ∙ mul-mod_left (cells / (slices * frames)) slices in
    let frame : n * cells / frames ≡ n * (cells / frames) = whole_part n cells frames long
    (divides cells slices frames whole) in
    rw frame (cut_whole n (cells / frames) slices some even)

-- of more there are larger parts
pub part-le : (a b parts : ℕ) → 0 < parts → a ≤ b → a / parts ≤ b / parts
part-le a b parts some le = le-div (a / parts) b parts some (omega (arith, div-mul-le_self a parts))
