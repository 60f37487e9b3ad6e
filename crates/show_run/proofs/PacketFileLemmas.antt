-- Packets back to back: one more, and their bytes and lines.
use Rattle.std.proofs.Common.{◌≡◌, ℕ, ◌+◌, ◌≤◌, List, [], ◌∷◌, ◌++◌, length, drop, refl, ap, sym, subst, ◌∙◌, arith}
use Rattle.std.proofs.Common.{append_assoc, length-drop}
use Rattle.std.proofs.lemmas.List.{take-append-le, length-take}
use Rattle.show_run.specs.PacketFile.{Begins, Packs, bytes_in}
use Rattle.show_run.specs.SaidLines.{line_of, lines_of}

-- a packet that begins bytes is no longer than they are
pub begins_inside : (bytes p : List ℕ) → Begins bytes p → length p ≤ length bytes
begins_inside bytes p b = omega (arith, ap length b.there, length-take (length p) bytes)

-- one more packet began what was left
pub packs_more : (file rest : List ℕ) (ps : List (List ℕ)) (p : List ℕ) → Packs file ps rest → Begins rest p
    → Packs file (ps ++ p ∷ []) (drop (length p) rest)
packs_more file rest [] p e begins = (subst (λ (bytes : List ℕ). Begins bytes p) (sym e) begins, ap (drop (length p)) e)
packs_more file rest (q ∷ ps) p h begins = (h.0, packs_more (drop (length q) file) rest ps p h.1 begins)

-- the first of the packets leave something too
pub packs_first : (file rest : List ℕ) (ps qs : List (List ℕ)) → Packs file (ps ++ qs) rest → (mid : List ℕ)
    × Packs file ps mid
packs_first file rest [] qs h = (file, refl)
packs_first file rest (p ∷ ps) qs h = let more = packs_first (drop (length p) file) rest ps qs h.1 in
    (more.0, (h.0, more.1))

pub bytes_in-append : (ps qs : List (List ℕ)) → bytes_in (ps ++ qs) ≡ bytes_in ps + bytes_in qs
bytes_in-append [] qs = omega arith
bytes_in-append (p ∷ ps) qs = omega (arith, bytes_in-append ps qs)

pub lines_of-append : (at : ℕ) (ps qs : List (List ℕ)) → lines_of at (ps ++ qs) ≡ lines_of at ps
    ++ lines_of (at + bytes_in ps) qs
lines_of-append at [] qs = let e : at ≡ at + 0 = omega arith in ap (λ (k : ℕ). lines_of k qs) e
lines_of-append at (p ∷ ps) qs =
    let e : at + length p + bytes_in ps ≡ at + (length p + bytes_in ps) = omega arith in
    ap (λ (text : List ℕ). line_of at p ++ text) (lines_of-append (at + length p) ps qs
    ∙ ap (λ (k : ℕ). lines_of (at + length p) ps ++ lines_of k qs) e)
    ∙ sym (append_assoc (line_of at p) (lines_of (at + length p) ps) (lines_of (at + (length p + bytes_in ps)) qs))

-- packets and what they leave are the file
pub file_len : (file rest : List ℕ) (ps : List (List ℕ)) → Packs file ps rest → bytes_in ps + length rest ≡ length file
file_len file rest [] e = omega (arith, ap length e)
file_len file rest (p ∷ ps) h =
    let inside = begins_inside file p h.0 in
    omega (arith, file_len (drop (length p) file) rest ps h.1, length-drop (length p) file)

-- a packet that begins a front begins the whole
pub begins_on : (front more p : List ℕ) → Begins front p → Begins (front ++ more) p
begins_on front more p b = record {
  is = b.is;
  there = take-append-le (length p) front more (begins_inside front p b)
      ∙ b.there;
}
