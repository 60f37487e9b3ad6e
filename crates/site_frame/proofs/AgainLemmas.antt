-- A row that repeats the row before it.
use Rattle.std.proofs.Common.{◌≡◌, ℕ, zero, suc, ◌+◌, ◌-◌, ◌*◌, ◌/◌, ◌%◌, ◌<◌, ◌≤◌, ◌^◌, List, ◌++◌, take, drop, Option}
use Rattle.std.proofs.Common.{refl, ap}
use Rattle.std.proofs.Common.{ap₂, sym, subst, ◌∙◌, arith, append_assoc, take-append-drop}
use Rattle.std.specs.FinMap.{get}
use Rattle.std.proofs.lemmas.Nat.{div_below, mod_below, div-add-mod'}
use Rattle.byteorder.specs.Endian.{big_bytes, big_number}
use Rattle.byteorder.specs.Numbers.{big_number-reads_back}
use Rattle.plp_config.specs.declared.config.Config.{Config}
use Rattle.scheduler.specs.Shape.{FrameShape}
use Rattle.cell_map.specs.CellMap.{cell_map}
use Rattle.cell_map.specs.Stretches.{HasStrip, HasStretch, stretch_len}
use Rattle.cell_map.specs.declared.places.Cell.{Cell}
use Rattle.cell_map.specs.declared.strips.Strip.{Strip}
use Rattle.cell_map.specs.declared.strips.Stretch.{Stretch}
use Rattle.cell_map.specs.declared.strips.Stretch.TheVariants.{Dummy, Blocks}
use Rattle.site_frame.specs.Record.{cell_bytes, word_of}
use Rattle.site_frame.specs.Lines.{FitsStrip, FitsStretch, IsAgain, Follows, IsLast, IsStripOf}
use Rattle.site_frame.specs.Words.{words}
use Rattle.std.proofs.lemmas.List.{drop_at}
use Rattle.site_frame.proofs.WordLemmas.{words_split, words_more, length-words}

-- a word that was written is read back
pub read_back : (c : Config) (shape : FrameShape) (frame : ℕ) (address n i : ℕ) (out : List ℕ) → i < n
    → word_of (get (cell_map c shape frame) (address + i)) + 1 < 2 ^ 32
    → take (4 * n) out ≡ words c shape frame address n
    → big_number 4 (drop (4 * i) out) ≡ word_of (get (cell_map c shape frame) (address + i))
read_back c shape frame address n i out l small e =
    let o : Option Cell = get (cell_map c shape frame) (address + i) in
    let m : ℕ = n - (i + 1) in
    let behind : List ℕ = words c shape frame (address + i + 1) m in
    let rest : List ℕ = drop (4 * n) out in
    let f : n ≡ i + suc m = omega (arith, l) in
    let parts : words c shape frame address n ≡ words c shape frame address i ++ (cell_bytes o ++ behind) = ap
    (words c shape frame address) f
    ∙ words_split c shape frame i (suc m) address in
    let all : out ≡ words c shape frame address i ++ (cell_bytes o ++ (behind ++ rest)) =
    sym (take-append-drop (4 * n) out) ∙ ap (λ (x : List ℕ). x ++ rest) (e ∙ parts)
    ∙ append_assoc (words c shape frame address i)
    (cell_bytes o ++ behind) rest
    ∙ ap (λ (x : List ℕ). words c shape frame address i ++ x) (append_assoc (cell_bytes o) behind rest) in
    ap (big_number 4)
    (ap (drop (4 * i)) all ∙ drop_at (words c shape frame address i) (cell_bytes o ++ (behind ++ rest)) (4 * i)
    (length-words c shape frame i address))
    ∙ big_number-reads_back 4 (word_of o) (behind ++ rest) (omega (arith, small))

-- the word a row before
pub word_is : (c : Config) (shape : FrameShape) (frame : ℕ) (address before width k word : ℕ) (old : List ℕ)
    → IsAgain c shape frame (address + before) width → k < width
    → take (4 * (before + width + k)) old ≡ words c shape frame address (before + width + k)
    → word ≡ big_number 4 (drop (4 * before + 4 * k) old)
    → word ≡ word_of (get (cell_map c shape frame) (address + before + k))
word_is c shape frame address before width k word old again l e w =
    let at : address + (before + k) ≡ address + before + k = omega arith in
    let place : 4 * before + 4 * k ≡ 4 * (before + k) = omega arith in
    let small : word_of (get (cell_map c shape frame) (address + (before + k))) + 1 < 2 ^ 32 =
    subst (λ (n : ℕ). word_of (get (cell_map c shape frame) n) + 1 < 2 ^ 32) (sym at) (again.small k l) in
    w
    ∙ ap (λ (n : ℕ). big_number 4 (drop n old)) place
    ∙ read_back c shape frame address (before + width + k) (before + k) old (omega (arith, l)) small e
    ∙ ap (λ (n : ℕ). word_of (get (cell_map c shape frame) n)) at

-- and the next one
pub row_on : (c : Config) (shape : FrameShape) (frame : ℕ) (address before width k word : ℕ) (old new : List ℕ)
    → IsAgain c shape frame (address + before) width → k < width
    → take (4 * (before + width + k)) old ≡ words c shape frame address (before + width + k)
    → word ≡ big_number 4 (drop (4 * before + 4 * k) old)
    → take (4 * before + 4 * width + 4 * k + 4) new ≡ take (4 * before + 4 * width + 4 * k) old
    ++ big_bytes 4 (word + 1)
    → take (4 * (before + width + (k + 1))) new ≡ words c shape frame address (before + width + (k + 1))
row_on c shape frame address before width k word old new again l e w p =
    let n : ℕ = before + width + k in
    let to : 4 * (before + width + (k + 1)) ≡ 4 * before + 4 * width + 4 * k + 4 = omega arith in
    let from : 4 * before + 4 * width + 4 * k ≡ 4 * n = omega arith in
    let more : n + 1 ≡ before + width + (k + 1) = omega arith in
    let at : address + before + width + k ≡ address + n = omega arith in
    let this : word + 1 ≡ word_of (get (cell_map c shape frame) (address + n)) =
    ap (λ (x : ℕ). x + 1) (word_is c shape frame address before width k word old again l e w) ∙ sym (again.next k l)
    ∙ ap (λ (a : ℕ). word_of (get (cell_map c shape frame) a)) at in
    ap (λ (m : ℕ). take m new) to
    ∙ p
    ∙ ap₂ (λ (x : List ℕ) (y : ℕ). x ++ big_bytes 4 y) (ap (λ (m : ℕ). take m old) from ∙ e) this
    ∙ sym (words_more c shape frame n address)
    ∙ ap (words c shape frame address) more

-- strips that follow one another
pub again_of : (c : Config) (shape : FrameShape) (frame : ℕ) (address : ℕ) (old new : Strip)
    → HasStrip c shape frame address old
    → HasStrip c shape frame (address + new.columns * new.blocks) new → Follows old new → FitsStrip new
    → IsAgain c shape frame address (new.columns * new.blocks)
again_of c shape frame address old new has next f fits = record {
  next = λ k l. (both k l).0;
  small = λ k l. (both k l).1;
}
  where
    positive : (a b k : ℕ) → k < a * b → 0 < a
    positive zero b k h = (let none : 0 * b ≡ 0 = omega arith in absurd (omega (arith, h, none)))
    positive (suc a) b k h = omega arith

    both : (k : ℕ) → k < new.columns * new.blocks
        → (word_of (get (cell_map c shape frame) (address + new.columns * new.blocks + k))
        ≡ word_of (get (cell_map c shape frame) (address + k)) + 1)
        × (word_of (get (cell_map c shape frame) (address + k)) + 1
        < 2 ^ 32)
    both k l =
        let n : ℕ = new.columns in
        let some : 0 < n = positive n new.blocks k l in
        let b : ℕ = k / n in
        let z : ℕ = k % n in
        let turned : k < new.blocks * n = omega (arith, l) in
        let hb : b < new.blocks = div_below k n new.blocks some turned in
        let hz : z < n = mod_below k n some in
        let whole : n * b + z ≡ k = omega (arith, div-add-mod' k n) in
        let whole' : old.columns * b + z ≡ k = ap (λ (w : ℕ). w * b + z) f.columns ∙ whole in
        let here = ap (λ (i : ℕ). word_of (get (cell_map c shape frame) (address + i))) (sym whole')
        ∙ ap word_of (has b z (omega (arith, hb, f.blocks)) (omega (arith, hz, f.columns))) in
        let there = ap (λ (i : ℕ). word_of (get (cell_map c shape frame) (address + n * new.blocks + i))) (sym whole)
        ∙ ap word_of (next b z hb hz) in
        let step : z * old.stride ≡ z * new.stride = ap (λ (s : ℕ). z * s) f.stride in
        let top : new.first.ordinal + b < 2 ^ 16 = omega (arith, fits.blocks, hb) in
        let cell = fits.cells z hz in
        (omega (arith, here, there, step, f.ordinal, f.cell), omega (arith, here, step, f.ordinal, f.cell, top, cell))

-- the strip that was written is the last one
pub last_of : (c : Config) (shape : FrameShape) (frame : ℕ) (address done : ℕ) (stretch : Stretch) (strip : Strip)
    → HasStretch c shape frame (address + done) stretch → IsStripOf stretch strip → 0 < strip.blocks
    → IsLast c shape frame address (done + stretch_len stretch) strip
last_of c shape frame address done (Dummy count) strip has is some = absurd (omega (arith, is, some))
last_of c shape frame address done (Blocks it) strip has is some =
    subst (λ (s : Strip). IsLast c shape frame address (done + it.columns * it.blocks) s) (sym is)
    (record { before = done; here = refl; has = has })

-- what follows the last strip is one
pub record Again (c : Config) (shape : FrameShape) (frame : ℕ) (address done : ℕ) (stretch : Stretch)
    (strip : Strip) : Type 0 where
  pub len : stretch_len stretch ≡ strip.columns * strip.blocks
  pub within : strip.columns * strip.blocks ≤ done
  pub again : IsAgain c shape frame (address + (done - strip.columns * strip.blocks)) (strip.columns * strip.blocks)

pub again_here : (c : Config) (shape : FrameShape) (frame : ℕ) (address done : ℕ) (last : Strip) (stretch : Stretch)
    (strip : Strip)
    → FitsStretch stretch → HasStretch c shape frame (address + done) stretch
    → (0 < last.blocks → IsLast c shape frame address done last) → IsStripOf stretch strip → Follows last strip
    → Again c shape frame address done stretch strip
again_here c shape frame address done last (Dummy count) strip fits has is of f = absurd
    (omega (arith, of, f.some, f.blocks))
again_here c shape frame address done last (Blocks it) strip fits has is of f =
    let l = is f.some in
    let same : last.columns * last.blocks ≡ strip.columns * strip.blocks = ap₂ (λ (n m : ℕ). n * m) f.columns
    f.blocks in
    let width : strip.columns * strip.blocks ≡ it.columns * it.blocks = ap (λ (s : Strip). s.columns * s.blocks) of in
    let before : l.before ≡ done - strip.columns * strip.blocks = omega (arith, l.here, same) in
    let old : HasStrip c shape frame (address + (done - strip.columns * strip.blocks)) last =
    subst (λ (n : ℕ). HasStrip c shape frame (address + n) last) before l.has in
    let at : address + done ≡ address + (done - strip.columns * strip.blocks) + strip.columns * strip.blocks =
    omega (arith, l.here, same) in
    let new : HasStrip c shape frame (address + (done - strip.columns * strip.blocks) + strip.columns * strip.blocks)
    strip =
    subst (λ (n : ℕ). HasStrip c shape frame n strip) at (subst (HasStrip c shape frame (address + done))
    (sym of) has) in
    record {
      len = sym width;
      within = omega (arith, l.here, same);
      again = again_of c shape frame (address + (done - strip.columns * strip.blocks)) last strip old new f
          (subst FitsStrip (sym of) fits);
    }
