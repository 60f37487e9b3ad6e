-- The rest of a frame's record is spelled by parts exactly if reading gives them.
use Rattle.std.proofs.Common.{◌≡◌, ℕ, ◌+◌, ◌*◌, ◌/◌, ◌%◌, ◌<◌, ◌==◌, Bool, List, ◌++◌, length, take, drop, Option, Some}
use Rattle.std.proofs.Common.{refl}
use Rattle.std.proofs.Common.{sym, ap, ap₂, subst, ◌∙◌, append_assoc, append-nil, arith}
use Rattle.std.specs.List.{flat_map}
use Rattle.std.proofs.lemmas.Bool.{eqb-true, eq-eqb, cond-true}
use Rattle.std.proofs.lemmas.Option.{cond_some}
use Rattle.std.proofs.lemmas.List.{take_at, take-append-drop, length-append, length-take, length-drop}
use Rattle.byteorder.specs.Endian.{big_bytes}
use Rattle.terms.specs.Bits.{bits_of, bytes_of, bytes_for}
use Rattle.terms.proofs.BitLemmas.{length-bits_of, bytes_of-bits_of, bits_of-bytes_of, length-bytes_of}
use Rattle.site_frame.specs.Record.{Block, blocks_bytes, cell_bytes}
use Rattle.cell_map.specs.declared.places.Cell.{Cell}
use Rattle.site_frame.specs.Reading.{◌>>=◌, cut, number, skip_blocks, blocks_in, cells_in}
use Rattle.site_frame.specs.Rest.{rest_bytes, FitsFrame, IsRest, all_cells, parts_in}
use Rattle.site_frame.specs.declared.parts.FrameParts.{FrameParts}
use Rattle.site_frame.proofs.BlockLemmas.{bind_some, length-blocks_in, length-cells_in}
use Rattle.site_frame.proofs.FieldLemmas.{IsBytes, some_same, cut_again, number_again, blocks_again, length-cells}
use Rattle.site_frame.proofs.FieldLemmas.{cells_again}
use Rattle.site_frame.proofs.FieldLemmas.{cut_takes, number_takes, wide2, wide4, blocks_take, cells_take}

pad_full : (a b : ℕ) → b < 8 → (a + b) % 8 ≡ 0 → a + b ≡ 8 * ((a + 7) / 8)
pad_full a b short whole = omega arith

-- the sections, one behind another
pub sections_joined : (p : FrameParts) (pad : List Bool) (ignored : List ℕ)
    → rest_bytes p pad ignored ≡ bytes_of p.pre ++ (big_bytes 4 (length p.post) ++ (bytes_of (p.post ++ pad)
    ++ (big_bytes 2 (length p.blocks)
    ++ (blocks_bytes p.blocks ignored ++ (big_bytes 4 (length p.cells) ++ flat_map cell_bytes p.cells)))))
sections_joined p pad ignored = simp (append_assoc, append-nil) refl

-- What is written is read.
pub rest_again : (p : FrameParts) (pad : List Bool) (ignored : List ℕ) → FitsFrame p → length pad < 8
    → (length p.post + length pad) % 8 ≡ 0 → parts_in (rest_bytes p pad ignored) ≡ Some p
unfolding parts_in
rest_again p pad ignored fits short whole =
    let words : List ℕ = flat_map cell_bytes p.cells in
    let r5 : List ℕ = big_bytes 4 (length p.cells) ++ words in
    let r4 : List ℕ = blocks_bytes p.blocks ignored ++ r5 in
    let r3 : List ℕ = big_bytes 2 (length p.blocks) ++ r4 in
    let filled : List Bool = p.post ++ pad in
    let r2 : List ℕ = bytes_of filled ++ r3 in
    let r1 : List ℕ = big_bytes 4 (length p.post) ++ r2 in
    let long : length filled ≡ 8 * bytes_for (length p.post) = length-append p.post pad
    ∙ pad_full (length p.post) (length pad) short whole in
    let size : length (bytes_of filled) ≡ bytes_for (length p.post) = length-bytes_of filled ∙ (omega (arith, long)) in
    let pre = cut_again 25 (bytes_of p.pre) r1 (length-bytes_of p.pre ∙ ap bytes_for fits.pre) in
    let bits = number_again 4 (length p.post) r2 fits.post in
    let post = cut_again (bytes_for (length p.post)) (bytes_of filled) r3 size in
    let count = number_again 2 (length p.blocks) r4 fits.blocks in
    let blocks = blocks_again p.blocks ignored r5 fits.block in
    let cells = number_again 4 (length p.cells) words fits.cells in
    let last : all_cells (length p.cells) words ≡ Some p.cells = cond-true _ _ _ (eq-eqb _ _ (length-cells p.cells))
    ∙ ap Some (cells_again p.cells fits.cell) in
    let pre-bits : bits_of (bytes_of p.pre) ≡ p.pre = bits_of-bytes_of p.pre 25 fits.pre in
    let post-bits : take (length p.post) (bits_of (bytes_of filled)) ≡ p.post =
    ap (take (length p.post)) (bits_of-bytes_of filled (bytes_for (length p.post)) long)
    ∙ take_at p.post pad (length p.post) refl in
    rw (sections_joined p pad ignored) (rw (
      pre,
      bits,
      post,
      count,
      blocks.0,
      cells,
      last,
      pre-bits,
      post-bits,
      blocks.1,
    ) refl)

-- the steps of the reader
abbrev step6 : List ℕ → ℕ → List ℕ → ℕ → List ℕ → List (Option Cell) → Option FrameParts
step6 pre bits post count first cells =
    Some (record { pre = bits_of pre; post = take bits (bits_of post); blocks = blocks_in count first; cells = cells })

abbrev step5 : List ℕ → ℕ → List ℕ → ℕ → List ℕ → ℕ × List ℕ → Option FrameParts
step5 pre bits post count first cells = all_cells cells.0 cells.1 >>= step6 pre bits post count first

abbrev step4 : List ℕ → ℕ → List ℕ → ℕ → List ℕ → List ℕ → Option FrameParts
step4 pre bits post count first behind = number 4 behind >>= step5 pre bits post count first

abbrev step3 : List ℕ → ℕ → List ℕ → ℕ × List ℕ → Option FrameParts
step3 pre bits post count = skip_blocks count.0 count.1 >>= step4 pre bits post count.0 count.1

abbrev step2 : List ℕ → ℕ → List ℕ × List ℕ → Option FrameParts
step2 pre bits post = number 2 post.1 >>= step3 pre bits post.0

abbrev step1 : List ℕ → ℕ × List ℕ → Option FrameParts
step1 pre bits = cut (bytes_for bits.0) bits.1 >>= step2 pre bits.0

abbrev step0 : List ℕ × List ℕ → Option FrameParts
step0 pre = number 4 pre.1 >>= step1 pre.0

abbrev the_parts : List Bool → List Bool → List Block → List (Option Cell) → FrameParts
the_parts pre post blocks cells = record { pre = pre; post = post; blocks = blocks; cells = cells }

-- What is read is spelled.
pub rest_taken : (rest : List ℕ) (p : FrameParts) → IsBytes rest → parts_in rest ≡ Some p → IsRest p rest
unfolding parts_in
rest_taken rest p fits e =
    let b0 = bind_some (cut 25 rest) step0 p e in
    let pre = b0.0 in
    let t0 = cut_takes 25 rest pre.0 pre.1 fits b0.1 in
    let b1 = bind_some (number 4 pre.1) (step1 pre.0) p b0.2 in
    let bits = b1.0 in
    let t1 = number_takes 4 wide4 pre.1 bits.0 bits.1 t0.rest_fits b1.1 in
    let b2 = bind_some (cut (bytes_for bits.0) bits.1) (step2 pre.0 bits.0) p b1.2 in
    let post = b2.0 in
    let t2 = cut_takes (bytes_for bits.0) bits.1 post.0 post.1 t1.rest_fits b2.1 in
    let b3 = bind_some (number 2 post.1) (step3 pre.0 bits.0 post.0) p b2.2 in
    let count = b3.0 in
    let t3 = number_takes 2 wide2 post.1 count.0 count.1 t2.rest_fits b3.1 in
    let b4 = bind_some (skip_blocks count.0 count.1) (step4 pre.0 bits.0 post.0 count.0 count.1) p b3.2 in
    let behind = b4.0 in
    let t4 = blocks_take count.0 count.1 behind t3.rest_fits b4.1 in
    let b5 = bind_some (number 4 behind) (step5 pre.0 bits.0 post.0 count.0 count.1) p b4.2 in
    let cells = b5.0 in
    let t5 = number_takes 4 wide4 behind cells.0 cells.1 t4.rest_fits b5.1 in
    let b6 = bind_some (all_cells cells.0 cells.1) (step6 pre.0 bits.0 post.0 count.0 count.1) p b5.2 in
    let c6 = cond_some (length cells.1 == 4 * cells.0) (cells_in cells.0 cells.1) b6.0 b6.1 in
    let full : length cells.1 ≡ 4 * cells.0 = eqb-true _ _ c6.0 in
    let t6 = cells_take cells.0 cells.1 t5.rest_fits full in
    let q : FrameParts = record {
      pre = bits_of pre.0;
      post = take bits.0 (bits_of post.0);
      blocks = blocks_in count.0 count.1;
      cells = cells_in cells.0 cells.1;
    } in
    let is : q ≡ p =
    ap (λ (ws : List (Option Cell)). the_parts (bits_of pre.0) (take bits.0 (bits_of post.0))
    (blocks_in count.0 count.1) ws)
    c6.1 ∙ some_same _ p b6.2 in
    let pad : List Bool = drop bits.0 (bits_of post.0) in
    let all : length (bits_of post.0) ≡ 8 * bytes_for bits.0 = length-bits_of post.0 ∙ ap (λ (n : ℕ). 8 * n) t2.long in
    let post-len : length q.post ≡ bits.0 = omega (arith, all, length-take bits.0 (bits_of post.0)) in
    let pad-len : length pad + bits.0 ≡ 8 * bytes_for bits.0 =
    omega (arith, all, length-drop {A = Bool} bits.0 (bits_of post.0)) in
    let pre-bytes : bytes_of q.pre ≡ pre.0 = bytes_of-bits_of pre.0 t0.front_fits in
    let post-bytes : bytes_of (q.post ++ pad) ≡ post.0 = ap bytes_of (take-append-drop bits.0 (bits_of post.0))
    ∙ bytes_of-bits_of post.0 t2.front_fits in
    let blocks-len : length q.blocks ≡ count.0 = length-blocks_in count.0 count.1 in
    let cells-len : length q.cells ≡ cells.0 = length-cells_in cells.0 cells.1 in
    subst (λ (x : FrameParts). IsRest x rest) is (record {
      fits = record {
        pre = length-bits_of pre.0 ∙ ap (λ (n : ℕ). 8 * n) t0.long;
        post = omega (arith, post-len, t1.small);
        blocks = omega (arith, blocks-len, t3.small);
        block = t4.fits;
        cells = omega (arith, cells-len, t5.small);
        cell = t6.1;
      };
      pad = pad;
      ignored = t4.ignored;
      short = omega (arith, pad-len);
      whole = omega (arith, pad-len, post-len);
      spelled = t0.parts ∙ ap₂ (λ (a b : List ℕ). a ++ b) (sym pre-bytes) (t1.parts
          ∙ ap₂ (λ (n : ℕ) (b : List ℕ). big_bytes 4 n ++ b) (sym post-len) (t2.parts
          ∙ ap₂ (λ (a b : List ℕ). a ++ b) (sym post-bytes) (t3.parts
          ∙ ap₂ (λ (n : ℕ) (b : List ℕ). big_bytes 2 n ++ b) (sym blocks-len) (t4.parts
          ∙ ap (λ (b : List ℕ). blocks_bytes (blocks_in count.0 count.1) t4.ignored ++ b) (t5.parts
          ∙ ap₂ (λ (n : ℕ) (b : List ℕ). big_bytes 4 n ++ b) (sym cells-len) t6.0)))))
          ∙ sym (sections_joined q pad t4.ignored);
    })
