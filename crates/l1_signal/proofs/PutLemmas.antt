-- Fields put one after another.
use Rattle.std.proofs.Common.{◌≡◌, ℕ, ◌+◌, ◌<◌, ◌≤◌, ◌^◌, Bool, List, [], ◌∷◌, ◌++◌, length, drop, get_or, refl, ap}
use Rattle.std.proofs.Common.{sym, subst}
use Rattle.std.proofs.Common.{◌∙◌, arith, append_assoc, append-nil, length-append}
use Rattle.std.proofs.lemmas.List.{drop_more, drop_all, drop-drop}
use Rattle.terms.specs.Bits.{field}
use Rattle.terms.proofs.BitLemmas.{length-field}
use Rattle.bit_slice.specs.declared.sink.SinkFault.{SinkFault}
use Rattle.bit_slice.specs.Sink.{State, Puts, Refuses, Stops}
use Rattle.bit_slice.specs.Laws.{PutsJoin, StopsHere, StopsLater}
use Rattle.l1_signal.specs.declared.fields.Field.{Field}
use Rattle.l1_signal.specs.Fields.{Fits, spelling}
use Rattle.l1_signal.specs.Places.{Narrow}

-- The first i fields were put.
pub record IsPut (fs : List Field) (vs : List ℕ) (i : ℕ) (old new : State) : Type 0 where
  pub front : List Bool
  pub puts : Puts old new front
  pub whole : spelling fs vs ≡ front ++ spelling (drop i fs) (drop i vs)
  pub narrow : Narrow (drop i fs)
  pub fits : Fits (drop i fs) (drop i vs)

fits_parts : (f : Field) (v : ℕ) (fs : List Field) (vs : List ℕ) → Fits (f ∷ fs) (v ∷ vs) → (v < 2 ^ f.width)
    × Fits fs vs
unfolding Fits
fits_parts f v fs vs h = (h.0, h.2)

pub fits_at : (fs : List Field) (vs : List ℕ) (i : ℕ) (d : Field) → i < length fs → i < length vs
    → Fits (drop i fs) (drop i vs) →
    (get_or vs i 0 < 2 ^ (get_or fs i d).width) × Fits (drop (i + 1) fs) (drop (i + 1) vs)
fits_at fs vs i d a b h =
    let g : Fits (get_or fs i d ∷ drop (i + 1) fs) (get_or vs i 0 ∷ drop (i + 1) vs) =
    rw (drop_more fs i d a, drop_more vs i 0 b) at h in
    fits_parts (get_or fs i d) (get_or vs i 0) (drop (i + 1) fs) (drop (i + 1) vs) g

pub narrow_at : (fs : List Field) (i : ℕ) (d : Field) → i < length fs → Narrow (drop i fs)
    → ((get_or fs i d).width ≤ 64)
    × Narrow (drop (i + 1) fs)
narrow_at fs i d a h = let g : Narrow (get_or fs i d ∷ drop (i + 1) fs) = rw (drop_more fs i d a) at h in (g.0, g.1)

narrow_tail : (fs : List Field) → Narrow fs → Narrow (drop 1 fs)
narrow_tail [] h = tt
narrow_tail (f ∷ fs) h = h.1

pub narrow_more : (fs : List Field) (i : ℕ) → Narrow (drop i fs) → Narrow (drop (i + 1) fs)
narrow_more fs i h = subst Narrow (drop-drop 1 i fs) (narrow_tail (drop i fs) h)

spelled_at : (fs : List Field) (vs : List ℕ) (i : ℕ) (d : Field) → i < length fs → i < length vs →
    spelling (drop i fs) (drop i vs) ≡ field (get_or fs i d).width (get_or vs i 0) ++ spelling (drop (i + 1) fs)
    (drop (i + 1) vs)
unfolding spelling
spelled_at fs vs i d a b = rw (drop_more fs i d a, drop_more vs i 0 b) refl

nothing : (vs : List ℕ) → spelling [] vs ≡ []
unfolding spelling
nothing vs = refl

pub put_more : PutsJoin → (fs : List Field) (vs : List ℕ) (i : ℕ) (d : Field) (old mid new : State)
    → IsPut fs vs i old mid
    → i < length fs → i < length vs →
    Puts mid new (field (get_or fs i d).width (get_or vs i 0)) → IsPut fs vs (i + 1) old new
put_more join fs vs i d old mid new h a b p = record {
  front = h.front ++ field (get_or fs i d).width (get_or vs i 0);
  puts = join old mid new h.front (field (get_or fs i d).width (get_or vs i 0)) h.puts p;
  whole = h.whole ∙ ap (λ (l : List Bool). h.front ++ l) (spelled_at fs vs i d a b)
      ∙ sym (append_assoc h.front (field (get_or fs i d).width (get_or vs i 0))
      (spelling (drop (i + 1) fs) (drop (i + 1) vs)));
  narrow = (narrow_at fs i d a h.narrow).1;
  fits = (fits_at fs vs i d a b h.fits).1;
}

pub put_all : (fs : List Field) (vs : List ℕ) (i : ℕ) (old new : State) → IsPut fs vs i old new → length fs ≤ i
    → Puts old new (spelling fs vs)
put_all fs vs i old new h le = grind (arith, drop_all, nothing, append-nil)

pub put_stops : StopsHere → StopsLater → (fs : List Field) (vs : List ℕ) (i : ℕ) (d : Field) (fault : SinkFault)
    (old mid new : State) → IsPut fs vs i old mid → i < length fs → i < length vs →
    Refuses mid (get_or fs i d).width fault → new ≡ mid → Stops old new (spelling fs vs) fault
put_stops here later fs vs i d fault old mid new h a b refused same =
    let rest = spelling (drop i fs) (drop i vs) in
    let size = ap length (spelled_at fs vs i d a b) ∙ length-append (field (get_or fs i d).width (get_or vs i 0))
    (spelling (drop (i + 1) fs) (drop (i + 1) vs)) in
    let few : (get_or fs i d).width ≤ length rest = omega (
      arith,
      size,
      length-field (get_or fs i d).width
          (get_or vs i 0),
    ) in
    rw (same, h.whole) (later old mid mid h.front rest fault h.puts (here mid rest (get_or fs i d).width
    fault refused few))
