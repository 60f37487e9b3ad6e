-- Bytes begin with a record exactly if the reader takes it.
use Rattle.std.proofs.Common.{◌≡◌, ◌⊎◌, ℕ, ◌+◌, ◌^◌, ◌<◌, ◌≤◌, List, [], ◌∷◌, ◌++◌, length, take, drop, Option, Some}
use Rattle.std.proofs.Common.{Result, Ok}
use Rattle.std.proofs.Common.{Err, refl, sym, ap, ap₂, subst, ◌∙◌, append_assoc, arith, inl, inr}
use Rattle.std.specs.Prelude.{slice_index, IfOk, IfErr}
use Rattle.std.proofs.lemmas.List.{take_at, drop_at, take-append-drop, drop-drop, length-append, length-take}
use Rattle.std.proofs.lemmas.List.{length-drop}
use Rattle.byteorder.specs.Endian.{big_number, big_bytes}
use Rattle.byteorder.specs.Numbers.{big_number-reads_back, length-bytes_high_first}
use Rattle.terms.proofs.PartLemmas.{part-add}
use Rattle.plp_config.specs.declared.moment.Moment.{Moment}
use Rattle.site_frame.specs.Record.{head_bytes, FitsMoment}
use Rattle.site_frame.specs.Reading.{◌>>=◌}
use Rattle.site_frame.specs.Rest.{IsRest, parts_in}
use Rattle.site_frame.specs.Whole.{kind_of, moment_of, HasRest, Spells, BeginsWith, HasHead, told_moment, told_len}
use Rattle.site_frame.specs.Whole.{told_rest}
use Rattle.site_frame.specs.Whole.{HasLength, Refuses, framed, muted_in, view_in, IsRead, IsBad, IsRefused}
use Rattle.site_frame.specs.declared.parts.FrameParts.{FrameParts}
use Rattle.site_frame.specs.declared.fault.RecordWhy.{RecordWhy}
use Rattle.site_frame.specs.declared.fault.RecordWhy.TheVariants.{Head, Kind, Length, Order, OffGrid}
use Rattle.site_frame.specs.declared.reading.RecordView.{RecordView}
use Rattle.site_frame.specs.declared.reading.RecordView.TheVariants.{Frame, Muted}
use Rattle.site_frame.proofs.BlockLemmas.{bind_some, same_some}
use Rattle.site_frame.proofs.FieldLemmas.{IsBytes, IsBytes-drop, IsBytes-take, some_same, wide4, wide8}
use Rattle.site_frame.proofs.RestLemmas.{rest_again, rest_taken}

-- ---- read, then spelled

numbers_taken : (more : List ℕ) → IsBytes more → 16 ≤ length more
    → take 16 more ≡ big_bytes 8 (big_number 8 more)
    ++ (big_bytes 4 (big_number 4 (drop 8 more)) ++ big_bytes 4 (big_number 4 (drop 12 more)))
numbers_taken more fits long =
    let w0 = wide8 more fits (omega (arith, long)) in
    let w1 = wide4 (drop 8 more) (IsBytes-drop 8 more fits) (omega (arith, long, length-drop {A = ℕ} 8 more)) in
    let w2 = wide4 (drop 12 more) (IsBytes-drop 12 more fits) (omega (arith, long, length-drop {A = ℕ} 12 more)) in
    part-add more 0 8 8 ∙ ap₂ (λ (a b : List ℕ). a ++ b) (sym w0.0)
    (part-add more 8 4 4 ∙ ap₂ (λ (a b : List ℕ). a ++ b) (sym w1.0) (sym w2.0))

pub head_taken : (bytes : List ℕ) → IsBytes bytes → HasHead bytes → take 24 bytes ≡ head_bytes (slice_index bytes 4)
    (told_moment bytes) (told_len bytes)
head_taken [] fits h = absurd (omega (arith, h.whole))
head_taken (a ∷ []) fits h = absurd (omega (arith, h.whole))
head_taken (a ∷ b ∷ []) fits h = absurd (omega (arith, h.whole))
head_taken (a ∷ b ∷ c ∷ []) fits h = absurd (omega (arith, h.whole))
head_taken (a ∷ b ∷ c ∷ d ∷ []) fits h = absurd (omega (arith, h.whole))
head_taken (a ∷ b ∷ c ∷ d ∷ k ∷ []) fits h = absurd (omega (arith, h.whole))
head_taken (a ∷ b ∷ c ∷ d ∷ k ∷ x ∷ []) fits h = absurd (omega (arith, h.whole))
head_taken (a ∷ b ∷ c ∷ d ∷ k ∷ x ∷ y ∷ []) fits h = absurd (omega (arith, h.whole))
head_taken (a ∷ b ∷ c ∷ d ∷ k ∷ x ∷ y ∷ z ∷ more) fits h =
    let n = numbers_taken more (IsBytes-drop 8 (a ∷ b ∷ c ∷ d ∷ k ∷ x ∷ y ∷ z ∷ more) fits) (omega (arith, h.whole)) in
    rw (h.first, h.second, h.third, h.fourth, h.zero0, h.zero1, h.zero2)
    (ap (λ (xs : List ℕ). 0x54 ∷ 0x32 ∷ 0x46 ∷ 0x52 ∷ k ∷ 0 ∷ 0 ∷ 0 ∷ xs) n)

-- what a view that was read tells
record Seen (kind : ℕ) (moment : Moment) (rest : List ℕ) (view : RecordView) : Type 0 where
  pub kind-is : kind_of view ≡ kind
  pub moment-is : moment_of view ≡ moment
  pub parts : HasRest view rest

frame_taken : (moment : Moment) (rest : List ℕ) (view : RecordView) → IsBytes rest
    → (parts_in rest >>= framed moment) ≡ Some view
    → Seen 1 moment rest view
frame_taken moment rest view fits e =
    let b = bind_some (parts_in rest) (framed moment) view e in
    let t : IsRest b.0 rest = rest_taken rest b.0 fits b.1 in
    subst (λ (v : RecordView). Seen 1 moment rest v) (some_same _ view b.2)
    (record { kind-is = refl; moment-is = refl; parts = t })

muted_taken : (moment : Moment) (rest : List ℕ) (view : RecordView) → muted_in moment rest ≡ Some view
    → Seen 2 moment rest view
muted_taken moment [] view e = subst (λ (v : RecordView). Seen 2 moment [] v) (some_same _ view e)
    (record { kind-is = refl; moment-is = refl; parts = refl })
muted_taken moment (x ∷ rest) view e = absurd cc

view_taken : (kind : ℕ) (moment : Moment) (rest : List ℕ) (view : RecordView) → IsBytes rest → (kind ≡ 1) ⊎ (kind ≡ 2)
    → view_in kind moment rest ≡ Some view → Seen kind moment rest view
view_taken kind moment rest view fits (inl is) e =
    let one : view_in 1 moment rest ≡ Some view = subst (λ (k : ℕ). view_in k moment rest ≡ Some view) is e in
    subst (λ (k : ℕ). Seen k moment rest view) (sym is) (frame_taken moment rest view fits one)
view_taken kind moment rest view fits (inr is) e =
    let two : view_in 2 moment rest ≡ Some view = subst (λ (k : ℕ). view_in k moment rest ≡ Some view) is e in
    subst (λ (k : ℕ). Seen k moment rest view) (sym is) (muted_taken moment rest view two)

pub begun : (bytes : List ℕ) (view : RecordView) (len : ℕ) → IsBytes bytes → IsRead bytes view len
    → BeginsWith bytes view len
begun bytes view len fits r =
    let n : ℕ = told_len bytes in
    let rest : List ℕ = told_rest bytes in
    let seen = view_taken (slice_index bytes 4) (told_moment bytes) rest view
    (IsBytes-take n (drop 24 bytes) (IsBytes-drop 24 bytes fits)) r.kind r.view-is in
    let size : length rest ≡ n = omega (arith, r.inside, length-take n (drop 24 bytes), length-drop {A = ℕ} 24 bytes) in
    let w0 = wide8 (drop 8 bytes) (IsBytes-drop 8 bytes fits) (omega (arith, r.inside, length-drop {A = ℕ} 8 bytes)) in
    let w1 = wide4 (drop 16 bytes) (IsBytes-drop 16 bytes fits)
    (omega (arith, r.inside, length-drop {A = ℕ} 16 bytes)) in
    let moment-fits : FitsMoment (told_moment bytes) = (w0.1, w1.1) in
    let parts : take len bytes ≡ take 24 bytes ++ rest = ap (λ (k : ℕ). take k bytes) r.end ∙ part-add bytes 0 24 n in
    let head : take 24 bytes ≡ head_bytes (kind_of view) (moment_of view) (length rest) =
    head_taken bytes fits r.head ∙ rw (seen.kind-is, seen.moment-is, size) refl in
    record {
      inside = omega (arith, r.end, r.inside);
      spells = record {
        fits = subst FitsMoment (sym seen.moment-is) moment-fits;
        rest = rest;
        parts = seen.parts;
        small = omega (arith, size, r.small);
        spelled = parts ∙ ap (λ (xs : List ℕ). xs ++ rest) head;
      };
    }

-- ---- spelled, then read

record Told (kind : ℕ) (moment : Moment) (n : ℕ) (more bytes : List ℕ) : Type 0 where
  pub head : HasHead bytes
  pub kind-is : slice_index bytes 4 ≡ kind
  pub moment-is : told_moment bytes ≡ moment
  pub len-is : told_len bytes ≡ n
  pub behind : drop 24 bytes ≡ more
  pub size : length bytes ≡ 24 + length more

abbrev the_moment : ℕ → ℕ → Moment
the_moment seconds subseconds = record { seconds = seconds; subseconds = subseconds }

told : (kind : ℕ) (moment : Moment) (n : ℕ) (more : List ℕ) → FitsMoment moment → n < 2 ^ 32
    → Told kind moment n more (head_bytes kind moment n ++ more)
told kind moment n more fits small =
    let bytes : List ℕ = head_bytes kind moment n ++ more in
    let s8 : List ℕ = big_bytes 8 moment.seconds in
    let s4 : List ℕ = big_bytes 4 moment.subseconds in
    let n4 : List ℕ = big_bytes 4 n in
    let l8 : length s8 ≡ 8 = length-bytes_high_first 8 moment.seconds in
    let l4 : length s4 ≡ 4 = length-bytes_high_first 4 moment.subseconds in
    let ln : length n4 ≡ 4 = length-bytes_high_first 4 n in
    let d8 : drop 8 bytes ≡ s8 ++ ((s4 ++ n4) ++ more) = append_assoc s8 (s4 ++ n4) more in
    let d16 : drop 16 bytes ≡ s4 ++ (n4 ++ more) = sym (drop-drop 8 8 bytes) ∙ ap (drop 8) d8
    ∙ drop_at s8 ((s4 ++ n4) ++ more) 8 l8 ∙ append_assoc s4 n4 more in
    let d20 : drop 20 bytes ≡ n4 ++ more = sym (drop-drop 4 16 bytes) ∙ ap (drop 4) d16
    ∙ drop_at s4 (n4 ++ more) 4 l4 in
    let d24 : drop 24 bytes ≡ more = sym (drop-drop 4 20 bytes) ∙ ap (drop 4) d20 ∙ drop_at n4 more 4 ln in
    let seconds : big_number 8 (drop 8 bytes) ≡ moment.seconds = ap (big_number 8) d8
    ∙ big_number-reads_back 8 moment.seconds
    ((s4 ++ n4) ++ more) fits.0 in
    let subseconds : big_number 4 (drop 16 bytes) ≡ moment.subseconds = ap (big_number 4) d16
    ∙ big_number-reads_back 4 moment.subseconds (n4 ++ more) fits.1 in
    let eight : length bytes ≡ 8 + length (drop 8 bytes) = omega arith in
    let rest-len : length (drop 8 bytes) ≡ length (s8 ++ ((s4 ++ n4) ++ more)) = ap (λ (xs : List ℕ). length xs) d8 in
    let size : length bytes ≡ 24 + length more =
    omega (
      arith,
      eight,
      rest-len,
      length-append s8 ((s4 ++ n4) ++ more),
      length-append (s4 ++ n4) more,
      length-append s4 n4,
      l8,
      l4,
      ln,
    ) in
    record {
      head = record {
        whole = omega (arith, size);
        first = refl;
        second = refl;
        third = refl;
        fourth = refl;
        zero0 = refl;
        zero1 = refl;
        zero2 = refl;
      };
      kind-is = refl;
      moment-is = ap₂ the_moment seconds subseconds;
      len-is = ap (big_number 4) d20 ∙ big_number-reads_back 4 n more small;
      behind = d24;
      size = size;
    }

-- a rest of a view's kind is read
pub view_again : (view : RecordView) (rest : List ℕ) → HasRest view rest → view_in (kind_of view) (moment_of view) rest
    ≡ Some view
view_again (Frame moment pre post blocks cells) rest h =
    let p : FrameParts = record { pre = pre; post = post; blocks = blocks; cells = cells } in
    let e : parts_in rest ≡ Some p = ap parts_in h.spelled ∙ rest_again p h.pad h.ignored h.fits h.short h.whole in
    ap (λ (r : Option FrameParts). r >>= framed moment) e
view_again (Muted moment) rest h = ap (muted_in moment) h

kind_known : (view : RecordView) → (kind_of view ≡ 1) ⊎ (kind_of view ≡ 2)
kind_known (Frame moment pre post blocks cells) = inl refl
kind_known (Muted moment) = inr refl

pub read_of : (view : RecordView) (front more : List ℕ) → Spells view front → IsRead (front ++ more) view (length front)
read_of view front more s =
    let n : ℕ = length s.rest in
    let head : List ℕ = head_bytes (kind_of view) (moment_of view) n in
    let apart : front ++ more ≡ head ++ (s.rest ++ more) = ap (λ (xs : List ℕ). xs ++ more) s.spelled
    ∙ append_assoc head s.rest more in
    let t0 = told (kind_of view) (moment_of view) n (s.rest ++ more) s.fits (omega (arith, s.small)) in
    let t : Told (kind_of view) (moment_of view) n (s.rest ++ more) (front ++ more) =
    subst (λ (xs : List ℕ). Told (kind_of view) (moment_of view) n (s.rest ++ more) xs) (sym apart) t0 in
    let rest-is : told_rest (front ++ more) ≡ s.rest = ap₂ (λ (k : ℕ) (xs : List ℕ). take k xs) t.len-is t.behind
    ∙ take_at s.rest more n refl in
    let sum : length (s.rest ++ more) ≡ n + length more = length-append s.rest more in
    let all : length (front ++ more) ≡ length front + length more = length-append front more in
    record {
      head = t.head;
      kind = subst (λ (k : ℕ). (k ≡ 1) ⊎ (k ≡ 2)) (sym t.kind-is) (kind_known view);
      small = omega (arith, t.len-is, s.small);
      inside = omega (arith, t.len-is, t.size, sum);
      view-is = rw (t.kind-is, t.moment-is, rest-is) (view_again view s.rest s.parts);
      end = omega (arith, t.len-is, t.size, sum, all);
    }

pub length_of : (view : RecordView) (front more : List ℕ) → Spells view front → HasLength (front ++ more)
length_of view front more s =
    let n : ℕ = length s.rest in
    let head : List ℕ = head_bytes (kind_of view) (moment_of view) n in
    let apart : front ++ more ≡ head ++ (s.rest ++ more) = ap (λ (xs : List ℕ). xs ++ more) s.spelled
    ∙ append_assoc head s.rest more in
    let t0 = told (kind_of view) (moment_of view) n (s.rest ++ more) s.fits (omega (arith, s.small)) in
    let t : Told (kind_of view) (moment_of view) n (s.rest ++ more) (front ++ more) =
    subst (λ (xs : List ℕ). Told (kind_of view) (moment_of view) n (s.rest ++ more) xs) (sym apart) t0 in
    let rest-is : told_rest (front ++ more) ≡ s.rest = ap₂ (λ (k : ℕ) (xs : List ℕ). take k xs) t.len-is t.behind
    ∙ take_at s.rest more n refl in
    record {
      small = omega (arith, t.len-is, s.small);
      inside = omega (arith, t.len-is, t.size, length-append s.rest more);
      view = view;
      kind = sym t.kind-is;
      parts = subst (HasRest view) (sym rest-is) s.parts;
    }

pub read_begun : (bytes : List ℕ) (view : RecordView) (len : ℕ) → BeginsWith bytes view len → IsRead bytes view len
read_begun bytes view len b =
    let r = read_of view (take len bytes) (drop len bytes) b.spells in
    let size : length (take len bytes) ≡ len = omega (arith, b.inside, length-take len bytes) in
    subst (λ (k : ℕ). IsRead bytes view k) size
    (subst (λ (xs : List ℕ). IsRead xs view (length (take len bytes))) (take-append-drop len bytes) r)

-- what is read is one
pub one_read : (bytes : List ℕ) (v w : RecordView) (m n : ℕ) → IsRead bytes v m → IsRead bytes w n → (v ≡ w) × (m ≡ n)
one_read bytes v w m n r s = (same_some _ v w r.view-is s.view-is, r.end ∙ sym s.end)

-- ---- refusals

-- the moment decides nothing
view_there : (view : RecordView) (rest : List ℕ) (moment : Moment) → HasRest view rest → (w : RecordView)
    × (view_in (kind_of view) moment rest ≡ Some w)
view_there (Frame m pre post blocks cells) rest moment h =
    (Frame moment pre post blocks cells, view_again (Frame moment pre post blocks cells) rest h)
view_there (Muted m) rest moment h = (Muted moment, view_again (Muted moment) rest h)

not_bad : (bytes : List ℕ) → HasLength bytes → ¬ (IsBad bytes)
not_bad bytes h (inl long) = absurd (omega (arith, long, h.small))
not_bad bytes h (inr (inl short)) = absurd (omega (arith, short, h.inside))
not_bad bytes h (inr (inr none)) =
    let v = view_there h.view (told_rest bytes) (told_moment bytes) h.parts in
    let is : view_in (slice_index bytes 4) (told_moment bytes) (told_rest bytes) ≡ Some v.0 =
    subst (λ (k : ℕ). view_in k (told_moment bytes) (told_rest bytes) ≡ Some v.0) h.kind v.1 in
    absurd cc

pub refused : (bytes : List ℕ) (why : RecordWhy) → IsRefused bytes why → Refuses bytes why
refused bytes Head r = r
refused bytes Kind r = r
refused bytes Length r = (r.0, r.1, λ h. not_bad bytes h r.2)
refused bytes Order r = r
refused bytes OffGrid r = r

not_refused : (bytes : List ℕ) (view : RecordView) (len : ℕ) → IsRead bytes view len → (why : RecordWhy)
    → ¬ (IsRefused bytes why)
not_refused bytes view len r Head h = h r.head
not_refused bytes view len r Kind h = h.1 r.kind
not_refused bytes view len r Length (head, kind, inl long) = absurd (omega (arith, long, r.small))
not_refused bytes view len r Length (head, kind, inr (inl short)) = absurd (omega (arith, short, r.inside))
not_refused bytes view len r Length (head, kind, inr (inr none)) = let is = r.view-is in absurd cc
not_refused bytes view len r Order h = h
not_refused bytes view len r OffGrid h = h

-- ---- of an answer

pub ok_begun : (bytes : List ℕ) (r : Result (RecordView × ℕ) RecordWhy) → IsBytes bytes
    → IfOk r (λ x. IsRead bytes x.0 x.1)
    → IfOk r (λ x. BeginsWith bytes x.0 x.1)
ok_begun bytes (Ok x) fits h = begun bytes x.0 x.1 fits h
ok_begun bytes (Err e) fits h = tt

pub err_refused : (bytes : List ℕ) (r : Result (RecordView × ℕ) RecordWhy) → IfErr r (IsRefused bytes)
    → IfErr r (Refuses bytes)
err_refused bytes (Ok x) h = tt
err_refused bytes (Err e) h = refused bytes e h

abbrev the_ok : RecordView → ℕ → Result (RecordView × ℕ) RecordWhy
the_ok view len = Ok (view, len)

pub every_read : (bytes : List ℕ) (r : Result (RecordView × ℕ) RecordWhy) (view : RecordView) (len : ℕ)
    → IfOk r (λ x. IsRead bytes x.0 x.1) → IfErr r (IsRefused bytes)
    → BeginsWith bytes view len → r ≡ Ok (view, len)
every_read bytes (Ok x) view len ok err b =
    let one = one_read bytes x.0 view x.1 len ok (read_begun bytes view len b) in
    ap₂ (λ (v : RecordView) (n : ℕ). the_ok v n) one.0 one.1
every_read bytes (Err e) view len ok err b = absurd (not_refused bytes view len (read_begun bytes view len b) e err)
