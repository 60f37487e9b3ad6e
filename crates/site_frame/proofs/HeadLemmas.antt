-- What a head tells does not depend on what follows it.
use Rattle.std.proofs.Common.{◌≡◌, ◌⊎◌, ℕ, ◌+◌, ◌-◌, ◌*◌, ◌<◌, ◌≤◌, false, List, [], ◌++◌, length, take, drop}
use Rattle.std.proofs.Common.{replicate, Result}
use Rattle.std.proofs.Common.{Ok, Err, refl, sym, ap, subst, ◌∙◌, arith, inl, inr}
use Rattle.std.specs.Prelude.{slice_index, IfOk, IfErr}
use Rattle.std.proofs.Math.ListN.{get_or-append}
use Rattle.std.specs.List.{concat}
use Rattle.std.proofs.lemmas.List.{take_all, take-append-drop, drop-append-le, length-append, length-take, length-drop}
use Rattle.std.proofs.lemmas.List.{length-replicate}
use Rattle.byteorder.specs.Endian.{big_number}
use Rattle.byteorder.specs.Numbers.{big_from-append}
use Rattle.plp_config.specs.declared.moment.Moment.{Moment}
use Rattle.site_frame.specs.Record.{frame_kind, muted_kind, head_len, head_bytes, FitsMoment}
use Rattle.site_frame.specs.Whole.{greatest_rest, least_rest, kind_of, moment_of, HasRest, Spells, BeginsWith}
use Rattle.site_frame.specs.Whole.{written_rest}
use Rattle.site_frame.specs.Whole.{record_bytes, record_len, FitsRest, FitsRecord, HasHead, HasKind, told_moment}
use Rattle.site_frame.specs.Whole.{told_len}
use Rattle.site_frame.specs.Whole.{told_rest, HasLength, Refuses, CanFollow, Follow, RefusesHead, IsRight, IsRightAlone}
use Rattle.site_frame.specs.Whole.{HasBadLength, IsWrong}
use Rattle.site_frame.specs.declared.fault.RecordWhy.{RecordWhy}
use Rattle.site_frame.specs.declared.fault.RecordWhy.TheVariants.{Head, Kind, Length, Order, OffGrid}
use Rattle.site_frame.specs.declared.reading.RecordView.{RecordView}
use Rattle.site_frame.specs.declared.reading.RecordView.TheVariants.{Frame, Muted}
use Rattle.site_frame.proofs.FieldLemmas.{IsBytes, IsBytes-drop, wide4, wide8}
use Rattle.site_frame.proofs.WholeLemmas.{head_taken, read_begun}
use Rattle.site_frame.proofs.LawLemmas.{no_refusal, has_len, written_length, written_spells}

-- the bytes of a head stand where they stood
pub same_at : (bytes more : List ℕ) → head_len ≤ length bytes → (i : ℕ) → i < head_len → slice_index (bytes ++ more) i
    ≡ slice_index bytes i
same_at bytes more long i less = get_or-append bytes more 0 i (omega (arith, long, less))

-- and tell the same length
pub told_on : (bytes more : List ℕ) → head_len ≤ length bytes → told_len (bytes ++ more) ≡ told_len bytes
told_on bytes more long =
    let n = length-drop {A = ℕ} 20 bytes in
    ap (big_number 4) (drop-append-le 20 bytes more (omega (arith, long))) ∙ big_from-append 4 (drop 20 bytes) more
    (omega (arith, n, long))

pub head_on : (bytes more : List ℕ) → head_len ≤ length bytes → HasHead bytes → HasHead (bytes ++ more)
head_on bytes more long h = grind (arith, same_at, length-append)

pub head_back : (bytes more : List ℕ) → head_len ≤ length bytes → HasHead (bytes ++ more) → HasHead bytes
head_back bytes more long h = grind (arith, same_at)

abbrev IsKind : ℕ → Type 0
IsKind kind = (kind ≡ 1) ⊎ (kind ≡ 2)

pub kind_on : (bytes more : List ℕ) → head_len ≤ length bytes → HasKind bytes → HasKind (bytes ++ more)
kind_on bytes more long h = subst IsKind (sym (same_at bytes more long 4 (omega arith))) h

pub kind_back : (bytes more : List ℕ) → head_len ≤ length bytes → HasKind (bytes ++ more) → HasKind bytes
kind_back bytes more long h = subst IsKind (same_at bytes more long 4 (omega arith)) h

-- a muted record has no rest, and that of a frame has its numbers
no_rest : (view : RecordView) (rest : List ℕ) → kind_of view ≡ muted_kind → HasRest view rest → length rest ≡ 0
no_rest (Frame moment pre post blocks cells) rest muted parts = absurd (omega (arith, muted))
no_rest (Muted moment) rest muted parts = ap (λ (xs : List ℕ). length xs) parts

some_rest : (view : RecordView) (rest : List ℕ) → kind_of view ≡ frame_kind → HasRest view rest
    → least_rest ≤ length rest
some_rest (Frame moment pre post blocks cells) rest frame parts =
    omega (arith, has_len (Frame moment pre post blocks cells) rest parts)
some_rest (Muted moment) rest frame parts = absurd (omega (arith, frame))

-- a rest has the length that the head tells
rest_size : (bytes : List ℕ) → HasLength bytes → length (told_rest bytes) ≡ told_len bytes
rest_size bytes h = omega (arith, h.inside, length-take (told_len bytes) (drop 24 bytes), length-drop {A = ℕ} 24 bytes)

-- a length that is bad is so whatever follows
bad_on : (head more : List ℕ) → length head ≡ 24 → HasBadLength head → ¬ (HasLength (head ++ more))
bad_on head more e (inl great) h = absurd (omega (arith, great, h.small, told_on head more (omega (arith, e))))
bad_on head more e (inr (inl muted)) h =
    let kind : kind_of h.view ≡ muted_kind = h.kind ∙ same_at head more (omega (arith, e)) 4 (omega arith) ∙ muted.0 in
    let none : length (told_rest (head ++ more)) ≡ 0 = no_rest h.view (told_rest (head ++ more)) kind h.parts in
    absurd (omega (arith, none, muted.1, told_on head more (omega (arith, e)), rest_size (head ++ more) h))
bad_on head more e (inr (inr short)) h =
    let kind : kind_of h.view ≡ frame_kind = h.kind ∙ same_at head more (omega (arith, e)) 4 (omega arith) ∙ short.0 in
    let some : least_rest ≤ length (told_rest (head ++ more)) = some_rest h.view (told_rest (head ++ more))
    kind h.parts in
    absurd (omega (arith, some, short.1, told_on head more (omega (arith, e)), rest_size (head ++ more) h))

-- the head is refused with anything behind it
pub refuses_head : (head : List ℕ) (why : RecordWhy) → length head ≡ 24 → IsWrong head why → RefusesHead head why
refuses_head head Head e w more = λ h. w (head_back head more (omega (arith, e)) h)
refuses_head head Kind e w more = (
  head_on head more (omega (arith, e)) w.0,
  λ h. w.1
      (kind_back head more (omega (arith, e)) h),
)
refuses_head head Length e (is, kind, bad) more =
    (head_on head more (omega (arith, e)) is, kind_on head more (omega (arith, e)) kind, bad_on head more e bad)
refuses_head head Order e w more = w
refuses_head head OffGrid e w more = w

-- ---- a record that begins with the head

moment_fits : (head : List ℕ) → IsBytes head → length head ≡ 24 → FitsMoment (told_moment head)
moment_fits head fits e =
    let seconds = wide8 (drop 8 head) (IsBytes-drop 8 head fits) (omega (arith, e, length-drop {A = ℕ} 8 head)) in
    let subseconds = wide4 (drop 16 head) (IsBytes-drop 16 head fits) (omega (arith, e, length-drop {A = ℕ} 16 head)) in
    (seconds.1, subseconds.1)

-- as it is written
written_on : (head : List ℕ) (view : RecordView) (rest : ℕ) → IsBytes head → length head ≡ 24 → IsRight head rest
    → kind_of view ≡ slice_index head 4 → moment_of view ≡ told_moment head
    → length (concat (written_rest view)) ≡ rest → FitsRecord view → CanFollow head rest
written_on head view rest fits e right kind moment size record-fits =
    let more : List ℕ = concat (written_rest view) in
    let begin : take 24 head ≡ head_bytes (slice_index head 4) (told_moment head) (told_len head) =
    head_taken head fits right.head in
    let told : told_len head ≡ length more = omega (arith, right.told, size) in
    let front : head ≡ head_bytes (kind_of view) (moment_of view) (length more) = sym
    (take_all 24 head (omega (arith, e)))
    ∙ begin ∙ rw (kind, moment, told) refl in
    let whole : record_bytes view ≡ head ++ more = ap (λ (xs : List ℕ). xs ++ more) (sym front) in
    let both : length (head ++ more) ≡ 24 + rest = omega (arith, e, size, length-append head more) in
    let all : take (24 + rest) (head ++ more) ≡ head ++ more = take_all (24 + rest) (head ++ more)
    (omega (arith, both)) in
    record {
      more = more;
      view = view;
      begins =
          record {
            inside = omega (arith, both);
            spells = subst (Spells view) (whole ∙ sym all)
                (written_spells view record-fits);
          };
    }

-- a frame of zeros without a block or a cell, whose rest has so many bytes
abbrev zeros_frame : Moment → ℕ → RecordView
zeros_frame moment rest = Frame moment (replicate 200 false) (replicate (8 * (rest - 35)) false) [] []

zeros_fit : (moment : Moment) (rest : ℕ) → rest ≤ greatest_rest → FitsRest (zeros_frame moment rest)
zeros_fit moment rest small = grind (arith, length-replicate)

zeros_len : (moment : Moment) (rest : ℕ) → least_rest ≤ rest → record_len (zeros_frame moment rest) ≡ 24 + rest
zeros_len moment rest least = omega (arith, length-replicate (8 * (rest - 35)) false, least)

can_follow : (head : List ℕ) (rest : ℕ) → IsBytes head → length head ≡ 24 → IsRightAlone head rest
    → (slice_index head 4 ≡ frame_kind) ⊎ (slice_index head 4 ≡ muted_kind) → CanFollow head rest
can_follow head rest fits e r (inl frame) =
    let moment : Moment = told_moment head in
    let view : RecordView = zeros_frame moment rest in
    let zeros : FitsRest view = zeros_fit moment rest r.right.small in
    let size : record_len view ≡ 24 + rest = zeros_len moment rest (r.frame frame) in
    let behind : 24 + length (concat (written_rest view)) ≡ record_len view = written_length view zeros in
    written_on head view rest fits e r.right (sym frame) refl (omega (arith, behind, size))
    (record { moment = moment_fits head fits e; rest = zeros; small = omega (arith, size, r.right.small) })
can_follow head rest fits e r (inr muted) =
    written_on head (Muted (told_moment head)) rest fits e r.right (sym muted) refl (sym (r.muted muted))
    (record { moment = moment_fits head fits e; rest = tt; small = omega arith })

-- so many bytes follow
pub follow : (head : List ℕ) (rest : ℕ) → IsBytes head → length head ≡ 24 → IsRightAlone head rest → Follow head rest
follow head rest fits e alone =
    let r : IsRight head rest = alone.right in
    record {
      some = can_follow head rest fits e alone r.kind;
      small = r.small;
      exact = λ more view len begins.
          let read = read_begun (head ++ more) view len begins in
          omega (arith, read.end, told_on head more (omega (arith, e)), r.told);
      fewer = λ more few. (
        head_on head more (omega (arith, e)) r.head,
        kind_on head more (omega (arith, e)) r.kind,
        λ h. let never : ⊥ =
            omega (arith, h.inside, told_on head more (omega (arith, e)), r.told, few, e, length-append head more) in
            never,
      );
    }

-- what begins with a record is not refused
not_both : (bytes : List ℕ) (view : RecordView) (len : ℕ) (why : RecordWhy) → BeginsWith bytes view len
    → ¬ (Refuses bytes why)
not_both bytes view len why b refused =
    let same : take len bytes ++ drop len bytes ≡ bytes = take-append-drop len bytes in
    no_refusal view (take len bytes) (drop len bytes) why b.spells (subst (λ (xs : List ℕ). Refuses xs why)
    (sym same) refused)

-- ---- of an answer

pub ok_follow : (head : List ℕ) (r : Result ℕ RecordWhy) → IsBytes head → length head ≡ 24 → IfOk r (IsRightAlone head)
    → IfOk r (Follow head)
ok_follow head (Ok rest) fits e h = follow head rest fits e h
ok_follow head (Err why) fits e h = tt

pub err_head : (head : List ℕ) (r : Result ℕ RecordWhy) → length head ≡ 24 → IfErr r (IsWrong head)
    → IfErr r (RefusesHead head)
err_head head (Ok rest) e h = tt
err_head head (Err why) e h = refuses_head head why e h

abbrev the_ok : ℕ → Result ℕ RecordWhy
the_ok rest = Ok rest

pub every_head : (head : List ℕ) (r : Result ℕ RecordWhy) → IfOk r (Follow head) → IfErr r (RefusesHead head)
    → (more : List ℕ) (view : RecordView) (len : ℕ) → BeginsWith (head ++ more) view len → r ≡ Ok (len - head_len)
every_head head (Ok rest) ok err more view len b = ap the_ok (omega (arith, ok.exact more view len b))
every_head head (Err why) ok err more view len b = absurd (not_both (head ++ more) view len why b (err more))
