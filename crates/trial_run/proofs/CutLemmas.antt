-- Packets that are counted, and records that are cut, one by one.
use Rattle.std.proofs.Common.{◌≡◌, ℕ, ◌+◌, Bool, true, false, cond, List, [], ◌∷◌, ◌++◌, length, take, drop, refl, ap}
use Rattle.std.proofs.Common.{sym, ◌∙◌, length-append, ◌<◌}
use Rattle.std.specs.Prelude.{not, ◌||◌, slice_index_or}
use Rattle.std.specs.List.{filter, range_with_len}
use Rattle.std.specs.Str.{bytes_eq}
use Rattle.std.proofs.lemmas.List.{at_drop_more}
use Rattle.std.proofs.lemmas.List.Elements.{filter-append}
use Rattle.terms.proofs.RangeLemmas.{places_more}
use Rattle.site_frame.specs.Whole.{BeginsWith}
use Rattle.site_frame.specs.declared.reading.RecordView.{RecordView}
use Rattle.t2mi_stream.specs.Units.{unit_at}
use Rattle.ts_packet.specs.Null.{is_null}
use Rattle.trial_run.specs.Counts.{is_frame, AreCut, filled_of_first, stand_in}
use Rattle.trial_run.specs.declared.counts.Piece.{Piece}

-- one element more behind others counts if it passes
counted_one : {X : Type 0} (p : X → Bool) (x : X) (passes : Bool) → p x ≡ passes
    → length (filter p (x ∷ [])) ≡ (cond passes 1 0)
counted_one p x true is = rw is refl
counted_one p x false is = rw is refl

pub count_more : {X : Type 0} (p : X → Bool) (xs : List X) (x : X) → length (filter p (xs ++ x ∷ [])) ≡ length
    (filter p xs)
    + cond (p x) 1 0
count_more p xs x =
    ap (λ l. length l) (filter-append p xs (x ∷ [])) ∙ length-append (filter p xs) (filter p (x ∷ []))
    ∙ ap (λ (n : ℕ). length (filter p xs) + n) (counted_one p x (p x) refl)

pub filled_more : (bytes : List ℕ) (n : ℕ) → filled_of_first bytes (n + 1) ≡ filled_of_first bytes n
    + cond (not (is_null (unit_at bytes n))) 1 0
unfolding filled_of_first
filled_more bytes n =
    let p : ℕ → Bool = λ k. not (is_null (unit_at bytes k)) in
    ap (λ (l : List ℕ). length (filter p l)) (places_more n) ∙ count_more p (range_with_len 0 n) n

-- one record more
cut_more : (file rest : List ℕ) (pieces : List Piece) (piece : Piece) (view : RecordView) (len : ℕ)
    → AreCut file pieces rest
    → BeginsWith rest view len → piece.is_frame ≡ is_frame view → piece.bytes.now ≡ take len rest
    → AreCut file (pieces ++ piece ∷ []) (drop len rest)
cut_more file rest [] piece view len are begins kind bytes = rw are (view, len, begins, kind, bytes, refl)
cut_more file rest (p ∷ pieces) piece view len are begins kind bytes =
    (are.0, are.1, are.2, are.3, are.4, cut_more (drop are.1 file) rest pieces piece view len are.5 begins kind bytes)

-- a record is cut from the front of what is left
pub cut_next : (file rest left : List ℕ) (was now : List Piece) (piece : Piece) (view : RecordView) (len : ℕ)
    → AreCut file was rest → BeginsWith rest view len → now ≡ was ++ piece ∷ []
    → piece.is_frame ≡ is_frame view → piece.bytes.now ≡ take len rest → left ≡ drop len rest → AreCut file now left
cut_next file rest left was now piece view len are begins now_is kind bytes left_is =
    rw (now_is, left_is) (cut_more file rest was piece view len are begins kind bytes)

-- ---- records among others

pub next_other : (bytes : List ℕ) (others : List Piece) (at : ℕ) (other : Piece) → at < length others
    → other ≡ slice_index_or others at other
    → stand_in (drop at others) bytes ≡ bytes_eq bytes other.bytes.now || stand_in (drop (at + 1) others) bytes
next_other bytes others at other inside is =
    at_drop_more (λ (l : List Piece). stand_in l bytes) others at other inside
    ∙ ap (λ (p : Piece). bytes_eq bytes p.bytes.now || stand_in (drop (at + 1) others) bytes) (sym is)
