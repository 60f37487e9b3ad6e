-- One packet more.
use Rattle.std.proofs.Common.{◌≡◌, ℕ, ◌+◌, ◌==◌, Bool, true, cond, List, [], ◌∷◌, ◌++◌, length, refl, ap, sym, ◌∙◌}
use Rattle.std.proofs.Common.{arith}
use Rattle.std.specs.Prelude.{not, ◌||◌, Some, None}
use Rattle.std.proofs.lemmas.List.{get_or_append_left, get_or_push, length_push}
use Rattle.std.proofs.lemmas.List.Sums.{sum_by-append}
use Rattle.ts_packet.specs.Null.{is_null, null_packet}
use Rattle.null_delete.specs.Deletion.{is_kept, dnp, nulls_of, answer_of, slot_after}
use Rattle.null_delete.specs.StandsFor.{next_dnp}
use Rattle.null_delete.proofs.RunLemmas.{Same, run_none, dnp_same, dnp_more, kept_by_dnp}

-- before the first packet nothing was deleted
pub next_none : (on : Bool) → next_dnp on [] ≡ 0
unfolding next_dnp
next_none on = run_none _

-- What a packet comes to, behind others: it is kept if `keeps`.
record Comes (on : Bool) (packets : List (List ℕ)) (packet : List ℕ) (deleted : ℕ) (keeps : Bool) : Type 0 where
  pub answer : answer_of on packets packet ≡ cond keeps (Some deleted) None
  pub next : next_dnp on (packets ++ packet ∷ []) ≡ cond keeps 0 (deleted + 1)

-- A packet at the end leaves the slots before it as they were.
before_same : (packets : List (List ℕ)) (packet : List ℕ) → Same (nulls_of (packets ++ packet ∷ [])) (nulls_of packets)
    (length packets)
before_same packets packet = λ j h. ap is_null (get_or_append_left packets (packet ∷ []) null_packet j h)

-- It is kept with deletion off, if it is not null, or behind 255 deleted ones.
comes : (on : Bool) (packets : List (List ℕ)) (packet : List ℕ) (deleted : ℕ) → deleted ≡ next_dnp on packets →
    Comes on packets packet deleted (cond on (not (is_null packet) || (deleted == 255)) true)
unfolding next_dnp
comes on packets packet deleted e =
    let nulls : ℕ → Bool = nulls_of (packets ++ packet ∷ []) in
    let n : ℕ = length packets in
    let here : nulls n ≡ is_null packet = ap is_null (get_or_push packets packet null_packet n refl) in
    let same : dnp (is_kept on nulls) n ≡ deleted = dnp_same on nulls (nulls_of packets) n (before_same packets packet)
    ∙ sym e in
    let kept : is_kept on nulls n ≡ cond on (not (is_null packet) || (deleted == 255)) true = kept_by_dnp on nulls n
    ∙ rw (here, same) refl in
    record {
      answer = rw (kept, same) refl;
      next = ap (λ (m : ℕ). dnp (is_kept on nulls) m) (length_push packets packet) ∙ dnp_more (is_kept on nulls) n
          ∙ rw (kept, same) refl;
    }

-- the answer to a packet, from the dnp before it
pub answer_is : (on : Bool) (packets : List (List ℕ)) (packet : List ℕ) → answer_of on packets packet
    ≡ cond (cond on (not (is_null packet) || (next_dnp on packets == 255)) true) (Some (next_dnp on packets)) None
answer_is on packets packet = (comes on packets packet (next_dnp on packets) refl).answer

-- the next dnp, from the one before it
pub next_is : (on : Bool) (packets : List (List ℕ)) (packet : List ℕ) → next_dnp on (packets ++ packet ∷ [])
    ≡ cond (cond on (not (is_null packet) || (next_dnp on packets == 255)) true) 0 (next_dnp on packets + 1)
next_is on packets packet = (comes on packets packet (next_dnp on packets) refl).next

-- one dnp more at the end
pub slot_more : (first : ℕ) (dnps : List ℕ) (dnp : ℕ) → slot_after first (dnps ++ dnp ∷ []) ≡ slot_after
    first dnps + (1 + dnp)
slot_more first dnps dnp = omega (arith, sum_by-append (λ n. 1 + n) dnps (dnp ∷ []))
