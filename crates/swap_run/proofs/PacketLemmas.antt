-- What was taken of the input of the region, event by event.
use Rattle.std.proofs.Common.{◌≡◌, ◌≢◌, ◌⊎◌, ℕ, ◌+◌, ◌<◌, ◌≤◌, Bool, true, false, List, [], ◌∷◌, ◌++◌, length, refl, ap}
use Rattle.std.proofs.Common.{sym, subst, ◌∙◌, arith, append-nil, append_assoc, length-append}
use Rattle.std.specs.Prelude.{slice_index}
use Rattle.std.proofs.lemmas.Bool.{true≢false}
use Rattle.terms.proofs.CaseLemmas.{bool_cases}
use Rattle.ts_packet.proofs.JoinedLemmas.{joined_push, joined_append}
use Rattle.ts_packet.specs.TsFile.{joined, begins_with_packet, packets_in, HasBad, ArePackets}
use Rattle.ts_packet.specs.declared.sizes.TheConstants.{SIZE, SYNC}
use Rattle.file_run.specs.FileRun.{IsFed}
use Rattle.gateway_core.specs.InputSoFar.{Told, with_packet, at_end, Continues}
use Rattle.ts_packet.proofs.FileLemmas.{packets_push, IsRead, taken_few, taken_all, none_bad, not_wanted, next_bad}
use Rattle.ts_packet.proofs.FileLemmas.{NextIsBad, still_bad}
use Rattle.gateway_core.proofs.FileLemmas.{continues}
use Rattle.swap_run.specs.Shown.{ReadsPackets}

-- ---- one packet more, or the end

-- a packet is taken
reads_push : (bytes now p : List ℕ) (ended is : Bool) (t u : Told) (rest more : List (List ℕ)) (tail : List ℕ)
    (taken : ℕ) (over : Bool)
    → now ≡ bytes ++ p → is ≡ ended → u.packets ++ more ≡ (t.packets ++ rest) ++ p ∷ [] → tail ≡ []
    → u.ended ≡ false → length p ≡ SIZE → slice_index p 0 ≡ SYNC
    → ReadsPackets bytes ended t rest tail taken over → ReadsPackets now is u more tail (taken + 1) over
reads_push bytes now p ended is t u rest more tail taken over e f new whole off long sync r = record {
  parts = rw (e, r.parts, new, joined_push (t.packets ++ rest) p, whole, append-nil (joined (t.packets ++ rest)))
      (sym (append-nil _));
  each = subst ArePackets (sym new) (packets_push (t.packets ++ rest) p r.each long sync);
  count = (let n = r.count in let b = ap length new in omega (arith, n, b, length-append (t.packets ++ rest) (p ∷ [])));
  end = λ z. f ∙ r.end z;
  told = λ on. absurd (true≢false (sym on ∙ off));
}

-- and offered
pub reads_offer : (bytes now p : List ℕ) (ended is : Bool) (t : Told) (rest : List (List ℕ)) (tail : List ℕ)
    (taken : ℕ) (over : Bool)
    → now ≡ bytes ++ p → is ≡ ended → rest ≡ [] → tail ≡ [] → t.ended ≡ false → length p ≡ SIZE → slice_index p 0 ≡ SYNC
    → ReadsPackets bytes ended t rest tail taken over → ReadsPackets now is (with_packet t p) rest tail (taken + 1) over
reads_offer bytes now p ended is t rest tail taken over e f none =
    reads_push bytes now p ended is t (with_packet t p) rest rest tail taken over e f
    (rw none (append-nil (t.packets ++ p ∷ []) ∙ ap (λ (l : List (List ℕ)). l ++ p ∷ []) (sym (append-nil t.packets))))

-- or not
pub reads_drain : (bytes now p : List ℕ) (ended is : Bool) (t : Told) (rest : List (List ℕ)) (tail : List ℕ)
    (taken : ℕ) (over : Bool)
    → now ≡ bytes ++ p → is ≡ ended → tail ≡ [] → over ≡ false → length p ≡ SIZE → slice_index p 0 ≡ SYNC
    → ReadsPackets bytes ended t rest tail taken over → ReadsPackets now is t (rest ++ p ∷ []) tail (taken + 1) over
reads_drain bytes now p ended is t rest tail taken over e f whole off long sync r =
    reads_push bytes now p ended is t t rest (rest ++ p ∷ []) tail taken over e f
    (sym (append_assoc t.packets rest (p ∷ []))) whole
    (bool_cases t.ended (λ on. absurd (true≢false (sym (r.told on).0 ∙ off))) (λ open_still. open_still)) long sync r

-- a tail came
pub reads_tail : (bytes now p : List ℕ) (ended is : Bool) (t : Told) (rest : List (List ℕ)) (tail : List ℕ)
    (taken : ℕ) (over : Bool)
    → now ≡ bytes ++ p → tail ≡ [] → p ≢ [] → over ≡ false → ReadsPackets bytes ended t rest tail taken over
    → ReadsPackets now is t rest p taken over
reads_tail bytes now p ended is t rest tail taken over e whole some off r = record {
  parts = e ∙ ap (λ (l : List ℕ). l ++ p) (r.parts ∙ ap (λ (l : List ℕ). joined (t.packets ++ rest) ++ l) whole
      ∙ append-nil (joined (t.packets ++ rest)));
  each = r.each;
  count = r.count;
  end = λ z. absurd (some z);
  told = λ on. absurd (true≢false (sym (r.told on).0 ∙ off));
}

-- the input ended behind whole packets, for the swapper or not
pub reads_end : (bytes now : List ℕ) (ended : Bool) (t : Told) (rest : List (List ℕ)) (tail : List ℕ)
    (taken : ℕ) (over : Bool)
    → now ≡ bytes → rest ≡ [] → tail ≡ [] → ReadsPackets bytes ended t rest tail taken over
    → ReadsPackets now true (at_end t) rest tail taken true
reads_end bytes now ended t rest tail taken over e none whole r = record {
  parts = e ∙ r.parts;
  each = r.each;
  count = r.count;
  end = λ _. refl;
  told = λ _. (refl, none, whole);
}

pub reads_over : (bytes now : List ℕ) (ended : Bool) (t : Told) (rest : List (List ℕ)) (tail : List ℕ)
    (taken : ℕ) (over : Bool)
    → now ≡ bytes → tail ≡ [] → over ≡ false → ReadsPackets bytes ended t rest tail taken over
    → ReadsPackets now true t rest tail taken true
reads_over bytes now ended t rest tail taken over e whole off r = record {
  parts = e ∙ r.parts;
  each = r.each;
  count = r.count;
  end = λ _. refl;
  told = λ on. absurd (true≢false (sym (r.told on).0 ∙ off));
}

-- nothing came
pub reads_same : (bytes now : List ℕ) (ended is : Bool) (t : Told) (rest : List (List ℕ)) (tail : List ℕ)
    (taken : ℕ) (over : Bool)
    → now ≡ bytes → is ≡ ended → ReadsPackets bytes ended t rest tail taken over
    → ReadsPackets now is t rest tail taken over
reads_same bytes now ended is t rest tail taken over e f r = rw (e, f) r

pub front_empty : (xs ys : List ℕ) → xs ++ ys ≡ [] → xs ≡ []
front_empty [] ys e = refl
front_empty (x ∷ xs) ys e = absurd (let n = ap length e in omega (arith, n))

-- ---- what is known of the file

module _ (file : List ℕ) (place : ℕ) (bytes : List ℕ) (ended : Bool) (fed : IsFed file place bytes ended) (t : Told)
    (rest : List (List ℕ)) (tail : List ℕ) (taken : ℕ) (over : Bool) (r : ReadsPackets bytes ended t
    rest tail taken over) where
  -- with all that was taken
  pub all_read : (e : Bool) → (e ≡ true → (over ≡ true) × (tail ≡ []))
      → IsRead file (t.packets ++ rest) e (tail ++ fed.more)
  all_read e ends = record {
    parts = fed.parts ∙ ap (λ (l : List ℕ). l ++ fed.more) r.parts ∙ append_assoc (joined (t.packets ++ rest))
        tail fed.more;
    each = r.each;
    end = λ on.
        let x = ends on in
        ap (λ (l : List ℕ). l ++ fed.more) x.1 ∙ fed.end (r.end x.1 ∙ x.0);
  }

  -- with what was offered
  rest_front : (e : Bool) → (e ≡ true → (over ≡ true) × (rest ≡ []) × (tail ≡ []))
      → IsRead file t.packets e (joined rest ++ (tail ++ fed.more))
  rest_front e ends = record {
    parts = fed.parts ∙ ap (λ (l : List ℕ). l ++ fed.more) r.parts ∙ append_assoc (joined (t.packets ++ rest))
        tail fed.more
        ∙ ap (λ (l : List ℕ). l ++ (tail ++ fed.more)) (joined_append t.packets rest)
        ∙ append_assoc (joined t.packets) (joined rest) (tail ++ fed.more);
    each = front_packets t.packets rest r.each;
    end = λ on.
        let x = ends on in
        ap (λ (l : List (List ℕ)). joined l ++ (tail ++ fed.more)) x.1 ∙ ap (λ (l : List ℕ). l ++ fed.more) x.2
        ∙ fed.end (r.end x.2 ∙ x.0);
  }
    where
      front_packets : (xs ys : List (List ℕ)) → ArePackets (xs ++ ys) → ArePackets xs
      front_packets [] ys h = tt
      front_packets (x ∷ xs) ys h = (h.0, front_packets xs ys h.1)

  -- so the packets of the file continue what the swapper was told
  pub file_continues : Continues t (packets_in file)
  file_continues = continues file t.packets t.ended _ t.frame (rest_front t.ended r.told)

  -- no frame wants a bad packet of which all packets were there
  pub none_wanted : (slots : ℕ) → (t.ended ≡ false → slots ≤ length t.packets)
      → ¬ (HasBad file × length (packets_in file) < slots)
  none_wanted slots had = not_wanted file t.packets t.ended _ slots (rest_front t.ended r.told) had

  -- as many packets are there as were taken
  pub few_taken : length (t.packets ++ rest) ≤ length (packets_in file)
  few_taken = taken_few file (t.packets ++ rest) false _
      (all_read false (λ on. absurd (let z : false ≡ true = on in cc)))

  -- and if it ended, no others
  pub all_taken : over ≡ true → tail ≡ [] → packets_in file ≡ t.packets ++ rest
  all_taken on whole = taken_all file (t.packets ++ rest) _ (all_read true (λ _. (on, whole)))

  pub nothing_bad : over ≡ true → tail ≡ [] → ¬ (HasBad file)
  nothing_bad on whole = none_bad file (t.packets ++ rest) _ (all_read true (λ _. (on, whole)))

  -- the next packet is bad
  pub bad_next : tail ≢ [] → begins_with_packet tail ≡ false → (slice_index tail 0 ≢ SYNC) ⊎ (ended ≡ true)
      → NextIsBad file (t.packets ++ rest)
  bad_next some bad cut =
      next_bad file (t.packets ++ rest) false (tail ++ fed.more)
      (all_read false (λ on. absurd (let z : false ≡ true = on in cc)))
      (λ z. some (front_empty tail fed.more z)) (still_bad tail fed.more ended some bad cut fed.end)
