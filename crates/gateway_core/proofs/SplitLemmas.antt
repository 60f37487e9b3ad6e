-- What came of the inputs, and what went on of it.
use Rattle.std.proofs.Common.{◌≡◌, ◌≢◌, ◌⊎◌, ℕ, zero, suc, ◌+◌, ◌<◌, ◌≤◌, Bool, true, false, inl, inr, List, [], ◌∷◌}
use Rattle.std.proofs.Common.{◌++◌, length, take, drop, Some, None, refl, ap, sym, subst, ◌∙◌, arith, append-nil}
use Rattle.std.proofs.Common.{length-append, ⊎_elim, get_or}
use Rattle.std.specs.Prelude.{slice_get}
use Rattle.std.specs.declared.option.Option.{Option}
use Rattle.std.proofs.lemmas.Bool.{cases_eq, cases_lt, true≢false}
use Rattle.std.proofs.lemmas.List.{take-append-drop, take-append-le, drop_all}
use Rattle.std.proofs.lemmas.Option.{slice_get-get_or}
use Rattle.terms.proofs.CaseLemmas.{bool_cases}
use Rattle.terms.proofs.OptionLemmas.{none_some}
use Rattle.plp_config.specs.declared.config.Config.{Config}
use Rattle.common_plp.specs.Groups.{is_common, group_of}
use Rattle.common_plp.specs.Split.{group_streams, split, longest}
use Rattle.common_plp.proofs.LawLemmas.{split_length}
use Rattle.gateway_core.specs.InputSoFar.{Told, Continues}
use Rattle.gateway_core.specs.Order.{IsInput, turn_of, is_member}
use Rattle.gateway_core.specs.Slots.{held_at}
use Rattle.gateway_core.specs.Splitting.{IsSplit, SplitsAt, Splits}
use Rattle.gateway_core.proofs.MemberLemmas.{front_decided, member_input, self_member, alone_is, alone_same, of_common}
use Rattle.gateway_core.proofs.MemberLemmas.{longest_few}

-- ---- inputs that go on

-- the first slots of an input, if they came or it ended
front_same : (t : Told) (input : List (List ℕ)) (n : ℕ) → Continues t input → (n ≤ length t.packets) ⊎ (t.ended ≡ true)
    → take n input ≡ take n t.packets
front_same t input n k (inl le) = ap (take n) k.front ∙ take-append-le n t.packets k.rest le
front_same t input n k (inr on) =
    ap (take n) (k.front ∙ ap (λ (l : List (List ℕ)). t.packets ++ l) (k.whole on) ∙ append-nil t.packets)

input_is : (t : Told) (input : List (List ℕ)) → Continues t input → t.ended ≡ true → input ≡ t.packets
input_is t input k on = k.front ∙ ap (λ (l : List (List ℕ)). t.packets ++ l) (k.whole on) ∙ append-nil t.packets

abbrev pub told_as : (ℕ → List (List ℕ)) → (ℕ → Bool) → ℕ → ℕ → Told
told_as came over frame plp = record { packets = came plp; ended = over plp; frame = frame }

-- what a PLP was given is the front of its stream, whatever follows
given_front : (c : Config) (came inputs : ℕ → List (List ℕ)) (over : ℕ → Bool) (gave : List (List ℕ))
    (closed : Bool) (plp frame : ℕ)
    → plp < length c.plps → IsSplit c came over gave closed plp
    → ((q : ℕ) → IsInput c q → Continues (told_as came over frame q) (inputs q))
    → take (length gave) (split c inputs plp) ≡ gave
given_front c came inputs over gave closed plp frame inside s k =
    front_decided c inputs came plp (length gave) inside
    (λ q lt member. front_same (told_as came over frame q) (inputs q) (length gave)
    (k q (member_input c (turn_of c plp) q lt member))
    (s.settled q lt member))
    ∙ sym s.front

-- a stream that was closed has no more
pub closed_length : (c : Config) (came inputs : ℕ → List (List ℕ)) (over : ℕ → Bool) (gave : List (List ℕ))
    (closed : Bool) (plp frame : ℕ)
    → plp < length c.plps → IsSplit c came over gave closed plp
    → ((q : ℕ) → IsInput c q → Continues (told_as came over frame q) (inputs q)) → closed ≡ true
    → length (split c inputs plp) ≤ length gave
closed_length c came inputs over gave closed plp frame inside s k on =
    let size = split_length c inputs plp in
    let few : (q : ℕ) → q < length c.plps → is_member c plp q ≡ true → length (inputs q) ≤ length gave = λ q lt member.
    (let w = s.whole on q lt member in
    let e = ap length (input_is (told_as came over frame q) (inputs q) (k q (member_input c plp q lt member)) w.0) in
    let l = w.1 in omega (arith, e, l)) in
    bool_cases (is_common c plp)
    (λ common.
    let all = longest_few c inputs (group_of c plp) (length gave)
    (λ q lt own. few q lt (of_common c plp q common own)) in
    let here : length (split c inputs plp) ≡ longest (group_streams c inputs (group_of c plp)) = size
    ∙ rw common refl in
    omega (arith, all, here))
    (λ own.
    let all = few plp inside (alone_is c plp own) in
    let here : length (split c inputs plp) ≡ length (inputs plp) = size ∙ rw own refl in
    omega (arith, all, here))

pub goes_on : (c : Config) (came inputs : ℕ → List (List ℕ)) (over : ℕ → Bool) (t : Told) (plp frame : ℕ)
    → plp < length c.plps → IsSplit c came over t.packets t.ended plp
    → ((q : ℕ) → IsInput c q → Continues (told_as came over frame q) (inputs q))
    → Continues t (split c inputs plp)
goes_on c came inputs over t plp frame inside s k =
    let n : ℕ = length t.packets in
    record {
      rest = drop n (split c inputs plp);
      front = sym (take-append-drop n (split c inputs plp))
          ∙ ap (λ (l : List (List ℕ)). l ++ drop n (split c inputs plp)) (given_front c came inputs over
          t.packets t.ended plp frame inside s k);
      whole = λ on. drop_all n (split c inputs plp) (closed_length c came inputs over t.packets t.ended
          plp frame inside s k on);
    }

-- ---- one packet more comes, or an input ends

pub past_none : (xs : List (List ℕ)) (n : ℕ) → slice_get xs n ≡ None → length xs ≤ n
past_none xs n e = ⊎_elim (λ (lt : n < length xs). absurd (none_some {P = ⊥} (get_or xs n []) (sym e
    ∙ slice_get-get_or xs n [] lt)))
    (λ (le : length xs ≤ n). le) (cases_lt n (length xs))

-- an input of which nothing is held, and which did not end, has as many as went on
pub none_held : {c : Config} {at : ℕ → ℕ} {held : List (Option (List ℕ))} {came : ℕ → List (List ℕ)} {over : ℕ → Bool}
    {gave : ℕ → List (List ℕ)} {closed : ℕ → Bool} (plp : ℕ) → SplitsAt c at held came over gave closed → IsInput c plp
    → held_at held plp ≡ None → over plp ≡ false → length (came plp) ≡ length (gave plp)
none_held {c} {came = came} {gave = gave} plp s i none going =
    let least = past_none (came plp) (length (gave plp)) (sym (s.held_is plp i) ∙ none) in
    elim ((s.each plp i.0).settled plp i.0 (self_member c plp i)) [
      | inl le ↦ omega (arith, least, le)
      | inr on ↦ absurd (true≢false (sym on ∙ going))
    ]

last_is : (xs : List (List ℕ)) (x : List ℕ) (n : ℕ) → length xs ≡ n → slice_get (xs ++ x ∷ []) n ≡ Some x
last_is [] x zero e = refl
last_is [] x (suc n) e = absurd (omega (arith, e))
last_is (y ∷ xs) x zero e = absurd (omega (arith, e))
last_is (y ∷ xs) x (suc n) e = last_is xs x n (omega (arith, e))

-- of two places one case each
pub at_or : (P : ℕ → Type 0) (plp k : ℕ) → (k ≡ plp → P k) → (k ≢ plp → P k) → P k
at_or P plp k here other = elim (cases_eq k plp) [ inl e ↦ here e | inr d ↦ other d ]

pub packet_came : {c : Config} {held next : List (Option (List ℕ))} {came more : ℕ → List (List ℕ)} {over still : ℕ
    → Bool}
    {gave : ℕ → List (List ℕ)} {closed : ℕ → Bool} (plp : ℕ) (packet : List ℕ) → Splits c held came over gave closed
    → IsInput c plp
    → held_at held plp ≡ None → over plp ≡ false → more plp ≡ came plp ++ packet ∷ []
    → ((k : ℕ) → k ≢ plp → more k ≡ came k)
    → ((k : ℕ) → still k ≡ over k) → held_at next plp ≡ Some packet
    → ((k : ℕ) → k ≢ plp → held_at next k ≡ held_at held k)
    → Splits c next more still gave closed
packet_came {c = c} {next = next} {came = came} {more = more} {over = over}
    {gave = gave} plp packet s i none going one others same here apart =
    let count = none_held plp s i none going in
    let grown : length (more plp) ≡ length (came plp) + 1 = ap length one ∙ length-append (came plp) (packet ∷ []) in
    let least : (k : ℕ) → length (came k) ≤ length (more k) = λ k. at_or (λ k. length (came k) ≤ length (more k)) plp k
    (λ e. subst (λ (j : ℕ). length (came j) ≤ length (more j)) (sym e) (omega (arith, grown)))
    (λ d. let n = ap length (others k d) in omega (arith, n)) in
    record {
      each = λ p lt. let e = s.each p lt in record {
        settled = λ q inside member. elim (e.settled q inside member) [
          | inl le ↦ inl (let l = least q in omega (arith, le, l))
          | inr on ↦ inr (same q ∙ on)
        ];
        front = e.front ∙ front_decided c came more p (length (gave p)) lt (λ q inside member.
            at_or (λ q. take (length (gave p)) (came q) ≡ take (length (gave p)) (more q)) plp q
            (λ is. elim (e.settled q inside member) [
              | inl le ↦ sym (ap (take (length (gave p))) (ap more is ∙ one
                  ∙ ap (λ (l : List (List ℕ)). l ++ packet ∷ []) (ap came (sym is)))
                  ∙ take-append-le (length (gave p)) (came q) (packet ∷ []) le)
              | inr on ↦ absurd (true≢false (sym on ∙ ap over is ∙ going))
            ])
            (λ d. ap (take (length (gave p))) (sym (others q d))));
        whole = λ on q inside member. let w = e.whole on q inside member in (
          same q ∙ w.0,
          (let n = ap length (others q (λ is. true≢false (sym w.0 ∙ ap over is ∙ going))) in
              let l = w.1 in omega (arith, n, l)),
        );
      };
      closed_is = λ k input. s.closed_is k input ∙ sym (same k);
      held_is = λ k input. at_or (λ k. held_at next k ≡ slice_get (more k) (length (gave k))) plp k
          (λ e. subst (λ (j : ℕ). held_at next j ≡ slice_get (more j) (length (gave j))) (sym e)
          (here ∙ sym (ap (λ (l : List (List ℕ)). slice_get l (length (gave plp))) one
          ∙ last_is (came plp) packet (length (gave plp)) count)))
          (λ d. apart k d ∙ s.held_is k input ∙ ap (λ (l : List (List ℕ)). slice_get l (length (gave k)))
          (sym (others k d)));
      few = λ k input. at_or (λ k. length (more k) ≤ length (gave k) + 1) plp k
          (λ e. subst (λ (j : ℕ). length (more j) ≤ length (gave j) + 1) (sym e) (omega (arith, grown, count)))
          (λ d. let n = ap length (others k d) in let f = s.few k input in omega (arith, n, f));
      behind = s.behind;
      step = λ k input off. s.step k input (sym (same k) ∙ off);
    }

pub input_ended : {c : Config} {held : List (Option (List ℕ))} {came more : ℕ → List (List ℕ)} {over now : ℕ → Bool}
    {gave : ℕ → List (List ℕ)} {closed shut : ℕ → Bool} (plp : ℕ) → Splits c held came over gave closed → IsInput c plp
    → held_at held plp ≡ None → over plp ≡ false → ((k : ℕ) → more k ≡ came k)
    → now plp ≡ true → ((k : ℕ) → k ≢ plp → now k ≡ over k) → shut plp ≡ true → ((k : ℕ) → k ≢ plp → shut k ≡ closed k)
    → Splits c held more now gave shut
input_ended {c = c} {came = came} {more = more} {over = over} {now = now} {gave = gave}
    {shut = shut} plp s i none going same on others off apart =
    let count = none_held plp s i none going in
    let later : (k : ℕ) → over k ≡ true → now k ≡ true = λ k is. at_or (λ k. now k ≡ true) plp k
    (λ e. ap now e ∙ on) (λ d. others k d ∙ is) in
    let size : (k : ℕ) → length (more k) ≡ length (came k) = λ k. ap length (same k) in
    record {
      each = λ p lt. let e = s.each p lt in record {
        settled = λ q inside member. elim (e.settled q inside member) [
          | inl le ↦ inl (let n = size q in omega (arith, le, n))
          | inr is ↦ inr (later q is)
        ];
        front = e.front ∙ front_decided c came more p (length (gave p)) lt
            (λ q inside member. ap (take (length (gave p))) (sym (same q)));
        whole = λ is q inside member. elim (cases_eq p plp) [
          | inl here ↦
              let it : q ≡ plp = alone_same c p q (ap (is_common c) here ∙ i.1) member ∙ here in (
                ap now it ∙ on,
                (let n = size q in let a = ap (λ (k : ℕ). length (came k)) it in
                    let b = ap (λ (k : ℕ). length (gave k)) here in omega (arith, n, a, b, count)),
              )
          | inr d ↦ let w = e.whole (sym (apart p d) ∙ is) q inside member in
              (later q w.0, (let n = size q in let l = w.1 in omega (arith, n, l)))
        ];
      };
      closed_is = λ k input. at_or (λ k. shut k ≡ now k) plp k
          (λ e. ap shut e ∙ off ∙ sym (ap now e ∙ on)) (λ d. apart k d ∙ s.closed_is k input ∙ sym (others k d));
      held_is = λ k input. s.held_is k input ∙ ap (λ (l : List (List ℕ)). slice_get l (length (gave k))) (sym (same k));
      few = λ k input. (let f = s.few k input in let n = size k in omega (arith, f, n));
      behind = s.behind;
      step = λ k input going. s.step k input (bool_cases (over k) (λ is. absurd (true≢false (sym (later k is) ∙ going)))
          (λ f. f));
    }

-- the same in four functions
pub splits_as : {c : Config} {held : List (Option (List ℕ))} {came more : ℕ → List (List ℕ)} {over now : ℕ → Bool}
    {gave sent : ℕ → List (List ℕ)} {closed shut : ℕ → Bool} → ((k : ℕ) → more k ≡ came k) → ((k : ℕ) → now k ≡ over k)
    → ((k : ℕ) → sent k ≡ gave k) → ((k : ℕ) → shut k ≡ closed k) → Splits c held came over gave closed
    → Splits c held more now sent shut
splits_as {came = came} {more = more} {over = over} {now = now} {gave = gave} {sent = sent} {closed = closed}
    {shut = shut}
    a b d e s =
    let pa : more ≡ came = λ i k. a k i in
    let pb : now ≡ over = λ i k. b k i in
    let pd : sent ≡ gave = λ i k. d k i in
    let pe : shut ≡ closed = λ i k. e k i in
    rw (pa, pb, pd, pe) s
