-- What a swapper sends, from call to call.
use Rattle.std.proofs.Common.{◌≡◌, ℕ, ◌≢◌, ◌+◌, ◌≤◌, true, false, List, [], ◌∷◌, ◌++◌, length, drop, refl, ap, sym}
use Rattle.std.proofs.Common.{subst, ◌∙◌, arith, append-nil, append_assoc, length-append}
use Rattle.std.proofs.lemmas.Bool.{true≢false}
use Rattle.std.proofs.lemmas.Grind.{flat_map-append}
use Rattle.std.proofs.lemmas.List.{map-append}
use Rattle.terms.proofs.ListLemmas.{same_front, all_of}
use Rattle.ts_packet.proofs.JoinedLemmas.{joined_append}
use Rattle.plp_config.specs.declared.config.Config.{Config}
use Rattle.ts_packet.specs.TsFile.{joined}
use Rattle.terms.specs.Lists.{IsPrefix}
use Rattle.frame_groups.specs.Modulated.{FrameRecord}
use Rattle.t2mi_packet.specs.declared.packet.Body.{Body}
use Rattle.t2mi_stream.specs.Complete.{complete_units}
use Rattle.t2mi_stream.specs.CompleteLaws.{CompleteLaw}
use Rattle.t2mi_stream.specs.Pipe.{pipe}
use Rattle.t2mi_stream.proofs.CompleteLemmas.{complete_law}
use Rattle.stream_laws.specs.Remade.{NumberedView, remade_packets}
use Rattle.gateway_core.specs.InputSoFar.{Told, Continues}
use Rattle.feed_merge.proofs.FrontLemmas.{packets_more, more_within}
use Rattle.region_swap.specs.StandsFor.{SwapperStandsFor, status_of, has_unit}
use Rattle.region_swap.specs.Swapped.{frame_in, frames_in, swapped, swapped_frame}
use Rattle.frame_writer.proofs.UnitsLemmas.{front_then}
use Rattle.region_swap.specs.declared.swapper.Swapper.{Swapper}
use Rattle.swap_run.specs.Shown.{Sends, HasCaughtUp}

-- ---- frames of records

pub frames_append : (c : Config) (xs ys : List FrameRecord) → frames_in c (xs ++ ys) ≡ frames_in c xs ++ frames_in c ys
frames_append c xs ys = flat_map-append (λ (x : FrameRecord). frame_in c x.number x.content) xs ys

pub frames_push : (c : Config) (xs : List FrameRecord) (x : FrameRecord)
    → frames_in c (xs ++ x ∷ []) ≡ frames_in c xs ++ frame_in c x.number x.content
frames_push c xs x = frames_append c xs (x ∷ [])
    ∙ ap (λ (l : List NumberedView). frames_in c xs ++ l) (append-nil (frame_in c x.number x.content))

-- more frames have more packets behind those of the first
pub more_packets : (c : Config) (plp : ℕ) (input : List (List ℕ)) (frames more : List NumberedView)
    → IsPrefix (remade_packets c (swapped c plp input frames)) (remade_packets c (swapped c plp input (frames ++ more)))
more_packets c plp input frames more =
    let p = packets_more c (swapped c plp input frames) (swapped c plp input more) in
    (p.0, ap (remade_packets c) (map-append (swapped_frame c plp input) frames more) ∙ p.1)

-- ---- inputs that continue

pub sends_told : (c : Config) (plp : ℕ) (s q : Swapper) (t u : Told) (left rest : List Body)
    (frames : List NumberedView) (count : ℕ)
    (gave now : List ℕ) → now ≡ gave → ((input : List (List ℕ)) → Continues u input → Continues t input)
    → (status_of q).finished ≡ (status_of s).finished → SwapperStandsFor q c plp u rest frames count
    → Sends c plp s t left frames count gave → Sends c plp q u rest frames count now
sends_told c plp s q t u left rest frames count gave now same back finished stands h = record {
  stands = stands;
  units = h.units;
  gave_is = same ∙ h.gave_is;
  count_is = h.count_is;
  front = λ input cont more over. h.front input (back input cont) more (λ on. over (finished ∙ on));
  whole = λ off input cont. h.whole (sym finished ∙ off) input (back input cont);
}

pub caught_told : (c : Config) (plp : ℕ) (s q : Swapper) (t u : Told) (frames : List NumberedView) (count : ℕ)
    → ((input : List (List ℕ)) → Continues u input → Continues t input) → has_unit q ≡ has_unit s
    → HasCaughtUp c plp s t frames count → HasCaughtUp c plp q u frames count
caught_told c plp s q t u frames count back unit h = record {
  idle = unit ∙ h.idle;
  complete = λ input cont. h.complete input (back input cont);
}

-- ---- a frame is begun

pub sends_begun : (c : Config) (plp : ℕ) (s q : Swapper) (t : Told) (left : List Body) (frames : List NumberedView)
    (f : NumberedView)
    (count : ℕ) (gave : List ℕ) → (status_of s).finished ≡ false → SwapperStandsFor q c plp t left (frames ++ f ∷ [])
    count
    → Sends c plp s t [] frames count gave → Sends c plp q t left (frames ++ f ∷ []) count gave
sends_begun c plp s q t left frames f count gave going stands h = record {
  stands = stands;
  units = h.units;
  gave_is = h.gave_is;
  count_is = h.count_is;
  front = λ input cont later _.
      let more = more_packets c plp input frames (f ∷ []) in
      subst (λ (l : List (List ℕ)). IsPrefix h.units (pipe c.pid l))
      (sym (append_assoc (remade_packets c (swapped c plp input frames)) more.0 later)
      ∙ ap (λ (l : List (List ℕ)). l ++ later) (sym more.1))
      (h.front input cont (more.0 ++ later) (λ over. absurd (true≢false (sym over ∙ going))));
  whole = λ _ input cont.
      let more = more_packets c plp input frames (f ∷ []) in
      let l = complete_law c.pid (remade_packets c (swapped c plp input frames)) more.0 in
      let size = ap length l.complete in
      let same = ap (λ (l : List (List ℕ)). length (complete_units c.pid l)) more.1 in
      let few = h.whole going input cont in
      omega (
        arith,
        size,
        same,
        few,
        length-append
            (complete_units c.pid (remade_packets c (swapped c plp input frames))) l.others,
      );
}

-- ---- units

pub sends_units : (c : Config) (plp : ℕ) (s q : Swapper) (t : Told) (left rest : List Body) (frames : List NumberedView)
    (count : ℕ)
    (units : List (List ℕ)) (gave now : List ℕ) → now ≡ gave ++ joined units
    → (status_of q).finished ≡ (status_of s).finished
    → ((input : List (List ℕ)) → Continues t input → (more : List (List ℕ))
    → ((status_of s).finished ≡ true → more ≡ [])
    → IsPrefix units (drop count (pipe c.pid (remade_packets c (swapped c plp input frames) ++ more))))
    → ((status_of s).finished ≡ false → units ≢ [] → (input : List (List ℕ)) → Continues t input
    → count + length units ≤ length (complete_units c.pid (remade_packets c (swapped c plp input frames))))
    → SwapperStandsFor q c plp t rest frames (count + length units) → Sends c plp s t left frames count gave
    → Sends c plp q t rest frames (count + length units) now
sends_units c plp s q t left rest frames count units gave now is finished next complete stands h = record {
  stands = stands;
  units = h.units ++ units;
  gave_is = is ∙ ap (λ (l : List ℕ). l ++ joined units) h.gave_is ∙ sym (joined_append h.units units);
  count_is = (let e = h.count_is in omega (arith, e, length-append h.units units));
  front = λ input cont more over.
      let going : (status_of s).finished ≡ true → more ≡ [] = λ on. over (finished ∙ on) in
      front_then h.units units (pipe c.pid (remade_packets c (swapped c plp input frames) ++ more))
      (h.front input cont more going)
      (subst (λ (k : ℕ). IsPrefix units (drop k (pipe c.pid (remade_packets c (swapped c plp input frames) ++ more))))
      h.count_is
      (next input cont more going));
  whole = λ off input cont.
      more_within count _ units (h.whole (sym finished ∙ off) input cont) (λ some. complete (sym finished
      ∙ off) some input cont);
}

-- all complete units, as bytes
pub gave_complete : CompleteLaw → (c : Config) (plp : ℕ) (s : Swapper) (t : Told) (left : List Body)
    (frames : List NumberedView)
    (count : ℕ) (gave : List ℕ) (input : List (List ℕ)) → Continues t input → (status_of s).finished ≡ false
    → count ≡ length (complete_units c.pid (remade_packets c (swapped c plp input frames)))
    → Sends c plp s t left frames count gave
    → gave ≡ joined (complete_units c.pid (remade_packets c (swapped c plp input frames)))
gave_complete law c plp s t left frames count gave input cont going all h =
    let packets : List (List ℕ) = remade_packets c (swapped c plp input frames) in
    let p = h.front input cont [] (λ over. absurd (true≢false (sym over ∙ going))) in
    let l = law c.pid packets [] in
    h.gave_is ∙ ap joined (same_front h.units (complete_units c.pid packets) p.0 l.rest (sym p.1 ∙ l.units)
    (sym h.count_is ∙ all))

pub gave_all : (c : Config) (plp : ℕ) (s : Swapper) (t : Told) (left : List Body) (frames : List NumberedView)
    (count : ℕ) (gave : List ℕ)
    (input : List (List ℕ)) → Continues t input → length (pipe c.pid (remade_packets c (swapped c plp input frames)))
    ≡ count
    → Sends c plp s t left frames count gave
    → gave ≡ joined (pipe c.pid (remade_packets c (swapped c plp input frames)))
gave_all c plp s t left frames count gave input cont all h =
    let packets : List (List ℕ) = remade_packets c (swapped c plp input frames) in
    let p = h.front input cont [] (λ _. refl) in
    let units : pipe c.pid packets ≡ h.units ++ p.0 = ap (pipe c.pid) (sym (append-nil packets)) ∙ p.1 in
    let none : p.0 ≡ [] = all_of h.units p.0 (ap length (sym units) ∙ all ∙ h.count_is) in
    h.gave_is ∙ ap joined (sym (units ∙ ap (λ (l : List (List ℕ)). h.units ++ l) none ∙ append-nil h.units))

-- it is finished
pub sends_over : (c : Config) (plp : ℕ) (s q : Swapper) (t : Told) (left : List Body) (frames : List NumberedView)
    (count : ℕ)
    (gave : List ℕ) → (status_of s).finished ≡ false → SwapperStandsFor q c plp t left frames count
    → Sends c plp s t left frames count gave → Sends c plp q t left frames count gave
sends_over c plp s q t left frames count gave going stands h = record {
  stands = stands;
  units = h.units;
  gave_is = h.gave_is;
  count_is = h.count_is;
  front = λ input cont more _. h.front input cont more (λ on. absurd (true≢false (sym on ∙ going)));
  whole = λ _. h.whole going;
}
