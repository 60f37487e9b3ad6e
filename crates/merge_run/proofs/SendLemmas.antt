-- What the merger sends of the frames that are picked.
use Rattle.std.proofs.Common.{◌≡◌, ◌≢◌, ℕ, ◌+◌, ◌≤◌, Bool, true, false, List, [], ◌∷◌, ◌++◌, length, drop}
use Rattle.std.proofs.Common.{refl, ap, sym, subst, ◌∙◌, arith, append-nil, append_assoc, length-append}
use Rattle.std.specs.List.{filter}
use Rattle.std.proofs.lemmas.Bool.{true≢false}
use Rattle.std.proofs.lemmas.List.Elements.{filter-append}
use Rattle.terms.proofs.ListLemmas.{same_front, all_of}
use Rattle.ts_packet.proofs.JoinedLemmas.{joined_append}
use Rattle.plp_config.specs.declared.config.Config.{Config}
use Rattle.t2mi_packet.specs.declared.packet.Body.{Body}
use Rattle.ts_packet.specs.TsFile.{joined}
use Rattle.terms.specs.Lists.{IsPrefix}
use Rattle.t2mi_stream.specs.Complete.{complete_units}
use Rattle.t2mi_stream.specs.CompleteLaws.{CompleteLaw}
use Rattle.t2mi_stream.specs.Pipe.{pipe}
use Rattle.t2mi_stream.proofs.CompleteLemmas.{complete_law}
use Rattle.frame_writer.proofs.UnitsLemmas.{front_then}
use Rattle.stream_laws.specs.Remade.{NumberedView, remade_packets, remade_bodies}
use Rattle.feed_merge.proofs.FrontLemmas.{packets_more, more_within}
use Rattle.feed_merge.specs.declared.merger.Merger.{Merger}
use Rattle.feed_merge.specs.declared.seen.Feed.{Feed}
use Rattle.feed_merge.specs.declared.seen.Feed.TheVariants.{A, B}
use Rattle.feed_merge.specs.Picks.{Picked, frames_of}
use Rattle.feed_merge.specs.StandsFor.{MergerStandsFor, config_of, has_finished}
use Rattle.merge_run.specs.Counted.{from_first, from_second, counted, added}
use Rattle.merge_run.specs.Sending.{BeginsAs}
use Rattle.merge_run.specs.Shown.{Sends}
use Rattle.merge_run.specs.declared.stop.MergeRan.{MergeRan}

-- ---- frames

pub frames_append : (ps qs : List Picked) → frames_of (ps ++ qs) ≡ frames_of ps ++ frames_of qs
frames_append [] qs = refl
frames_append (p ∷ ps) qs = ap (λ (l : List NumberedView). p.frame ∷ l) (frames_append ps qs)

-- ---- a frame is begun

pub sends_begun : (c : Config) (g h : Merger) (left : List Body) (frames : List NumberedView) (f : NumberedView)
    (count : ℕ)
    (gave : List ℕ) → config_of h ≡ config_of g → has_finished g ≡ false → BeginsAs g h left f
    → Sends c g [] frames count gave
    → Sends c h left (frames ++ f ∷ []) count gave
sends_begun c g h left frames f count gave config going b s =
    let more = packets_more c frames (f ∷ []) in
    record {
      network = config ∙ s.network;
      stands = subst (λ (k : Config). MergerStandsFor h left (remade_bodies k (frames ++ f ∷ [])) count) s.network
          (b.stands frames count (subst (λ (k : Config). MergerStandsFor g [] (remade_bodies k frames) count)
          (sym s.network) s.stands));
      units = s.units;
      gave_is = s.gave_is;
      count_is = s.count_is;
      front = λ later _.
          subst (λ (l : List (List ℕ)). IsPrefix s.units (pipe c.pid l))
          (sym (append_assoc (remade_packets c frames) more.0 later) ∙ ap (λ (l : List (List ℕ)). l ++ later)
          (sym more.1))
          (s.front (more.0 ++ later) (λ over. absurd (true≢false (sym over ∙ going))));
      whole = λ _.
          let l = complete_law c.pid (remade_packets c frames) more.0 in
          let size = ap length l.complete in
          let same = ap (λ (l : List (List ℕ)). length (complete_units c.pid l)) more.1 in
          let few = s.whole going in
          omega (arith, size, same, few, length-append (complete_units c.pid (remade_packets c frames)) l.others);
    }

-- ---- units are given

-- the next of all
pub sends_units : (c : Config) (g h : Merger) (was left : List Body) (frames : List NumberedView) (count : ℕ)
    (units : List (List ℕ))
    (gave now : List ℕ) → now ≡ gave ++ joined units → config_of h ≡ config_of g → has_finished h ≡ has_finished g
    → ((more : List (List ℕ)) → (has_finished g ≡ true → more ≡ [])
    → IsPrefix units (drop count (pipe c.pid (remade_packets c frames ++ more))))
    → (has_finished g ≡ false → units ≢ []
    → count + length units ≤ length (complete_units c.pid (remade_packets c frames)))
    → MergerStandsFor h left (remade_bodies c frames) (count + length units) → Sends c g was frames count gave
    → Sends c h left frames (count + length units) now
sends_units c g h was left frames count units gave now is config finished next complete stands s = record {
  network = config ∙ s.network;
  stands = stands;
  units = s.units ++ units;
  gave_is = is ∙ ap (λ (l : List ℕ). l ++ joined units) s.gave_is ∙ sym (joined_append s.units units);
  count_is = (let e = s.count_is in omega (arith, e, length-append s.units units));
  front = λ more over.
      let going : has_finished g ≡ true → more ≡ [] = λ on. over (finished ∙ on) in
      front_then s.units units (pipe c.pid (remade_packets c frames ++ more)) (s.front more going)
      (subst (λ (k : ℕ). IsPrefix units (drop k (pipe c.pid (remade_packets c frames ++ more)))) s.count_is
      (next more going));
  whole = λ off. more_within count _ units (s.whole (sym finished ∙ off)) (complete (sym finished ∙ off));
}

-- none is given
pub sends_none : (c : Config) (g h : Merger) (was left : List Body) (frames : List NumberedView) (count : ℕ)
    (gave : List ℕ)
    → config_of h ≡ config_of g → has_finished h ≡ has_finished g → MergerStandsFor h left (remade_bodies c frames)
    count
    → Sends c g was frames count gave → Sends c h left frames count (gave ++ [])
sends_none c g h was left frames count gave config finished stands s = record {
  network = config ∙ s.network;
  stands = stands;
  units = s.units;
  gave_is = append-nil gave ∙ s.gave_is;
  count_is = s.count_is;
  front = λ more over. s.front more (λ on. over (finished ∙ on));
  whole = λ off. s.whole (sym finished ∙ off);
}

-- it is finished
pub sends_over : (c : Config) (g h : Merger) (left : List Body) (frames : List NumberedView) (count : ℕ) (gave : List ℕ)
    → config_of h ≡ config_of g → has_finished g ≡ false → MergerStandsFor h left (remade_bodies c frames) count
    → Sends c g left frames count gave → Sends c h left frames count gave
sends_over c g h left frames count gave config going stands s = record {
  network = config ∙ s.network;
  stands = stands;
  units = s.units;
  gave_is = s.gave_is;
  count_is = s.count_is;
  front = λ more _. s.front more (λ on. absurd (true≢false (sym on ∙ going)));
  whole = λ _. s.whole going;
}

-- ---- what was given

pub gave_complete : CompleteLaw → (c : Config) (g : Merger) (left : List Body) (frames : List NumberedView)
    (count : ℕ) (gave : List ℕ)
    → has_finished g ≡ false → count ≡ length (complete_units c.pid (remade_packets c frames))
    → Sends c g left frames count gave
    → gave ≡ joined (complete_units c.pid (remade_packets c frames))
gave_complete law c g left frames count gave going all s =
    let p = s.front [] (λ _. refl) in
    let q = law c.pid (remade_packets c frames) [] in
    s.gave_is ∙ ap joined (same_front s.units (complete_units c.pid (remade_packets c frames)) p.0 q.rest (sym p.1
    ∙ q.units)
    (sym s.count_is ∙ all))

pub gave_all : (c : Config) (g : Merger) (left : List Body) (frames : List NumberedView) (count : ℕ) (gave : List ℕ)
    → length (pipe c.pid (remade_packets c frames)) ≡ count → Sends c g left frames count gave
    → gave ≡ joined (pipe c.pid (remade_packets c frames))
gave_all c g left frames count gave all s =
    let p = s.front [] (λ _. refl) in
    let units : pipe c.pid (remade_packets c frames) ≡ s.units ++ p.0 =
    ap (pipe c.pid) (sym (append-nil (remade_packets c frames))) ∙ p.1 in
    let none : p.0 ≡ [] = all_of s.units p.0 (ap length (sym units) ∙ all ∙ s.count_is) in
    s.gave_is ∙ ap joined (sym (units ∙ ap (λ (l : List (List ℕ)). s.units ++ l) none ∙ append-nil s.units))

-- ---- numbers

pub counted_push : (ps : List Picked) (p : Picked) (units : ℕ) → counted (ps ++ p ∷ []) units ≡ added
    (counted ps units) p.feed
counted_push ps p units = go p.feed refl
  where
    -- so many more are of a feed
    more : (test : Picked → Bool) (n : ℕ) → length (filter test (p ∷ [])) ≡ n
        → length (filter test (ps ++ p ∷ [])) ≡ length (filter test ps) + n
    more test n is =
        simp (filter-append, length-append) (ap (λ (k : ℕ). length (filter test ps) + k) is)

    made : (a b c d e f : ℕ) → a ≡ d → b ≡ e → c ≡ f
        → record { frames = a; a = b; b = c; units = units } ≡ (let r : MergeRan =
        record { frames = d; a = e; b = f; units = units } in r)
    made a b c d e f p q r = rw (p, q, r) refl

    go : (from : Feed) → p.feed ≡ from → counted (ps ++ p ∷ []) units ≡ added (counted ps units) from
    go A is = made _ _ _ _ _ _ (length-append ps (p ∷ [])) (more from_first 1 (rw is))
        (let e = more from_second 0 (rw is) in omega (arith, e))
    go B is = made _ _ _ _ _ _ (length-append ps (p ∷ [])) (let e = more from_first 0 (rw is) in omega (arith, e))
        (more from_second 1 (rw is))
