use Rattle.std.proofs.Common.{◌≡◌, ◌⊎◌, ◌<◌, ◌+◌, ◌++◌, ◌∙◌, ℕ, List, false, take, ap, sym, subst, inl, inr, ⊎_elim}
use Rattle.std.proofs.Common.{arith, rules, length-drop}
use Rattle.std.proofs.lemmas.List.{take_rest}
use Rattle.std.proofs.lemmas.Bool.{true≢false}
use Rattle.plp_config.specs.declared.moment.TheConstants.{MOST_FRAMES}
use Rattle.t2mi_stream.specs.UnpiperStandsFor.{fed_len}
use Rattle.modulator.specs.Modulating.{StandsAt, Stream, stream_of, has_record}
use Rattle.modulator.proofs.StandsLemmas.{piece_on, front_on}
use Rattle.modulator.proofs.modulating.Modulating.feed.Goals as goal

-- the number of the next record, over two steps
next_on : (a b c : ℕ) → (c ≡ b) ⊎ (c < MOST_FRAMES) → (b ≡ a) ⊎ (b < MOST_FRAMES) → (c ≡ a) ⊎ (c < MOST_FRAMES)
next_on a b c second first = ⊎_elim
    (λ (same : c ≡ b).
    ⊎_elim (λ (e : b ≡ a). inl (same ∙ e)) (λ (small : b < MOST_FRAMES). inr (omega (arith, same, small))) first)
    (λ (small : c < MOST_FRAMES). inr small)
    second

pub loop-count-preserved : goal.loop-count-preserved
loop-count-preserved c =
    let i = c.loop-count.invariant in
    let s = c.feed_some-count.ensures in
    let old = c.args.self.now in
    let mid = c.loop-count.self in
    let new = c.feed_some-count.new.self in
    let w : has_record mid ≡ false = search rules in
    let n = length-drop c.loop-count.count c.args.piece.now in
    let stream = ap (λ (k : Stream). record k { fed = k.fed + c.feed_some-count.result }) i.stream in
    let fed : (fed_len old.unpiper + c.loop-count.count) + c.feed_some-count.result
    ≡ fed_len old.unpiper + (c.loop-count.count + c.feed_some-count.result) = omega arith in
    record {
      stands = λ bytes given h.
          subst (λ (l : List ℕ). StandsAt new l given)
          (ap (λ (l : List ℕ). (bytes ++ take c.loop-count.count c.args.piece.now) ++ take c.feed_some-count.result l)
          (take_rest c.args.piece.now c.loop-count.count)
          ∙ piece_on bytes c.args.piece.now c.loop-count.count c.feed_some-count.result)
          (s.stands (bytes ++ take c.loop-count.count c.args.piece.now) given (i.stands bytes given h));
      front = λ k l bytes given h.
          front_on old.sequence.group.network mid.sequence.group.network bytes c.args.piece.now
          given c.loop-count.count c.feed_some-count.result k (ap (λ (k : Stream). k.network) i.stream) i.inside
          (λ k a. i.front k a bytes given h)
          (λ j a. s.first w j a (bytes ++ take c.loop-count.count c.args.piece.now) given (i.stands bytes given h)) l;
      inside = search rules;
      next = next_on old.sequence.progress.next mid.sequence.progress.next new.sequence.progress.next s.next i.next;
      settled = record {
        done = s.done;
        ended = λ f. absurd (true≢false (sym f ∙ ap (λ (k : Stream). k.finished) (s.stream ∙ stream)
            ∙ c.requires.«open»));
        near = s.near;
      };
      stream = s.stream ∙ stream ∙ ap (λ (n : ℕ). record (stream_of old) { fed = n }) fed;
      intact = λ _. s.intact w;
      same = λ e. absurd (omega (arith, e, s.inside.0));
      first = λ e. absurd (true≢false (sym e ∙ sym (i.same (i.first e)) ∙ w));
    }
