-- What is said of the records of two files, by a number: those that were given are below it, and the others are not.
use Rattle.std.proofs.Common.{◌≡◌, ℕ, ◌+◌, ◌<◌, ◌≤◌, List, [], ◌∷◌, ◌++◌, None, refl, ap, sym, ◌∙◌, arith}
use Rattle.std.specs.List.{flat_map, range_with_len}
use Rattle.std.proofs.lemmas.Bool.{ne_eqb}
use Rattle.std.proofs.lemmas.List.Concat.{flat_map-append}
use Rattle.terms.proofs.RangeLemmas.{range_append}
use Rattle.plp_config.specs.declared.config.Config.{Config}
use Rattle.terms.specs.Lists.{IsPrefix}
use Rattle.frame_groups.specs.Modulated.{FrameRecord, Numbered}
use Rattle.feed_merge.specs.Picks.{above_all}
use Rattle.feed_merge.proofs.NumberLemmas.{AllFrom, below_of}
use Rattle.compare_run.specs.Comparing.{record_at, answers_below, answers}
use Rattle.compare_run.specs.AnswerLaws.{frames_by}
use Rattle.compare_run.proofs.GrowLemmas.{listed, before_more, all_below}

pub none_above : (n m : ℕ) (records : List FrameRecord) → AllFrom n records → m < n → record_at m records ≡ None
none_above n m [] h l = refl
none_above n m (x ∷ records) h l =
    let above = h.0 in
    rw (ne_eqb x.number m (λ e. absurd (omega (arith, e, above, l)))) (none_above n m records h.1 l)

-- what is said of the frames below a greater number begins with what is said of those below a number
module _ (c : Config) (ga gb : List Numbered) where
  pub answers_front : (ra rb : List FrameRecord) (n more : ℕ)
      → IsPrefix (answers_below c (frames_by ra ga) (frames_by rb gb) n) (answers_below c (frames_by ra ga)
      (frames_by rb gb) (n + more))
  answers_front ra rb n more = (
    flat_map (listed c ga gb ra rb) (range_with_len (0 + n) more),
    ap (flat_map (listed c ga gb ra rb)) (range_append 0 n more)
        ∙ flat_map-append (listed c ga gb ra rb) (range_with_len 0 n) (range_with_len (0 + n) more),
  )

  pub answers_split : (ra la rb lb : List FrameRecord) (n : ℕ) → above_all ra ≤ n → above_all rb ≤ n
      → AllFrom n la → AllFrom n lb
      → answers_below c (frames_by (ra ++ la) ga) (frames_by (rb ++ lb) gb) n ≡ answers c (frames_by ra ga)
      (frames_by rb gb)
  answers_split ra la rb lb n a b x y =
      before_more c ga gb ra rb la lb n (λ k lt. none_above n k la x lt) (λ k lt. none_above n k lb y lt)
      ∙ sym (all_below c ga gb ra rb n (below_of n ra a) (below_of n rb b))
