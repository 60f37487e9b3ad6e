-- What holds of two streams that were merged.
use Rattle.std.proofs.Common.{◌≡◌, ℕ, zero, suc, ◌+◌, ◌-◌, ◌<◌, ◌≤◌, true, List, [], ◌∷◌, ◌++◌, map, max, Option, Some}
use Rattle.std.proofs.Common.{None, refl, ap, ap₂, sym, ◌∙◌, arith, append-nil}
use Rattle.std.specs.Prelude.{Ok, IsSome, option_map, option_to_list}
use Rattle.std.specs.List.{flat_map, find, range_with_len}
use Rattle.std.specs.Option.{option_or}
use Rattle.std.proofs.lemmas.List.Concat.{flat_map-append}
use Rattle.std.proofs.lemmas.Option.{same_Some}
use Rattle.terms.proofs.OptionLemmas.{none_some}
use Rattle.terms.proofs.RangeLemmas.{range_append}
use Rattle.ports.specs.Desk.{State}
use Rattle.plp_config.specs.Capacity.{IsPlan}
use Rattle.plp_config.specs.declared.config.Config.{Config}
use Rattle.plp_config.specs.declared.moment.TheConstants.{MOST_FRAMES}
use Rattle.ts_packet.specs.TsFile.{joined}
use Rattle.t2mi_stream.specs.Pipe.{pipe}
use Rattle.frame_groups.specs.Modulated.{FrameRecord}
use Rattle.record_laws.specs.Frames.{frame_of}
use Rattle.open_group.specs.Written.{content_view}
use Rattle.modulator.specs.StandsFor.{records_due}
use Rattle.stream_laws.specs.Remade.{NumberedView, remade_packets, numbered}
use Rattle.stream_laws.specs.SentFrames.{run_length}
use Rattle.stream_laws.specs.Types.{TypesFit}
use Rattle.stream_laws.specs.Again.{run_frame, RunSentAgain}
use Rattle.feed_merge.specs.declared.seen.Feed.{Feed}
use Rattle.feed_merge.specs.declared.seen.Feed.TheVariants.{A, B}
use Rattle.feed_merge.specs.Laws.{PicksAreFrames}
use Rattle.feed_merge.specs.Picks.{Picked, frame_from, pick_of, picks_below, above_all, picks, frames_of}
use Rattle.feed_merge.proofs.GrowLemmas.{test, pick, nothing, below_more, above_is, all_below}
use Rattle.network_laws.specs.Merged.{merged, MergedComesBack}
use Rattle.merge_run.specs.MergeRun.{merge_work}
use Rattle.feed_merge.specs.Fed.{names_of}
use Rattle.merge_run.specs.declared.stop.MergeRan.{MergeRan}
use Rattle.file_run.specs.Work.{Ends, Into}
use Rattle.site_top.proofs.PlanCommandLemmas.{holds_of}
use Rattle.site_top.specs.MergeCommand.{picked_at, AreDamaged, ComesOfMerged, HoldsMerged, UnitsAreMerged}

-- ---- the frame that is picked of a number

from_number : (c : Config) (feed : Feed) (n : ℕ) (records : List FrameRecord) (p : Picked)
    → frame_from c feed n records ≡ Some p
    → p.frame.number ≡ n
from_number c feed n records p e = go (find (test n) records) e
  where
    go : (o : Option FrameRecord)
        → option_map (λ (x : FrameRecord). record { feed = feed; frame = numbered n (content_view c n x.content) })
        o ≡ Some p
        → p.frame.number ≡ n
    go None f = none_some p f
    go (Some x) f = sym (ap (λ (q : Picked). q.frame.number) (same_Some _ p f))

either_number : (n : ℕ) (a b : Option Picked) (p : Picked) → ((q : Picked) → a ≡ Some q → q.frame.number ≡ n)
    → ((q : Picked) → b ≡ Some q → q.frame.number ≡ n) → option_or a b ≡ Some p → p.frame.number ≡ n
either_number n None b p f g e = g p e
either_number n (Some q) b p f g e = f p e

-- Its number is that one.
pick_number : (c : Config) (ra rb : List FrameRecord) (n : ℕ) (p : Picked) → pick_of c ra rb n ≡ Some p
    → p.frame.number ≡ n
pick_number c ra rb n p e =
    either_number n (frame_from c A n ra) (frame_from c B n rb) p (λ q. from_number c A n ra q)
    (λ q. from_number c B n rb q) e

-- ---- all frames that are picked, if each below a number is and no other

one_frame : (o : Option Picked) (rest : List Picked) (f : NumberedView) (fs : List NumberedView) → IsSome o
    → ((p : Picked) → o ≡ Some p → p.frame ≡ f) → frames_of rest ≡ fs → frames_of (option_to_list o ++ rest) ≡ f ∷ fs
one_frame None rest f fs some is e = cc
one_frame (Some p) rest f fs some is e = ap₂ (λ (x : NumberedView) (xs : List NumberedView). x ∷ xs) (is p refl) e

each_frame : (pick_by : ℕ → Option Picked) (frame : ℕ → NumberedView) (count from : ℕ)
    → ((n : ℕ) → n < from + count → IsSome (pick_by n)) → ((n : ℕ) (p : Picked) → pick_by n ≡ Some p
    → p.frame ≡ frame n)
    → frames_of (flat_map (λ n. option_to_list (pick_by n)) (range_with_len from count)) ≡ map frame
    (range_with_len from count)
each_frame pick_by frame zero from some is = refl
each_frame pick_by frame (suc count) from some is =
    one_frame (pick_by from) (flat_map (λ n. option_to_list (pick_by n)) (range_with_len (from + 1) count)) (frame from)
    (map frame (range_with_len (from + 1) count)) (some from (omega arith)) (is from)
    (each_frame pick_by frame count (from + 1) (λ n below. some n (omega (arith, below))) is)

not_picked : (o : Option Picked) → ((p : Picked) → o ≡ Some p → ⊥) → option_to_list o ≡ []
not_picked None none = refl
not_picked (Some p) none = absurd (none p refl)

-- those below a number, if none from it on is picked
ends_by : (c : Config) (ra rb : List FrameRecord) (n : ℕ) → ((m : ℕ) (p : Picked) → pick_of c ra rb m ≡ Some p → m < n)
    → picks c ra rb ≡ picks_below c ra rb n
ends_by c ra rb n below =
    let end : ℕ = max n (max (above_all ra) (above_all rb)) in
    let sum : end ≡ n + (end - n) = omega arith in
    all_below c ra rb end (below_more (above_all ra) end ra (omega arith) (above_is ra))
    (below_more (above_all rb) end rb (omega arith) (above_is rb))
    ∙ ap (picks_below c ra rb) sum
    ∙ ap (flat_map (pick c ra rb)) (range_append 0 n (end - n))
    ∙ flat_map-append (pick c ra rb) (range_with_len 0 n) (range_with_len (0 + n) (end - n))
    ∙ ap (λ (l : List Picked). picks_below c ra rb n ++ l)
    (nothing (pick c ra rb) (0 + n) (end - n)
    (λ m from. not_picked (pick_of c ra rb m) (λ p e. let less = below m p e in absurd (omega (arith, from, less)))))
    ∙ append-nil (picks_below c ra rb n)

-- ---- two streams of one run

module _ (c : Config) (plan : IsPlan c) (fit : TypesFit c) (law : PicksAreFrames) (inputs : ℕ → List (List ℕ))
    (a b : List ℕ)
    (short : run_length c inputs ≤ MOST_FRAMES) (damaged : AreDamaged c inputs a b) where
  pub picked_is : (n : ℕ) (p : Picked) → picked_at c a b n ≡ Some p
      → (n < run_length c inputs) × (p.frame.view ≡ frame_of c inputs n)
  picked_is n p e =
      law c inputs (run_length c inputs) damaged.from_a damaged.from_b damaged.fates_a damaged.fates_b plan fit short
      damaged.honest_a damaged.honest_b n p (sym (ap₂ (λ (x y : List ℕ). picked_at c x y n) damaged.is_a damaged.is_b)
      ∙ e)

  frame_is : (n : ℕ) (p : Picked) → picked_at c a b n ≡ Some p → p.frame ≡ run_frame c inputs n
  frame_is n p e =
      ap₂ numbered (pick_number c (records_due c true a) (records_due c true b) n p e) (picked_is n p e).1

  pub all_frames : ((n : ℕ) → n < run_length c inputs → IsSome (picked_at c a b n))
      → merged c a b ≡ map (run_frame c inputs) (range_with_len 0 (run_length c inputs))
  all_frames some =
      ap frames_of (ends_by c (records_due c true a) (records_due c true b) (run_length c inputs)
      (λ n p e. (picked_is n p e).0))
      ∙ each_frame (picked_at c a b) (run_frame c inputs) (run_length c inputs) 0
      (λ n below. some n (omega (arith, below)))
      frame_is

pub are_merged : (c : Config) → IsPlan c → TypesFit c → MergedComesBack → PicksAreFrames → RunSentAgain
    → UnitsAreMerged c
are_merged c plan fit come law again a b bytes early_a early_b is = record {
  comes = λ spaced. ap (λ (l : List ℕ). map (λ (x : FrameRecord). content_view c x.number x.content)
      (records_due c true l)) is
      ∙ come c a b plan fit.ids early_a early_b spaced;
  honest = λ inputs short damaged. picked_is c plan fit law inputs a b short damaged;
  whole = λ inputs short damaged some. is
      ∙ ap (λ (frames : List NumberedView). joined (pipe c.pid (remade_packets c frames)))
      (all_frames c plan fit law inputs a b short damaged some)
      ∙ ap (λ (packets : List (List ℕ)). joined (pipe c.pid packets)) (again c inputs (run_length c inputs) plan);
}

-- OUT is all units of the frames that are picked.
pub holds_merged : (c : Config) (old new : State) (a b out : List ℕ) (ran : MergeRan) → UnitsAreMerged c
    → Ends (merge_work c) old new (Into out) (names_of a b) (Ok ran) → HoldsMerged c old new a b out
holds_merged c old new a b out ran law (counts, d) =
    let all = d.does.1.1 in
    holds_of (λ files bytes. ComesOfMerged c (files 0) (files 1) bytes) d
    (law (d.files 0) (d.files 1) d.bytes (all.early 0 (omega arith)) (all.early 1 (omega arith)) all.output)
