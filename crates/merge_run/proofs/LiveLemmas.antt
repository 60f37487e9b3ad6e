-- Of what is read of the inputs no more waits than was looked at last: all complete units that follow of less were
-- given.
use Rattle.std.proofs.Common.{◌≡◌, ℕ, ◌≤◌, max, Bool, List, [], ◌∷◌, ◌++◌, length, sym, subst, arith}
use Rattle.plp_config.specs.declared.config.Config.{Config}
use Rattle.frame_groups.specs.Modulated.{FrameRecord}
use Rattle.t2mi_stream.specs.Complete.{complete_units}
use Rattle.stream_laws.specs.Remade.{remade_packets}
use Rattle.file_run.specs.Events.{Event, Gave, fed}
use Rattle.file_run.specs.Laws.{EventsTell}
use Rattle.feed_merge.specs.declared.feed.FrameFeed.{FrameFeed}
use Rattle.feed_merge.specs.Laws.{AreOf}
use Rattle.feed_merge.specs.Picks.{Picked, picks, above_all, frames_of}
use Rattle.feed_merge.proofs.GrowLemmas.{all_below}
use Rattle.merge_run.specs.Shown.{IsLive}
use Rattle.feed_merge.specs.Fed.{IsFedWith}
use Rattle.feed_merge.proofs.BothLemmas.{due_below}
use Rattle.feed_merge.proofs.NumberLemmas.{AllFrom, below_of}
use Rattle.merge_run.proofs.SplitLemmas.{picks_split}

-- all complete units of the frames that were picked were given
pub live_all : (c : Config) (f g : FrameFeed) (fed_a fed_b : List ℕ) (ended_a ended_b : Bool) (ga gb : List FrameRecord)
    (next count : ℕ)
    → IsFedWith c f fed_a ended_a ga → IsFedWith c g fed_b ended_b gb → next ≡ max (above_all ga) (above_all gb)
    → length (complete_units c.pid (remade_packets c (frames_of (picks c ga gb)))) ≤ count
    → IsLive c fed_a fed_b ga gb next count
live_all c f g fed_a fed_b ended_a ended_b ga gb next count x y is all =
    let a : above_all ga ≤ next = omega (arith, is) in
    let b : above_all gb ≤ next = omega (arith, is) in
    record {
      low = next;
      within = omega arith;
      due_a = due_below c f fed_a ended_a ga next a x;
      due_b = due_below c g fed_b ended_b gb next b y;
      done = subst (λ (ps : List Picked). length (complete_units c.pid (remade_packets c (frames_of ps))) ≤ count)
          (all_below c ga gb next (below_of next ga a) (below_of next gb b)) all;
    }

from_of : (n low : ℕ) (xs : List FrameRecord) → low ≤ n → AreOf n xs → AllFrom low xs
from_of n low [] le h = tt
from_of n low (x ∷ []) le h = (omega (arith, le, h), tt)
from_of n low (x ∷ y ∷ xs) le h = absurd h

-- the records of a number were taken, that is no lower than that behind those before
pub live_taken : (c : Config) (f g : FrameFeed) (fed_a fed_b : List ℕ) (ended_a ended_b : Bool)
    (ga gb xs ys : List FrameRecord)
    (low n next count : ℕ) → IsFedWith c f fed_a ended_a ga → IsFedWith c g fed_b ended_b gb
    → low ≡ max (above_all ga) (above_all gb)
    → low ≤ n → n ≤ next → AreOf n xs → AreOf n ys
    → length (complete_units c.pid (remade_packets c (frames_of (picks c ga gb)))) ≤ count
    → IsLive c fed_a fed_b (ga ++ xs) (gb ++ ys) next count
live_taken c f g fed_a fed_b ended_a ended_b ga gb xs ys low n next count x y is le more p q all =
    let a : above_all ga ≤ low = omega (arith, is) in
    let b : above_all gb ≤ low = omega (arith, is) in
    record {
      low = low;
      within = omega (arith, le, more);
      due_a = due_below c f fed_a ended_a ga low a x;
      due_b = due_below c g fed_b ended_b gb low b y;
      done = subst (λ (ps : List Picked). length (complete_units c.pid (remade_packets c (frames_of ps))) ≤ count)
          (sym (picks_split c ga xs gb ys low a b (from_of n low xs le p) (from_of n low ys le q))) all;
    }

-- bytes were given, and no fewer units than before
pub live_given : EventsTell → (c : Config) (events : List Event) (piece : List ℕ) (ga gb : List FrameRecord)
    (next count more : ℕ)
    → count ≤ more → IsLive c (fed 0 events) (fed 1 events) ga gb next count
    → IsLive c (fed 0 (events ++ Gave piece ∷ [])) (fed 1 (events ++ Gave piece ∷ [])) ga gb next more
live_given tell c events piece ga gb next count more le l =
    let t = tell.given piece events in
    let most = l.done in
    record {
      low = l.low;
      within = l.within;
      due_a = rw (t.fed 0) l.due_a;
      due_b = rw (t.fed 1) l.due_b;
      done = omega (arith, most, le);
    }
