-- Of the T2-MI stream no more waits than was looked at last: of all records that are due by less the complete units
-- were given.
use Rattle.std.proofs.Common.{◌≡◌, ℕ, ◌<◌, ◌≤◌, Bool, false, List, [], ◌∷◌, ◌++◌, length, take, ap, sym, subst, ◌∙◌}
use Rattle.std.proofs.Common.{arith, append-nil, append_assoc}
use Rattle.plp_config.specs.declared.config.Config.{Config}
use Rattle.terms.specs.Lists.{IsPrefix}
use Rattle.frame_groups.specs.Modulated.{FrameRecord}
use Rattle.modulator.specs.StandsFor.{records_due}
use Rattle.feed_merge.specs.declared.feed.FrameFeed.{FrameFeed}
use Rattle.gateway_core.specs.InputSoFar.{Told, Continues}
use Rattle.feed_merge.specs.Fed.{IsFedWith}
use Rattle.region_swap.specs.declared.swapper.Swapper.{Swapper}
use Rattle.swap_run.specs.Shown.{HasCaughtUp, IsLive}
use Rattle.region_swap.specs.Swapped.{frames_in}

-- all complete units were given
pub live_caught : (c : Config) (plp : ℕ) (f : FrameFeed) (bytes : List ℕ) (ended : Bool) (given : List FrameRecord)
    (s : Swapper) (t : Told)
    (count : ℕ) → IsFedWith c f bytes ended given → HasCaughtUp c plp s t (frames_in c given) count
    → IsLive c plp bytes t given count
live_caught c plp f bytes ended given s t count h caught = record {
  sent = given;
  part = ([], sym (append-nil given));
  due = λ k lt. subst (λ (n : Config). IsPrefix (records_due n false (take k bytes)) given) h.network
      (h.stands.front k lt);
  done = λ input cont. let e = caught.complete input cont in omega (arith, e);
}

-- the same was fed, no fewer units were given, and what continues continued before
pub live_on : (c : Config) (plp : ℕ) (was now : List ℕ) (t u : Told) (given : List FrameRecord) (count more : ℕ)
    → now ≡ was
    → ((input : List (List ℕ)) → Continues u input → Continues t input) → count ≤ more → IsLive c plp was t given count
    → IsLive c plp now u given more
live_on c plp was now t u given count more same back le h = record {
  sent = h.sent;
  part = h.part;
  due = subst (λ (l : List ℕ). (k : ℕ) → k < length l → IsPrefix (records_due c false (take k l)) h.sent)
      (sym same) h.due;
  done = λ input cont. let d = h.done input (back input cont) in omega (arith, d, le);
}

-- a record more was given
pub live_push : (c : Config) (plp : ℕ) (bytes : List ℕ) (t : Told) (given : List FrameRecord) (x : FrameRecord)
    (count : ℕ)
    → IsLive c plp bytes t given count → IsLive c plp bytes t (given ++ x ∷ []) count
live_push c plp bytes t given x count h = record {
  sent = h.sent;
  part = (
    h.part.0 ++ x ∷ [],
    ap (λ (l : List FrameRecord). l ++ x ∷ []) h.part.1
        ∙ append_assoc h.sent h.part.0 (x ∷ []),
  );
  due = h.due;
  done = h.done;
}
