-- What came of a frame of which a record waits, by the groups of any stream that begins so.
use Rattle.std.proofs.Common.{◌≡◌, ℕ, Bool, true, false, Bor, List, [], Option, Some, None, refl, sym, subst}
use Rattle.std.specs.Prelude.{IfSome, IfNone}
use Rattle.std.specs.Option.{option_copied}
use Rattle.plp_config.specs.declared.config.Config.{Config}
use Rattle.linked_pool.specs.Pool.{State}
use Rattle.frame_groups.specs.Modulated.{FrameRecord, Numbered}
use Rattle.frame_groups.specs.declared.waiting.Waiting.{Waiting}
use Rattle.frame_groups.specs.Begun.{packets_at}
use Rattle.open_group.specs.Shown.{AreBlocks, Shows}
use Rattle.feed_merge.specs.Frames.{dynamic_of, lists_of}
use Rattle.feed_merge.specs.Groups.{AreGroups, HasRoom, CarriesRoom}
use Rattle.feed_merge.specs.FeedStandsFor.{FrameFeedStandsFor, config_of, waiting_of}
use Rattle.feed_merge.specs.declared.feed.FrameFeed.{FrameFeed}
use Rattle.feed_merge.specs.Picking.{is_at}
use Rattle.feed_merge.specs.Seen.{seen_of}
use Rattle.compare_run.specs.Comparing.{dynamic_at}
use Rattle.compare_run.specs.TallyStandsFor.{lists_in, Brings}
use Rattle.compare_run.specs.Taking.{IsOfFeed}
use Rattle.compare_run.proofs.TakeLemmas.{WaitsWhole}

-- What is so of a feed whose record waits, by the groups that it may have.
abbrev pub ByGroups : FrameFeed → (List Numbered → ℕ → Type 0) → Type 0
ByGroups f Is = (bytes : List ℕ) (ended : Bool) (given : List FrameRecord) → FrameFeedStandsFor f bytes ended given
    → (w : Waiting)
    → waiting_of f ≡ Some w → (gs : List Numbered) → AreGroups (config_of f) bytes ended gs → Is gs w.frame

by_groups : (f : FrameFeed) (Is : List Numbered → ℕ → Type 0) (w : Waiting) (n : ℕ) (gs : List Numbered) → ByGroups f Is
    → waiting_of f ≡ Some w → w.frame ≡ n → IsOfFeed f gs → Is gs n
by_groups f Is w n gs says is number g = subst (Is gs) number (says g.bytes g.ended g.given g.stands w is gs g.groups)

-- its blocks
pub brings_of : (f : FrameFeed) (r : Option (Bor State)) (w : Waiting) (n : ℕ) (gs : List Numbered)
    → IfSome r (λ pool. ByGroups f (λ gs k. AreBlocks (config_of f) (packets_at gs k) pool.now.lists))
    → IfNone r (ByGroups f (λ gs k. HasRoom (config_of f) gs k → packets_at gs k ≡ []))
    → waiting_of f ≡ Some w → w.frame ≡ n → IsOfFeed f gs → Brings (config_of f) gs n (lists_in (option_copied r))
brings_of f None w n gs some none is number g =
    by_groups f (λ gs k. HasRoom (config_of f) gs k → packets_at gs k ≡ []) w n gs none is number g
brings_of f (Some pool) w n gs some none is number g =
    by_groups f (λ gs k. AreBlocks (config_of f) (packets_at gs k) pool.now.lists) w n gs some is number g

-- also if no record of that number waits: then no packet of it came
pub brings_or : (c : Config) (f : FrameFeed) (r : Option (Bor State)) (n : ℕ) (gs : List Numbered) → config_of f ≡ c
    → IsOfFeed f gs
    → (is_at n (seen_of (waiting_of f)) ≡ true → (gs : List Numbered) → IsOfFeed f gs
    → Brings (config_of f) gs n (lists_in (option_copied r)))
    → (is_at n (seen_of (waiting_of f)) ≡ false → lists_in (option_copied r) ≡ None)
    → (is_at n (seen_of (waiting_of f)) ≡ false → packets_at gs n ≡ []) → Brings c gs n (lists_in (option_copied r))
brings_or c f r n gs config g there none nothing = go (is_at n (seen_of (waiting_of f))) refl
  where
    go : (b : Bool) → is_at n (seen_of (waiting_of f)) ≡ b → Brings c gs n (lists_in (option_copied r))
    go true e = subst (λ (k : Config). Brings k gs n (lists_in (option_copied r))) config (there e gs g)
    go false e = subst (Brings c gs n) (sym (none e)) (λ room. nothing e)

-- of one that is not muted: its dynamic part, and that what it carries has room
pub dynamic_by : (f : FrameFeed) (n : ℕ) (gs : List Numbered) → WaitsWhole n (waiting_of f)
    → ByGroups f (λ gs k. Shows (config_of f) (packets_at gs k) (dynamic_of f) (lists_of f)) → IsOfFeed f gs
    → dynamic_of f ≡ dynamic_at gs n
dynamic_by f n gs w says g =
    (by_groups f (λ gs k. Shows (config_of f) (packets_at gs k) (dynamic_of f) (lists_of f)) w.one n
    gs says w.is w.number g).dynamic_is

pub room_by : (c : Config) (f : FrameFeed) (n : ℕ) (gs : List Numbered) → config_of f ≡ c → WaitsWhole n (waiting_of f)
    → ByGroups f (λ gs k. CarriesRoom (config_of f) gs k) → IsOfFeed f gs → CarriesRoom c gs n
room_by c f n gs config w says g =
    subst (λ (k : Config). CarriesRoom k gs n) config (by_groups f (λ gs k. CarriesRoom (config_of f) gs k)
    w.one n gs says w.is w.number g)
