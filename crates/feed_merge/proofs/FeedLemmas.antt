-- What each call of a feed makes of what it stood for.
use Rattle.std.proofs.Common.{◌≡◌, ◌⊎◌, inl, inr, ℕ, ◌+◌, ◌-◌, ◌<◌, ◌≤◌, Bool, true, false, List, [], ◌∷◌, ◌++◌, length}
use Rattle.std.proofs.Common.{take, Option, Some, None}
use Rattle.std.proofs.Common.{refl, ap, sym, subst, ◌∙◌, arith, length-append, append-nil, append_assoc}
use Rattle.std.specs.Prelude.{nat_lt, is_some, IfSome, IfNone}
use Rattle.std.proofs.lemmas.Bool.{ltb-true, ltb-false, false≢true, true≢false}
use Rattle.std.proofs.lemmas.List.{append_cancel_left, take-append-le, take-take, length-take}
use Rattle.std.proofs.Math.Seq.{take-append-add}
use Rattle.terms.proofs.CaseLemmas.{bool_cases}
use Rattle.terms.proofs.OptionLemmas.{none_if_not}
use Rattle.terms.proofs.ListLemmas.{all_of}
use Rattle.plp_config.specs.declared.config.Config.{Config}
use Rattle.plp_config.specs.declared.moment.TheConstants.{MOST_FRAMES}
use Rattle.t2mi_stream.specs.Events.{fed, released}
use Rattle.t2mi_stream.specs.UnpiperStandsFor.{UnpiperStandsFor}
use Rattle.frame_groups.specs.Due.{ComesNext}
use Rattle.frame_groups.specs.Groups.{Group}
use Rattle.terms.specs.Lists.{IsPrefix}
use Rattle.frame_groups.specs.Modulated.{FrameRecord, Numbered, Content, content_of}
use Rattle.frame_groups.specs.Modulated.Content.{Whole, Muted}
use Rattle.frame_groups.specs.Records.{record_of}
use Rattle.frame_groups.specs.Sequenced.{Keeps}
use Rattle.frame_groups.specs.Waits.{waiting_of as next_of}
use Rattle.frame_groups.specs.declared.cause.MuteCause.{MuteCause}
use Rattle.frame_groups.specs.declared.waiting.Progress.{Progress}
use Rattle.frame_groups.specs.declared.waiting.Waiting.{Waiting}
use Rattle.frame_groups.specs.Tests.{rules}
use Rattle.open_group.specs.Holds.{Holds}
use Rattle.modulator.specs.Laws.{DueFront}
use Rattle.modulator.specs.Modulating.{StandsAt}
use Rattle.modulator.specs.StandsFor.{records_due}
use Rattle.modulator.specs.declared.modulating.Modulating.{Modulating}
use Rattle.modulator.proofs.BeginLemmas.{waits_for}
use Rattle.modulator.proofs.MuteLemmas.{mute_told}
use Rattle.modulator.proofs.TookLemmas.{IsNow, now_of}
use Rattle.feed_merge.specs.FeedStandsFor.{FrameFeedStandsFor, Skipped, IsFirst, config_of, waiting_of, fed_of}
use Rattle.feed_merge.specs.FeedStandsFor.{is_whole}
use Rattle.feed_merge.specs.declared.feed.FrameFeed.{FrameFeed}

-- ---- what waits

-- what an object tells of the record that waits
abbrev pub Tells : Modulating → Option Waiting → Type 0
Tells m o =
    IfSome o (λ w. (bytes : List ℕ) (given : List FrameRecord) (group : Group) → (h : StandsAt m bytes given)
    → h.keeps.group ≡ Some group
    → ComesNext (records_due m.sequence.group.network m.finished bytes) given (record_of group w))
    × IfNone o ((bytes : List ℕ) (given : List FrameRecord) → StandsAt m bytes given
    → records_due m.sequence.group.network m.finished bytes ≡ given)

-- the group of what waits
pub now : (m : Modulating) (w : Waiting) (bytes : List ℕ) (given : List FrameRecord) (h : StandsAt m bytes given)
    → next_of m.sequence.progress ≡ Some w → IsNow h.keeps.group m.sequence.progress
now m w bytes given h is = now_of (rules m.sequence.group.network) h.keeps.past h.keeps.group m.sequence.progress
    _ given
    h.keeps.sequenced (ap is_some is)

-- what waits is the first of those that were not left behind
pub first_is : (m : Modulating) (o : Option Waiting) (bytes : List ℕ) (given later : List FrameRecord) → Tells m o
    → o ≡ next_of m.sequence.progress → StandsAt m bytes given
    → records_due m.sequence.group.network m.finished bytes ≡ given ++ later → IsFirst o later
first_is m None bytes given later t is h all =
    all_of given later (ap length (sym all ∙ t.1 bytes given h))
first_is m (Some w) bytes given later t is h all =
    let n = now m w bytes given h (sym is) in
    let comes = t.0 bytes given n.group h n.has in
    let same : later ≡ record_of n.group w ∷ comes.0 = append_cancel_left given later _ (sym all ∙ comes.1) in
    subst (IsFirst (Some w)) (sym same) (refl, mute_told n.group w.mute)

-- ---- it was opened

pub stands_first : (m : Modulating) → m.sequence.progress.closing ≡ false
    → UnpiperStandsFor m.unpiper m.sequence.group.network.pid []
    → Keeps (Holds m.sequence.group) (rules m.sequence.group.network) m.sequence.progress [] [] → StandsAt m [] []
unfolding fed released
stands_first m shut stands k = record {
  events = [];
  stands = stands;
  fed_is = refl;
  few = omega arith;
  keeps = k;
  ahead = λ c. absurd (true≢false (sym c ∙ shut));
}

pub opened : (f : FrameFeed) → f.inner.finished ≡ false → fed_of f ≡ 0 → StandsAt f.inner [] []
    → Tells f.inner f.waiting
    → FrameFeedStandsFor f [] false []
opened f going count stands tells = record {
  stands = stands;
  count = count;
  end = going;
  later = records_due (config_of f) f.inner.finished [];
  all = ap (λ (e : Bool). records_due (config_of f) e []) (sym going);
  first = first_is f.inner f.waiting [] [] (records_due (config_of f) f.inner.finished []) tells f.waits stands refl;
  front = λ k less. absurd (omega (arith, less));
}

-- ---- it was fed

-- none waits: all that is due was left behind
all_given : (f : FrameFeed) (bytes : List ℕ) (ended : Bool) (given : List FrameRecord) → f.waiting ≡ None
    → (s : FrameFeedStandsFor f bytes ended given) → records_due (config_of f) ended bytes ≡ given
all_given f bytes ended given idle s =
    let none : s.later ≡ [] = subst (λ (o : Option Waiting). IsFirst o s.later) idle s.first in
    s.all ∙ ap (λ (l : List FrameRecord). given ++ l) none ∙ append-nil given

-- records that were left behind are all that is due by fewer bytes
front_fed : (c : Config) (bytes piece : List ℕ) (given : List FrameRecord) (count : ℕ)
    → ((k : ℕ) → k < length bytes → IsPrefix (records_due c false (take k bytes)) given)
    → ((k : ℕ) → k < count → records_due c false (bytes ++ take k piece) ≡ given)
    → (k : ℕ) → k < length (bytes ++ take count piece)
    → IsPrefix (records_due c false (take k (bytes ++ take count piece))) given
front_fed c bytes piece given count was first k less =
    bool_cases (nat_lt k (length bytes))
    (λ early.
    let l = ltb-true k (length bytes) early in
    subst (λ (xs : List ℕ). IsPrefix (records_due c false xs) given)
    (sym (take-append-le k bytes (take count piece) (omega (arith, l)))) (was k l))
    (λ late.
    let l = ltb-false k (length bytes) late in
    let j : ℕ = k - length bytes in
    let sum : k ≡ length bytes + j = omega (arith, l) in
    let inside : j < count = omega (arith, less, length-append bytes (take count piece), length-take count piece, l) in
    let at : take k (bytes ++ take count piece) ≡ bytes ++ take j piece =
    ap (λ (n : ℕ). take n (bytes ++ take count piece)) sum ∙ take-append-add bytes (take count piece) j
    ∙ ap (λ (l : List ℕ). bytes ++ l) (take-take j count piece (omega (arith, inside))) in
    ([], sym (first j inside) ∙ ap (records_due c false) (sym at) ∙ sym (append-nil _)))

pub fed_on : DueFront → (f g : FrameFeed) (bytes piece : List ℕ) (count : ℕ) (given : List FrameRecord)
    → f.waiting ≡ None → config_of g ≡ config_of f → g.inner.finished ≡ false
    → fed_of g ≡ fed_of f + count → count ≤ length piece
    → StandsAt g.inner (bytes ++ take count piece) given
    → ((k : ℕ) → k < count → records_due (config_of f) false (bytes ++ take k piece) ≡ given)
    → Tells g.inner g.waiting → FrameFeedStandsFor f bytes false given
    → FrameFeedStandsFor g (bytes ++ take count piece) false given
fed_on front f g bytes piece count given idle config going len few stands first tells s =
    let more : List ℕ = take count piece in
    let due = front (config_of g) false bytes more in
    let was : records_due (config_of g) false bytes ≡ given =
    ap (λ (c : Config). records_due c false bytes) config ∙ all_given f bytes false given idle s in
    let all : records_due (config_of g) false (bytes ++ more) ≡ given ++ due.0 =
    due.1 ∙ ap (λ (l : List FrameRecord). l ++ due.0) was in
    record {
      stands = stands;
      count = let size = length-append bytes more in let cut = length-take count piece in let was = s.count in
          omega (arith, len, size, cut, was, few);
      end = going;
      later = due.0;
      all = all;
      first = first_is g.inner g.waiting (bytes ++ more) given due.0 tells g.waits stands
          (ap (λ (e : Bool). records_due (config_of g) e (bytes ++ more)) going ∙ all);
      front = subst (λ (c : Config). (k : ℕ) → k < length (bytes ++ more)
          → IsPrefix (records_due c false (take k (bytes ++ more))) given) (sym config)
          (front_fed (config_of f) bytes piece given count s.front first);
    }

-- ---- no more bytes come

pub ended : DueFront → (f g : FrameFeed) (bytes : List ℕ) (given : List FrameRecord) → f.waiting ≡ None
    → config_of g ≡ config_of f → g.inner.finished ≡ true → fed_of g ≡ fed_of f → StandsAt g.inner bytes given
    → Tells g.inner g.waiting → FrameFeedStandsFor f bytes false given → FrameFeedStandsFor g bytes true given
ended front f g bytes given idle config over len stands tells s =
    let due = front (config_of g) true bytes [] in
    let was : records_due (config_of g) false bytes ≡ given =
    ap (λ (c : Config). records_due c false bytes) config ∙ all_given f bytes false given idle s in
    let all : records_due (config_of g) true bytes ≡ given ++ due.0 =
    ap (records_due (config_of g) true) (sym (append-nil bytes)) ∙ due.1
    ∙ ap (λ (l : List FrameRecord). l ++ due.0) was in
    record {
      stands = stands;
      count = len ∙ s.count;
      end = over;
      later = due.0;
      all = all;
      first = first_is g.inner g.waiting bytes given due.0 tells g.waits stands
          (ap (λ (e : Bool). records_due (config_of g) e bytes) over ∙ all);
      front = subst (λ (c : Config). (k : ℕ) → k < length bytes → IsPrefix (records_due c false (take k bytes)) given)
          (sym config) s.front;
    }

-- ---- the record that waits is left behind

pub skipped : (f g : FrameFeed) (bytes : List ℕ) (ended : Bool) (given : List FrameRecord) (w : Waiting)
    → waiting_of f ≡ Some w → config_of g ≡ config_of f → g.inner.finished ≡ f.inner.finished → fed_of g ≡ fed_of f
    → Tells f.inner f.waiting
    → ((bytes : List ℕ) (given : List FrameRecord) (w : Waiting) (group : Group)
    → next_of f.inner.sequence.progress ≡ Some w
    → (h : StandsAt f.inner bytes given) → h.keeps.group ≡ Some group
    → StandsAt g.inner bytes (given ++ record_of group w ∷ []))
    → Tells g.inner g.waiting → FrameFeedStandsFor f bytes ended given → Skipped f g bytes ended given
skipped f g bytes ended given w is config still len told gave tells s =
    let waits : next_of f.inner.sequence.progress ≡ Some w = sym f.waits ∙ is in
    let n = now f.inner w bytes given s.stands waits in
    let x : FrameRecord = record_of n.group w in
    let t : Tells f.inner (Some w) = subst (Tells f.inner) is told in
    let comes = t.0 bytes given n.group s.stands n.has in
    let stands = gave bytes given w n.group waits s.stands n.has in
    let over : g.inner.finished ≡ ended = still ∙ s.end in
    let all : records_due (config_of g) ended bytes ≡ (given ++ x ∷ []) ++ comes.0 =
    ap (λ (c : Config). records_due c ended bytes) config ∙ ap (λ (e : Bool). records_due (config_of f) e bytes)
    (sym s.end)
    ∙ comes.1 ∙ sym (append_assoc given (x ∷ []) comes.0) in
    record {
      next = x;
      waited = subst (λ (o : Option Waiting). IsFirst o (x ∷ [])) (sym is) (refl, mute_told n.group w.mute);
      stands = record {
        stands = stands;
        count = len ∙ s.count;
        end = over;
        later = comes.0;
        all = all;
        first = first_is g.inner g.waiting bytes (given ++ x ∷ []) comes.0 tells g.waits stands
            (ap (λ (e : Bool). records_due (config_of g) e bytes) over ∙ all);
        front = λ k less.
            let was = s.front k less in
            let due = ap (λ (c : Config). records_due c false (take k bytes)) config in (
              was.0 ++ x ∷ [],
              ap (λ (l : List FrameRecord). l ++ x ∷ []) was.1 ∙ append_assoc _ was.0 (x ∷ [])
                  ∙ ap (λ (l : List FrameRecord). l ++ (was.0 ++ x ∷ [])) (sym due),
            );
      };
    }

-- ---- the frame that waits

-- a record that waits, and is not muted
pub whole_is : (o : Option Waiting) → is_whole o ≡ true → (w : Waiting) × (o ≡ Some w) × (w.mute ≡ None)
whole_is None e = absurd (false≢true e)
whole_is (Some w) e = (w, refl, none_if_not w.mute e)

-- it is the own one of the group under way, which passed
pub record IsOwnNow (at : Progress) : Type 0 where
  pub closing : at.closing ≡ true
  pub number : is_some at.number ≡ true
  pub fault : is_some at.fault ≡ false

pub own_now : (at : Progress) (o : Option Waiting) → o ≡ next_of at → is_whole o ≡ true → IsOwnNow at
own_now at o is e =
    let k = whole_is o e in
    let own = (waits_for at k.0 (sym is ∙ k.1)).own k.2 in
    record { closing = own.closing; number = ap is_some own.number; fault = ap is_some (own.fault ∙ k.2) }

-- the packets of the frame that waits
pub record IsShown (m : Modulating) (g : Group) : Type 0 where
  pub past : List Numbered
  pub holds : Holds m.sequence.group past (Some g)

group_in : Group → Content → Group
group_in h (Whole g) = g
group_in h (Muted cause) = h

pub shown : (f : FrameFeed) (bytes : List ℕ) (ended : Bool) (given : List FrameRecord) (x : FrameRecord)
    (later : List FrameRecord) (g : Group)
    → is_whole (waiting_of f) ≡ true → Tells f.inner f.waiting → FrameFeedStandsFor f bytes ended given
    → records_due (config_of f) ended bytes ≡ given ++ x ∷ later → x.content ≡ Whole g → IsShown f.inner g
unfolding now group_in
shown f bytes over given x later g whole told s all content =
    let k = whole_is (waiting_of f) whole in
    let w : Waiting = k.0 in
    let waits : next_of f.inner.sequence.progress ≡ Some w = sym f.waits ∙ k.1 in
    let n = now f.inner w bytes given s.stands waits in
    let t : Tells f.inner (Some w) = subst (Tells f.inner) k.1 told in
    let comes = t.0 bytes given n.group s.stands n.has in
    let due : records_due (config_of f) f.inner.finished bytes ≡ given ++ x ∷ later =
    ap (λ (e : Bool). records_due (config_of f) e bytes) s.end ∙ all in
    let same : x ∷ later ≡ record_of n.group w ∷ comes.0 = append_cancel_left given _ _ (sym due ∙ comes.1) in
    let first : x ≡ record_of n.group w = ap (λ (l : List FrameRecord). first_or x l) same in
    let is : content_of n.group w.mute ≡ Whole g = sym (ap (λ (y : FrameRecord). y.content) first) ∙ content in
    let group : n.group ≡ g =
    ap (λ (m : Option MuteCause). group_in n.group (content_of n.group m)) (sym k.2) ∙ ap (group_in n.group) is in
    let has : s.stands.keeps.group ≡ Some g = n.has ∙ ap Some group in
    record {
      past = s.stands.keeps.past;
      holds = subst (Holds f.inner.sequence.group s.stands.keeps.past) has s.stands.keeps.holds;
    }
  where
    first_or : FrameRecord → List FrameRecord → FrameRecord
    first_or d [] = d
    first_or d (y ∷ ys) = y

-- what is told of what waits
pub told : (f : FrameFeed) (o : Option Waiting) → o ≡ f.waiting → Tells f.inner o → Tells f.inner f.waiting
told f o same t = subst (Tells f.inner) same t

-- the number of the next record stays small
pub early_on : (old new : Progress) (w : Waiting) → next_of old ≡ Some w → w.frame < MOST_FRAMES
    → (new.next ≡ old.next + 1) ⊎ (new.next < MOST_FRAMES) → new.next ≤ MOST_FRAMES
early_on old new w is low (inl e) = let frame = (waits_for old w is).frame in omega (arith, e, frame, low)
early_on old new w is low (inr l) = omega (arith, l)
