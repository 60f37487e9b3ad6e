-- What was done to several feeds and the sender of the frames that are made of them. No public clause cites this
-- module.
use Rattle.std.specs.Prelude.{◌≡◌, ℕ, ◌+◌, ◌-◌, ◌/◌, ◌<◌, ◌≤◌, ◌==◌, Bool, true, false, List, [], ◌∷◌, ◌++◌, length}
use Rattle.std.specs.Prelude.{Option, Some, if◌then◌else◌}
use Rattle.std.specs.List.{filter}
use Rattle.plp_config.specs.declared.config.Config.{Config}
use Rattle.ts_packet.specs.TsFile.{joined}
use Rattle.ts_packet.specs.declared.sizes.TheConstants.{SIZE}
use Rattle.t2mi_stream.specs.Complete.{complete_units}
use Rattle.terms.specs.Lists.{IsPrefix}
use Rattle.frame_groups.specs.Modulated.{Numbered}
use Rattle.frame_groups.specs.Tests.{rules}
use Rattle.feed_events.specs.FeedEvents.{FeedEvent, feed_events}
use Rattle.mended_frames.specs.Picks.{Coming, all_behind, picks_from}
use Rattle.t2mi_stream.specs.Pipe.{pipe}
use Rattle.spaced_frames.specs.StandsFor.{SenderStandsFor, Content, HasGiven}
use Rattle.mended_frames.specs.Mended.{Made, mended, taking, low_of, frames_of, packets_of}
use Rattle.mended_frames.specs.StandsFor.{Feed, MenderStandsFor, lent_content}
use Rattle.mended_frames.specs.declared.mender.Source.{Source}
use Rattle.file_run.specs.Events.{Event, fed, gave}
use Rattle.file_run.specs.Events as events
use Rattle.mend_run.specs.Counted.{told, is_woven, last_from}
use Rattle.mend_run.specs.Row.{HaveCome, AllGo, AllKnown, OnePasses}
use Rattle.mend_run.specs.declared.machine.MendMachine.{MendMachine}
use Rattle.mend_run.specs.declared.phase.Phase.{Phase}
use Rattle.mend_run.specs.declared.phase.Phase.TheVariants as phase
use Rattle.mend_run.specs.declared.stop.MendRan.{MendRan}
use Rattle.mend_run.specs.declared.tally.Tally.{Tally}

-- ---- what is counted

-- one frame more
abbrev pub with_frame : Tally → ℕ → Bool → Tally
with_frame t number woven = record {
  first = if t.frames == 0 then number else t.first;
  behind = number + 1;
  frames = told (t.frames + 1);
  woven = if woven then told (t.woven + 1) else t.woven;
  units = t.units;
}

-- so many units more
abbrev pub with_units : Tally → ℕ → Tally
with_units t units = record t { units = told (t.units + units) }

-- what is told at the end
abbrev pub ran_of : Tally → MendRan
ran_of t = record { frames = t.frames; woven = t.woven; missing = t.behind - t.first - t.frames; units = t.units }

-- the number of the first of some frames, and the number behind that of the last one
abbrev pub first_of : List Made → ℕ
first_of [] = 0
first_of (x ∷ made) = x.number

abbrev pub behind_of : List Made → ℕ
behind_of [] = 0
behind_of (x ∷ made) = last_from x.number made + 1

-- the tally of some frames and bytes
abbrev pub tally_of : List Made → List ℕ → Tally
tally_of made bytes = record {
  first = first_of made;
  behind = behind_of made;
  frames = told (length made);
  woven = told (length (filter is_woven made));
  units = told (length bytes / SIZE);
}

-- ---- what was done

-- where the work is: a phase, or just before what is next is passed
pub data Place : Type 0 where
  Looks : Place
  Passes : Option ℕ → Bool → Place
  Sends : ℕ → Source → Place
  Rests : Place
  Done : Place

abbrev pub place_of : Phase → Place
place_of phase.Looks = Looks
place_of (phase.Sends n from) = Sends n from
place_of phase.Rests = Rests
place_of phase.Done = Done

-- However the feeds go on, the frames that were made are the first, and the others are made of what comes behind the
-- events that were passed: once the frame under way was given, what is next of it is passed too. Behind the end there
-- are no others.
abbrev pub Splits : Config → ℕ → Place → List Numbered → List Made → (ℕ → Coming) → (ℕ → Coming) → Type 0
Splits c k Looks past made xs ys = mended c k xs ≡ made ++ picks_from (taking c) k past ys
Splits c k (Passes number silent) past made xs ys =
    mended c k xs ≡ made ++ picks_from (taking c) k past (all_behind number silent ys)
Splits c k (Sends n from) past made xs ys = mended c k xs ≡ made ++ picks_from (taking c) k past
    (all_behind (Some n) true ys)
Splits c k Rests past made xs ys = mended c k xs ≡ made
Splits c k Done past made xs ys = mended c k xs ≡ made

-- All complete units of the frames that were made went out.
pub record HasSent (c : Config) (m : MendMachine) (made : List Made) (bytes : List ℕ) : Type 0 where
  pub content : Content
  pub stands : SenderStandsFor c m.sender content (frames_of c made) bytes
  pub caught : HasGiven complete_units c (frames_of c made) bytes

-- Units of the last one are to go out, and then what is next of it is passed.
pub record IsSending (c : Config) (m : MendMachine) (n : ℕ) (from : Source) (made : List Made) (bytes : List ℕ) :
    Type 0 where
  pub stands : SenderStandsFor c m.sender (lent_content from m.mender m.feeds.items) (frames_of c made) bytes
  pub known : AllKnown m.feeds.items
  pub passes : OnePasses (Some n) true m.feeds.items

-- what is known of feeds, of one by these bytes alone
abbrev pub known_by : Config → ℕ → List ℕ → (ℕ → Coming) → ℕ → Coming
known_by c input bytes xs i =
    if i == input then record { events = feed_events (rules c) false bytes; over = false } else xs i

-- One of the inputs held all up, until its last byte came: however the others go on, without that no other frames are
-- made than these, and all complete units of these went out.
pub record HasDue (c : Config) (k : ℕ) (feeds : List Feed) (done : List Event) (gone : ℕ → List FeedEvent) :
    Type 0 where
  pub input : ℕ
  pub inside : input < k
  pub known : List ℕ
  pub last : List ℕ
  pub parts : fed input done ≡ known ++ last
  pub few : length last ≤ 1
  pub made : List Made
  pub went : IsPrefix (joined (complete_units c.pid (packets_of c made))) (gave done)
  pub is : (xs ys : ℕ → Coming) → AllGo c feeds done gone xs ys → mended c k (known_by c input known xs) ≡ made

-- Each input has ended.
abbrev pub AllEnded : ℕ → List Event → Type 0
AllEnded k done = (i : ℕ) → i < k → events.has_ended i done ≡ true

-- The rest of the units is to go out.
pub record IsResting (c : Config) (k : ℕ) (m : MendMachine) (made : List Made) (done : List Event) : Type 0 where
  pub ended : AllEnded k done
  pub content : Content
  pub stands : SenderStandsFor c m.sender content (frames_of c made) (gave done)

abbrev pub IsAt : Config → ℕ → Place → MendMachine → List Made → List Event → Type 0
IsAt c k Looks m made done = HasSent c m made (gave done)
IsAt c k (Passes number silent) m made done = HasSent c m made (gave done) × AllKnown m.feeds.items
IsAt c k (Sends n from) m made done = IsSending c m n from made (gave done)
IsAt c k Rests m made done = IsResting c k m made done
IsAt c k Done m made done = AllEnded k done × HasGiven pipe c (frames_of c made) (gave done)

-- What was done, and where the feeds, the mender and the sender are then.
pub record ShownAt (c : Config) (k : ℕ) (done : List Event) (m : MendMachine) (place : Place) : Type 0 where
  pub plan : m.plan.now ≡ c
  pub gone : ℕ → List FeedEvent
  pub come : HaveCome c k m.feeds.items done gone
  pub made : List Made
  pub past : List Numbered
  pub mends : MenderStandsFor m.mender past
  pub low : low_of past ≡ m.tally.behind
  pub tally : m.tally ≡ tally_of made (gave done)
  pub splits : (xs ys : ℕ → Coming) → AllGo c m.feeds.items done gone xs ys → Splits c k place past made xs ys
  pub is_at : IsAt c k place m made done
  pub due : 0 < k → HasDue c k m.feeds.items done gone

abbrev pub Shown : Config → ℕ → List Event → MendMachine → Type 0
Shown c k done m = ShownAt c k done m (place_of m.phase)

-- Something was done, and then they are there.
pub record HasShown (m : MendMachine) : Type 0 where
  pub network : Config
  pub count : ℕ
  pub events : List Event
  pub shown : Shown network count events m
