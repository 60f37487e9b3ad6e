-- The lines of records, step by step.
use Rattle.std.proofs.Common.{◌≡◌, ◌≢◌, ℕ, ◌+◌, Bool, true, List, [], ◌∷◌, ◌++◌, length, refl, ap, sym, subst, ◌∙◌, inl}
use Rattle.std.proofs.Common.{inr, arith, append-nil}
use Rattle.std.proofs.lemmas.List.{nil_from_length}
use Rattle.file_run.specs.Events.{Event, Fed, Ended, fed, has_ended, gave}
use Rattle.file_run.specs.Laws.{EventsTell}
use Rattle.file_run.specs.Steps.{Suffices, FallsShort}
use Rattle.site_frame.specs.declared.reading.RecordView.{RecordView}
use Rattle.site_frame.specs.FeedStandsFor.{RecordFeedStandsFor, coming_of, count_of, lacks_of, IsOver, Takes}
use Rattle.site_frame.specs.declared.coming.Coming.{Coming}
use Rattle.site_frame.specs.declared.coming.Coming.TheVariants.{Head, Rest, Whole, Refused, NoRoom, Finished}
use Rattle.site_frame.specs.declared.feed.RecordFeed.{RecordFeed}
use Rattle.show_run.specs.FrameLines.{next_of, IsSeen, IsLookedAt, Given, Shown, Comes}
use Rattle.show_run.specs.SaidLines.{record_line, record_lines, records_line}
use Rattle.show_run.specs.declared.frame_lines.FrameLines.{FrameLines}
use Rattle.show_run.proofs.FrameWantedLemmas.{Wants, short, enough, unfinished}
use Rattle.show_run.proofs.RecordTextLemmas.{record_lines-append}

-- ---- lines, if more records may follow

pub given_of : (coming : Coming) (told next : List RecordView) (line text : List ℕ) → coming ≢ Finished
    → Given coming told next line text
    → (text ≡ record_lines 0 told) × (line ≡ record_lines (length told) next)
given_of Head told next line text going g = g
given_of Rest told next line text going g = g
given_of Whole told next line text going g = g
given_of (Refused why) told next line text going g = g
given_of NoRoom told next line text going g = g
given_of Finished told next line text going g = absurd (going refl)

given_as : (coming : Coming) (told next : List RecordView) (line text : List ℕ) → coming ≢ Finished
    → (text ≡ record_lines 0 told) × (line ≡ record_lines (length told) next) → Given coming told next line text
given_as Head told next line text going g = g
given_as Rest told next line text going g = g
given_as Whole told next line text going g = g
given_as (Refused why) told next line text going g = g
given_as NoRoom told next line text going g = g
given_as Finished told next line text going g = absurd (going refl)

-- the lines of the next records go behind
pub lines_next : (told next : List RecordView) (line text : List ℕ) → text ≡ record_lines 0 told
    → line ≡ record_lines (length told) next → text ++ line ≡ record_lines 0 (told ++ next)
lines_next told next line text is waits =
    let from : 0 + length told ≡ length told = omega arith in
    rw (is, waits) (ap (λ (k : ℕ). record_lines 0 told ++ record_lines k next) (sym from)
    ∙ sym (record_lines-append 0 told next))

-- all lines of the records were given, if none waits and more may follow
pub all_told : (m : FrameLines) (events : List Event) (s : Shown m events) → m.line ≡ [] → coming_of m.feed ≢ Finished
    → gave events ≡ record_lines 0 (s.told ++ s.next)
all_told m events s none going =
    let g = given_of (coming_of m.feed) s.told s.next m.line (gave events) going s.given in
    sym (append-nil (gave events)) ∙ ap (λ (l : List ℕ). gave events ++ l) (sym none)
    ∙ lines_next s.told s.next m.line (gave events) g.0 g.1

-- the line of a record by its number
pub line_numbered : (count number : ℕ) (view : RecordView) → count ≡ number
    → record_line count view ≡ record_line number view
line_numbered count number view is = ap (λ (k : ℕ). record_line k view) is

-- ---- a step

-- no record more was seen
same_shown : (m n : FrameLines) (events : List Event) (views : List RecordView) → n.line ≡ []
    → coming_of n.feed ≢ Finished
    → coming_of n.feed ≢ Whole → gave events ≡ record_lines 0 views
    → RecordFeedStandsFor n.feed views (fed 0 events) (has_ended 0 events) → Shown n events
same_shown m n events views none going seen text stands =
    record {
      told = views;
      next = [];
      feed = rw (append-nil views) stands;
      seen = seen;
      given = given_as (coming_of n.feed) views [] n.line (gave events) going (text, none);
    }

-- one was
one_shown : (n : FrameLines) (events : List Event) (views : List RecordView)
    → gave events ≡ record_lines 0 views → IsSeen views (fed 0 events) (has_ended 0 events) n → Shown n events
one_shown n events views text i = record {
  told = views;
  next = i.view ∷ [];
  feed = i.stands;
  seen = λ whole. let e : Head ≡ Whole = sym i.coming ∙ whole in cc;
  given = rw i.coming (text, i.line ∙ sym (append-nil (record_line (length views) i.view)));
}

looked_shown : (m n : FrameLines) (events : List Event) (views : List RecordView) → gave events ≡ record_lines 0 views
    → IsLookedAt views (fed 0 events) (has_ended 0 events) n → Shown n events
looked_shown m n events views text (inl i) = one_shown n events views text i
looked_shown m n events views text (inr r) =
    same_shown m n events views r.line (λ done. let e : Refused r.why ≡ Finished = sym r.coming ∙ done in cc)
    (λ whole. let e : Refused r.why ≡ Whole = sym r.coming ∙ whole in cc) text r.stands

fed_stands : EventsTell → (f : RecordFeed) (m : FrameLines) (events : List Event) (piece : List ℕ) (s : Shown m events)
    → Takes m.feed f piece
    → RecordFeedStandsFor f (s.told ++ s.next) (fed 0 (events ++ Fed 0 piece ∷ []))
    (has_ended 0 (events ++ Fed 0 piece ∷ []))
fed_stands law f m events piece s takes =
    let more = law.fed 0 piece events in
    rw (more.here, more.ended 0) (takes (s.told ++ s.next) (fed 0 events) (has_ended 0 events) s.feed)

fed_text : EventsTell → (m : FrameLines) (events : List Event) (input : ℕ) (piece : List ℕ) (s : Shown m events)
    → Wants m.line (lacks_of m.feed) input → gave (events ++ Fed 0 piece ∷ []) ≡ record_lines 0 (s.told ++ s.next)
fed_text law m events input piece s w =
    (law.fed 0 piece events).gave ∙ all_told m events s w.idle (unfinished m.feed w.some)

-- bytes came, and no record is whole
pub fed_some : EventsTell → (start m n : FrameLines) (events : List Event) (input count : ℕ) (piece : List ℕ)
    → Suffices (next_of m) input count → n.line ≡ m.line → coming_of n.feed ≢ Finished → coming_of n.feed ≢ Whole
    → Takes m.feed n.feed piece → Comes start events m → Comes start (events ++ Fed input piece ∷ []) n
fed_some law start m n events input count piece wanted line going seen takes c =
    let s = c.shown in
    let w = (enough m input count wanted).0 in
    subst (λ (k : ℕ). Comes start (events ++ Fed k piece ∷ []) n) (sym w.only) (record {
      fresh = c.fresh;
      shown = same_shown m n (events ++ Fed 0 piece ∷ []) (s.told ++ s.next) (line ∙ w.idle) going seen
          (fed_text law m events input piece s w) (fed_stands law n.feed m events piece s takes);
    })

-- bytes came, and the record that is whole was looked at
pub fed_whole : EventsTell → (start m n : FrameLines) (f : RecordFeed) (events : List Event) (input count : ℕ)
    (piece : List ℕ)
    → Suffices (next_of m) input count → Takes m.feed f piece
    → ((views : List RecordView) (came : List ℕ) (ended : Bool) → RecordFeedStandsFor f views came ended
    → IsLookedAt views came ended n)
    → Comes start events m → Comes start (events ++ Fed input piece ∷ []) n
fed_whole law start m n f events input count piece wanted takes sees c =
    let s = c.shown in
    let w = (enough m input count wanted).0 in
    subst (λ (k : ℕ). Comes start (events ++ Fed k piece ∷ []) n) (sym w.only) (record {
      fresh = c.fresh;
      shown = looked_shown m n (events ++ Fed 0 piece ∷ []) (s.told ++ s.next) (fed_text law m events input piece s w)
          (sees (s.told ++ s.next) (fed 0 (events ++ Fed 0 piece ∷ [])) (has_ended 0 (events ++ Fed 0 piece ∷ []))
          (fed_stands law f m events piece s takes));
    })

-- ---- the end of the file

-- by what comes then: the number of the records is given, or nothing
ended_given : (coming : Coming) (views : List RecordView) (count : ℕ) (line text : List ℕ) → IsOver coming
    → count ≡ length views → text ≡ record_lines 0 views → (coming ≡ Finished → line ≡ records_line count)
    → (coming ≢ Finished → line ≡ []) → Given coming views [] line text
ended_given Head views count line text over number is done other = absurd over
ended_given Rest views count line text over number is done other = absurd over
ended_given Whole views count line text over number is done other = absurd over
ended_given (Refused why) views count line text over number is done other = (is, other (λ e. cc))
ended_given NoRoom views count line text over number is done other = absurd over
ended_given Finished views count line text over number is done other =
    (refl, inl (done refl ∙ ap records_line number, is))

pub ended : EventsTell → (start m n : FrameLines) (events : List Event) (input : ℕ) (bytes : List ℕ)
    → FallsShort (next_of m) input (length bytes) → IsOver (coming_of n.feed) → coming_of n.feed ≢ Whole
    → (coming_of n.feed ≡ Finished → n.line ≡ records_line (count_of n.feed))
    → (coming_of n.feed ≢ Finished → n.line ≡ m.line)
    → ((views : List RecordView) (came : List ℕ) (over : Bool) → RecordFeedStandsFor m.feed views came over
    → RecordFeedStandsFor n.feed views came true)
    → Comes start events m → Comes start (events ++ Ended input bytes ∷ []) n
ended law start m n events input bytes wanted over seen done other stands c =
    let s = c.shown in
    let w = short m input (length bytes) wanted in
    let few = w.1 in
    let nothing : bytes ≡ [] = nil_from_length bytes (omega (arith, few)) in
    let now : List Event = events ++ Ended 0 bytes ∷ [] in
    let more = law.ended 0 bytes events in
    let views : List RecordView = s.told ++ s.next in
    let same : fed 0 now ≡ fed 0 events = more.here ∙ ap (λ (l : List ℕ). fed 0 events ++ l) nothing
    ∙ append-nil (fed 0 events) in
    let feed : RecordFeedStandsFor n.feed views (fed 0 now) (has_ended 0 now) =
    rw (same, more.ended) (stands views (fed 0 events) (has_ended 0 events) s.feed) in
    subst (λ (k : ℕ). Comes start (events ++ Ended k bytes ∷ []) n) (sym w.0.only) (record {
      fresh = c.fresh;
      shown = record {
        told = views;
        next = [];
        feed = rw (append-nil views) feed;
        seen = seen;
        given = ended_given (coming_of n.feed) views (count_of n.feed) n.line (gave now) over feed.number
            (more.gave ∙ all_told m events s w.0.idle (unfinished m.feed w.0.some)) done (λ e. other e ∙ w.0.idle);
      };
    })
