-- Lines of records are given.
use Rattle.std.proofs.Common.{◌≡◌, ◌≢◌, ℕ, zero, suc, List, [], ◌∷◌, ◌++◌, refl, ap, sym, ◌∙◌, inl, inr}
use Rattle.std.proofs.Common.{append-nil}
use Rattle.file_run.specs.declared.input.TheConstants.{BUFFER}
use Rattle.file_run.specs.Events.{Event, Gave, gave}
use Rattle.file_run.specs.Laws.{EventsTell}
use Rattle.file_run.specs.declared.machine.Step.TheVariants.{Read, Give, End}
use Rattle.site_frame.specs.declared.reading.RecordView.{RecordView}
use Rattle.site_frame.specs.FeedStandsFor.{coming_of}
use Rattle.site_frame.specs.declared.coming.Coming.{Coming}
use Rattle.site_frame.specs.declared.coming.Coming.TheVariants.{Head, Rest, Whole, Refused, NoRoom, Finished}
use Rattle.show_run.specs.FrameLines.{next_from, Given, IsNew, Comes}
use Rattle.show_run.specs.declared.frame_lines.FrameLines.{FrameLines}
use Rattle.show_run.proofs.FrameLinesLemmas.{lines_next}

line_given : (coming : Coming) (told next : List RecordView) (line text now : List ℕ) → line ≢ [] → now ≡ text ++ line
    → Given coming told next line text
    → (all : List RecordView) × (left : List RecordView) × (all ++ left ≡ told ++ next) × Given coming all left [] now
line_given Finished told next line text now some is (none, inl waits) =
    (told, [], ap (λ (l : List RecordView). told ++ l) (sym none), (refl, inr (refl, is ∙ rw (waits.0, waits.1) refl)))
line_given Finished told next line text now some is (none, inr given) = absurd (some given.0)
line_given Head told next line text now some is g =
    (told ++ next, [], append-nil (told ++ next), (is ∙ lines_next told next line text g.0 g.1, refl))
line_given Rest told next line text now some is g =
    (told ++ next, [], append-nil (told ++ next), (is ∙ lines_next told next line text g.0 g.1, refl))
line_given (Refused why) told next line text now some is g =
    (told ++ next, [], append-nil (told ++ next), (is ∙ lines_next told next line text g.0 g.1, refl))
line_given Whole told next line text now some is g =
    (told ++ next, [], append-nil (told ++ next), (is ∙ lines_next told next line text g.0 g.1, refl))
line_given NoRoom told next line text now some is g =
    (told ++ next, [], append-nil (told ++ next), (is ∙ lines_next told next line text g.0 g.1, refl))

pub gave_line : EventsTell → (start m n : FrameLines) (events : List Event) (bytes : List ℕ) → m.line ≢ []
    → bytes ≡ m.line
    → n.line ≡ [] → n.feed ≡ m.feed → Comes start events m → Comes start (events ++ Gave bytes ∷ []) n
gave_line law start m n events bytes some is none same c =
    let s = c.shown in
    let now : List Event = events ++ Gave bytes ∷ [] in
    let more = law.given bytes events in
    let g = line_given (coming_of m.feed) s.told s.next m.line (gave events) (gave now) some
    (more.gave ∙ ap (λ (l : List ℕ). gave events ++ l) is) s.given in
    record {
      fresh = c.fresh;
      shown = record {
        told = g.0;
        next = g.1;
        feed = rw (g.2, more.fed 0, more.ended 0, same) s.feed;
        seen = λ whole. s.seen (ap coming_of (sym same) ∙ whole);
        given = rw (same, none) g.3;
      };
    }

-- a machine that gives has a line
pub gives_line : (line : List ℕ) (lacks : ℕ) → next_from line lacks ≡ Give → line ≢ []
gives_line [] zero e = absurd (let f : End ≡ Give = e in cc)
gives_line [] (suc lacks) e = absurd (let f : Read 0 1 BUFFER ≡ Give = e in cc)
gives_line (c ∷ line) lacks e = λ none. cc

-- nothing was done yet
pub comes_first : (m : FrameLines) → IsNew m → Comes m [] m
comes_first m fresh = record {
  fresh = fresh;
  shown = record {
    told = [];
    next = [];
    feed = fresh.feed;
    seen = λ whole. let e : Head ≡ Whole = sym fresh.coming ∙ whole in cc;
    given = rw fresh.coming (refl, fresh.line);
  };
}
