-- What of a file of records is wanted next, and what is known if it is fed.
use Rattle.std.proofs.Common.{◌≡◌, ◌≢◌, ℕ, zero, suc, ◌+◌, ◌<◌, ◌≤◌, List, [], ◌∷◌, length, refl, sym, subst, arith}
use Rattle.file_run.specs.Reading.{longest_file}
use Rattle.file_run.specs.declared.input.TheConstants.{BUFFER}
use Rattle.file_run.specs.Events.{fed}
use Rattle.file_run.specs.Steps.{Suffices, FallsShort, Needs, HasRoom}
use Rattle.file_run.specs.declared.machine.Step.{Step}
use Rattle.file_run.specs.declared.machine.Step.TheVariants.{Read, Give, End}
use Rattle.site_frame.specs.FeedStandsFor.{coming_of, came_of, lacks_at, lacks_of}
use Rattle.site_frame.specs.declared.coming.Coming.{Coming}
use Rattle.site_frame.specs.declared.coming.Coming.TheVariants.{Finished}
use Rattle.site_frame.specs.declared.feed.RecordFeed.{RecordFeed}
use Rattle.show_run.specs.FrameLines.{next_from, next_of, Comes}
use Rattle.show_run.specs.declared.frame_lines.FrameLines.{FrameLines}

-- No line waits, and bytes are lacking of the only input.
pub record Wants (line : List ℕ) (lacks input : ℕ) : Type 0 where
  pub idle : line ≡ []
  pub only : input ≡ 0
  pub some : 0 < lacks

-- what is asked of the next step, which neither gives nor is the end, is asked of reading
wants_if : (P : Step → Type 0) → (P Give → ⊥) → (P End → ⊥) → (line : List ℕ) (lacks : ℕ) → P (next_from line lacks)
    → (line ≡ []) × (0 < lacks) × P (Read 0 1 BUFFER)
wants_if P give end [] zero p = absurd (end p)
wants_if P give end [] (suc lacks) p = (refl, omega arith, p)
wants_if P give end (c ∷ line) lacks p = absurd (give p)

pub short : (m : FrameLines) (input count : ℕ) → FallsShort (next_of m) input count
    → Wants m.line (lacks_of m.feed) input
    × (count < 1)
short m input count s =
    let w = wants_if (λ step. FallsShort step input count) (λ e. e) (λ e. e) m.line (lacks_of m.feed) s in
    (record { idle = w.0; only = sym w.2.0; some = w.1 }, w.2.1)

pub enough : (m : FrameLines) (input count : ℕ) → Suffices (next_of m) input count
    → Wants m.line (lacks_of m.feed) input
    × (0 < count)
enough m input count s =
    let w = wants_if (λ step. Suffices step input count) (λ e. e) (λ e. e) m.line (lacks_of m.feed) s in
    let k = w.2.1 in (record { idle = w.0; only = sym w.2.0; some = w.1 }, omega (arith, k))

pub needs : (m : FrameLines) (input count : ℕ) → Needs (next_of m) input count → Wants m.line (lacks_of m.feed) input
    × (count ≤ 1)
needs m input count s =
    let w = wants_if (λ step. Needs step input count) (λ e. e) (λ e. e) m.line (lacks_of m.feed) s in
    (record { idle = w.0; only = sym w.2.0; some = w.1 }, w.2.1)

-- if bytes are lacking the file has not ended
pub unfinished : (f : RecordFeed) → 0 < lacks_of f → coming_of f ≢ Finished
unfinished f some done =
    absurd (let none : 0 < 0 = subst (λ (p : Coming). 0 < lacks_at p f.left) done some in omega (arith, none))

-- what was fed fits
pub fits : (m : FrameLines) (input count : ℕ) → HasRoom Comes m input count → input ≡ 0
    → came_of m.feed + count ≤ longest_file
fits m input count room only =
    let few : length (fed 0 room.events) + count ≤ longest_file =
    subst (λ (k : ℕ). length (fed k room.events) + count ≤ longest_file) only room.few in
    let size = room.came.shown.feed.size in omega (arith, size, few)
