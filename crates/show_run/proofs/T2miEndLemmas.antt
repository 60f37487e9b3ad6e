-- What of a stream is wanted, and what is known once it has ended.
use Rattle.std.proofs.Common.{◌≡◌, ℕ, ◌+◌, ◌-◌, ◌/◌, ◌<◌, Bool, true, false, cond, List, [], ◌∷◌, ◌++◌, length}
use Rattle.std.proofs.Common.{take, drop, map}
use Rattle.std.proofs.Common.{refl, ap, ap₂, sym, subst, ◌∙◌, inl, inr, arith, append_assoc, append-nil, length-append}
use Rattle.std.specs.Prelude.{◌⊎◌, nat_lt}
use Rattle.std.proofs.lemmas.List.{length-map, length-take-le, nil_from_length}
use Rattle.std.proofs.lemmas.Bool.{ltb-false}
use Rattle.std.proofs.Math.ListN.{drop_of_length-le}
use Rattle.std.proofs.Math.Seq.{take-length, take-append_seam, take-append-add}
use Rattle.file_run.specs.Reading.{longest_file}
use Rattle.file_run.specs.declared.input.TheConstants.{BUFFER}
use Rattle.ts_packet.specs.declared.sizes.TheConstants.{SIZE}
use Rattle.ts_packet.specs.FieldsIn.{fields_in}
use Rattle.t2mi_stream.specs.Events as stream
use Rattle.t2mi_stream.specs.FirstPid.{pid_of, PacketsBehind, NoPackets, t2mi_packets_in}
use Rattle.t2mi_stream.specs.Skipping.{further}
use Rattle.t2mi_stream.specs.Units.{Cut, accepted_in, accepted_of}
use Rattle.t2mi_stream.proofs.UnitLemmas.{runs_same}
use Rattle.t2mi_stream.specs.UnpiperStandsFor.{UnpiperStandsFor, is_ready, AllReleased}
use Rattle.t2mi_stream.specs.declared.unpiper.Unpiper.{Unpiper}
use Rattle.file_run.specs.Events.{Event, Fed, Ended, fed, has_ended, gave}
use Rattle.file_run.specs.FileRun.{IsFed}
use Rattle.file_run.specs.Laws.{EventsTell}
use Rattle.file_run.specs.Steps.{Suffices, FallsShort, Needs}
use Rattle.file_run.specs.declared.machine.Step.{Step}
use Rattle.file_run.specs.declared.machine.Step.TheVariants.{Read, Give, End}
use Rattle.show_run.specs.SaidLines.{count_line}
use Rattle.show_run.specs.T2miLines.{next_in, next_of, packets_from, Seeking, Unpiping, Comes}
use Rattle.show_run.specs.T2miText.{place_lines}
use Rattle.show_run.specs.declared.t2mi_lines.T2miLines.{T2miLines}
use Rattle.show_run.specs.declared.t2mi_lines.Search.{Search}
use Rattle.show_run.specs.declared.t2mi_lines.Search.TheVariants.{Seeks, Unpipes, Finished}
use Rattle.show_run.proofs.T2miLinesLemmas.{found_as, found_in}

-- the file has ended behind units that tell no PID
ended_seeking : EventsTell → NoPackets → (start m n : T2miLines) (events : List Event) (bytes : List ℕ)
    → m.search ≡ Seeks
    → length bytes < SIZE → n.search ≡ Finished → n.at ≡ m.at + length bytes → n.count ≡ m.count
    → n.line ≡ count_line m.count
    → Comes start events m
    → Comes start (events ++ Ended 0 bytes ∷ []) n
ended_seeking law none start m n events bytes seeks few done at count line c =
    let f = found_in m _ _ _ Seeks seeks c.shown.found in
    let more = law.ended 0 bytes events in
    let empty : t2mi_packets_in (fed 0 (events ++ Ended 0 bytes ∷ [])) ≡ [] = ap t2mi_packets_in more.here
    ∙ none (fed 0 events) bytes f.none few in
    record {
      fresh = c.fresh;
      shown = record {
        place = (let p = c.shown.place in let l = ap length more.here in let k = length-append (fed 0 events) bytes in
            omega (arith, at, p, l, k));
        found = found_as n _ _ _ Finished done (record {
          over = more.ended;
          number = count ∙ f.number ∙ ap length (sym empty);
          lines = inl (line ∙ ap count_line (sym count), more.gave ∙ f.silent ∙ ap place_lines (sym empty));
        });
      };
    }

-- the packets behind units that tell no PID
pub behind_all : PacketsBehind → (m : T2miLines) (all text : List ℕ) (ended : Bool) (f : Unpiping m all text ended)
    (more : List ℕ) → t2mi_packets_in (all ++ more) ≡ map (further (length f.front))
    (accepted_of f.pid ((f.bytes ++ drop m.from m.unit) ++ more))
behind_all law m all text ended f more =
    let rest = (f.bytes ++ drop m.from m.unit) ++ more in
    let whole : all ++ more ≡ f.front ++ rest = ap (λ (l : List ℕ). l ++ more) f.parts
    ∙ append_assoc f.front (f.bytes ++ drop m.from m.unit) more in
    let starts : rest ≡ f.first ++ (f.more ++ more) = ap (λ (l : List ℕ). l ++ more) f.begins
    ∙ append_assoc f.first f.more more in
    let n = ap length starts in
    let k = length-append f.first (f.more ++ more) in
    let w = f.whole in
    let unit : take SIZE rest ≡ f.first = ap (take SIZE) starts ∙ ap (λ (j : ℕ). take j (f.first ++ (f.more ++ more)))
    (sym f.whole) ∙ take-append_seam f.first (f.more ++ more) in
    ap t2mi_packets_in whole ∙ law f.front rest f.pid f.none (omega (arith, n, k, w))
    (ap (λ (l : List ℕ). pid_of (fields_in l)) unit ∙ f.tells)

-- an unpiper was asked for all packets
abbrev HasReleased : Unpiper → Type 0
HasReleased unpiper = (p : ℕ) (events : List stream.UnpiperEvent) → UnpiperStandsFor unpiper p events
    → AllReleased p events

-- all packets of what came were given, if none waits and no byte of the unit that told the PID is left
given_all : PacketsBehind → (m : T2miLines) (all text : List ℕ) (ended : Bool) (f : Unpiping m all text ended)
    → drop m.from m.unit ≡ [] → HasReleased m.unpiper
    → (length (t2mi_packets_in all) ≡ m.count) × (text ≡ place_lines (t2mi_packets_in all))
given_all behind m all text ended f held released =
    let u = f.unpiped in
    let packets = packets_from f.pid (length f.front) f.bytes in
    let given : length (accepted_of f.pid f.bytes) ≡ m.count = ap (λ (l : List ℕ). length (accepted_of f.pid l))
    (sym u.fed_are)
    ∙ released f.pid u.events u.stands ∙ u.number in
    let rest : (f.bytes ++ drop m.from m.unit) ++ [] ≡ f.bytes = append-nil (f.bytes ++ drop m.from m.unit)
    ∙ ap (λ (l : List ℕ). f.bytes ++ l) held ∙ append-nil f.bytes in
    let are : t2mi_packets_in all ≡ packets = ap t2mi_packets_in (sym (append-nil all))
    ∙ behind_all behind m all text ended f []
    ∙ ap (λ (l : List ℕ). map (further (length f.front)) (accepted_of f.pid l)) rest in
    let many : length packets ≡ m.count = length-map (accepted_of f.pid f.bytes) (further (length f.front)) ∙ given in
    let whole : take m.count packets ≡ packets = ap (λ (j : ℕ). take j packets) (sym many) ∙ take-length packets in
    (ap length are ∙ many, f.lines ∙ ap place_lines (whole ∙ sym are))

-- the file has ended behind the unit that told the PID
ended_unpiping : EventsTell → PacketsBehind → (start m n : T2miLines) (events : List Event) (bytes : List ℕ)
    → m.search ≡ Unpipes
    → bytes ≡ [] → drop m.from m.unit ≡ [] → HasReleased m.unpiper → n.search ≡ Finished
    → n.at ≡ m.at + length bytes → n.count ≡ m.count → n.line ≡ count_line m.count
    → Comes start events m
    → Comes start (events ++ Ended 0 bytes ∷ []) n
ended_unpiping law behind start m n events bytes unpipes none held released done at count line c =
    let f = found_in m _ _ _ Unpipes unpipes c.shown.found in
    let more = law.ended 0 bytes events in
    let g = given_all behind m (fed 0 events) (gave events) (has_ended 0 events) f held released in
    let all : t2mi_packets_in (fed 0 (events ++ Ended 0 bytes ∷ [])) ≡ t2mi_packets_in (fed 0 events) =
    ap t2mi_packets_in (more.here ∙ ap (λ (l : List ℕ). fed 0 events ++ l) none ∙ append-nil (fed 0 events)) in
    record {
      fresh = c.fresh;
      shown = record {
        place = (let p = c.shown.place in let l = ap length more.here in let k = length-append (fed 0 events) bytes in
            omega (arith, at, p, l, k));
        found = found_as n _ _ _ Finished done (record {
          over = more.ended;
          number = count ∙ sym g.0 ∙ ap length (sym all);
          lines = inl (line ∙ ap count_line (sym count), more.gave ∙ g.1 ∙ ap place_lines (sym all));
        });
      };
    }

-- What is asked of the next step, which neither gives nor is the end, is asked of reading: of a unit that may tell the
-- PID, or of any byte, if no packet waits and no byte of the unit that told the PID is left.
abbrev Asked : (Step → Type 0) → Search → Bool → ℕ → Type 0
Asked P search ready left = ((search ≡ Seeks) × P (Read 0 SIZE BUFFER))
    ⊎ ((search ≡ Unpipes) × (ready ≡ false) × (left ≡ 0) × P (Read 0 1 BUFFER))

asked_in : (P : Step → Type 0) → (P Give → ⊥) → (P End → ⊥) → (search : Search) (ready : Bool) (left : ℕ)
    (line : List ℕ) → P (next_in search ready left line) → Asked P search ready left
asked_in P give end Seeks ready left line s = inl (refl, s)
asked_in P give end Unpipes true left line s = absurd (give s)
asked_in P give end Unpipes false left line s = go (nat_lt 0 left) refl s
  where
    go : (b : Bool) → nat_lt 0 left ≡ b → P (cond b Give (Read 0 1 BUFFER)) → Asked P Unpipes false left
    go true is s = absurd (give s)
    go false is s = inr (refl, refl, (let n = ltb-false 0 left is in omega (arith, n)), s)
asked_in P give end Finished ready left [] s = absurd (end s)
asked_in P give end Finished ready left (c ∷ line) s = absurd (give s)

asked : (P : Step → Type 0) → (P Give → ⊥) → (P End → ⊥) → (m : T2miLines) → P (next_of m)
    → Asked P m.search (is_ready m.unpiper) (SIZE - m.from)
asked P give end m s = asked_in P give end m.search (is_ready m.unpiper) (SIZE - m.from) m.line s

pub wanted : (m : T2miLines) (input count : ℕ) → Suffices (next_of m) input count → input ≡ 0
wanted m input count s = elim (asked (λ step. Suffices step input count) (λ e. e) (λ e. e) m s) [
  | inl w ↦ sym w.1.0
  | inr w ↦ sym w.3.0
]

pub at_input : (start n : T2miLines) (events : List Event) (input : ℕ) (bytes : List ℕ) → input ≡ 0
    → Comes start (events ++ Fed 0 bytes ∷ []) n → Comes start (events ++ Fed input bytes ∷ []) n
at_input start n events input bytes zero c = subst (λ (k : ℕ). Comes start (events ++ Fed k bytes ∷ []) n) (sym zero) c

-- if it needs bytes, the lines of all packets in those that came were given
pub all_given : NoPackets → PacketsBehind → (start m : T2miLines) (events : List Event) (least : ℕ)
    → length m.unit ≡ SIZE → (is_ready m.unpiper ≡ false → HasReleased m.unpiper) → Comes start events m
    → Needs (next_of m) 0 least → gave events ≡ place_lines (t2mi_packets_in (fed 0 events))
all_given none behind start m events least size released c s =
    elim (asked (λ step. Needs step 0 least) (λ e. e) (λ e. e) m s) [
      | inl seeks ↦
          let f = found_in m _ _ _ Seeks seeks.0 c.shown.found in
          let empty : t2mi_packets_in (fed 0 events) ≡ [] = ap t2mi_packets_in (sym (append-nil (fed 0 events)))
          ∙ none (fed 0 events) [] f.none (omega arith) in
          f.silent ∙ ap place_lines (sym empty)
      | inr unpipes ↦
          let f = found_in m _ _ _ Unpipes unpipes.0 c.shown.found in
          (given_all behind m (fed 0 events) (gave events) (has_ended 0 events) f
          (drop_of_length-le m.unit (let l = unpipes.2 in omega (arith, l, size))) (released unpipes.1)).1
    ]

-- units that tell no PID, and bytes behind them that are no unit, hold no packet
same_seeking : NoPackets → (m : T2miLines) (all text more : List ℕ) (ended : Bool) → Seeking m all text ended
    → length more < SIZE → t2mi_packets_in (all ++ more) ≡ t2mi_packets_in all
same_seeking none m all text more ended f few =
    none all more f.none few ∙ sym (ap t2mi_packets_in (sym (append-nil all)) ∙ none all [] f.none (omega arith))

-- bytes that make no further unit whole bring no packet
same_unpiping : PacketsBehind → (m : T2miLines) (all text more : List ℕ) (ended : Bool) → Unpiping m all text ended
    → (length all + length more) / SIZE ≡ length all / SIZE → t2mi_packets_in (all ++ more) ≡ t2mi_packets_in all
same_unpiping behind m all text more ended f within =
    let rest = f.bytes ++ drop m.from m.unit in
    let w = f.none.whole in
    let size = ap length f.parts in
    let parts = length-append f.front rest in
    let sum = length-append rest more in
    let units : length (rest ++ more) / SIZE ≡ length rest / SIZE = omega (arith, w, size, parts, sum, within) in
    behind_all behind m all text ended f more
    ∙ ap (λ (c : Cut). map (further (length f.front)) (accepted_in c)) (runs_same f.pid rest more units)
    ∙ sym (ap t2mi_packets_in (sym (append-nil all)) ∙ behind_all behind m all text ended f []
    ∙ ap (λ (l : List ℕ). map (further (length f.front)) (accepted_of f.pid l)) (append-nil rest))

-- 2^40 bytes end 36 bytes behind a unit, so the last of them, at which nobody may have looked, ends none
same_needed : NoPackets → PacketsBehind → (start m : T2miLines) (events : List Event) (more : List ℕ)
    → Comes start events m
    → length (fed 0 events) + length more ≡ longest_file → Needs (next_of m) 0 (length more)
    → t2mi_packets_in (fed 0 events ++ more) ≡ t2mi_packets_in (fed 0 events)
same_needed none behind start m events more c all s =
    elim (asked (λ step. Needs step 0 (length more)) (λ e. e) (λ e. e) m s) [
      | inl seeks ↦
          let f = found_in m _ _ _ Seeks seeks.0 c.shown.found in
          let w = f.none.whole in
          let few = seeks.1.1 in
          same_seeking none m (fed 0 events) (gave events) more (has_ended 0 events) f (omega (arith, w, few, all))
      | inr unpipes ↦
          let f = found_in m _ _ _ Unpipes unpipes.0 c.shown.found in
          let few = unpipes.3.1 in
          same_unpiping behind m (fed 0 events) (gave events) more (has_ended 0 events) f (omega (arith, few, all))
    ]

-- of a file that could not be read on, only bytes that are no whole unit were not looked at
same_short : NoPackets → PacketsBehind → (start m : T2miLines) (events : List Event) (more : List ℕ)
    → Comes start events m
    → FallsShort (next_of m) 0 (length more) → t2mi_packets_in (fed 0 events ++ more) ≡ t2mi_packets_in (fed 0 events)
same_short none behind start m events more c s =
    elim (asked (λ step. FallsShort step 0 (length more)) (λ e. e) (λ e. e) m s) [
      | inl seeks ↦
          same_seeking none m (fed 0 events) (gave events) more (has_ended 0 events)
          (found_in m _ _ _ Seeks seeks.0 c.shown.found) seeks.1.1
      | inr unpipes ↦
          ap (λ (l : List ℕ). t2mi_packets_in (fed 0 events ++ l))
          (nil_from_length more (let few = unpipes.3.1 in omega (arith, few)))
          ∙ ap t2mi_packets_in (append-nil (fed 0 events))
    ]

-- what was read is what was fed, and so many bytes behind it
read_parts : (file front : List ℕ) (given : ℕ) (ended : Bool) → IsFed file given front ended
    → (more : List ℕ) × (take given file ≡ front ++ more) × (length more ≡ given - length front)
read_parts file front given ended f =
    let a = f.ahead in
    let w = f.within in
    let size = ap length f.parts in
    let sum = length-append front f.more in
    let least : given ≡ length front + (given - length front) = omega (arith, a) in (
      take (given - length front) f.more,
      ap₂ (λ (n : ℕ) (l : List ℕ). take n l) least f.parts ∙ take-append-add front f.more (given - length front),
      length-take-le (given - length front) f.more (omega (arith, a, w, size, sum)),
    )

-- the packets in all that was read of a file that is too long are those in what was fed
pub read_needed : NoPackets → PacketsBehind → (start m : T2miLines) (events : List Event) (file : List ℕ)
    → Comes start events m
    → IsFed file longest_file (fed 0 events) (has_ended 0 events)
    → Needs (next_of m) 0 (longest_file - length (fed 0 events))
    → t2mi_packets_in (take longest_file file) ≡ t2mi_packets_in (fed 0 events)
read_needed none behind start m events file c f s =
    let r = read_parts file (fed 0 events) longest_file (has_ended 0 events) f in
    let a = f.ahead in
    let n = r.2 in
    ap t2mi_packets_in r.1
    ∙ same_needed none behind start m events r.0 c (omega (arith, a, n)) (subst (Needs (next_of m) 0) (sym r.2) s)

-- and of one that could not be read on
pub read_short : NoPackets → PacketsBehind → (start m : T2miLines) (events : List Event) (file : List ℕ) (given : ℕ)
    → Comes start events m → IsFed file given (fed 0 events) (has_ended 0 events)
    → FallsShort (next_of m) 0 (given - length (fed 0 events)) → t2mi_packets_in (take given file) ≡ t2mi_packets_in
    (fed 0 events)
read_short none behind start m events file given c f s =
    let r = read_parts file (fed 0 events) given (has_ended 0 events) f in
    ap t2mi_packets_in r.1 ∙ same_short none behind start m events r.0 c (subst (FallsShort (next_of m) 0) (sym r.2) s)

-- what falls short is needed
pub short_needs : (step : Step) (count : ℕ) → FallsShort step 0 count → Needs step 0 count
short_needs (Read of least most) count s = (s.0, (let few = s.1 in omega (arith, few)))
short_needs Give count s = absurd s
short_needs End count s = absurd s

-- the file has ended
pub ended : EventsTell → NoPackets → PacketsBehind → (start m n : T2miLines) (events : List Event) (input : ℕ)
    (bytes : List ℕ)
    → FallsShort (next_of m) input (length bytes) → length m.unit ≡ SIZE
    → (is_ready m.unpiper ≡ false → HasReleased m.unpiper) → n.search ≡ Finished → n.at ≡ m.at + length bytes
    → n.count ≡ m.count → n.line ≡ count_line m.count
    → Comes start events m
    → Comes start (events ++ Ended input bytes ∷ []) n
ended law none behind start m n events input bytes s size released done at count line c =
    elim (asked (λ step. FallsShort step input (length bytes)) (λ e. e) (λ e. e) m s) [
      | inl seeks ↦ subst (λ (k : ℕ). Comes start (events ++ Ended k bytes ∷ []) n) seeks.1.0
          (ended_seeking law none start m n events bytes seeks.0 seeks.1.1 done at count line c)
      | inr unpipes ↦ subst (λ (k : ℕ). Comes start (events ++ Ended k bytes ∷ []) n) unpipes.3.0
          (ended_unpiping law behind start m n events bytes unpipes.0
          (nil_from_length bytes (let few = unpipes.3.1 in omega (arith, few)))
          (drop_of_length-le m.unit (let l = unpipes.2 in omega (arith, l, size))) (released unpipes.1)
          done at count line c)
    ]
