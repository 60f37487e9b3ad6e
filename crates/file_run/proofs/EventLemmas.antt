-- What events tell of inputs and of the output, one behind another.
use Rattle.std.proofs.Common.{◌≡◌, ◌≢◌, ℕ, ◌==◌, Bool, true, false, cond, List, [], ◌∷◌, ◌++◌, refl, ap, sym, ◌∙◌}
use Rattle.std.proofs.Common.{append-nil, eq-eqb}
use Rattle.std.specs.Prelude.{◌||◌}
use Rattle.std.proofs.lemmas.Bool.{ne_eqb}
use Rattle.std.proofs.lemmas.Grind.{flat_map-append}
use Rattle.std.proofs.lemmas.List.Folds.{list_any-append}
use Rattle.file_run.specs.Events.{Event, Fed, Ended, Gave, bytes_to, bytes_from, ends, fed, has_ended, gave, OnlyGave}
use Rattle.file_run.specs.Laws.{FedMore, EndedMore, GaveMore, GavePiece, EventsTell}

or_off : (b : Bool) → (b || false) ≡ b
or_off true = refl
or_off false = refl

or_on : (b : Bool) → (b || true) ≡ true
or_on true = refl
or_on false = refl

-- one event more
fed_one : (input : ℕ) (events : List Event) (e : Event) → fed input (events ++ e ∷ []) ≡ fed input events
    ++ bytes_to input e
fed_one input events e = flat_map-append (bytes_to input) events (e ∷ []) ∙ ap (λ (l : List ℕ). fed input events ++ l)
    (append-nil (bytes_to input e))

ended_one : (input : ℕ) (events : List Event) (e : Event) → has_ended input (events ++ e ∷ [])
    ≡ (has_ended input events || ends input e)
ended_one input events e = list_any-append (ends input) events (e ∷ []) ∙ ap (λ (b : Bool). has_ended input events || b)
    (or_off (ends input e))

gave_one : (events : List Event) (e : Event) → gave (events ++ e ∷ []) ≡ gave events ++ bytes_from e
gave_one events e = flat_map-append bytes_from events (e ∷ []) ∙ ap (λ (l : List ℕ). gave events ++ l)
    (append-nil (bytes_from e))

-- an event that ends nothing, or gives nothing
still_open : (input : ℕ) (events : List Event) (e : Event) → ends input e ≡ false → has_ended input (events ++ e ∷ [])
    ≡ has_ended input events
still_open input events e off = ended_one input events e ∙ ap (λ (b : Bool). has_ended input events || b) off
    ∙ or_off (has_ended input events)

gives_none : (events : List Event) (e : Event) → bytes_from e ≡ [] → gave (events ++ e ∷ []) ≡ gave events
gives_none events e none = gave_one events e ∙ ap (λ (l : List ℕ). gave events ++ l) none ∙ append-nil (gave events)

-- the bytes for an input, and for another one
to_itself : (input : ℕ) (bytes : List ℕ) → cond (input == input) bytes [] ≡ bytes
to_itself input bytes = let self : (input == input) ≡ true = eq-eqb input input refl in ap
    (λ (b : Bool). cond b bytes []) self

to_another : (input other : ℕ) (bytes : List ℕ) → other ≢ input → cond (input == other) bytes [] ≡ []
to_another input other bytes differ = let apart : (input == other) ≡ false = ne_eqb input other (λ e. differ (sym e)) in
    ap (λ (b : Bool). cond b bytes []) apart

fed_apart : (other : ℕ) (events : List Event) (e : Event) → bytes_to other e ≡ [] → fed other (events ++ e ∷ [])
    ≡ fed other events
fed_apart other events e none = fed_one other events e ∙ ap (λ (l : List ℕ). fed other events ++ l) none
    ∙ append-nil (fed other events)

pub fed_more : (input : ℕ) (bytes : List ℕ) (events : List Event) → FedMore input bytes events
fed_more input bytes events = record {
  here = fed_one input events (Fed input bytes) ∙ ap (λ (l : List ℕ). fed input events ++ l) (to_itself input bytes);
  others = λ other differ. fed_apart other events (Fed input bytes) (to_another input other bytes differ);
  ended = λ other. still_open other events (Fed input bytes) refl;
  gave = gives_none events (Fed input bytes) refl;
}

pub ended_more : (input : ℕ) (bytes : List ℕ) (events : List Event) → EndedMore input bytes events
ended_more input bytes events =
    let self : (input == input) ≡ true = eq-eqb input input refl in
    record {
      here = fed_one input events (Ended input bytes) ∙ ap (λ (l : List ℕ). fed input events ++ l)
          (to_itself input bytes);
      others = λ other differ. fed_apart other events (Ended input bytes) (to_another input other bytes differ);
      ended = ended_one input events (Ended input bytes) ∙ ap (λ (b : Bool). has_ended input events || b) self
          ∙ or_on (has_ended input events);
      others_ended = λ other differ. still_open other events (Ended input bytes)
          (ne_eqb input other (λ e. differ (sym e)));
      gave = gives_none events (Ended input bytes) refl;
    }

pub gave_piece : (bytes : List ℕ) (events : List Event) → GavePiece bytes events
gave_piece bytes events = record {
  fed = λ input. fed_apart input events (Gave bytes) refl;
  ended = λ input. still_open input events (Gave bytes) refl;
  gave = gave_one events (Gave bytes);
}

pub gave_more : (events late : List Event) → OnlyGave late → GaveMore events late
gave_more events late only = record {
  fed = λ input. flat_map-append (bytes_to input) events late ∙ ap (λ (l : List ℕ). fed input events ++ l)
      (only.fed input)
      ∙ append-nil (fed input events);
  ended = λ input. list_any-append (ends input) events late ∙ ap (λ (b : Bool). has_ended input events || b)
      (only.ended input)
      ∙ or_off (has_ended input events);
  gave = flat_map-append bytes_from events late;
}

pub events_tell : EventsTell
events_tell = record { fed = fed_more; ended = ended_more; given = gave_piece; late = gave_more }

-- These bytes more were fed of the first input, and nothing was given.
pub record Adds (was now : List Event) (piece : List ℕ) : Type 0 where
  pub fed_is : fed 0 now ≡ fed 0 was ++ piece
  pub gave_is : gave now ≡ gave was

-- giving alone
pub only_none : OnlyGave []
only_none = record { fed = λ input. refl; ended = λ input. refl }

pub only_more : (events : List Event) (bytes : List ℕ) → OnlyGave events → OnlyGave (events ++ Gave bytes ∷ [])
only_more events bytes o = let p = gave_piece bytes events in
    record { fed = λ input. p.fed input ∙ o.fed input; ended = λ input. p.ended input ∙ o.ended input }
