-- How the state of a desk is stored. No public clause cites this module.
use Rattle.std.specs.Prelude.{◌≡◌, ℕ, zero, suc, Bool, List, refl}
use Rattle.std.specs.declared.option.Option.{Option}
use Rattle.std.specs.FinMap.{code}
use Rattle.std.specs.Coded.{Coded, code_by, coded×, coded_ℕ, coded_list, coded_bool, coded_option}
use Rattle.ports.specs.declared.counts.Counts.{Counts}
use Rattle.ports.specs.declared.fault.FaultKind.{FaultKind}
use Rattle.ports.specs.declared.fault.FaultKind.TheVariants.{Reading, Writing, LastLine}
use Rattle.ports.specs.declared.script.Script.{Script}
use Rattle.ports.specs.Calls.{KindCalls}
use Rattle.ports.specs.CallsCode.{calls_code}
use Rattle.ports.specs.Desk.{Files, Held, State}
use Rattle.ports.specs.MemoryDesk.{Memory}

abbrev held_code : Coded Held
held_code = code_by (Files × (List (List ℕ) × List (List ℕ)))
    (coded× (code (coded_list coded_ℕ) (coded_list coded_ℕ))
    (coded× (coded_list (coded_list coded_ℕ)) (coded_list (coded_list coded_ℕ))))
    (λ h. (h.files, (h.names, h.outs))) (λ p. record { files = p.0; names = p.1.0; outs = p.1.1 }) (λ _. refl)

-- a kind of faults is stored as its place among them
abbrev pub place_of : FaultKind → ℕ
place_of Reading = 0
place_of Writing = 1
place_of LastLine = 2

abbrev pub kind_at : ℕ → FaultKind
kind_at zero = Reading
kind_at (suc zero) = Writing
kind_at (suc (suc _)) = LastLine

pub kind_at-place_of : (kind : FaultKind) → kind_at (place_of kind) ≡ kind
kind_at-place_of Reading = refl
kind_at-place_of Writing = refl
kind_at-place_of LastLine = refl

abbrev kind_code : Coded FaultKind
kind_code = code_by ℕ coded_ℕ place_of kind_at kind_at-place_of

abbrev counts_code : Coded Counts
counts_code = code_by (ℕ × (ℕ × (ℕ × Option FaultKind)))
    (coded× coded_ℕ (coded× coded_ℕ (coded× coded_ℕ (coded_option kind_code))))
    (λ c. (c.reads, (c.writes, (c.lines, c.first))))
    (λ p. record { reads = p.0; writes = p.1.0; lines = p.1.1.0; first = p.1.1.1 }) (λ _. refl)

-- a state is stored as the tuple of its fields
abbrev pub state_code : Coded State
state_code = code_by (Option Held × (Option (List (List ℕ)) × (List ℕ × (List Bool × (ℕ × Counts)))))
    (coded× (coded_option held_code)
    (coded× (coded_option (coded_list (coded_list coded_ℕ)))
    (coded× (coded_list coded_ℕ) (coded× (coded_list coded_bool) (coded× coded_ℕ counts_code)))))
    (λ s. (s.held, (s.said, (s.opened, (s.ended, (s.created, s.counts))))))
    (λ p. record {
      held = p.0;
      said = p.1.0;
      opened = p.1.1.0;
      ended = p.1.1.1.0;
      created = p.1.1.1.1.0;
      counts = p.1.1.1.1.1;
    }) (λ _. refl)

abbrev six_calls : Type 0
six_calls = KindCalls × (KindCalls × (KindCalls × (KindCalls × (KindCalls × KindCalls))))

abbrev script_code : Coded Script
script_code = code_by six_calls
    (coded× calls_code (coded× calls_code (coded× calls_code (coded× calls_code (coded× calls_code calls_code)))))
    (λ s. (s.opens, (s.creates, (s.reads, (s.writes, (s.says, s.lasts))))))
    (λ p. record {
      opens = p.0;
      creates = p.1.0;
      reads = p.1.1.0;
      writes = p.1.1.1.0;
      says = p.1.1.1.1.0;
      lasts = p.1.1.1.1.1;
    })
    (λ _. refl)

-- a desk in memory is stored as the tuple of its fields
abbrev pub memory_code : Coded Memory
memory_code = code_by (State × (ℕ × Script)) (coded× state_code (coded× coded_ℕ script_code))
    (λ m. (m.state, (m.cap, m.script))) (λ p. record { state = p.0; cap = p.1.0; script = p.1.1 }) (λ _. refl)
