-- How a reader is stored. No public clause cites this module.
use Rattle.std.specs.Prelude.{ℕ, Bool, List, refl}
use Rattle.std.specs.Coded.{Coded, code_by, coded×, coded_ℕ, coded_list, coded_bool}
use Rattle.file_run.specs.Reading.{Reading}

abbrev pub reading_code : Coded Reading
reading_code = code_by (ℕ × (ℕ × (List ℕ × Bool)))
    (coded× coded_ℕ (coded× coded_ℕ (coded× (coded_list coded_ℕ) coded_bool)))
    (λ r. (r.handle, (r.taken, (r.waiting, r.ended))))
    (λ p. record { handle = p.0; taken = p.1.0; waiting = p.1.1.0; ended = p.1.1.1 }) (λ _. refl)
