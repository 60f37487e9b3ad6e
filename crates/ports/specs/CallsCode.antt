-- How the calls of a kind are stored. No public clause cites this module.
use Rattle.std.specs.Prelude.{ℕ, List, refl}
use Rattle.std.specs.Coded.{Coded, code_by, coded×, coded_ℕ, coded_list}
use Rattle.ports.specs.Calls.{KindCalls}

abbrev pub calls_code : Coded KindCalls
calls_code = code_by (ℕ × List ℕ) (coded× coded_ℕ (coded_list coded_ℕ)) (λ c. (c.count, c.listed))
    (λ p. record { count = p.0; listed = p.1 }) (λ _. refl)
