-- What arrives, unit by unit.
use Rattle.std.proofs.Common.{◌≡◌, ℕ, suc, ◌+◌, ◌-◌, ◌*◌, ◌/◌, ◌%◌, ◌<◌, ◌≤◌, List, [], ◌++◌, ap, ap₂, sym, ◌∙◌, arith}
use Rattle.std.proofs.Common.{length, take, drop, append_assoc, length-append}
use Rattle.std.specs.Prelude.{map}
use Rattle.std.proofs.lemmas.List.{take-append-le, drop-append-le, take_all, drop_all}
use Rattle.t2mi_stream.specs.Accepted.{AcceptedPacket}
use Rattle.t2mi_stream.specs.Units.{unit_at, accepted_of}
use Rattle.t2mi_stream.proofs.UnitLemmas.{unit_on}
use Rattle.feed_events.specs.Arrivals.{Arrival, came_of, idle_if, is_idle, arrivals_with, arrivals_from}
use Rattle.feed_events.specs.StandsFor.{arrivals_behind}

with_on : (pid : ℕ) (bytes more : List ℕ) (n : ℕ) → 188 * (n + 1) ≤ length bytes
    → arrivals_with pid (bytes ++ more) n ≡ arrivals_with pid bytes n
with_on pid bytes more n h =
    let a : take (188 * n) (bytes ++ more) ≡ take (188 * n) bytes = take-append-le (188 * n) bytes more (omega arith) in
    let b : take (188 * (n + 1)) (bytes ++ more) ≡ take (188 * (n + 1)) bytes = take-append-le (188 * (n + 1))
    bytes more h in
    ap₂ (λ (xs : List AcceptedPacket) (unit : List ℕ). map came_of xs ++ idle_if (is_idle pid unit))
    (ap₂ (λ (x y : List ℕ). drop (length (accepted_of pid x)) (accepted_of pid y)) a b) (unit_on bytes more n h)

-- one unit behind others
pub with_unit : (pid : ℕ) (bytes unit : List ℕ) (n : ℕ) → length bytes ≡ 188 * n → length unit ≡ 188
    → arrivals_with pid (bytes ++ unit) n
    ≡ map came_of (drop (length (accepted_of pid bytes)) (accepted_of pid (bytes ++ unit)))
    ++ idle_if (is_idle pid unit)
with_unit pid bytes unit n b u =
    let l = length-append bytes unit in
    let first : take (188 * n) (bytes ++ unit) ≡ bytes =
    take-append-le (188 * n) bytes unit (omega (arith, b)) ∙ take_all (188 * n) bytes (omega (arith, b)) in
    let all : take (188 * (n + 1)) (bytes ++ unit) ≡ bytes ++ unit =
    take_all (188 * (n + 1)) (bytes ++ unit) (omega (arith, b, u, l)) in
    let own : unit_at (bytes ++ unit) n ≡ unit =
    ap (take 188) (drop-append-le (188 * n) bytes unit (omega (arith, b))
    ∙ ap (λ (x : List ℕ). x ++ unit) (none_left n bytes b))
    ∙ take_all 188 unit (omega (arith, u)) in
    ap₂ (λ (xs : List AcceptedPacket) (x : List ℕ). map came_of xs ++ idle_if (is_idle pid x))
    (ap₂ (λ (x y : List ℕ). drop (length (accepted_of pid x)) (accepted_of pid y)) first all) own
  where
    none_left : (n : ℕ) (bytes : List ℕ) → length bytes ≡ 188 * n → drop (188 * n) bytes ≡ []
    none_left n bytes e = drop_all (188 * n) bytes (omega (arith, e))

-- what arrives with a unit, and behind it
pub behind_unit : (pid : ℕ) (bytes unit more : List ℕ) → length bytes % 188 ≡ 0 → length unit ≡ 188
    → arrivals_behind pid bytes (unit ++ more)
    ≡ arrivals_with pid (bytes ++ unit) (length bytes / 188) ++ arrivals_behind pid (bytes ++ unit) more
behind_unit pid bytes unit more b u =
    let n = length bytes / 188 in
    let l = length-append bytes unit in
    let m = length-append (bytes ++ unit) more in
    let count = length ((bytes ++ unit) ++ more) / 188 - length (bytes ++ unit) / 188 in
    let next : length (bytes ++ unit) / 188 ≡ n + 1 = omega (arith, b, u, l) in
    let all : length ((bytes ++ unit) ++ more) / 188 - n ≡ suc count = omega (arith, b, u, l, m) in
    ap (λ (x : List ℕ). arrivals_from pid x n (length x / 188 - n)) (sym (append_assoc bytes unit more))
    ∙ ap (arrivals_from pid ((bytes ++ unit) ++ more) n) all
    ∙ ap₂ (λ (x : List Arrival) (k : ℕ). x ++ arrivals_from pid ((bytes ++ unit) ++ more) k count)
    (with_on pid (bytes ++ unit) more n (omega (arith, b, u, l))) (sym next)

-- with less than a unit nothing arrives
pub behind_none : (pid : ℕ) (bytes tail : List ℕ) → length bytes % 188 ≡ 0 → length tail < 188
    → arrivals_behind pid bytes tail ≡ []
behind_none pid bytes tail b t =
    let l = length-append bytes tail in
    let none : length (bytes ++ tail) / 188 - length bytes / 188 ≡ 0 = omega (arith, b, t, l) in
    ap (arrivals_from pid (bytes ++ tail) (length bytes / 188)) none
