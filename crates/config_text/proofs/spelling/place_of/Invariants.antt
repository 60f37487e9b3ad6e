use Rattle.std.proofs.Common.{◌≡◌, drop, map}
use Rattle.config_text.specs.Fields.{place_from}
use Rattle.config_text.proofs.spelling.place_of.Given as goal

abbrev pub invariant-loop-place : goal.invariant-loop-place
invariant-loop-place l = place_from l.place l.word (map (λ w. w.now) (drop l.place l.words))
    ≡ place_from 0 l.word (map (λ w. w.now) l.words)
