use Rattle.std.proofs.Common.{ap, Some, ℕ}
use Rattle.config_text.proofs.NumberLemmas.{parsed_is, parsed_fails, decimal_is_utf8}
use Rattle.config_text.proofs.decimal.parsed.Goals as goal

pub returns-in-Ok-parse : goal.returns-in-Ok-parse
returns-in-Ok-parse c = λ n fits spelled.
    ap (λ (m : ℕ). Some m)
    (parsed_is n c.in-Ok-parse.number c.args.word.now c.in-Ok.text.now c.parse.result fits c.in-Ok.ensures.cases.0
    spelled
    c.parse.ensures.value.0 c.in-Ok-parse.is)

pub returns-in-Err-parse : goal.returns-in-Err-parse
returns-in-Err-parse c = λ n fits spelled.
    absurd (parsed_fails n c.in-Err-parse.field-0 c.args.word.now c.in-Ok.text.now c.parse.result fits
    c.in-Ok.ensures.cases.0
    spelled c.parse.ensures.value.0 c.in-Err-parse.is)

pub returns-in-Err : goal.returns-in-Err
returns-in-Err c = λ n fits spelled. absurd (c.in-Err.ensures.cases.0 (decimal_is_utf8 n c.args.word.now fits spelled))
