use Rattle.std.proofs.Common.{rules}
use Rattle.std.proofs.lemmas.List.{take_rest}
use Rattle.config_text.proofs.PartLemmas.{split_none, split_first}
use Rattle.config_text.proofs.parts.split_once.Goals as goal

pub returns-in-Some-clause-some : goal.returns-in-Some-clause-some
returns-in-Some-clause-some c =
    rw take_rest (split_first c.args.separator c.args.bytes.now c.in-Some.i (search rules) (search rules)
    (search rules))

pub returns-in-None-clause-none : goal.returns-in-None-clause-none
returns-in-None-clause-none c = split_none c.args.separator c.args.bytes.now (search rules)
