use Rattle.config_text.proofs.TextLemmas.{read_every, read_refused}
use Rattle.config_text.proofs.reading.read.Goals as goal

pub returns-clause-every : goal.returns-clause-every
returns-clause-every c =
    λ config spells. read_every c.args.text.now config c.read_text.result c.read_text.ensures.ok c.read_text.ensures.err
    spells

pub returns-clause-refused : goal.returns-clause-refused
returns-clause-refused c =
    λ line why refuses. read_refused c.args.text.now line why c.read_text.result c.read_text.ensures.ok
    c.read_text.ensures.err
    refuses
