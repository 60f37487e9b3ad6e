use Rattle.std.proofs.Common.{rules, map}
use Rattle.ports.proofs.TextLemmas.{joined_more}
use Rattle.ports.proofs.memory.add_text.Goals as goal

pub returns-clause-joined : goal.returns-clause-joined
returns-clause-joined c =
    joined_more (map (λ text. text.items) c.args.texts.now.items) (map (λ text. text.items) c.push_text.new.texts.items)
    c.args.said.now.items c.extend_from_slice.new.self.items c.args.text.now c.requires (search rules) (search rules)
