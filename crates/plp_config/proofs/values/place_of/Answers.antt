use Rattle.std.proofs.lemmas.Option.{IfSome_then}
use Rattle.plp_config.proofs.PlaceLemmas.{place_is}
use Rattle.plp_config.proofs.values.place_of.Goals as goal

pub returns-clause-some : goal.returns-clause-some
returns-clause-some c =
    IfSome_then c.first_with.result c.first_with.ensures.some
    (λ place h. place_is c.args.config.now c.requires c.args.id place h.0 h.1)
