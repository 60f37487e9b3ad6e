use Rattle.stream_laws.proofs.NearLemmas.{near_told, later_near}
use Rattle.stream_laws.proofs.damage_laws.near_law.Goals as goal

pub returns-clause-told : goal.returns-clause-told
returns-clause-told c = near_told

pub returns-clause-later : goal.returns-clause-later
returns-clause-later c = later_near
