use Rattle.cell_map.proofs.MapLemmas.{map_has_each, map_has_only, dummy_has_none}
use Rattle.cell_map.proofs.AtLemmas.{carried_once, parts_repeat}
use Rattle.cell_map.proofs.NumberLemmas.{cells_fit}
use Rattle.cell_map.proofs.laws.map_law.Goals as goal

pub returns-clause-each : goal.returns-clause-each
returns-clause-each c = map_has_each

pub returns-clause-only : goal.returns-clause-only
returns-clause-only c = map_has_only

pub returns-clause-dummy : goal.returns-clause-dummy
returns-clause-dummy c = dummy_has_none

pub returns-clause-once : goal.returns-clause-once
returns-clause-once c = carried_once

pub returns-clause-parts : goal.returns-clause-parts
returns-clause-parts c = parts_repeat

pub returns-clause-small : goal.returns-clause-small
returns-clause-small c = cells_fit
