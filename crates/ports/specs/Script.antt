-- The calls of a desk in memory by their kinds.
use Rattle.std.specs.Prelude.{ℕ}
use Rattle.ports.specs.declared.script.CallKind.{CallKind}
use Rattle.ports.specs.declared.script.CallKind.TheVariants.{Open, Create, Read, Write, Say, Last}
use Rattle.ports.specs.declared.script.Script.{Script}
use Rattle.ports.specs.Calls.{KindCalls, IsListed, no_calls, one_call, with_listed}

-- no calls of any kind, of which none is to fail
unfoldable pub no_script : Script
no_script = record {
  opens = no_calls;
  creates = no_calls;
  reads = no_calls;
  writes = no_calls;
  says = no_calls;
  lasts = no_calls;
}

-- the calls of a kind
abbrev pub calls_of : CallKind → Script → KindCalls
calls_of Open s = s.opens
calls_of Create s = s.creates
calls_of Read s = s.reads
calls_of Write s = s.writes
calls_of Say s = s.says
calls_of Last s = s.lasts

-- with these calls of a kind
abbrev pub with_calls : CallKind → KindCalls → Script → Script
with_calls Open c s = record s { opens = c }
with_calls Create c s = record s { creates = c }
with_calls Read c s = record s { reads = c }
with_calls Write c s = record s { writes = c }
with_calls Say c s = record s { says = c }
with_calls Last c s = record s { lasts = c }

-- The next call of a kind is one of those that fail.
unfoldable pub Strikes : CallKind → Script → Type 0
Strikes kind s = IsListed (calls_of kind s)

-- after one more call of a kind
unfoldable pub one_call_of : CallKind → Script → Script
one_call_of kind s = with_calls kind (one_call (calls_of kind s)) s

-- with one more call of a kind that fails
unfoldable pub listed_at : CallKind → ℕ → Script → Script
listed_at kind nth s = with_calls kind (with_listed nth (calls_of kind s)) s
