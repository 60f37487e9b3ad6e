use Rattle.config_text.proofs.WriteLemmas.{Writes}
use Rattle.config_text.proofs.writing.push_words.Given as goal

abbrev pub invariant-loop-place : goal.invariant-loop-place
invariant-loop-place l = Writes l.fields l.values l.place l.initial.text.items l.text.items
