use Rattle.std.proofs.Common.{ℕ, ◌≡◌, ◌++◌, ◌∷◌, ◌∙◌, ◌+◌, List, [], get_or, ap, sym, subst, arith}
use Rattle.config_text.specs.Fields.{word_of, spelling_of}
use Rattle.config_text.specs.declared.field.Field.TheVariants.{Version}
use Rattle.config_text.proofs.WriteLemmas.{Writes, writes_fits, writes_on}
use Rattle.config_text.proofs.writing.push_words.Goals as goal

pub word_of-requires : goal.word_of-requires
word_of-requires c =
    writes_fits c.args.fields.now c.args.values.now c.args.text.now.items c.loop-place.text.items c.loop-place.place
    Version
    c.loop-place.invariant (omega arith)

pub loop-place-preserved : goal.loop-place-preserved
loop-place-preserved c =
    let is : c.extend_from_slice.new.self.items ≡ (c.loop-place.text.items ++ 32 ∷ [])
    ++ word_of (spelling_of (get_or c.args.fields.now c.loop-place.place Version))
    (get_or c.args.values.now c.loop-place.place 0) =
    c.in_ok-extend_from_slice.ensures.items
    ∙ ap (λ (l : List ℕ). l ++ c.word_of.result.now) c.in_ok-push.ensures.items
    ∙ ap (λ (l : List ℕ). (c.loop-place.text.items ++ 32 ∷ []) ++ l) c.word_of.ensures in
    subst (λ (l : List ℕ). Writes c.args.fields.now c.args.values.now (c.loop-place.place + 1) c.args.text.now.items l)
    (sym is)
    (writes_on c.args.fields.now c.args.values.now c.args.text.now.items c.loop-place.text.items c.loop-place.place
    Version
    c.loop-place.invariant (omega arith))
