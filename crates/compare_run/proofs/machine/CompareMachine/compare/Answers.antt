use Rattle.std.proofs.Common.{ℕ, cond, length, Option, refl, ap, sym, subst, ◌∙◌}
use Rattle.plp_config.specs.declared.config.Config.{Config}
use Rattle.frame_groups.specs.declared.waiting.Waiting.{Waiting}
use Rattle.feed_merge.specs.Picking.{is_at}
use Rattle.feed_merge.specs.Seen.{seen_of}
use Rattle.feed_merge.proofs.BothCameLemmas.{less_of, most_of, number_of}
use Rattle.compare_run.specs.TallyStandsFor.{plps_in}
use Rattle.compare_run.specs.Shown.{HasShown}
use Rattle.compare_run.specs.Runs.{is_differing}
use Rattle.compare_run.proofs.BeginLemmas.{shown_compared, left_compared, plps_fit, few_said, next_least, Notes_at}
use Rattle.compare_run.proofs.BeginLemmas.{Answers_at, Others_at}
use Rattle.compare_run.proofs.machine.CompareMachine.compare.Goals as goal

pub add-requires-clause-few : goal.add-requires-clause-few
add-requires-clause-few c = less_of _ _ c.requires.came
    (λ (h : HasShown c.args.self.now). few_said h.network c.args.self.now h.events h.shown)

pub note-requires-clause-forward : goal.note-requires-clause-forward
note-requires-clause-forward c = most_of _ _ c.requires.came
    (λ (h : HasShown c.args.self.now). next_least h.network c.args.self.now h.events c.args.number h.shown
    c.requires.least)

pub note-requires-clause-plps : goal.note-requires-clause-plps
note-requires-clause-plps c = number_of _ _ c.requires.came (λ (h : HasShown c.args.self.now). plps_fit h)

pub note-requires-clause-plps_a : goal.note-requires-clause-plps_a
note-requires-clause-plps_a c = number_of _ _ c.requires.came
    (λ (h : HasShown c.args.self.now). ap (λ (k : Config). length k.plps) (h.shown.both.of_a.network
    ∙ sym h.shown.config))

pub note-requires-clause-plps_b : goal.note-requires-clause-plps_b
note-requires-clause-plps_b c = number_of _ _ c.requires.came
    (λ (h : HasShown c.args.self.now). ap (λ (k : Config). length k.plps) (h.shown.both.of_b.network
    ∙ sym h.shown.config))

pub answer_at-answer-requires : goal.answer_at-answer-requires
answer_at-answer-requires c = record {
  plps = c.note.ensures.plps ∙ number_of _ _ c.requires.came (λ (h : HasShown c.args.self.now). plps_fit h);
  least = c.requires.least;
}

pub returns-clause-shown : goal.returns-clause-shown
returns-clause-shown c = λ k events s.
    let same_a = s.both.of_a.network ∙ sym s.config in
    let same_b = s.both.of_b.network ∙ sym s.config in
    shown_compared c.events_law.ensures c.due_records_law.ensures.front c.due_records_law.ensures.follow
    c.answers_law.ensures k
    c.args.self.now _ events c.args.number c.is_at-takes_first.result c.is_at-takes_second.result
    (record {
      is_a = c.is_at-takes_first.ensures ∙ ap (λ (o : Option Waiting). is_at c.args.number (seen_of o))
          c.waiting.ensures;
      is_b = c.is_at-takes_second.ensures ∙ ap (λ (o : Option Waiting). is_at c.args.number (seen_of o))
          c.waiting-2.ensures;
      least = c.requires.least;
      busy_a = c.requires.busy.0;
      busy_b = c.requires.busy.1;
      took_a = c.skip_if.ensures;
      took_b = c.skip_if-2.ensures;
    })
    s c.answer_at-answer.result
    (record {
      plan = refl;
      plps = c.note.ensures.plps;
      done = refl;
      next = refl;
      last = refl;
      plp = c.first_told-self.ensures
          ∙ ap (λ (n : ℕ). cond (is_differing c.answer_at-answer.result) 0 n) c.plps.ensures;
    })
    c.requires.told c.requires.going c.requires.early
    (λ ga gb. subst (λ (l : Config). Notes_at c.args.self.now c.note.new.carried l c.args.number ga gb) s.config
    (c.note.ensures.stands same_a same_b ga gb))
    (λ ga gb. subst (λ (l : Config). Answers_at c.args.self.now c.note.new.carried l c.args.number
    c.answer_at-answer.result ga gb) s.config
    (c.answer_at-answer.ensures.answer same_a same_b ga gb))
    (λ ga gb.
    subst (λ (l : Config). Others_at c.args.self.now c.note.new.carried l c.args.number c.answer_at-answer.result ga gb)
    s.config
    (c.answer_at-answer.ensures.others same_a same_b ga gb))
    c.add.result (c.add.ensures.stands, c.add.ensures.told)

pub returns-clause-left : goal.returns-clause-left
returns-clause-left c =
    left_compared c.args.self.now c.skip_if.new.feed c.skip_if-2.new.feed c.args.self.now.done c.args.number
    c.is_at-takes_first.result
    c.is_at-takes_second.result (plps_in c.note.new.carried) c.first_told-self.result
    (record {
      is_a = c.is_at-takes_first.ensures ∙ ap (λ (o : Option Waiting). is_at c.args.number (seen_of o))
          c.waiting.ensures;
      is_b = c.is_at-takes_second.ensures ∙ ap (λ (o : Option Waiting). is_at c.args.number (seen_of o))
          c.waiting-2.ensures;
      least = c.requires.least;
      busy_a = c.requires.busy.0;
      busy_b = c.requires.busy.1;
      took_a = c.skip_if.ensures;
      took_b = c.skip_if-2.ensures;
    })
    c.requires.going refl c.note.ensures.plps
