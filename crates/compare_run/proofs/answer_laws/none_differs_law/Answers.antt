use Rattle.compare_run.proofs.AnswerLawLemmas.{none_differs}
use Rattle.compare_run.proofs.answer_laws.none_differs_law.Goals as goal

pub returns : goal.returns
returns c =
    none_differs
    (record {
      all = c.whole_law.ensures.all;
      superframe = c.interleaving_law.ensures.superframe;
      latest = c.interleaving_law.ensures.last;
      frames = c.sent_law.ensures.frames;
      stream = c.stream_law.ensures;
      tests = c.tests_law.ensures;
      len = c.honest_law.ensures.length;
      groups-are = c.honest_law.ensures.groups;
      numbers = c.honest_law.ensures.numbers;
      records = c.honest_law.ensures.records;
    })
