use Rattle.std.proofs.Common.{◌≡◌, ◌≤◌, ◌<◌, ◌∙◌, ◌++◌, length, arith, true, false, take}
use Rattle.std.proofs.Common.{ap, sym, subst, append-nil, rules as by_rules}
use Rattle.std.specs.Prelude.{is_some}
use Rattle.std.proofs.lemmas.Bool.{true≢false}
use Rattle.open_group.specs.FrameBytes.{Status, bytes_left, most_left}
use Rattle.plp_config.specs.declared.config.Config.{Config}
use Rattle.modulator.specs.Modulating.{Stream, Course, course_of, has_record, records_ahead, ahead_by}
use Rattle.modulator.specs.StandsFor.{ModulatorStandsFor, left_of}
use Rattle.modulator.proofs.LeftLemmas.{taken_len, part_taken, whole_taken}
use Rattle.modulator.proofs.TookLemmas.{now_next, took_more, took_whole, took_front, takes_of, all_taken, none_at}
use Rattle.modulator.proofs.TookLemmas.{nothing_more}
use Rattle.modulator.proofs.modulator.Modulator.take.Goals as goal

pub returns-then-is_none-clause-front : goal.returns-then-is_none-clause-front
unfolding ModulatorStandsFor
returns-then-is_none-clause-front c = λ bytes taken h.
    let old = c.args.self.now.inner in
    let none : is_some c.waiting.result ≡ false = search by_rules in
    let w : has_record old ≡ false = ap is_some (sym c.waiting.ensures.is) ∙ none in
    nothing_more taken _
    (all_taken old old.finished bytes bytes taken h w
    (none_at c.waiting.result _ c.waiting.ensures.none none bytes h.given h.stands))

pub returns-else-is_taken-clause-front : goal.returns-else-is_taken-clause-front
unfolding ModulatorStandsFor
returns-else-is_taken-clause-front c = λ bytes taken h.
    let old = c.args.self.now.inner in
    let w : has_record old ≡ true = search by_rules in
    took_front old bytes taken h w _ _ c.take-count.ensures.bytes
    (now_next old bytes taken h w c.waiting.result c.waiting.ensures.is c.waiting.ensures.some)

pub returns-then-is_taken-clause-front : goal.returns-then-is_taken-clause-front
unfolding ModulatorStandsFor
returns-then-is_taken-clause-front c = λ bytes taken h.
    let old = c.args.self.now.inner in
    let w : has_record old ≡ true = search by_rules in
    took_front old bytes taken h w _ _ c.take-count.ensures.bytes
    (now_next old bytes taken h w c.waiting.result c.waiting.ensures.is c.waiting.ensures.some)

pub returns-else-is_taken-clause-stands : goal.returns-else-is_taken-clause-stands
unfolding ModulatorStandsFor
returns-else-is_taken-clause-stands c = λ bytes taken h.
    let old = c.args.self.now.inner in
    let w : has_record old ≡ true = search by_rules in
    took_more old _ (take c.take-count.result c.take-count.new.out) bytes taken
    (ap (λ (s : Status). record (course_of old) { key = s.key; network = s.network }) c.take-count.ensures.status)
    c.take-count.ensures.group c.take-count.ensures.bytes w h

pub returns-then-is_taken-clause-stands : goal.returns-then-is_taken-clause-stands
unfolding ModulatorStandsFor
returns-then-is_taken-clause-stands c = λ bytes taken h.
    let old = c.args.self.now.inner in
    let more = take c.take-count.result c.take-count.new.out in
    let w : has_record old ≡ true = search by_rules in
    took_whole old _ c.gave.new.self c.begin_next.new.self more bytes taken c.gave.ensures.stands
    c.begin_next.ensures.gives
    (ap (λ (s : Status). record (course_of old) { key = s.key; network = s.network }) c.take-count.ensures.status)
    c.take-count.ensures.group (ap (λ (k : Stream). k.network) c.gave.ensures.stream)
    (c.take-count.ensures.bytes ∙ ap (λ l. more ++ l) (c.is_taken.ensures.yes c.if-is_taken.true) ∙ append-nil more) w h

pub returns-else-is_taken-clause-within : goal.returns-else-is_taken-clause-within
unfolding ModulatorStandsFor
returns-else-is_taken-clause-within c = λ on bytes taken h.
    let old = c.args.self.now.inner in
    takes_of old bytes taken h on c.take-count.new.out _ c.take-count.result c.take-count.ensures.bytes
    (omega (arith, c.take-count.ensures.most, c.take-count.ensures.stays.0)) (c.args.self.now.some on)
    (now_next old bytes taken h on c.waiting.result c.waiting.ensures.is c.waiting.ensures.some)

pub returns-then-is_taken-clause-within : goal.returns-then-is_taken-clause-within
unfolding ModulatorStandsFor
returns-then-is_taken-clause-within c = λ on bytes taken h.
    let old = c.args.self.now.inner in
    takes_of old bytes taken h on c.take-count.new.out _ c.take-count.result c.take-count.ensures.bytes
    (omega (arith, c.take-count.ensures.most, c.take-count.ensures.stays.0)) (c.args.self.now.some on)
    (now_next old bytes taken h on c.waiting.result c.waiting.ensures.is c.waiting.ensures.some)

pub returns-then-is_none-clause-within : goal.returns-then-is_none-clause-within
returns-then-is_none-clause-within c = λ on.
    let none : is_some c.waiting.result ≡ false = search by_rules in
    absurd (true≢false (sym on ∙ ap is_some (sym c.waiting.ensures.is) ∙ none))

pub returns-else-is_taken-clause-left : goal.returns-else-is_taken-clause-left
unfolding left_of
returns-else-is_taken-clause-left c = λ some.
    let old = c.args.self.now.inner in
    let new = c.take-count.new.self in
    let w : has_record old ≡ true = search by_rules in
    let size = taken_len _ (bytes_left new) c.take-count.new.out c.take-count.result c.take-count.ensures.bytes
    (omega (arith, c.take-count.ensures.most, c.take-count.ensures.stays.0)) in
    part_taken (has_record old) (records_ahead old) (most_left new.network) (most_left old.sequence.group.network)
    (length (bytes_left new)) (length (bytes_left old.sequence.group))
    w (ap (λ (s : Status). most_left s.network) c.take-count.ensures.status) (omega (arith, size, some))

pub returns-then-is_taken-clause-left : goal.returns-then-is_taken-clause-left
unfolding left_of
returns-then-is_taken-clause-left c = λ _.
    let old = c.args.self.now.inner in
    let next = c.gave.new.self in
    let new = c.begin_next.new.self in
    let net = old.sequence.group.network in
    let w : has_record old ≡ true = search by_rules in
    let e : next.sequence.group.network ≡ net = ap (λ (k : Stream). k.network) c.gave.ensures.stream
    ∙ (ap (λ (s : Status). s.network) c.take-count.ensures.status) in
    let f : new.sequence.group.network ≡ net = ap (λ (k : Course). k.network) c.begin_next.ensures.course ∙ e in
    let same : records_ahead new ≡ records_ahead next =
    ap (λ (k : Course). ahead_by k.unpiper k.progress) c.begin_next.ensures.course in
    let fewer = c.gave.ensures.left in
    let less : records_ahead new < records_ahead old = omega (arith, same, fewer) in
    whole_taken (has_record old) (has_record new) (records_ahead new) (records_ahead old)
    (most_left new.sequence.group.network) (most_left net) (length (bytes_left new.sequence.group))
    (length (bytes_left old.sequence.group))
    w (ap most_left f) less (λ on. subst (λ (k : Config). length (bytes_left new.sequence.group) ≤ most_left k) e
    (c.begin_next.ensures.most on)) (c.args.self.now.some w)
