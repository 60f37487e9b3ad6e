use Rattle.std.proofs.Common.{◌≡◌, ◌++◌, ◌∷◌, ◌∙◌, [], ℕ, refl, sym, ap, false, take}
use Rattle.t2mi_stream.specs.Events.UnpiperEvent.{Fed}
use Rattle.feed_events.specs.Arrivals.{is_idle}
use Rattle.feed_events.proofs.StandsLemmas.{by_flags, by_rules, came_unit, feeds_all, has_next}
use Rattle.feed_events.proofs.feed.EventFeed.take_unit.Goals as goal

pub returns-clause-stands : goal.returns-clause-stands
returns-clause-stands g c = λ bytes gone h.
    let self = c.args.self.now in
    let r = g.G.OpenGroup.rules self.frames.group in
    let holds = g.G.OpenGroup.holds self.frames.group in
    let unit = c.args.unit.now in
    let v = c.feed.new.self in
    let course = self.frames.course in
    let settled = self.settled c.requires.unknown in
    let idle : is_idle r.network.pid unit ≡ c.is_idle.result = ap (λ (p : ℕ). is_idle p unit) self.network
    ∙ sym c.is_idle.ensures in
    let none = c.is_ready-idle.ensures.none (c.is_ready-idle.ensures.is ∙ settled.0) in
    let old = by_flags holds r self.unpiper course self.idle false self.finished false bytes gone settled.1
    settled.2 h in
    let stands = c.feed.ensures.stands r.network.pid old.events old.stands in
    let feeds = feeds_all c.accepted_front_law.ensures c.events_push_law.ensures r.network.pid old.events
    unit c.feed.result v
    old.whole c.told-unit (none r.network.pid old.events old.stands) stands c.feed.ensures.stops
    (λ ready. has_next c.ready-ready.result _ v c.ready-ready.ensures.is c.ready-ready.ensures.some ready r.network.pid
    (old.events ++ Fed (take c.feed.result unit) ∷ []) stands) in
    by_flags (g.G.OpenGroup.holds c.go_on-self.new.frames.group) (g.G.OpenGroup.rules c.go_on-self.new.frames.group)
    c.go_on-self.new.unpiper c.go_on-self.new.frames.course c.go_on-self.result c.go_on-self.result false self.finished
    (bytes ++ unit) gone refl (sym settled.2)
    (by_rules (g.G.OpenGroup.holds c.go_on-self.new.frames.group) r (g.G.OpenGroup.rules c.go_on-self.new.frames.group)
    c.go_on-self.new.unpiper c.go_on-self.new.frames.course c.go_on-self.result false (bytes ++ unit) gone
    c.go_on-self.ensures.rules
    (c.go_on-self.ensures.stands (bytes ++ unit) gone
    (by_flags holds r v course (is_idle r.network.pid unit) c.is_idle.result false false (bytes ++ unit) gone idle refl
    (came_unit c.accepted_front_law.ensures c.events_push_law.ensures holds r self.unpiper v course bytes
    unit gone none c.told-unit
    old feeds))))
