use Rattle.std.proofs.Common.{◌≡◌, ◌≤◌, ◌++◌, ◌∷◌, true, List, [], length, Some, None, refl, ap, ap₂, sym, subst}
use Rattle.std.proofs.Common.{◌∙◌, arith}
use Rattle.plp_config.specs.declared.config.Config.{Config}
use Rattle.spaced_frames.specs.StandsFor.{SenderStandsFor, Content, sent_as}
use Rattle.mended_frames.specs.Mended.{Made, made_of, made_as, frames_of, content_in, low_of}
use Rattle.mended_frames.specs.StandsFor.{Feed, HaveGroups, is_woven_by, lent_by, lent_content}
use Rattle.mended_frames.specs.StandsFor.{picked_as}
use Rattle.mended_frames.specs.declared.mender.Mender.{Mender}
use Rattle.file_run.specs.Events.{gave}
use Rattle.mend_run.specs.declared.phase.Phase.TheVariants as phase
use Rattle.mend_run.proofs.PassLemmas.{next_groups}
use Rattle.mend_run.proofs.ShownLemmas.{at_place, from_place, stands_as, shown_begun, shown_passes}
use Rattle.mend_run.proofs.StepLemmas.{above, frame_next, least_at, passes_at, picked_is}
use Rattle.mend_run.proofs.machine.MendMachine.make.Goals as goal

pub returns-in-Some-clause-shown : goal.returns-in-Some-clause-shown
returns-in-Some-clause-shown c = λ k count done came known least low.
    let m = c.args.self.now in
    let mender : Mender = c.make.new.self in
    let new = c.begin.new.self in
    let n = c.args.number in
    let from = c.in-Some.from in
    let feeds : List Feed = m.feeds.items in
    let s = at_place k count done m phase.Looks c.requires.looks came in
    let low_is = s.low in
    let behind : low_of s.past ≤ n = omega (arith, low, low_is) in
    let g = next_groups k n done s.gone count feeds s.come known in
    let have : HaveGroups n c.deref-2.result.now g.groups =
    rw c.deref-2.ensures.value g.have in
    let makes = c.in-Some.ensures.some g.groups s.past s.mends (above s.past n behind) have in
    let config : mender.plan.now ≡ k = c.make.ensures.plan ∙ m.mends ∙ s.plan in
    let x : Made = made_as n (is_woven_by from) makes.group in
    let y : Content = lent_content from mender feeds in
    let same = c.begin.ensures.same in
    let items = ap (λ (v : _). v.items) same.1 in
    let made : made_of k s.past (picked_as n g.groups) ≡ Some x =
    rw config at makes.made in
    let least_count = rw s.come.count at least in
    let lent : lent_by from mender feeds ≡ Some makes.lent =
    rw c.deref-2.ensures.value at makes.is in
    from_place k count done new (phase.Sends n from) c.begin.ensures.phase
    (shown_begun k count done m new n from (is_woven_by from) makes.group y s same.0 items
    (rw same.2 makes.stands)
    c.begin.ensures.tally known (passes_at feeds n true (least_at feeds (length feeds) n least))
    (ap₂ (λ (z : Mender) (l : List Feed). lent_content from z l) (sym same.2) (sym items))
    (c.begin.ensures.content makes.lent makes.own makes.group lent makes.holds
    ∙ ap (λ (z : Config). content_in z makes.group.packets) s.plan)
    (subst (λ (z : Config). SenderStandsFor z new.sender y (frames_of k s.made ++ sent_as z n y ∷ []) (gave done))
    s.plan
    (c.begin.ensures.sends s.is_at.content (frames_of k s.made) (gave done)
    (stands_as m.plan.now k m.sender s.is_at.content (frames_of k s.made) (gave done) (sym s.plan) s.is_at.stands)))
    (λ xs ys all. frame_next k count feeds done s.gone s.come known s.past xs ys all n least_count behind (Some x)
    (ap (made_of k s.past) (picked_is k count feeds done s.gone s.come known s.past xs ys all n g) ∙ made)))

pub returns-in-None-clause-shown : goal.returns-in-None-clause-shown
returns-in-None-clause-shown c = λ k count done came known least low.
    let m = c.args.self.now in
    let n = c.args.number in
    let feeds : List Feed = m.feeds.items in
    let s = at_place k count done m phase.Looks c.requires.looks came in
    let low_is = s.low in
    let behind : low_of s.past ≤ n = omega (arith, low, low_is) in
    let g = next_groups k n done s.gone count feeds s.come known in
    let have : HaveGroups n c.deref-2.result.now g.groups =
    rw c.deref-2.ensures.value g.have in
    let none = c.in-None.ensures.none g.groups s.past s.mends (above s.past n behind) have in
    let made : made_of k s.past (picked_as n g.groups) ≡ None =
    subst (λ (z : Config). made_of z s.past (picked_as n g.groups) ≡ None) (m.mends ∙ s.plan) none.0 in
    let least_count = rw s.come.count at least in
    c.pass.ensures.shown k count done
    (shown_passes k count done m _ (Some n) true s refl refl none.1 refl refl known
    (λ xs ys all. frame_next k count feeds done s.gone s.come known s.past xs ys all n least_count behind None
    (ap (made_of k s.past) (picked_is k count feeds done s.gone s.come known s.past xs ys all n g) ∙ made)))
