use Rattle.std.proofs.Common.{refl, ap}
use Rattle.site_frame.proofs.FeedLemmas.{is_read, same_view}
use Rattle.site_frame.proofs.feed.RecordFeed.record.Goals as goal

pub returns-in-Ok-clause-every : goal.returns-in-Ok-clause-every
returns-in-Ok-clause-every c = λ view len begins.
    ap is_read
    (same_view _ _ _ _ _ _ refl refl ((c.in-Ok.ensures {u = tt}).every view len (rw c.deref.ensures.value begins)))

pub returns-in-Ok-clause-refused : goal.returns-in-Ok-clause-refused
returns-in-Ok-clause-refused c = λ why refuses.
    let e = (c.in-Ok.ensures {u = tt}).refused why (rw c.deref.ensures.value refuses) in cc

pub returns-in-Err-clause-every : goal.returns-in-Err-clause-every
returns-in-Err-clause-every c = λ view len begins.
    let e = (c.in-Err.ensures {u = tt}).every view len (rw c.deref.ensures.value begins) in cc
