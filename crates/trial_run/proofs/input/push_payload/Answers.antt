use Rattle.std.proofs.Common.{◌≡◌, ◌++◌, ℕ, ap, ◌∙◌, arith}
use Rattle.ts_packet.specs.declared.sizes.TheConstants.{PAYLOAD}
use Rattle.trial_run.specs.TrialInput.{bytes_from}
use Rattle.trial_run.proofs.DrawLemmas.{byte_pushed}
use Rattle.trial_run.proofs.input.push_payload.Goals as goal

pub loop-preserved : goal.loop-preserved
loop-preserved c =
    byte_pushed _ _ _ c.loop.counter _ _ _ _ c.loop.invariant.0 c.loop.invariant.1 c.next.ensures.drawn
    c.in_ok-push.ensures.items
    c.next.ensures.number

pub returns-clause-bytes : goal.returns-clause-bytes
returns-clause-bytes c =
    let all : c.loop.counter ≡ PAYLOAD = omega (arith, c.loop.auto.counter-end, c.loop-test.false) in
    c.loop.invariant.0 ∙ ap (λ (n : ℕ). c.args.input.now.items ++ bytes_from n c.args.draws.now) all
