use Rattle.std.proofs.Common.{sym, ap, ◌∙◌, Bool, ◌&&◌}
use Rattle.std.specs.Prelude.{bytes_eq}
use Rattle.compare_run.proofs.BlockLemmas.{pieces_same, not_false, not_true}
use Rattle.compare_run.proofs.answering.same_block.Goals as goal

pub returns-then-ne : goal.returns-then-ne
returns-then-ne c =
    let i = c.loop-piece.invariant in
    let p = c.in-Some.ensures.some in
    let q = c.in-Some-next.ensures.some in
    let both = pieces_same c.args.a.now c.args.b.now c.loop-piece.left c.loop-piece.right c.in-Some.piece.now
    c.in-Some-next.other.now
    c.next.new.self c.next-in-Some.new.self i.size i.same p.0 q.0 p.2 q.2 in
    sym (both.1
    ∙ ap (λ (t : Bool). t && bytes_eq c.next.new.self c.next-in-Some.new.self) (not_false _ c.if-ne.ensures))

pub loop-piece-preserved : goal.loop-piece-preserved
loop-piece-preserved c =
    let i = c.loop-piece.invariant in
    let p = c.in-Some.ensures.some in
    let q = c.in-Some-next.ensures.some in
    let both = pieces_same c.args.a.now c.args.b.now c.loop-piece.left c.loop-piece.right c.in-Some.piece.now
    c.in-Some-next.other.now
    c.next.new.self c.next-in-Some.new.self i.size i.same p.0 q.0 p.2 q.2 in
    record {
      size = both.0;
      same = both.1
          ∙ ap (λ (t : Bool). t && bytes_eq c.next.new.self c.next-in-Some.new.self) (not_true _ c.if-ne.ensures);
    }
