use Rattle.std.proofs.Common.{◌≡◌, ◌∙◌, ◌*◌, ◌≤◌, ℕ, [], length, Option, ap, sym, subst, arith, inl, inr}
use Rattle.std.specs.Option.{option_map_or}
use Rattle.std.proofs.lemmas.Bool.{cases_lt}
use Rattle.site_frame.specs.Record.{Block}
use Rattle.site_frame.specs.Reading.{block_of}
use Rattle.plp_receiver.specs.Taken.{bytes_at}
use Rattle.plp_receiver.specs.Holds.{block_at}
use Rattle.plp_receiver.proofs.ListLemmas.{gone_past, next_is, some_left}
use Rattle.plp_receiver.proofs.HeldLemmas.{place_in, put_here, put_before}
use Rattle.plp_receiver.proofs.copying.copy_blocks.Goals as goal

pub put_block-requires : goal.put_block-requires
put_block-requires c =
    let inv = c.loop-k.invariant in
    let n : ℕ = c.loop-k.k in
    let at = next_is c.args.rest.now c.next.new.self n (block_of c.in-Some.field-0-0 c.in-Some.block.now)
    (sym inv.rest ∙ c.in-Some.ensures.steps) in
    let same : length (bytes_at c.args.rest.now n) ≡ length c.in-Some.block.now =
    ap (λ (o : Option Block). length (option_map_or (λ x. x.bytes) o [])) at in
    let long = c.requires.there.1 n c.loop-k-test.true in
    let fits = place_in n c.args.count c.args.len c.loop-k-test.true in
    let room = inv.len in
    omega (arith, same, long, fits, room, c.requires.room)

pub loop-k-preserved : goal.loop-k-preserved
loop-k-preserved c =
    let inv = c.loop-k.invariant in
    let n : ℕ = c.loop-k.k in
    let block : Block = block_of c.in-Some.field-0-0 c.in-Some.block.now in
    let at = next_is c.args.rest.now c.next.new.self n block (sym inv.rest ∙ c.in-Some.ensures.steps) in
    let bytes : bytes_at c.args.rest.now n ≡ c.in-Some.block.now = ap (λ (o : Option Block). option_map_or
    (λ x. x.bytes) o [])
    at in
    let long : length c.in-Some.block.now ≡ c.args.len = sym (ap length bytes)
    ∙ c.requires.there.1 n c.loop-k-test.true in
    let fits = place_in n c.args.count c.args.len c.loop-k-test.true in
    let room = inv.len in
    let out = c.loop-k.out in
    let inside : n * c.args.len ≤ length out = omega (arith, fits, room, c.requires.room) in
    record {
      rest = gone_past (λ x. block_of x.0 x.1.now) c.args.rest.now c.loop-k.rest c.next.new.self n c.next.result
          inv.rest
          c.next.ensures.steps;
      each = λ j l. elim (cases_lt j n) [
        | inl lt ↦ put_before n c.args.len out c.in-Some.block.now c.put_block.new.out long inside
            c.put_block.ensures.bytes j lt
            ∙ inv.each j lt
        | inr ge ↦
            let here : n ≡ j = omega (arith, l, ge) in
            subst (λ (m : ℕ). block_at c.args.len c.put_block.new.out m ≡ bytes_at c.args.rest.now m) here
            (put_here n c.args.len out c.in-Some.block.now c.put_block.new.out long inside c.put_block.ensures.bytes
            ∙ sym bytes)
      ];
      len = c.put_block.ensures.len ∙ inv.len;
    }

pub returns-in_default-clause-each : goal.returns-in_default-clause-each
returns-in_default-clause-each c =
    let has = c.requires.there.0 in
    let test = c.loop-k-test.true in
    some_left c.args.rest.now c.loop-k.rest c.loop-k.k (omega (arith, has, test)) c.loop-k.invariant.rest
    c.in_default.ensures.steps.0
