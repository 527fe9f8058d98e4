use Rattle.std.proofs.Common.{◌≡◌, ◌+◌, ◌-◌, length, ap, sym, ◌∙◌, arith, subst, drop, take, ℕ}
use Rattle.std.specs.Prelude.{filter}
use Rattle.std.specs.VecDeque.{deque_len}
use Rattle.std.proofs.lemmas.List.{length-append}
use Rattle.core_sends.specs.Losing.{first_kept, still_waits}
use Rattle.core_sends.proofs.Kept.{Passed, passed_none, passed_more, passed_done, number, byte_is}
use Rattle.core_sends.proofs.leaving.keep_waiting.Goals as goal

pub loop-k-init : goal.loop-k-init
loop-k-init c = record { passed = passed_none (still_waits c.args.places.now.items c.args.stage) c.args.queue.now.items; room = omega arith }

pub loop-k-preserved : goal.loop-k-preserved
loop-k-preserved c =
    let l = c.loop-k in
    let one = c.pass-is_kept in
    let is : c.from-kept.result ≡ number (first_kept (still_waits c.args.places.now.items c.args.stage) l.queue.items) = c.from-kept.ensures ∙ (byte_is one.result ∙ ap number one.ensures.kept) in
    record {
      passed =
          subst (λ q. Passed (still_waits c.args.places.now.items c.args.stage) c.args.queue.now.items q (l.k + 1) (l.kept + c.from-kept.result)) (sym one.ensures.items)
          (passed_more (still_waits c.args.places.now.items c.args.stage) c.args.queue.now.items l.queue.items l.k l.kept c.from-kept.result (omega arith) is l.invariant.passed);
      room = omega (arith, one.ensures.room, l.invariant.room);
    }

pub returns-clause-items : goal.returns-clause-items
returns-clause-items c =
    let l = c.loop-k in
    let old = c.args.queue.now.items in
    let end : l.k ≡ c.args.first = omega arith in
    let all : Passed (still_waits c.args.places.now.items c.args.stage) old l.queue.items c.args.first l.kept = subst (λ k. Passed (still_waits c.args.places.now.items c.args.stage) old l.queue.items k l.kept) end l.invariant.passed in
    c.rotate_right.ensures.items
    ∙ passed_done (still_waits c.args.places.now.items c.args.stage) old l.queue.items c.args.first l.kept (deque_len l.queue - l.kept) all c.requires.rest
    (omega (arith, all.count, ap length all.items, length-append (drop c.args.first old) (filter {X = ℕ × ℕ} (λ unit. still_waits c.args.places.now.items c.args.stage unit.1) (take c.args.first old))))
