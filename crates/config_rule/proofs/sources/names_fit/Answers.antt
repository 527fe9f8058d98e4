use Rattle.std.proofs.Common.{◌≡◌, ◌+◌, Bool, length, ap, sym, ◌∙◌, arith}
use Rattle.std.specs.Prelude.{not, ◌&&◌}
use Rattle.std.specs.List.{list_all}
use Rattle.config_rule.specs.SourceText.{parts, is_name}
use Rattle.config_rule.proofs.Parts.{parts_at, parts_one, last_name, too_few, too_many, some_part}
use Rattle.config_rule.proofs.sources.names_fit.Goals as goal

pub returns-then-before-ge1 : goal.returns-then-before-ge1
returns-then-before-ge1 c =
    let rest = c.loop-before.rest.now in
    let one = parts_one rest (sym c.in-None.ensures) in
    let count : length (parts c.args.names.now) ≡ c.loop-before.before + 1 = omega (arith, c.loop-before.invariant.count, ap length one) in
    ap not c.is_empty-then-before-ge1.ensures
    ∙ sym (last_name (parts c.args.names.now) c.loop-before.before rest c.if-before-ge1.true c.loop-before-test.true count (c.loop-before.invariant.named ∙ ap (list_all is_name) one))

pub returns-else-before-ge1 : goal.returns-else-before-ge1
returns-else-before-ge1 c =
    let one = parts_one c.loop-before.rest.now (sym c.in-None.ensures) in
    let none : c.loop-before.before ≡ 0 = omega (arith, c.if-before-ge1.false) in
    let few = too_few (parts c.args.names.now) (omega (arith, c.loop-before.invariant.count, ap length one)) in
    rw none (sym few)

pub loop-before-preserved : goal.loop-before-preserved
loop-before-preserved c =
    let cut = parts_at c.loop-before.rest.now (c.in-Some.name.now, c.in-Some.behind.now) (sym c.in-Some.ensures) in
    let named = ap (λ (b : Bool). not b && list_all is_name (parts c.in-Some.behind.now)) (sym c.if-is_empty.ensures) in
    record {
      count = omega (arith, c.loop-before.invariant.count, ap length cut);
      named = c.loop-before.invariant.named ∙ (ap (list_all is_name) cut ∙ named);
    }

pub returns : goal.returns
returns c = sym (too_many (parts c.args.names.now) (omega (arith, c.loop-before-test.false, c.loop-before.invariant.count, some_part c.loop-before.rest.now)))
