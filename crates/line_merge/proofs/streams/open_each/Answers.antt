use Rattle.std.proofs.Common.{◌≡◌, ◌+◌, ◌++◌, ◌∷◌, [], length, ap, ◌∙◌, arith}
use Rattle.std.proofs.lemmas.List.{length-append}
use Rattle.std.proofs.lemmas.List.Elements.{All-append, All-cons, All-nil}
use Rattle.line_merge.specs.Opening.{IsNew}
use Rattle.line_merge.proofs.Opened.{moved}
use Rattle.line_merge.proofs.streams.open_each.Goals as goal

pub loop-source-preserved : goal.loop-source-preserved
loop-source-preserved g c =
    let x = c.loop-source.invariant in
    let streams = c.loop-source.streams.items in
    let all = c.loop-source.sources.items in
    let rest = c.pop.new.self.items in
    let o = c.in-Some.source in
    let s = c.in-Ok.stream in
    let parts : all ≡ rest ++ o ∷ [] = rw c.in-Some.is at c.pop.ensures.items in
    let count : length all ≡ length rest + 1 = ap length parts ∙ length-append rest (o ∷ []) in
    let more = ap length c.push_reserved.ensures.items ∙ length-append streams (s ∷ []) in
    record {
      room = omega (arith, x.room, count, more, c.push_reserved.ensures.capacity);
      same = rw c.push_reserved.ensures.items (moved streams s rest all o c.in-Ok.ensures.source parts ∙ x.same);
      all_new = rw c.push_reserved.ensures.items (All-append IsNew streams (s ∷ []) x.all_new (All-cons IsNew s [] c.in-Ok.ensures.open (All-nil IsNew)));
      capacity = c.pop.ensures.capacity ∙ x.capacity;
      count = omega (arith, x.count, count, more);
    }
