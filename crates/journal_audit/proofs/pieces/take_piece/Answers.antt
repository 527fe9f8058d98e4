use Rattle.std.proofs.Common.{ℕ, List, ◌++◌, ap, ◌∙◌, subst, arith}
use Rattle.pipe_types.specs.declared.topology.Topology.{Topology}
use Rattle.reading_laws.specs.Text.{lines_of}
use Rattle.journal_audit.specs.Pieces.{verdict_on, Leads}
use Rattle.journal_audit.proofs.Piecewise.{taken_line, taken_rest, unended_more}
use Rattle.journal_audit.proofs.pieces.take_piece.Goals as goal

pub loop-cut-preserved : goal.loop-cut-preserved
loop-cut-preserved c =
    let topology = c.args.run.now.topology in
    let before = c.loop-cut.run.steps in
    let after = c.end_line.new.run.steps in
    let begun = c.loop-cut.begun.items in
    let front = c.in-Some.cut.front.now in
    let leads : Leads topology before after c.loop-cut.next (begun ++ front) c.in_ok-next.next =
    subst (λ (t : Topology). Leads t before after c.loop-cut.next (begun ++ front) c.in_ok-next.next) c.loop-cut.invariant.of c.in_ok-next.ensures.leads in
    record {
      of = c.in_ok-next.ensures.topology ∙ c.loop-cut.invariant.of;
      unended = ap lines_of c.in_ok-next.ensures.empty;
      same =
          taken_line topology before after c.loop-cut.next c.in_ok-next.next begun c.end_line.new.begun.items front c.loop-cut.rest.now c.in-Some.cut.rest.now
          (λ (behind : List ℕ). verdict_on topology c.args.run.now.steps c.args.progress (lines_of (c.args.begun.now.items ++ (c.args.piece.now ++ behind))))
          c.in-Some.ensures.parts c.loop-cut.invariant.unended c.in-Some.ensures.unended c.in_ok-next.ensures.empty leads c.loop-cut.invariant.same;
      room = omega (arith, leads.few, c.in-Some.ensures.shorter, c.loop-cut.invariant.room);
    }

pub returns : goal.returns
returns c = record {
  topology = c.loop-cut.invariant.of;
  takes = record {
    same =
        taken_rest c.args.run.now.topology c.loop-cut.run.steps c.loop-cut.next c.loop-cut.begun.items c.extend_from_slice.new.self.items c.loop-cut.rest.now
        (λ (behind : List ℕ). verdict_on c.args.run.now.topology c.args.run.now.steps c.args.progress (lines_of (c.args.begun.now.items ++ (c.args.piece.now ++ behind))))
        c.in_ok-extend_from_slice.ensures.items c.loop-cut.invariant.same;
    unended = ap lines_of c.in_ok-extend_from_slice.ensures.items ∙ unended_more c.loop-cut.begun.items c.loop-cut.rest.now c.loop-cut.invariant.unended c.in_default-first_line.ensures.none;
    few = omega (arith, c.loop-cut.invariant.room);
  };
}
