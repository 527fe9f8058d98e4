use Rattle.std.proofs.Common.{◌+◌, ap, sym, ◌∙◌, arith}
use Rattle.std.specs.Prelude.{Some, unwrap_or}
use Rattle.pipe_types.specs.Numbers.{stage}
use Rattle.pipe_model.specs.History.{history}
use Rattle.pipe_model.specs.Content.{producer_of}
use Rattle.pipe_replay.proofs.Placed.{placed, producer_is}
use Rattle.pipe_replay.proofs.places.place_row.Goals as goal

pub returns : goal.returns
returns c =
    let past = c.args.flow.now.past in
    let topology = past.topology.now in
    let before = history past.steps.now in
    let i = c.args.i in
    record {
      no = c.in_ok-n.ensures;
      producer =
          producer_is topology before (i + 1) (stage 0) c.requires.legal (omega arith) (omega (arith, c.requires.tables.accepted, c.requires.within))
          ∙ ap Some (sym (c.unwrap_or-producer.ensures ∙ ap (λ o. unwrap_or o (stage 0)) (c.in_ok-producer_of.ensures ∙ ap (producer_of before) c.in_ok-n.ensures)));
      place = placed topology before c.args.flow.now.tables.now i c.index.result.now c.requires.tables c.requires.within c.index.ensures;
      at = c.requires.settled.each i (omega (arith, c.requires.settled.long, c.requires.tables.accepted, c.requires.within));
    }
