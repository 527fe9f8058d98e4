use Rattle.std.proofs.Common.{◌≡◌, ◌∷◌, drop, ap, sym, ◌∙◌, subst, arith}
use Rattle.std.specs.Prelude.{option_copied}
use Rattle.ack_feed.specs.Fed.{IsFed, text_of}
use Rattle.ack_feed.specs.Lines.{sink_of}
use Rattle.ack_feed.proofs.Feeding.{first_is, put_part, all_pending}
use Rattle.ack_feed.proofs.lines.LineFeed.write_first.Goals as goal

pub returns-in-Failed-clause-fed : goal.returns-in-Failed-clause-fed
returns-in-Failed-clause-fed g c = λ begun sent told fed.
    let lines = c.args.self.now.lines.items in
    let line = c.in-Some.line.now in
    let first : lines ≡ line ∷ drop 1 lines = first_is lines line (sym c.front.ensures ∙ ap option_copied c.in-Some.is) in
    put_part begun sent lines (g.K.ByteSink.held (sink_of c.args.self.now)) (g.K.ByteSink.held c.put_all.new.sink) line c.in-Failed.count first (omega (arith, c.in-Failed.ensures.cause.1))
    (c.in-Failed.ensures.bytes told)
    (subst (IsFed begun sent (g.K.ByteSink.held (sink_of c.args.self.now))) (all_pending c.args.self.now.fault (text_of lines) c.requires.whole) fed)
