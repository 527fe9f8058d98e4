use Rattle.std.proofs.Common.{◌≡◌, None, codes, arith}
use Rattle.file_socket_sinks.proofs.NameLaws.{stripped, no_sink_peer}
use Rattle.file_socket_sinks.proofs.names.SinkName.parse.Goals as goal

pub returns-in_err-parse : goal.returns-in_err-parse
returns-in_err-parse c =
    let gone : c.from_residual-in_err-parse.result ≡ None = grind arith in
    let none = rw c.in_err-parse.was at c.parse.ensures in
    let is = stripped (codes "connect:") c.args.name.now c.in_ok-text.text.now c.in_ok-text.ensures.cases in
    rw gone (no_sink_peer c.args.name.now c.in_ok-text.text.now none is)
