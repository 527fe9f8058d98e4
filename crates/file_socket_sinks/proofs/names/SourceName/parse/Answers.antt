use Rattle.std.proofs.Common.{◌≡◌, None, codes, arith}
use Rattle.file_socket_sinks.proofs.NameLaws.{stripped, no_peer, no_listener}
use Rattle.file_socket_sinks.proofs.names.SourceName.parse.Goals as goal

pub returns-in_err-parse : goal.returns-in_err-parse
returns-in_err-parse c =
    let gone : c.from_residual.result ≡ None = grind arith in
    let none = rw c.in_err-parse.was at c.parse.ensures in
    let is = stripped (codes "connect:") c.args.name.now c.in-Some-strip_prefix.text.now c.in-Some-strip_prefix.ensures.cases in
    rw gone (no_peer c.args.name.now c.in-Some-strip_prefix.text.now none is)

pub returns-in_err-parse-2 : goal.returns-in_err-parse-2
returns-in_err-parse-2 c =
    let gone : c.from_residual-in_err-parse-2.result ≡ None = grind arith in
    let none = rw c.in_err-parse-2.was at c.parse-2.ensures in
    let is = stripped (codes "listen:") c.args.name.now c.in_ok-text.text.now c.in_ok-text.ensures.cases in
    rw gone (no_listener c.args.name.now c.in_ok-text.text.now none is)
