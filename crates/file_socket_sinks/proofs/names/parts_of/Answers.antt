use Rattle.std.proofs.Common.{None, arith}
use Rattle.std.proofs.lemmas.Str.Pattern.{strip_prefix_char}
use Rattle.file_socket_sinks.proofs.NameLaws.{plain_splits, plain_only}
use Rattle.file_socket_sinks.proofs.names.parts_of.Goals as goal

pub returns-in-None-clause-splits : goal.returns-in-None-clause-splits
returns-in-None-clause-splits c =
    let bare = strip_prefix_char 91 c.args.text.now None c.in-None.ensures.cases (omega arith) in
    plain_splits c.args.text.now bare c.split_once.result c.split_once.ensures.cases

pub returns-in-None-clause-only : goal.returns-in-None-clause-only
returns-in-None-clause-only c =
    let bare = strip_prefix_char 91 c.args.text.now None c.in-None.ensures.cases (omega arith) in
    plain_only c.args.text.now bare c.split_once.result c.split_once.ensures.cases
